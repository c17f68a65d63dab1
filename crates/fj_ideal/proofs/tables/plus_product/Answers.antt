use Rattle.std.proofs.Common.{◌≡◌, ◌<◌, ◌∙◌, ap, sym, subst, rules, All}
use Rattle.fj_theory.specs.Plain.{HasRanksBelow, polynomial}
use Rattle.fj_theory.specs.Polynomial.{product, sum}
use Rattle.fj_plain.specs.Terms as plain
use Rattle.fj_ideal.proofs.PlainTables.{plain_of_product, plain_of_sum, polynomial_of_product, polynomial_of_sum}
use Rattle.fj_ideal.proofs.tables.plus_product.Goals as goal

pub unwrap-product-requires : goal.unwrap-product-requires
unwrap-product-requires g c =
    let F = g.K.Coeff.field in
    let e = sym g.met.K.Coeff.size_is ∙ c.requires.prime ∙ g.met.K.Coeff.characteristic_is in
    let is = c.P.ensures ∙ g.met.K.Coeff.characteristic_is in
    let same : c.P-2.result ≡ c.P.result = c.P-2.ensures ∙ sym c.P.ensures in
    let plain = plain_of_product g.met.K.Coeff.lawful e c.P.result is c.args.f.now c.args.y.now c.requires.factor_ranks c.requires.ranks c.requires.factor_totals c.requires.totals c.in_ok-product.product.items c.in_ok-product.ensures in
    c.of.ensures.plain.1 (plain.0, subst (λ n. All (λ t. t.rank < n) c.in_ok-product.product.items) (sym same) plain.1)

pub unwrap-requires : goal.unwrap-requires
unwrap-requires g c =
    let F = g.K.Coeff.field in
    let e = sym g.met.K.Coeff.size_is ∙ c.requires.prime ∙ g.met.K.Coeff.characteristic_is in
    let is = c.P-3.ensures ∙ g.met.K.Coeff.characteristic_is in
    let same : c.P-4.result ≡ c.P-3.result = c.P-4.ensures ∙ sym c.P-3.ensures in
    let below : HasRanksBelow c.P-2.result c.unwrap-product.result = search rules in
    let ranks : HasRanksBelow F.size c.unwrap-product.result = subst (λ n. HasRanksBelow n c.unwrap-product.result) (c.P-2.ensures ∙ g.met.K.Coeff.characteristic_is ∙ sym e) below in
    let plain = plain_of_sum g.met.K.Coeff.lawful e c.P-3.result is c.args.x.now c.unwrap-product.result c.requires.summand_ranks ranks c.in_ok-sum.sum.items c.in_ok-sum.ensures in
    c.of-2.ensures.plain.1 (plain.0, subst (λ n. All (λ t. t.rank < n) c.in_ok-sum.sum.items) (sym same) plain.1)

pub returns-clause-value : goal.returns-clause-value
returns-clause-value g c =
    let F = g.K.Coeff.field in
    let e = sym g.met.K.Coeff.size_is ∙ c.requires.prime ∙ g.met.K.Coeff.characteristic_is in
    let below : HasRanksBelow c.P-2.result c.unwrap-product.result = search rules in
    let ranks : HasRanksBelow F.size c.unwrap-product.result = subst (λ n. HasRanksBelow n c.unwrap-product.result) (c.P-2.ensures ∙ g.met.K.Coeff.characteristic_is ∙ sym e) below in
    let terms : c.unwrap-product.result.terms ≡ plain.entries c.in_ok-product.product.items = search rules in
    let last : c.unwrap.result.terms ≡ plain.entries c.in_ok-sum.sum.items = search rules in
    let first : polynomial c.unwrap-product.result ≡ product F (polynomial c.args.f.now) (polynomial c.args.y.now) =
    polynomial_of_product g.met.K.Coeff.lawful e c.P.result (c.P.ensures ∙ g.met.K.Coeff.characteristic_is) c.args.f.now c.args.y.now c.requires.factor_ranks c.requires.ranks c.unwrap-product.result c.in_ok-product.product.items terms c.in_ok-product.ensures in
    polynomial_of_sum g.met.K.Coeff.lawful e c.P-3.result (c.P-3.ensures ∙ g.met.K.Coeff.characteristic_is) c.args.x.now c.unwrap-product.result c.requires.summand_ranks ranks c.unwrap.result c.in_ok-sum.sum.items last c.in_ok-sum.ensures
    ∙ ap (sum F (polynomial c.args.x.now)) first
