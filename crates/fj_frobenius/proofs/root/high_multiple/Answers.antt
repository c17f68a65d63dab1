use Rattle.std.proofs.Common.{ℕ, List, ◌∷◌, [], Any, Err, take, sym, ◌∙◌, subst, refl}
use Rattle.std.proofs.lemmas.List.{take_all}
use Rattle.std.proofs.lemmas.List.Elements.{All-append, Contains-get_or}
use Rattle.std.proofs.lemmas.Result.{IfOk-weaker}
use Rattle.std.specs.Prelude.{Contains}
use Rattle.fj_theory.specs.Ideal.{multiples}
use Rattle.fj_theory.specs.Polynomial.{Polynomial, power, product}
use Rattle.fj_poly.specs.Limit.{IsHigh, IsHighWhere}
use Rattle.fj_ideal.specs.Lists.{AreLow}
use Rattle.fj_ideal.proofs.HighProducts.{low_from, single_high}
use Rattle.fj_ideal.proofs.Products.{multiples-take}
use Rattle.fj_ideal.proofs.Stops.{product_kept}
use Rattle.fj_frobenius.specs.Lists.{IsHighMultiple}
use Rattle.fj_frobenius.proofs.root.high_multiple.Goals as goal

none_high : (L : List Polynomial) → AreLow L → Any IsHigh L → ⊥
none_high L low some = low some.0 some.1 some.2 (subst IsHigh (sym some.3) some.4)

pub loop-g-preserved : goal.loop-g-preserved
loop-g-preserved g c =
    let F = g.K.Coeff.field in
    let h = power F c.args.f.now c.args.d in
    let L = c.args.list.now in
    let i = c.loop-g.g-index in
    let here : AreLow (multiples F h (c.g-item.result ∷ [])) = subst (λ M. AreLow (multiples F h M)) c.from_ref.ensures.value (low_from (multiples F h c.from_ref.result.now) c.in-Ok.ensures.high) in
    subst AreLow (sym (multiples-take F h L i c.g-item.result c.loop-g-test.true c.g-item.is))
    (All-append (λ f. IsHigh f → ⊥) (multiples F h (take i L)) (product F h c.g-item.result ∷ []) c.loop-g.invariant here)

pub returns-in-Err-High-clause-product : goal.returns-in-Err-High-clause-product
returns-in-Err-High-clause-product g c =
    let F = g.K.Coeff.field in
    let f = c.args.f.now in
    let h = power F f c.args.d in
    let L = c.args.list.now in
    let G = c.g-item.result in
    let cause = subst (λ e. IsHighWhere {T = ℕ} (Any IsHigh (multiples F h c.from_ref.result.now)) (Err e)) c.in-Err-High.field-0-is c.in-Err-High.ensures.high in
    let high : IsHigh (product F h G) = single_high (product F h G) (subst (λ M. Any IsHigh (multiples F h M)) c.from_ref.ensures.value cause) in
    let there : Contains L G = subst (Contains L) (sym c.g-item.is) (Contains-get_or L c.loop-g.g-index G c.loop-g-test.true) in
    IfOk-weaker c.kept_pair.result _ _ (λ k kept. (product_kept (IsHighMultiple F c.args.d f L) kept (record { g = G; there = there; high = high; is = refl })).0) c.kept_pair.ensures

pub unreachable-requires : goal.unreachable-requires
unreachable-requires g c =
    let F = g.K.Coeff.field in
    let h = power F c.args.f.now c.args.d in
    none_high (multiples F h c.args.list.now) (subst (λ M. AreLow (multiples F h M)) (take_all c.loop-g.g-index c.args.list.now c.loop-g-test.false) c.loop-g.invariant) c.requires
