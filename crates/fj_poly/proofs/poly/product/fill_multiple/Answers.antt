use Rattle.std.proofs.Common.{◌≤◌, ◌^◌, refl, ap, ◌∙◌, arith, subst}
use Rattle.std.proofs.lemmas.List.{length-map}
use Rattle.fj_theory.specs.Exponents.{total, plus}
use Rattle.fj_theory.proofs.TermMaps.{changed}
use Rattle.fj_poly.specs.Terms.{entry, entries}
use Rattle.fj_poly.proofs.Polynomials.{polynomial_of}
use Rattle.fj_poly.proofs.Changed.{Listed, at_item, all_changed, ok_from_not_err, Listed-product, product_term_within}
use Rattle.fj_poly.proofs.poly.product.fill_multiple.Goals as goal

pub unwrap-requires : goal.unwrap-requires
unwrap-requires g c =
    let at = at_item (entry g.K.Coeff.rank) c.args.terms.now c.args.terms.now c.loop-t.t-index c.t-item.result refl c.loop-t-test.true c.t-item.is in
    let own : Listed g.K.Coeff.field g.O.Order.key (entries g.K.Coeff.rank c.args.terms.now) (polynomial_of (entries g.K.Coeff.rank c.args.terms.now)) =
    record { falls = c.requires.falls; terms = c.requires.terms; value = refl } in
    let within = product_term_within g.met.K.Coeff.lawful g.met.O.Order.monomial_order own (g.K.Coeff.rank c.args.c) c.requires.nonzero (g.met.K.Coeff.rank_below c.args.c) (record { eight = c.args.m.now.eight }) c.requires.within c.loop-t.t-index (entry g.K.Coeff.rank c.t-item.result)
    (omega (arith, length-map c.args.terms.now (entry g.K.Coeff.rank), c.loop-t-test.true)) in
    let small = subst (λ t. total (plus c.args.m.now.exponents t.0) ≤ 2 ^ 40) at within in
    ok_from_not_err _ (λ e. let above = c.try_mul.ensures.high.0 e in absurd (omega arith))

pub returns-clause-value : goal.returns-clause-value
returns-clause-value g c =
    let own : Listed g.K.Coeff.field g.O.Order.key (entries g.K.Coeff.rank c.args.terms.now) (polynomial_of (entries g.K.Coeff.rank c.args.terms.now)) =
    record { falls = c.requires.falls; terms = c.requires.terms; value = refl } in
    let made = Listed-product g.met.K.Coeff.lawful g.met.O.Order.monomial_order own (g.K.Coeff.rank c.args.c) c.requires.nonzero (g.met.K.Coeff.rank_below c.args.c) (record { eight = c.args.m.now.eight }) in
    let final = all_changed (entry g.K.Coeff.rank) (changed (g.K.Coeff.field.mul (g.K.Coeff.rank c.args.c)) (plus c.args.m.now.exponents)) _ c.args.terms.now c.args.terms.now c.loop-t.t-index c.loop-t.invariant c.loop-t-test.false refl in
    ap polynomial_of final ∙ made.value

pub returns-clause-falls : goal.returns-clause-falls
returns-clause-falls g c =
    let own : Listed g.K.Coeff.field g.O.Order.key (entries g.K.Coeff.rank c.args.terms.now) (polynomial_of (entries g.K.Coeff.rank c.args.terms.now)) =
    record { falls = c.requires.falls; terms = c.requires.terms; value = refl } in
    let made = Listed-product g.met.K.Coeff.lawful g.met.O.Order.monomial_order own (g.K.Coeff.rank c.args.c) c.requires.nonzero (g.met.K.Coeff.rank_below c.args.c) (record { eight = c.args.m.now.eight }) in
    let final = all_changed (entry g.K.Coeff.rank) (changed (g.K.Coeff.field.mul (g.K.Coeff.rank c.args.c)) (plus c.args.m.now.exponents)) _ c.args.terms.now c.args.terms.now c.loop-t.t-index c.loop-t.invariant c.loop-t-test.false refl in
    rw final made.falls

pub returns-clause-terms : goal.returns-clause-terms
returns-clause-terms g c =
    let own : Listed g.K.Coeff.field g.O.Order.key (entries g.K.Coeff.rank c.args.terms.now) (polynomial_of (entries g.K.Coeff.rank c.args.terms.now)) =
    record { falls = c.requires.falls; terms = c.requires.terms; value = refl } in
    let made = Listed-product g.met.K.Coeff.lawful g.met.O.Order.monomial_order own (g.K.Coeff.rank c.args.c) c.requires.nonzero (g.met.K.Coeff.rank_below c.args.c) (record { eight = c.args.m.now.eight }) in
    let final = all_changed (entry g.K.Coeff.rank) (changed (g.K.Coeff.field.mul (g.K.Coeff.rank c.args.c)) (plus c.args.m.now.exponents)) _ c.args.terms.now c.args.terms.now c.loop-t.t-index c.loop-t.invariant c.loop-t-test.false refl in
    rw final made.terms
