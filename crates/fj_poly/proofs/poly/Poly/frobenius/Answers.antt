use Rattle.std.proofs.Common.{◌≤◌, ◌^◌, length, ap, ◌∙◌, arith, subst}
use Rattle.std.proofs.lemmas.List.{length-map}
use Rattle.fj_theory.specs.Exponents.{total, times}
use Rattle.fj_coeff.specs.Field.{power}
use Rattle.fj_theory.proofs.TermMaps.{changed}
use Rattle.fj_poly.specs.Terms.{entry, entries}
use Rattle.fj_poly.proofs.Polynomials.{polynomial_of}
use Rattle.fj_poly.proofs.Changed.{Listed, at_item, all_changed, ok_from_not_err, Listed-frobenius, frobenius_within}
use Rattle.fj_poly.proofs.poly.Poly.frobenius.Goals as goal

pub unwrap-requires : goal.unwrap-requires
unwrap-requires g c =
    let at = at_item (entry g.K.Coeff.rank) c.self.inside.terms.items c.as_slice-t-items.result.now c.loop-t.t-index c.t-item.result c.as_slice-t-items.ensures.value c.loop-t-test.true c.t-item.is in
    let own : Listed g.K.Coeff.field g.O.Order.key (entries g.K.Coeff.rank c.self.inside.terms.items) c.args.self.now = record { falls = c.self.invariant.0; terms = c.self.invariant.1; value = c.self.view_is } in
    let within = frobenius_within g.met.K.Coeff.lawful g.met.O.Order.monomial_order own g.K.Coeff.P g.met.K.Coeff.characteristic_is c.requires c.loop-t.t-index (entry g.K.Coeff.rank c.t-item.result)
    (omega (arith, length-map c.self.inside.terms.items (entry g.K.Coeff.rank), c.loop-t-test.true, ap length c.as_slice-t-items.ensures.value)) in
    let small = subst (λ t. total (times g.K.Coeff.P t.0) ≤ 2 ^ 40) at within in
    ok_from_not_err _ (λ e. let above = rw c.P-in-loop-t.ensures at (c.try_scale.ensures.high.0 e) in absurd (omega arith))

pub invariant_of-result : goal.invariant_of-result
invariant_of-result g c =
    let own : Listed g.K.Coeff.field g.O.Order.key (entries g.K.Coeff.rank c.self.inside.terms.items) c.args.self.now = record { falls = c.self.invariant.0; terms = c.self.invariant.1; value = c.self.view_is } in
    let made = Listed-frobenius g.met.K.Coeff.lawful g.met.O.Order.monomial_order own g.K.Coeff.P g.met.K.Coeff.characteristic_is in
    let final = all_changed (entry g.K.Coeff.rank) (changed (λ x. power g.K.Coeff.field x g.K.Coeff.P) (times g.K.Coeff.P)) _ c.self.inside.terms.items c.as_slice-t-items.result.now c.loop-t.t-index c.loop-t.invariant c.loop-t-test.false c.as_slice-t-items.ensures.value in
    rw final (made.falls, made.terms)

pub returns : goal.returns
returns g c =
    let own : Listed g.K.Coeff.field g.O.Order.key (entries g.K.Coeff.rank c.self.inside.terms.items) c.args.self.now = record { falls = c.self.invariant.0; terms = c.self.invariant.1; value = c.self.view_is } in
    let made = Listed-frobenius g.met.K.Coeff.lawful g.met.O.Order.monomial_order own g.K.Coeff.P g.met.K.Coeff.characteristic_is in
    let final = all_changed (entry g.K.Coeff.rank) (changed (λ x. power g.K.Coeff.field x g.K.Coeff.P) (times g.K.Coeff.P)) _ c.self.inside.terms.items c.as_slice-t-items.result.now c.loop-t.t-index c.loop-t.invariant c.loop-t-test.false c.as_slice-t-items.ensures.value in
    ap polynomial_of final ∙ made.value
