use Rattle.std.proofs.Common.{ap, ◌∙◌}
use Rattle.fj_theory.proofs.TermMaps.{changed}
use Rattle.fj_poly.specs.Terms.{entry, entries}
use Rattle.fj_poly.proofs.Polynomials.{polynomial_of}
use Rattle.fj_poly.proofs.Changed.{Listed, all_changed, Listed-negation}
use Rattle.fj_poly.proofs.poly.Poly.negated.Goals as goal

pub invariant_of-result : goal.invariant_of-result
invariant_of-result g c =
    let own : Listed g.K.Coeff.field g.O.Order.key (entries g.K.Coeff.rank c.self.inside.terms.items) c.args.self.now = record { falls = c.self.invariant.0; terms = c.self.invariant.1; value = c.self.view_is } in
    let made = Listed-negation g.met.K.Coeff.lawful g.met.O.Order.monomial_order own in
    let final = all_changed (entry g.K.Coeff.rank) (changed g.K.Coeff.field.neg (λ a. a)) _ c.self.inside.terms.items c.as_slice-t-items.result.now c.loop-t.t-index c.loop-t.invariant c.loop-t-test.false c.as_slice-t-items.ensures.value in
    rw final (made.falls, made.terms)

pub returns : goal.returns
returns g c =
    let own : Listed g.K.Coeff.field g.O.Order.key (entries g.K.Coeff.rank c.self.inside.terms.items) c.args.self.now = record { falls = c.self.invariant.0; terms = c.self.invariant.1; value = c.self.view_is } in
    let made = Listed-negation g.met.K.Coeff.lawful g.met.O.Order.monomial_order own in
    let final = all_changed (entry g.K.Coeff.rank) (changed g.K.Coeff.field.neg (λ a. a)) _ c.self.inside.terms.items c.as_slice-t-items.result.now c.loop-t.t-index c.loop-t.invariant c.loop-t-test.false c.as_slice-t-items.ensures.value in
    ap polynomial_of final ∙ made.value
