use Rattle.std.proofs.Common.{◌≡◌, sym, ap, ◌∙◌}
use Rattle.fj_poly.specs.Terms.{entry}
use Rattle.fj_poly.proofs.View.{lead-polynomial_of}
use Rattle.std.proofs.Common.{None, Some, slice_get}
use Rattle.std.specs.Option.{option_map}
use Rattle.std.proofs.lemmas.Option.{slice_get-map}
use Rattle.fj_poly.proofs.poly.Poly.lead.Goals as goal

pub returns-in_err-t-clause-lead : goal.returns-in_err-t-clause-lead
returns-in_err-t-clause-lead g c =
    let first = lead-polynomial_of g.met.O.Order.monomial_order g.K.Coeff.field _ c.self.invariant.0 c.self.invariant.1 in
    let none : slice_get c.self.inside.terms.items 0 ≡ None = ap (λ ts. slice_get ts 0) (sym c.deref.ensures.value) ∙ sym c.in_err-t.ensures.value in
    rw (c.from_residual.ensures, ← c.self.view_is, first) (sym (slice_get-map (entry g.K.Coeff.rank) c.self.inside.terms.items 0 ∙ ap (option_map (entry g.K.Coeff.rank)) none))

pub returns-clause-lead : goal.returns-clause-lead
returns-clause-lead g c =
    let first = lead-polynomial_of g.met.O.Order.monomial_order g.K.Coeff.field _ c.self.invariant.0 c.self.invariant.1 in
    let some : slice_get c.self.inside.terms.items 0 ≡ Some c.in_ok-t.t.now = ap (λ ts. slice_get ts 0) (sym c.deref.ensures.value) ∙ sym c.in_ok-t.ensures.value in
    rw (← c.self.view_is, first) (sym (slice_get-map (entry g.K.Coeff.rank) c.self.inside.terms.items 0 ∙ ap (option_map (entry g.K.Coeff.rank)) some))
