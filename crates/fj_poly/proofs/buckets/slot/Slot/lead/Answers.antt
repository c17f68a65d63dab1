use Rattle.std.proofs.Common.{◌≡◌, List, ℕ, None, Some, slice_get, sym, ap, ◌∙◌}
use Rattle.std.specs.Option.{option_map}
use Rattle.std.proofs.lemmas.Option.{slice_get-map}
use Rattle.fj_poly.specs.Terms.{entry}
use Rattle.fj_poly.proofs.View.{lead-polynomial_of, polynomial_seen}
use Rattle.fj_poly.proofs.buckets.slot.Slot.lead.Goals as goal

pub returns-in_err-t-clause-lead : goal.returns-in_err-t-clause-lead
returns-in_err-t-clause-lead g c =
    let first = lead-polynomial_of g.met.O.Order.monomial_order g.K.Coeff.field _ c.terms.ensures.falls c.terms.ensures.terms in
    let none : slice_get c.terms.result.now 0 ≡ None = sym c.in_err-t.ensures.value in
    rw (c.from_residual.ensures, ← c.terms.ensures.value, first)
    (sym (ap (option_map {T = List ℕ × ℕ} {U = List ℕ} (λ t. t.0)) (slice_get-map (entry g.K.Coeff.rank) c.terms.result.now 0 ∙ ap (option_map (entry g.K.Coeff.rank)) none)))

pub returns-in_err-t-clause-polynomial : goal.returns-in_err-t-clause-polynomial
returns-in_err-t-clause-polynomial g c = polynomial_seen _ c.terms.ensures.terms c.terms.ensures.value

pub returns-clause-lead : goal.returns-clause-lead
returns-clause-lead g c =
    let first = lead-polynomial_of g.met.O.Order.monomial_order g.K.Coeff.field _ c.terms.ensures.falls c.terms.ensures.terms in
    let some : slice_get c.terms.result.now 0 ≡ Some c.in_ok-t.t.now = sym c.in_ok-t.ensures.value in
    rw (← c.terms.ensures.value, first)
    (sym (ap (option_map {T = List ℕ × ℕ} {U = List ℕ} (λ t. t.0)) (slice_get-map (entry g.K.Coeff.rank) c.terms.result.now 0 ∙ ap (option_map (entry g.K.Coeff.rank)) some)))

pub returns-clause-polynomial : goal.returns-clause-polynomial
returns-clause-polynomial g c = polynomial_seen _ c.terms.ensures.terms c.terms.ensures.value
