use Rattle.std.proofs.Common.{set, ap, ap₂, ◌∙◌}
use Rattle.std.specs.FinMap.{empty}
use Rattle.std.proofs.lemmas.List.{get_or_default}
use Rattle.fj_theory.specs.Polynomial.{sum}
use Rattle.fj_poly.specs.Slots.{sum_all}
use Rattle.fj_poly.proofs.Slots.{ArePolynomials-set, IsPolynomial-sum_all, sum_all-added}
use Rattle.fj_poly.proofs.buckets.Buckets.add.Goals as goal

pub returns-in_err-make_room-clause-polynomial : goal.returns-in_err-make_room-clause-polynomial
returns-in_err-make_room-clause-polynomial g c = IsPolynomial-sum_all g.met.K.Coeff.lawful _ c.in_err-make_room.ensures.polynomials

pub returns-in_err-merge-clause-polynomial : goal.returns-in_err-merge-clause-polynomial
returns-in_err-merge-clause-polynomial g c =
    IsPolynomial-sum_all g.met.K.Coeff.lawful _ (ArePolynomials-set c.make_room.new.slots.items c.place_of-place.result c.in_ok-make_room.ensures.polynomials c.in_err-merge.ensures.polynomial)

pub invariant_of-self-2 : goal.invariant_of-self-2
invariant_of-self-2 g c = ArePolynomials-set c.make_room.new.slots.items c.place_of-place.result c.in_ok-make_room.ensures.polynomials c.in_ok-merge.ensures.polynomial

pub returns-clause-value : goal.returns-clause-value
returns-clause-value g c =
    let F = g.K.Coeff.field in
    let S = c.make_room.new.slots.items in
    let own = c.index_mut.ensures.value ∙ get_or_default S c.place_of-place.result c.index_mut.result.now empty c.in_ok-make_room.ensures.place in
    ap (λ p. sum_all F (set S c.place_of-place.result p)) (c.in_ok-merge.ensures.value ∙ ap₂ (sum F) own c.terms.ensures.value)
    ∙ sum_all-added g.met.K.Coeff.lawful S c.in_ok-make_room.ensures.polynomials c.place_of-place.result c.in_ok-make_room.ensures.place c.len.ensures.polynomial
    ∙ ap (λ p. sum F p c.args.h) (c.in_ok-make_room.ensures.sum ∙ c.self.view_is)

pub returns-clause-polynomial : goal.returns-clause-polynomial
returns-clause-polynomial g c =
    IsPolynomial-sum_all g.met.K.Coeff.lawful _ (ArePolynomials-set c.make_room.new.slots.items c.place_of-place.result c.in_ok-make_room.ensures.polynomials c.in_ok-merge.ensures.polynomial)
