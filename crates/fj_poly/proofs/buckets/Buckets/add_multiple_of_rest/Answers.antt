use Rattle.std.proofs.Common.{set, ap, ap₂, subst, ◌∙◌}
use Rattle.std.specs.FinMap.{empty}
use Rattle.std.proofs.lemmas.List.{get_or_default}
use Rattle.fj_theory.specs.Polynomial.{IsPolynomial, sum, product, term}
use Rattle.fj_poly.specs.Slots.{sum_all, without_lead}
use Rattle.fj_poly.specs.Terms.{entries}
use Rattle.fj_poly.proofs.Polynomials.{polynomial_of}
use Rattle.fj_poly.proofs.Slots.{ArePolynomials-set, IsPolynomial-sum_all, sum_all-added}
use Rattle.fj_poly.proofs.buckets.Buckets.add_multiple_of_rest.Goals as goal

pub returns-in_err-make_room-clause-polynomial : goal.returns-in_err-make_room-clause-polynomial
returns-in_err-make_room-clause-polynomial g c = IsPolynomial-sum_all g.met.K.Coeff.lawful _ c.in_err-make_room.ensures.polynomials

pub returns-in_err-fill_multiple-clause-polynomial : goal.returns-in_err-fill_multiple-clause-polynomial
returns-in_err-fill_multiple-clause-polynomial g c = IsPolynomial-sum_all g.met.K.Coeff.lawful _ c.in_ok-make_room.ensures.polynomials

pub returns-in_err-merge-clause-polynomial : goal.returns-in_err-merge-clause-polynomial
returns-in_err-merge-clause-polynomial g c =
    IsPolynomial-sum_all g.met.K.Coeff.lawful _ (ArePolynomials-set c.make_room.new.slots.items c.place_of-place.result c.in_ok-make_room.ensures.polynomials c.in_err-merge.ensures.polynomial)

pub invariant_of-self-2 : goal.invariant_of-self-2
invariant_of-self-2 g c = ArePolynomials-set c.make_room.new.slots.items c.place_of-place.result c.in_ok-make_room.ensures.polynomials c.in_ok-merge.ensures.polynomial

pub returns-clause-value : goal.returns-clause-value
returns-clause-value g c =
    let F = g.K.Coeff.field in
    let S = c.make_room.new.slots.items in
    let own = c.index_mut.ensures.value ∙ get_or_default S c.place_of-place.result c.index_mut.result.now empty c.in_ok-make_room.ensures.place in
    let added = ap (λ ts. polynomial_of (entries g.K.Coeff.rank ts)) c.as_slice.ensures.value ∙ c.in_ok-fill_multiple.ensures.value
    ∙ ap (product F (term (g.K.Coeff.rank c.args.c) c.args.m.now.exponents)) c.later_terms-terms.ensures.value in
    ap (λ p. sum_all F (set S c.place_of-place.result p)) (c.in_ok-merge.ensures.value ∙ ap₂ (sum F) own added)
    ∙ sum_all-added g.met.K.Coeff.lawful S c.in_ok-make_room.ensures.polynomials c.place_of-place.result c.in_ok-make_room.ensures.place
    (subst (IsPolynomial F) added c.in_ok-merge.ensures.others)
    ∙ ap (λ p. sum F p (product F (term (g.K.Coeff.rank c.args.c) c.args.m.now.exponents) (without_lead F g.O.Order.key c.args.g.now))) (c.in_ok-make_room.ensures.sum ∙ c.self.view_is)

pub returns-clause-polynomial : goal.returns-clause-polynomial
returns-clause-polynomial g c =
    IsPolynomial-sum_all g.met.K.Coeff.lawful _ (ArePolynomials-set c.make_room.new.slots.items c.place_of-place.result c.in_ok-make_room.ensures.polynomials c.in_ok-merge.ensures.polynomial)
