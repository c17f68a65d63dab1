use Rattle.std.proofs.Common.{◌≡◌, ◌<◌, length, sym, ap, ◌∙◌, subst}
use Rattle.std.specs.FinMap.{empty}
use Rattle.fj_theory.specs.Polynomial.{IsPolynomial, lead}
use Rattle.fj_poly.specs.Slots.{AreZero, sum_all, without_lead}
use Rattle.fj_poly.proofs.Coefficients.{positive_rank, zero_rank}
use Rattle.fj_poly.proofs.Leads.{lead-nothing, lead-sum_below, sum-zero_term, without_lead-empty, without_lead-sum_below}
use Rattle.fj_poly.proofs.Slots.{all_zero, sum_all-zeros, IsPolynomial-sum_all}
use Rattle.fj_poly.proofs.buckets.Buckets.take_lead.Goals as goal

pub returns-then-ne-clause-lead : goal.returns-then-ne-clause-lead
returns-then-ne-clause-lead g c =
    let L = g.met.K.Coeff.lawful in
    let positive : 0 < g.K.Coeff.rank c.take_greatest-coefficient.result.0 =
    positive_rank _ _ _ (g.met.K.Coeff.eq_is_rank c.take_greatest-coefficient.result.0 c.zero.result) c.zero.ensures (sym c.ne.ensures ∙ c.if-ne.true) in
    sym (ap (lead g.O.Order.key) (sym c.loop-place.invariant.0 ∙ c.take_greatest-coefficient.ensures.value)
    ∙ lead-sum_below L g.met.O.Order.monomial_order (record { eight = c.take_greatest-coefficient.result.1.eight }) _ positive (g.met.K.Coeff.rank_below c.take_greatest-coefficient.result.0)
    (IsPolynomial-sum_all L _ c.take_greatest-coefficient.ensures.polynomials) c.take_greatest-coefficient.ensures.below)

pub returns-then-ne-clause-rest : goal.returns-then-ne-clause-rest
returns-then-ne-clause-rest g c =
    let L = g.met.K.Coeff.lawful in
    let positive : 0 < g.K.Coeff.rank c.take_greatest-coefficient.result.0 =
    positive_rank _ _ _ (g.met.K.Coeff.eq_is_rank c.take_greatest-coefficient.result.0 c.zero.result) c.zero.ensures (sym c.ne.ensures ∙ c.if-ne.true) in
    sym (ap (without_lead g.K.Coeff.field g.O.Order.key) (sym c.loop-place.invariant.0 ∙ c.take_greatest-coefficient.ensures.value)
    ∙ without_lead-sum_below L g.met.O.Order.monomial_order (record { eight = c.take_greatest-coefficient.result.1.eight }) _ positive (g.met.K.Coeff.rank_below c.take_greatest-coefficient.result.0)
    (IsPolynomial-sum_all L _ c.take_greatest-coefficient.ensures.polynomials) c.take_greatest-coefficient.ensures.below)

pub returns-then-ne-clause-old_polynomial : goal.returns-then-ne-clause-old_polynomial
returns-then-ne-clause-old_polynomial g c = subst (IsPolynomial g.K.Coeff.field) c.loop-place.invariant.0 (IsPolynomial-sum_all g.met.K.Coeff.lawful _ c.loop-place.invariant.1)

pub returns-then-ne-clause-polynomial : goal.returns-then-ne-clause-polynomial
returns-then-ne-clause-polynomial g c = IsPolynomial-sum_all g.met.K.Coeff.lawful _ c.take_greatest-coefficient.ensures.polynomials

pub loop-place-preserved : goal.loop-place-preserved
loop-place-preserved g c =
    let L = g.met.K.Coeff.lawful in
    let none : g.K.Coeff.rank c.take_greatest-coefficient.result.0 ≡ 0 =
    zero_rank _ _ _ (g.met.K.Coeff.eq_is_rank c.take_greatest-coefficient.result.0 c.zero.result) c.zero.ensures (sym c.ne.ensures ∙ c.if-ne.false) in (
      sym (sum-zero_term L (IsPolynomial-sum_all L _ c.take_greatest-coefficient.ensures.polynomials) _ _ none) ∙ sym c.take_greatest-coefficient.ensures.value ∙ c.loop-place.invariant.0,
      c.take_greatest-coefficient.ensures.polynomials,
    )

pub returns-clause-lead : goal.returns-clause-lead
returns-clause-lead g c =
    let L = g.met.K.Coeff.lawful in
    let zero : AreZero c.as_slice.result.now (length c.as_slice.result.now) = rw c.in_default.is at c.greatest.ensures in
    let all : AreZero c.loop-place.self-inside.slots.items (length c.loop-place.self-inside.slots.items) = rw c.as_slice.ensures.value at zero in
    sym (ap (lead g.O.Order.key) (sym c.loop-place.invariant.0 ∙ sum_all-zeros L _ (all_zero _ all)) ∙ lead-nothing L g.met.O.Order.monomial_order)

pub returns-clause-rest : goal.returns-clause-rest
returns-clause-rest g c =
    let L = g.met.K.Coeff.lawful in
    let zero : AreZero c.as_slice.result.now (length c.as_slice.result.now) = rw c.in_default.is at c.greatest.ensures in
    let all : AreZero c.loop-place.self-inside.slots.items (length c.loop-place.self-inside.slots.items) = rw c.as_slice.ensures.value at zero in
    let none : sum_all g.K.Coeff.field c.loop-place.self-inside.slots.items ≡ empty = sum_all-zeros L _ (all_zero _ all) in
    none ∙ sym (ap (without_lead g.K.Coeff.field g.O.Order.key) (sym c.loop-place.invariant.0 ∙ none) ∙ without_lead-empty L g.met.O.Order.monomial_order)

pub returns-clause-old_polynomial : goal.returns-clause-old_polynomial
returns-clause-old_polynomial g c = subst (IsPolynomial g.K.Coeff.field) c.loop-place.invariant.0 (IsPolynomial-sum_all g.met.K.Coeff.lawful _ c.loop-place.invariant.1)

pub returns-clause-polynomial : goal.returns-clause-polynomial
returns-clause-polynomial g c = IsPolynomial-sum_all g.met.K.Coeff.lawful _ c.loop-place.invariant.1
