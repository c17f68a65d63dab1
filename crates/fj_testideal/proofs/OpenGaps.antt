-- The gaps of a list of open gaps, and the gaps where no gap is open.
use Rattle.std.proofs.Common.{◌≡◌, ◌↔◌, inl, inr, ℕ, ◌*◌, ◌≤◌, List, All, Contains, sym, ap, subst, arith}
use Rattle.std.specs.declared.cmp.Ordering.TheVariants.{Less}
use Rattle.std.proofs.lemmas.List.Elements.{All-weaker, All-contains}
use Rattle.fj_coeff.specs.Field.{Field, IsField}
use Rattle.fj_algebra.proofs.Lists.{Any-element}
use Rattle.fj_algebra.proofs.Pairs.{contains_nil}
use Rattle.fj_theory.specs.Polynomial.{Polynomial, IsPolynomial}
use Rattle.fj_theory.specs.Fraction.{IsAtMost, Fraction, SameValue, compare}
use Rattle.fj_theory.specs.Candidates.{IsCandidate, AreCandidates, Gap, IsInside, gaps}
use Rattle.fj_theory.proofs.Fraction.{less_from_compare}
use Rattle.fj_theory.proofs.Candidates.{IsInUnitInterval-from_candidate}
use Rattle.fj_theory.proofs.Gaps.{candidate_or_inside, HasEnds, gaps_ends}
use Rattle.fj_theory.proofs.Field.{characteristic_large}
use Rattle.fj_testideal.specs.Jump.{IsConstant}
use Rattle.fj_testideal.specs.JumpList.{HasChange, IsOpen, AreOpenGaps, IsComplete}
use Rattle.fj_testideal.proofs.TestIdeal.{IsTestIdeal-unique}
use Rattle.fj_testideal.proofs.Jump.{ArePolynomials-IsTestIdeal}
use Rattle.fj_testideal.proofs.PowerRoot.{IsPowerRoot-SameIdeal}
use Rattle.fj_testideal.proofs.ConstantInside.{at_most_from_less, less_at_most, IsAtMost-trans, constant-smaller}
use Rattle.fj_testideal.proofs.GapOrder.{outside_gap, gap_below}

module _ {F : Field} (L : IsField F) {f : Polynomial} (A : IsPolynomial F f) where
  -- On a gap with a change tau isn't constant.
  open_from_change : (gap : Gap) → HasChange F f gap → IsOpen F f gap
  open_from_change gap h C =
      h.change.differs
      (IsPowerRoot-SameIdeal L A h.change.e h.change.m (C.between h.change.e h.change.m h.change.between) (ArePolynomials-IsTestIdeal h.at_lower)
      (IsTestIdeal-unique C.at_start h.at_lower))

  pub open_gaps-are_open : (E : ℕ) {open_gaps : List Gap} (are : AreOpenGaps F f E open_gaps)
      → All (IsOpen F f) open_gaps × ((gap : Gap) → Contains (gaps are.candidates) gap → IsOpen F f gap ↔ Contains open_gaps gap)
  open_gaps-are_open E {open_gaps} are =
      let each : All (IsOpen F f) open_gaps = All-weaker (HasChange F f) (IsOpen F f) open_from_change open_gaps are.changes in (
        each,
        λ gap among. (
          λ is_open. elim (are.constant_or_open gap among) [ inl C ↦ absurd (is_open C) | inr listed ↦ listed ],
          λ listed. All-contains (IsOpen F f) open_gaps gap each listed,
        ),
      )

  module _ (E : ℕ) (some : 1 ≤ E) (complete : IsComplete F f E) where
    large : 2 ≤ F.characteristic
    large = characteristic_large L

    -- A candidate is above the lower end of a gap, and at most the upper end.
    gap_around : (t : Fraction) → IsCandidate F.characteristic E t
        → (gap : Gap) × Contains (gaps complete.candidates) gap × (compare gap.lower t ≡ Less) × IsAtMost t gap.upper
    unfolding gaps
    gap_around t candidate =
        elim (candidate_or_inside F.characteristic E complete.candidates t (omega (arith, large)) some complete.are_candidates (IsInUnitInterval-from_candidate F.characteristic E t (omega (arith, large)) candidate)) [
          | inl at ↦
              let found = Any-element (SameValue t) complete.candidates at in
              let below = gap_below _ complete.candidates found.0 found.1 in
              let ends = All-contains (HasEnds F.characteristic E) (gaps complete.candidates) below.0 (gaps_ends F.characteristic E complete.candidates (omega (arith, large)) complete.are_candidates) below.1 in
              let same : SameValue t below.0.upper = subst (SameValue t) (sym below.2) found.2 in
              (below.0, below.1, less_at_most below.0.lower below.0.upper t ends.rising (omega (arith, same)), omega (arith, same))
          | inr inside ↦
              let found = Any-element (IsInside t) (gaps complete.candidates) inside in
              (found.0, found.1, found.2.above, at_most_from_less t found.0.upper found.2.below)
        ]

    pub constant_on_gap : (candidates : List Fraction) → AreCandidates F.characteristic E candidates → (gap : Gap) → Contains (gaps candidates) gap
        → IsConstant F f gap.lower gap.upper
    unfolding gaps
    constant_on_gap candidates C gap among =
        let ends = All-contains (HasEnds F.characteristic E) (gaps candidates) gap (gaps_ends F.characteristic E candidates (omega (arith, large)) C) among in
        let around = gap_around gap.upper ends.upper in
        let outer = around.0 in
        let outer_ends = All-contains (HasEnds F.characteristic E) (gaps complete.candidates) outer (gaps_ends F.characteristic E complete.candidates (omega (arith, large)) complete.are_candidates) around.1 in
        let from : IsAtMost outer.lower gap.lower = elim outer_ends.lower [
          | inl none ↦ (let product : outer.lower.numerator * gap.lower.denominator ≡ 0 * gap.lower.denominator = ap (λ n. n * gap.lower.denominator) none in omega (arith, product))
          | inr candidate ↦
              let found = Any-element (SameValue outer.lower) candidates (C.complete outer.lower candidate) in
              let same : SameValue outer.lower found.0 = found.2 in
              elim (outside_gap _ candidates C.rising gap among found.0 found.1) [
                | inl under ↦ IsAtMost-trans outer.lower found.0 gap.lower (omega (arith, same)) under
                | inr over ↦ absurd (omega (arith, same, less_from_compare outer.lower found.0 (less_at_most outer.lower gap.upper found.0 around.2 over)))
              ]
        ] in
        elim (complete.constant_or_open outer around.1) [
          | inl constant ↦ constant-smaller L A outer.lower outer.upper outer_ends.rising constant gap.lower gap.upper from ends.rising around.3
          | inr listed ↦ absurd (contains_nil outer listed)
        ]
