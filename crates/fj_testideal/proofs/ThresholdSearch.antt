-- How a search by bisection finds the threshold, or the gap that has it inside.
use Rattle.std.proofs.Common.{ℕ, ◌*◌, ◌^◌, ◌≤◌, max, List, Contains, arith}
use Rattle.std.proofs.Math.Nat.{mul-le-mul_right, le_of_mul-le-mul_right}
use Rattle.fj_coeff.specs.Field.{Field, IsField}
use Rattle.fj_theory.specs.Polynomial.{Polynomial, IsPolynomial}
use Rattle.fj_theory.specs.Ideal.{ArePolynomials, Member, Inside}
use Rattle.fj_theory.specs.Fraction.{IsAtMost, Fraction, ceil_times}
use Rattle.fj_theory.specs.Candidates.{AreCandidates, Gap, gaps}
use Rattle.fj_theory.proofs.Fraction.{ceil_times-le, ceil_times-IsCeiling}
use Rattle.fj_theory.proofs.Ideal.{Inside-head, Inside-trans}
use Rattle.fj_theory.proofs.FrobeniusPower.{Member-frobenius_power}
use Rattle.fj_testideal.specs.TestIdeal.{IsTestIdeal, IsLeftLimit}
use Rattle.fj_testideal.specs.ThresholdLaws.{StaysInside, HasEndsInside, IsToldAbove}
use Rattle.fj_testideal.proofs.TestIdeal.{IsTestIdeal-unique, test_ideal-zero, test_ideal-falls, left_limit-falls, left_limit-inside}
use Rattle.fj_testideal.proofs.PowerRoot.{power_root-falls}
use Rattle.fj_testideal.proofs.Jump.{ArePolynomials-IsTestIdeal}
use Rattle.fj_testideal.proofs.Threshold.{power_inside-more, test_ideal_inside, threshold_by_limits}
use Rattle.fj_testideal.proofs.ThresholdGap.{upper_positive, gap_by_limits, only_gap}

ArePolynomials-IsLeftLimit : {F : Field} {f : Polynomial} {t : Fraction} {T : List Polynomial} → IsLeftLimit F f t T → ArePolynomials F T
ArePolynomials-IsLeftLimit S = (S.root S.start (omega arith)).polynomials

module _ {F : Field} (L : IsField F) {f : Polynomial} (A : IsPolynomial F f) {J : List Polynomial} (P : ArePolynomials F J) where
  within : {S T : List Polynomial} → ArePolynomials F S → ArePolynomials F T → Inside F T S → Inside F S J → Inside F T J
  within Q R i j = Inside-trans L R Q P i j

  pub stays_inside : StaysInside F f J
  stays_inside = record {
    test_ideals = λ s t S T h I K i. within (ArePolynomials-IsTestIdeal I) (ArePolynomials-IsTestIdeal K) (test_ideal-falls L A s t h I K) i;
    left_limits = λ s t S T h I K i. within (ArePolynomials-IsLeftLimit I) (ArePolynomials-IsLeftLimit K) (left_limit-falls L A s t h I K) i;
    from_test_ideal = λ s t S T h I K i. within (ArePolynomials-IsTestIdeal I) (ArePolynomials-IsLeftLimit K) (left_limit-inside L A s t h I K) i;
    from_left_limit = λ s t S T h I K i. within (ArePolynomials-IsLeftLimit I) (ArePolynomials-IsTestIdeal K) (below s t h I K) i;
  }
    where
      below : (s t : Fraction) {S T : List Polynomial} → IsAtMost s t → IsLeftLimit F f s S → IsTestIdeal F f t T → Inside F T S
      below s t h I K =
          let e = max I.start K.start in
          power_root-falls L A e (omega (arith, ceil_times-le s t (F.characteristic ^ e) h)) (I.root e (omega arith)) (K.root e (omega arith))

  one_inside : (t : Fraction) {T : List Polynomial} → t.denominator ≤ t.numerator → IsTestIdeal F f t T → Member F J f → Inside F T J
  one_inside t more I H = (test_ideal_inside L A P t I).1 (λ e.
      let q : ℕ = F.characteristic ^ e in
      let scaled : t.denominator * q ≤ t.numerator * q = mul-le-mul_right q more in
      let product : q * t.denominator ≤ ceil_times t q * t.denominator = omega (arith, scaled, (ceil_times-IsCeiling t q).enough) in
      power_inside-more L A P e (le_of_mul-le-mul_right product t.positive) (Member-frobenius_power L e P H))

  pub ends_inside : HasEndsInside F f J
  ends_inside = record {
    at_zero = λ t T none I proper i.
        let zero = test_ideal-zero L A t none in
        proper (Inside-head (within (ArePolynomials-IsTestIdeal I) (ArePolynomials-IsTestIdeal zero) (IsTestIdeal-unique zero I).forth i));
    from_one = λ t T more I H. one_inside t more I H;
  }

  module _ (E : ℕ) {candidates : List Fraction} (C : AreCandidates F.characteristic E candidates) (gap : Gap) (among : Contains (gaps candidates) gap) where
    pub told_above : {S left T : List Polynomial} → IsTestIdeal F f gap.lower S → IsLeftLimit F f gap.upper left → IsTestIdeal F f gap.upper T
        → (Inside F S J → ⊥) → Inside F T J → IsToldAbove F f J E (gaps candidates) gap left
    told_above {S} {left} {T} I K M out inside =
        let at = threshold_by_limits L A P gap.upper (upper_positive L A P E C gap among) K M in
        let inner = gap_by_limits L A P E C gap among K I in
        record {
          at_upper = (λ h. (at.0 h).1, λ n. at.1 (inside, n));
          between = (λ h. (inner.0 h).1, λ i. inner.1 (out, i));
          no_candidate = λ i. (inner.1 (out, i)).no_candidate;
          only = λ i other c G. only_gap L A P E C other gap c among G (inner.1 (out, i));
        }
