-- What an interval on which the test ideal is constant has inside.
use Rattle.std.proofs.Common.{◌≡◌, ℕ, ◌*◌, ◌^◌, ◌<◌, ◌≤◌, max, arith}
use Rattle.std.specs.declared.cmp.Ordering.TheVariants.{Less}
use Rattle.std.proofs.Math.Nat.{mul-le-mul_right, mul-lt-mul_of_pos_right, lt_of_mul-lt-mul_right, le_of_mul-le-mul_right}
use Rattle.fj_coeff.specs.Field.{Field, IsField}
use Rattle.fj_theory.specs.Polynomial.{Polynomial, IsPolynomial}
use Rattle.fj_theory.specs.Fraction.{IsAtMost, Fraction, compare}
use Rattle.fj_theory.proofs.Fraction.{ceil_times-le, compare-less, less_from_compare}
use Rattle.fj_theory.proofs.Field.{characteristic_large}
use Rattle.fj_theory.proofs.Ideal.{SameIdeal-refl}
use Rattle.fj_testideal.specs.TestIdeal.{IsTestIdeal, IsLeftLimit}
use Rattle.fj_testideal.specs.Jump.{IsJump, IsConstant}
use Rattle.fj_testideal.proofs.Ceiling.{power_large, ceiling_below}
use Rattle.fj_testideal.proofs.PowerRoot.{power_root-squeezed}
use Rattle.fj_testideal.proofs.Jump.{ArePolynomials-IsTestIdeal, above_zero_from_less, left_limit_from_constant, constant_from_ends, jump_differs}

-- The order by value.
pub less_at_most : (s t u : Fraction) → compare s t ≡ Less → IsAtMost t u → compare s u ≡ Less
less_at_most s t u less at_most =
    let first : s.numerator * t.denominator * u.denominator < t.numerator * s.denominator * u.denominator = mul-lt-mul_of_pos_right (less_from_compare s t less) u.positive in
    let second : t.numerator * u.denominator * s.denominator ≤ u.numerator * t.denominator * s.denominator = mul-le-mul_right s.denominator at_most in
    let both : s.numerator * u.denominator * t.denominator < u.numerator * s.denominator * t.denominator = omega arith in
    compare-less s u (lt_of_mul-lt-mul_right t.denominator both)

pub at_most_less : (s t u : Fraction) → IsAtMost s t → compare t u ≡ Less → compare s u ≡ Less
at_most_less s t u at_most less =
    let first : s.numerator * t.denominator * u.denominator ≤ t.numerator * s.denominator * u.denominator = mul-le-mul_right u.denominator at_most in
    let second : t.numerator * u.denominator * s.denominator < u.numerator * t.denominator * s.denominator = mul-lt-mul_of_pos_right (less_from_compare t u less) s.positive in
    let both : s.numerator * u.denominator * t.denominator < u.numerator * s.denominator * t.denominator = omega arith in
    compare-less s u (lt_of_mul-lt-mul_right t.denominator both)

pub IsAtMost-trans : (s t u : Fraction) → IsAtMost s t → IsAtMost t u → IsAtMost s u
IsAtMost-trans s t u first second =
    let left : s.numerator * t.denominator * u.denominator ≤ t.numerator * s.denominator * u.denominator = mul-le-mul_right u.denominator first in
    let right : t.numerator * u.denominator * s.denominator ≤ u.numerator * t.denominator * s.denominator = mul-le-mul_right s.denominator second in
    let both : s.numerator * u.denominator * t.denominator ≤ u.numerator * s.denominator * t.denominator = omega arith in
    le_of_mul-le-mul_right both t.positive

pub at_most_from_less : (s t : Fraction) → compare s t ≡ Less → IsAtMost s t
at_most_from_less s t less = omega (arith, less_from_compare s t less)

module _ {F : Field} (L : IsField F) {f : Polynomial} (A : IsPolynomial F f) (s t : Fraction) (less : compare s t ≡ Less) (C : IsConstant F f s t) where
  large : (d e : ℕ) → d ≤ e → d ≤ F.characteristic ^ e
  large d e h = omega (arith, power_large F.characteristic e (characteristic_large L))

  pub test_ideal-inside_constant : (r : Fraction) → IsAtMost s r → compare r t ≡ Less → IsTestIdeal F f r C.ideal
  test_ideal-inside_constant r from below =
      let I = C.at_start in
      let J = left_limit_from_constant L A s t less C in
      record {
        start = max (max I.start J.start) (r.denominator * t.denominator);
        root = λ e h.
            let q : ℕ = F.characteristic ^ e in
            power_root-squeezed L A e (ceil_times-le s r q from) (ceiling_below r t q below (large _ e (omega arith))) (I.root e (omega arith)) (J.root e (omega arith));
      }

  pub left_limit-inside_constant : (r : Fraction) → compare s r ≡ Less → IsAtMost r t → IsLeftLimit F f r C.ideal
  left_limit-inside_constant r above to =
      let I = C.at_start in
      let J = left_limit_from_constant L A s t less C in
      record {
        start = max (max I.start J.start) (s.denominator * r.denominator);
        root = λ e h.
            let q : ℕ = F.characteristic ^ e in
            power_root-squeezed L A e (ceiling_below s r q above (large _ e (omega arith))) (omega (arith, ceil_times-le r t q to)) (I.root e (omega arith)) (J.root e (omega arith));
      }

  pub constant-smaller : (r u : Fraction) → IsAtMost s r → compare r u ≡ Less → IsAtMost u t → IsConstant F f r u
  constant-smaller r u from rising to =
      constant_from_ends L A r u rising (test_ideal-inside_constant r from (less_at_most r u t rising to)) (left_limit-inside_constant u (at_most_less s r u from rising) to)

  pub no_jump-inside_constant : (r : Fraction) → compare s r ≡ Less → compare r t ≡ Less → IsJump F f r → ⊥
  no_jump-inside_constant r above below jump =
      jump_differs L A r (above_zero_from_less s r above) (left_limit-inside_constant r above (at_most_from_less r t below)) (test_ideal-inside_constant r (at_most_from_less s r above) below) jump
      (SameIdeal-refl L (ArePolynomials-IsTestIdeal C.at_start))
