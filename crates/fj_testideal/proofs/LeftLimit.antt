-- Test ideals at m/p^e, and the left limit as what the test ideals just below are.
use Rattle.std.proofs.Common.{◌≡◌, ℕ, ◌+◌, ◌-◌, ◌*◌, ◌^◌, ◌<◌, max, List, refl, sym, ap, subst, arith}
use Rattle.std.proofs.lemmas.Nat.{pow-add}
use Rattle.fj_coeff.specs.Field.{Field, IsField}
use Rattle.fj_theory.specs.Polynomial.{Polynomial, IsPolynomial}
use Rattle.fj_theory.specs.Fraction.{Fraction, ceil_times}
use Rattle.fj_theory.proofs.Fraction.{ceil_times-le, ceil_times-whole}
use Rattle.fj_theory.proofs.Field.{characteristic_large}
use Rattle.fj_testideal.specs.TestIdeal.{IsTestIdeal, IsLeftLimit}
use Rattle.fj_testideal.specs.TestIdealLaws.{IsTestIdealJustBelow}
use Rattle.fj_testideal.proofs.Ceiling.{power_large, ceiling_below, just_below, just_below-less}
use Rattle.fj_testideal.proofs.PowerRoot.{IsPowerRoot, power_root-scaled, power_root-unscaled, power_root-squeezed}
use Rattle.fj_testideal.proofs.Jump.{left_limit-attained, ceiling_less_one-IsBetween}

module _ {F : Field} (L : IsField F) {f : Polynomial} (A : IsPolynomial F f) where
  module _ (e m : ℕ) (t : Fraction) (value : t.numerator * F.characteristic ^ e ≡ m * t.denominator) where
    ceiling : (k : ℕ) → ceil_times t (F.characteristic ^ (e + k)) ≡ m * F.characteristic ^ k
    ceiling k =
        let p = F.characteristic in
        let power : t.numerator * p ^ (e + k) ≡ t.numerator * (p ^ e * p ^ k) = ap (λ q. t.numerator * q) (pow-add p e k) in
        let product : t.numerator * p ^ e * p ^ k ≡ m * t.denominator * p ^ k = ap (λ n. n * p ^ k) value in
        ceil_times-whole t (p ^ (e + k)) (m * p ^ k) (omega arith)

    pub root_from_test_ideal : {T : List Polynomial} → IsTestIdeal F f t T → IsPowerRoot F f e m T
    root_from_test_ideal {T} I = power_root-unscaled L A e I.start m (subst (λ n. IsPowerRoot F f (e + I.start) n T) (ceiling I.start) (I.root (e + I.start) (omega arith)))

    pub test_ideal_from_root : {T : List Polynomial} → IsPowerRoot F f e m T → IsTestIdeal F f t T
    test_ideal_from_root {T} R = record {
      start = e;
      root = λ d h.
          let place : e + (d - e) ≡ d = omega arith in
          subst (λ d. IsPowerRoot F f d (ceil_times t (F.characteristic ^ d)) T) place
          (subst (λ n. IsPowerRoot F f (e + (d - e)) n T) (sym (ceiling (d - e))) (power_root-scaled L A e (d - e) m R));
    }

  module _ (t : Fraction) (above : 0 < t.numerator) {T : List Polynomial} where
    pub just_below_from_left_limit : IsLeftLimit F f t T → IsTestIdealJustBelow F f t T
    just_below_from_left_limit I =
        let p = F.characteristic in
        let positive : 0 < F.characteristic = omega (arith, characteristic_large L) in
        let near = just_below t p I.start positive above in
        let N = left_limit-attained L A t above I in
        record {
          near = near;
          is_below = just_below-less t p I.start positive above;
          test_ideal = λ s from less. record {
            start = max (max N.start I.start) (s.denominator * t.denominator);
            root = λ e h.
                power_root-squeezed L A e (ceil_times-le near s (p ^ e) from) (ceiling_below s t (p ^ e) less (omega (arith, power_large p e (characteristic_large L))))
                (N.root e (omega arith)) (I.root e (omega arith));
          };
        }

    pub left_limit_from_just_below : IsTestIdealJustBelow F f t T → IsLeftLimit F f t T
    left_limit_from_just_below B =
        let p = F.characteristic in
        let positive : 0 < F.characteristic = omega (arith, characteristic_large L) in
        record {
          start = B.near.denominator * t.denominator;
          root = λ e h.
              let s = just_below t p e positive above in
              root_from_test_ideal e (ceil_times t (p ^ e) - 1) s refl
              (B.test_ideal s (ceiling_less_one-IsBetween L A B.near t B.is_below e h).from (just_below-less t p e positive above));
        }
