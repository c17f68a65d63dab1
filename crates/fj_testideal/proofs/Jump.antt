-- Laws of F-jumping numbers and of constancy: both are read from test ideals and left limits.
use Rattle.std.proofs.Common.{◌≡◌, ℕ, ◌+◌, ◌-◌, ◌*◌, ◌^◌, ◌<◌, ◌≤◌, max, List, [], ◌∷◌, Some, sym, ap, subst, arith, ⊎_elim, eq-zero-or-pos}
use Rattle.std.specs.declared.cmp.Ordering.TheVariants.{Less}
use Rattle.std.proofs.lemmas.Nat.{pow-add}
use Rattle.std.proofs.Math.Nat.{mul-le-mul_right}
use Rattle.fj_coeff.specs.Field.{Field, IsField}
use Rattle.fj_theory.specs.Polynomial.{Polynomial, IsPolynomial, power, degree}
use Rattle.fj_theory.specs.Ideal.{ArePolynomials, Member, SameIdeal}
use Rattle.fj_theory.specs.Fraction.{Fraction, compare, ceil_times}
use Rattle.fj_theory.specs.Digits.{ceiling_less_one}
use Rattle.fj_theory.proofs.Fraction.{ceil_times-IsCeiling, ceil_times-whole, less_from_compare}
use Rattle.fj_theory.proofs.Digits.{ceiling_less_one-IsTruncation}
use Rattle.fj_theory.proofs.Field.{characteristic_large}
use Rattle.fj_theory.proofs.PolynomialRing.{IsPolynomial-power}
use Rattle.fj_theory.proofs.Degree.{degree-power}
use Rattle.fj_theory.proofs.Frobenius.{power_positive}
use Rattle.fj_theory.proofs.IdealBridge.{ArePolynomials-single}
use Rattle.fj_theory.proofs.Ideal.{SameIdeal-sym, SameIdeal-trans, Inside-head}
use Rattle.fj_theory.proofs.Root.{IsRoot-unique}
use Rattle.fj_theory.proofs.RootParts.{IsRoot-frobenius_power}
use Rattle.fj_testideal.specs.TestIdeal.{IsTestIdeal, IsLeftLimit}
use Rattle.fj_testideal.specs.Jump.{IsJump, IsBetween, IsConstant, HoldsChange}
use Rattle.fj_testideal.proofs.Ceiling.{power_large, ceiling_below, between_low, between_high, just_below, just_below-less, ceil_times-just_below}
use Rattle.fj_testideal.proofs.Degrees.{degree-Member}
use Rattle.fj_testideal.proofs.PowerRoot.{IsPowerRoot, power_root-scaled, power_root-unscaled, power_root-squeezed}
use Rattle.fj_testideal.proofs.TestIdeal.{IsTestIdeal-unique, IsLeftLimit-unique, IsTestIdeal-SameIdeal, IsLeftLimit-SameIdeal, left_limit-inside, test_ideal-inside}

-- The lists of a test ideal are polynomials.
pub ArePolynomials-IsTestIdeal : {F : Field} {f : Polynomial} {t : Fraction} {T : List Polynomial} → IsTestIdeal F f t T → ArePolynomials F T
ArePolynomials-IsTestIdeal S = (S.root S.start (omega arith)).polynomials

pub above_zero_from_less : (s t : Fraction) → compare s t ≡ Less → 0 < t.numerator
above_zero_from_less s t less = ⊎_elim
    (λ none. let product : t.numerator * s.denominator ≡ 0 * s.denominator = ap (λ n. n * s.denominator) none in absurd (omega (arith, less_from_compare s t less)))
    (λ some. some) (eq-zero-or-pos t.numerator)

module _ {F : Field} (L : IsField F) {f : Polynomial} (A : IsPolynomial F f) where
  -- The left limit at t is the test ideal at some number below t.
  pub left_limit-attained : (t : Fraction) {S : List Polynomial} (above : 0 < t.numerator) (I : IsLeftLimit F f t S)
      → IsTestIdeal F f (just_below t F.characteristic I.start (omega (arith, characteristic_large L)) above) S
  left_limit-attained t {S} above I =
      let p = F.characteristic in
      let e = I.start in
      let positive : 0 < F.characteristic = omega (arith, characteristic_large L) in
      record {
        start = e;
        root = λ d h.
            let place : e + (d - e) ≡ d = omega arith in
            subst (λ d. IsPowerRoot F f d (ceil_times (just_below t p e positive above) (p ^ d)) S) place
            (subst (λ m. IsPowerRoot F f (e + (d - e)) m S) (sym (ceil_times-just_below t p e positive above (d - e)))
            (power_root-scaled L A e (d - e) (ceil_times t (p ^ e) - 1) (I.root e (omega arith))));
      }

  module _ (t : Fraction) (above : 0 < t.numerator) {S T : List Polynomial} (I : IsLeftLimit F f t S) (J : IsTestIdeal F f t T) where
    pub jump_differs : IsJump F f t → SameIdeal F S T → ⊥
    jump_differs jump E =
        let positive : 0 < F.characteristic = omega (arith, characteristic_large L) in
        let P = ArePolynomials-IsTestIdeal jump.is_test_ideal in
        let same : SameIdeal F S jump.ideal = SameIdeal-trans L (I.root I.start (omega arith)).polynomials (ArePolynomials-IsTestIdeal J) P E (IsTestIdeal-unique J jump.is_test_ideal) in
        let s = just_below t F.characteristic I.start positive above in
        jump.is_new s (just_below-less t F.characteristic I.start positive above) (IsTestIdeal-SameIdeal L A s (left_limit-attained t above I) P same)

    pub jump_from_difference : (SameIdeal F S T → ⊥) → IsJump F f t
    jump_from_difference differ = record {
      above_zero = above;
      ideal = T;
      is_test_ideal = J;
      is_new = λ s less K. differ (record { forth = left_limit-inside L A s t less K I; back = test_ideal-inside L A t I J });
    }

  module _ (s t : Fraction) (less : compare s t ≡ Less) where
    -- The number (ceil(t*q) - 1)/q is in [s, t) for every large q.
    pub ceiling_less_one-IsBetween : (e : ℕ) → s.denominator * t.denominator ≤ e → IsBetween s t (ceil_times t (F.characteristic ^ e) - 1) (F.characteristic ^ e)
    unfolding ceiling_less_one
    ceiling_less_one-IsBetween e large =
        let q : ℕ = F.characteristic ^ e in
        let low : ceil_times s q ≤ ceil_times t q - 1 = ceiling_below s t q less (omega (arith, power_large F.characteristic e (characteristic_large L))) in
        let product : ceil_times s q * s.denominator ≤ (ceil_times t q - 1) * s.denominator = mul-le-mul_right s.denominator low in
        record {
          from = omega (arith, (ceil_times-IsCeiling s q).enough);
          below = (ceiling_less_one-IsTruncation F.characteristic t e (omega (arith, characteristic_large L)) (above_zero_from_less s t less)).below;
        }

    pub left_limit_from_constant : (C : IsConstant F f s t) → IsLeftLimit F f t C.ideal
    left_limit_from_constant C = record { start = s.denominator * t.denominator; root = λ e h. C.between e _ (ceiling_less_one-IsBetween e h) }

    pub constant_from_ends : {T : List Polynomial} → IsTestIdeal F f s T → IsLeftLimit F f t T → IsConstant F f s t
    constant_from_ends {T} I J = record {
      ideal = T;
      at_start = I;
      between = λ e m B.
          let p = F.characteristic in
          let k = max I.start J.start in
          let power : p ^ e * p ^ k ≡ p ^ (e + k) = sym (pow-add p e k) in
          let low : ceil_times s (p ^ (e + k)) ≤ m * p ^ k = subst (λ q. ceil_times s q ≤ m * p ^ k) power (between_low s t m (p ^ e) (p ^ k) B) in
          let high : m * p ^ k ≤ ceil_times t (p ^ (e + k)) - 1 = subst (λ q. m * p ^ k ≤ ceil_times t q - 1) power (between_high s t m (p ^ e) (p ^ k) B (power_positive L k)) in
          power_root-unscaled L A e k m (power_root-squeezed L A (e + k) low high (I.root (e + k) (omega arith)) (J.root (e + k) (omega arith)));
    }

    pub constant_from_equal : {S T : List Polynomial} → IsTestIdeal F f s S → IsLeftLimit F f t T → SameIdeal F S T → IsConstant F f s t
    constant_from_equal I J E = constant_from_ends I (IsLeftLimit-SameIdeal L A t J (ArePolynomials-IsTestIdeal I) (SameIdeal-sym E))

    pub equal_from_constant : {S T : List Polynomial} → IsTestIdeal F f s S → IsLeftLimit F f t T → IsConstant F f s t → SameIdeal F S T
    equal_from_constant I J C =
        SameIdeal-trans L (ArePolynomials-IsTestIdeal I) (ArePolynomials-IsTestIdeal C.at_start) (J.root J.start (omega arith)).polynomials
        (IsTestIdeal-unique I C.at_start) (IsLeftLimit-unique (left_limit_from_constant C) J)

    -- Where tau isn't constant, the number just below t shows it.
    pub change_from_open : {S T : List Polynomial} → IsTestIdeal F f s S → IsLeftLimit F f t T → (IsConstant F f s t → ⊥) → HoldsChange F f s t S
    change_from_open I J is_open =
        let e = max J.start (s.denominator * t.denominator) in
        record {
          e = e;
          m = ceil_times t (F.characteristic ^ e) - 1;
          between = ceiling_less_one-IsBetween e (omega arith);
          differs = λ R. is_open (constant_from_equal I J (IsRoot-unique R (J.root e (omega arith))));
        }

  -- f^m is in (f^q) for no m below q where f isn't constant.
  power_outside : {n m q : ℕ} → degree f ≡ Some n → 0 < n → m < q → Member F (power F f q ∷ []) (power F f m) → ⊥
  power_outside {n} {m} {q} D positive less H =
      let sizes : q * n ≤ m * n = degree-Member L (IsPolynomial-power L A q) (degree-power L A D q) (degree-power L A D m) H in
      let larger : (m + 1) * n ≤ q * n = mul-le-mul_right n (omega arith) in
      absurd (omega arith)

  -- 1 is an F-jumping number of each polynomial that isn't constant.
  pub one_is_jump : (n : ℕ) → degree f ≡ Some n → 0 < n → (t : Fraction) → t.numerator ≡ t.denominator → IsJump F f t
  one_is_jump n D positive t one = record {
    above_zero = omega (arith, t.positive);
    ideal = f ∷ [];
    is_test_ideal = record { start = 0; root = λ e h. subst (λ m. IsPowerRoot F f e m (f ∷ [])) (sym (whole (F.characteristic ^ e))) (IsRoot-frobenius_power L e (ArePolynomials-single A)) };
    is_new = λ s less I.
        let e = max I.start (s.denominator * t.denominator) in
        let q : ℕ = F.characteristic ^ e in
        let low : ceil_times s q ≤ ceil_times t q - 1 = ceiling_below s t q less (omega (arith, power_large F.characteristic e (characteristic_large L))) in
        power_outside D positive (omega (arith, whole q, power_positive L e)) (Inside-head (I.root e (omega arith)).inside);
  }
    where
      whole : (q : ℕ) → ceil_times t q ≡ q
      whole q = let product : t.numerator * q ≡ t.denominator * q = ap (λ n. n * q) one in ceil_times-whole t q q (omega arith)
