-- Laws of test ideals and left limits: each is one ideal and depends on the value of the exponent; they fall as the exponent
-- grows; whole numbers come out as powers of f.
use Rattle.std.proofs.Common.{◌≡◌, ℕ, ◌+◌, ◌-◌, ◌*◌, ◌^◌, ◌<◌, ◌≤◌, max, List, [], ◌∷◌, refl, sym, ap, subst, arith}
use Rattle.std.specs.declared.cmp.Ordering.TheVariants.{Less}
use Rattle.fj_coeff.specs.Field.{Field, IsField}
use Rattle.fj_theory.specs.Exponents.{origin}
use Rattle.fj_theory.specs.Polynomial.{Polynomial, IsPolynomial, power, term}
use Rattle.fj_theory.specs.Ideal.{ArePolynomials, Inside, SameIdeal, multiples}
use Rattle.fj_theory.specs.Fraction.{plus_whole, Fraction, SameValue, compare, ceil_times}
use Rattle.fj_theory.specs.Root.{IsRoot}
use Rattle.fj_theory.proofs.Fraction.{ceil_times-le, ceil_times-SameValue, ceil_times-whole, ceil_times-add}
use Rattle.fj_theory.proofs.Root.{IsRoot-unique}
use Rattle.fj_theory.proofs.RootParts.{IsRoot-power, IsRoot-one}
use Rattle.fj_theory.proofs.PolynomialRing.{power_zero}
use Rattle.fj_theory.proofs.Field.{characteristic_large}
use Rattle.fj_theory.proofs.Frobenius.{power_positive}
use Rattle.fj_testideal.specs.TestIdeal.{IsTestIdeal, IsLeftLimit}
use Rattle.fj_testideal.proofs.Ceiling.{power_large, ceiling_positive, ceiling_rises, truncation_rises, ceiling_below}
use Rattle.fj_testideal.proofs.PowerRoot.{IsPowerRoot, IsPowerRoot-SameIdeal, power_root, power_root-falls, power_root-rises_across, power_root-falls_across}

-- Two test ideals at one exponent are one ideal, and so are two left limits.
pub IsTestIdeal-unique : {F : Field} {f : Polynomial} {t : Fraction} {T T' : List Polynomial} → IsTestIdeal F f t T → IsTestIdeal F f t T' → SameIdeal F T T'
IsTestIdeal-unique S S' = let e = max S.start S'.start in IsRoot-unique (S.root e (omega arith)) (S'.root e (omega arith))

pub IsLeftLimit-unique : {F : Field} {f : Polynomial} {t : Fraction} {T T' : List Polynomial} → IsLeftLimit F f t T → IsLeftLimit F f t T' → SameIdeal F T T'
IsLeftLimit-unique S S' = let e = max S.start S'.start in IsRoot-unique (S.root e (omega arith)) (S'.root e (omega arith))

-- Test ideals and left limits depend on the value of the exponent.
pub IsTestIdeal-SameValue : {F : Field} {f : Polynomial} (s t : Fraction) {T : List Polynomial} → SameValue s t → IsTestIdeal F f s T → IsTestIdeal F f t T
IsTestIdeal-SameValue {F} {f} s t {T} same S = record {
  start = S.start;
  root = λ e h. subst (λ m. IsPowerRoot F f e m T) (ceil_times-SameValue s t (F.characteristic ^ e) same) (S.root e h);
}

pub IsLeftLimit-SameValue : {F : Field} {f : Polynomial} (s t : Fraction) {T : List Polynomial} → SameValue s t → IsLeftLimit F f s T → IsLeftLimit F f t T
IsLeftLimit-SameValue {F} {f} s t {T} same S = record {
  start = S.start;
  root = λ e h. subst (λ m. IsPowerRoot F f e (m - 1) T) (ceil_times-SameValue s t (F.characteristic ^ e) same) (S.root e h);
}

module _ {F : Field} (L : IsField F) {f : Polynomial} (A : IsPolynomial F f) where
  -- A list that generates the test ideal is one, and the same for the left limit.
  pub IsTestIdeal-SameIdeal : (t : Fraction) {T T' : List Polynomial} → IsTestIdeal F f t T → ArePolynomials F T' → SameIdeal F T T' → IsTestIdeal F f t T'
  IsTestIdeal-SameIdeal t S P E = record { start = S.start; root = λ e h. IsPowerRoot-SameIdeal L A e _ (S.root e h) P E }

  pub IsLeftLimit-SameIdeal : (t : Fraction) {T T' : List Polynomial} → IsLeftLimit F f t T → ArePolynomials F T' → SameIdeal F T T' → IsLeftLimit F f t T'
  IsLeftLimit-SameIdeal t S P E = record { start = S.start; root = λ e h. IsPowerRoot-SameIdeal L A e _ (S.root e h) P E }

  module _ (s t : Fraction) {S T : List Polynomial} where
    -- Test ideals fall as the exponent grows, and so do left limits.
    pub test_ideal-falls : s.numerator * t.denominator ≤ t.numerator * s.denominator → IsTestIdeal F f s S → IsTestIdeal F f t T → Inside F T S
    test_ideal-falls h I J =
        let e = max I.start J.start in
        power_root-falls L A e (ceil_times-le s t (F.characteristic ^ e) h) (I.root e (omega arith)) (J.root e (omega arith))

    pub left_limit-falls : s.numerator * t.denominator ≤ t.numerator * s.denominator → IsLeftLimit F f s S → IsLeftLimit F f t T → Inside F T S
    left_limit-falls h I J =
        let e = max I.start J.start in
        power_root-falls L A e (omega (arith, ceil_times-le s t (F.characteristic ^ e) h)) (I.root e (omega arith)) (J.root e (omega arith))

    -- The left limit at t is inside the test ideal at each s below t.
    pub left_limit-inside : compare s t ≡ Less → IsTestIdeal F f s S → IsLeftLimit F f t T → Inside F T S
    left_limit-inside less I J =
        let e = max (max I.start J.start) (s.denominator * t.denominator) in
        power_root-falls L A e (ceiling_below s t (F.characteristic ^ e) less (omega (arith, power_large F.characteristic e (characteristic_large L))))
        (I.root e (omega arith)) (J.root e (omega arith))

  -- The test ideal at t is inside the left limit at t.
  pub test_ideal-inside : (t : Fraction) {S T : List Polynomial} → IsLeftLimit F f t S → IsTestIdeal F f t T → Inside F T S
  test_ideal-inside t I J =
      let e = max I.start J.start in
      power_root-falls L A e (omega arith) (I.root e (omega arith)) (J.root e (omega arith))

  -- The root of f^ceil(t*p^e) rises with e, and that of f^(ceil(t*p^e) - 1) falls.
  module _ (t : Fraction) (e d : ℕ) (h : e ≤ d) {M N : List Polynomial} where
    pub ceiling_root-rises : IsPowerRoot F f e (ceil_times t (F.characteristic ^ e)) M → IsPowerRoot F f d (ceil_times t (F.characteristic ^ d)) N → Inside F M N
    ceiling_root-rises S T =
        let p = F.characteristic in
        let place : d ≡ e + (d - e) = omega arith in
        power_root-rises_across L A e (d - e) _ _ S (subst (λ d. IsPowerRoot F f d (ceil_times t (p ^ d)) N) place T) (ceiling_rises t p e (d - e))

    pub truncation_root-falls : 0 < t.numerator → IsPowerRoot F f e (ceil_times t (F.characteristic ^ e) - 1) M → IsPowerRoot F f d (ceil_times t (F.characteristic ^ d) - 1) N → Inside F N M
    truncation_root-falls above S T =
        let p = F.characteristic in
        let positive : 0 < F.characteristic = omega (arith, characteristic_large L) in
        let place : d ≡ e + (d - e) = omega arith in
        power_root-falls_across L A e (d - e) _ _ S (subst (λ d. IsPowerRoot F f d (ceil_times t (p ^ d) - 1) N) place T) (truncation_rises t p e (d - e) positive above)

  -- Between two places where it is T, it is T.
  module _ (t : Fraction) (c e d : ℕ) (low : c ≤ e) (high : e ≤ d) {T : List Polynomial} where
    pub ceiling_root-between : IsPowerRoot F f c (ceil_times t (F.characteristic ^ c)) T → IsPowerRoot F f d (ceil_times t (F.characteristic ^ d)) T
        → IsPowerRoot F f e (ceil_times t (F.characteristic ^ e)) T
    ceiling_root-between S S' =
        let R = power_root L A e (ceil_times t (F.characteristic ^ e)) in
        IsPowerRoot-SameIdeal L A e _ R.1 S.polynomials (record { forth = ceiling_root-rises t e d high R.1 S'; back = ceiling_root-rises t c e low S R.1 })

    pub truncation_root-between : 0 < t.numerator → IsPowerRoot F f c (ceil_times t (F.characteristic ^ c) - 1) T → IsPowerRoot F f d (ceil_times t (F.characteristic ^ d) - 1) T
        → IsPowerRoot F f e (ceil_times t (F.characteristic ^ e) - 1) T
    truncation_root-between above S S' =
        let R = power_root L A e (ceil_times t (F.characteristic ^ e) - 1) in
        IsPowerRoot-SameIdeal L A e _ R.1 S.polynomials (record { forth = truncation_root-falls t c e low above S R.1; back = truncation_root-falls t e d high above R.1 S' })

  -- tau(f^0) is (1).
  pub test_ideal-zero : (t : Fraction) → t.numerator ≡ 0 → IsTestIdeal F f t (term 1 origin ∷ [])
  test_ideal-zero t none =
      let one : List Polynomial = term 1 origin ∷ [] in
      record {
        start = 0;
        root = λ e h.
            let q : ℕ = F.characteristic ^ e in
            let product : t.numerator * q ≡ 0 * q = ap (λ n. n * q) none in
            let whole : ceil_times t q ≡ 0 = ceil_times-whole t q 0 (omega arith) in
            subst (λ m. IsPowerRoot F f e m one) (sym whole) (subst (λ g. IsRoot F q (g ∷ []) one) (sym (power_zero L A)) (IsRoot-one L e));
      }

  module _ (t : Fraction) (k : ℕ) where
    ceiling_plus : (q : ℕ) → ceil_times (plus_whole t k) q ≡ ceil_times t q + k * q
    ceiling_plus q = ceil_times-add (plus_whole t k) t k q refl refl

    -- tau(f^(t+k)) is f^k tau(f^t).
    pub test_ideal-plus_whole : {T : List Polynomial} → IsTestIdeal F f t T → IsTestIdeal F f (plus_whole t k) (multiples F (power F f k) T)
    test_ideal-plus_whole {T} I = record {
      start = I.start;
      root = λ e h.
          let q : ℕ = F.characteristic ^ e in
          let whole : k * q + ceil_times t q ≡ ceil_times (plus_whole t k) q = omega (arith, ceiling_plus q) in
          subst (λ m. IsPowerRoot F f e m (multiples F (power F f k) T)) whole (IsRoot-power L e A k (ceil_times t q) (I.root e h));
    }

    -- The same for left limits.
    pub left_limit-plus_whole : {T : List Polynomial} → 0 < t.numerator → IsLeftLimit F f t T → IsLeftLimit F f (plus_whole t k) (multiples F (power F f k) T)
    left_limit-plus_whole {T} above I = record {
      start = I.start;
      root = λ e h.
          let q : ℕ = F.characteristic ^ e in
          let some : 0 < ceil_times t q = ceiling_positive t q above (power_positive L e) in
          let whole : k * q + (ceil_times t q - 1) ≡ ceil_times (plus_whole t k) q - 1 = omega (arith, ceiling_plus q) in
          subst (λ m. IsPowerRoot F f e m (multiples F (power F f k) T)) whole (IsRoot-power L e A k (ceil_times t q - 1) (I.root e h));
    }
