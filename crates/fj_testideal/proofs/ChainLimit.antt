-- The limits of chains of roots are test ideals and left limits.
use Rattle.std.proofs.Common.{◌≡◌, ℕ, suc, ◌+◌, ◌-◌, ◌*◌, ◌^◌, ◌<◌, ◌≤◌, List, [], ◌∷◌, length, All, sym, subst, arith}
use Rattle.std.proofs.Math.Nat.{mul-le-mul_left}
use Rattle.fj_coeff.specs.Field.{Field, IsField}
use Rattle.fj_theory.specs.Exponents.{origin}
use Rattle.fj_theory.specs.Polynomial.{Polynomial, IsPolynomial, term}
use Rattle.fj_theory.specs.Ideal.{ArePolynomials, Inside}
use Rattle.fj_theory.specs.Fraction.{Fraction, IsInUnitInterval, ceil_times}
use Rattle.fj_theory.specs.Root.{IsRoot}
use Rattle.fj_theory.specs.Digits.{value_of, repeated_value, Expansion, IsExpansion}
use Rattle.fj_theory.proofs.Period.{repeated_last}
use Rattle.fj_theory.proofs.Field.{characteristic_large}
use Rattle.fj_theory.proofs.Frobenius.{power_positive}
use Rattle.fj_theory.proofs.IdealBridge.{ArePolynomials-single, IsPolynomial-one}
use Rattle.fj_theory.proofs.Ideal.{SameIdeal-refl}
use Rattle.fj_theory.proofs.RootParts.{IsRoot-digit}
use Rattle.fj_testideal.specs.TestIdeal.{IsTestIdeal, IsLeftLimit}
use Rattle.fj_testideal.specs.Chain.{FollowsDigits, IsChain, IsLimit}
use Rattle.fj_testideal.proofs.Ceiling.{ceiling_positive}
use Rattle.fj_testideal.proofs.PowerRoot.{IsPowerRoot, power_root-rises_across, power_root-falls_across}
use Rattle.fj_testideal.proofs.PeriodValue.{number_from_expansion, period_length, period_above, number_from_period}
use Rattle.fj_testideal.proofs.TestIdeal.{ceiling_root-between, truncation_root-between}
use Rattle.fj_testideal.proofs.Chain.{IsMultipleRoot, FollowsDigits-root, value_of_below, IsAfter-start, IsAfter-next, IsAfter-limit, multiples-self, multiples-unit}

module _ {F : Field} (L : IsField F) {f : Polynomial} (A : IsPolynomial F f) where
  -- Roots of f^m (f) and of f^m (1), as roots of powers.
  from_self : (e m : ℕ) {N : List Polynomial} → IsMultipleRoot F f (f ∷ []) e m N → IsPowerRoot F f e (m + 1) N
  from_self e m {N} R = subst (λ M. IsRoot F (F.characteristic ^ e) M N) (multiples-self L A m) R

  from_unit : (e m : ℕ) {N : List Polynomial} → IsMultipleRoot F f (term 1 origin ∷ []) e m N → IsPowerRoot F f e m N
  from_unit e m {N} R = subst (λ M. IsRoot F (F.characteristic ^ e) M N) (multiples-unit L A m) R

  own : ArePolynomials F (f ∷ [])
  own = ArePolynomials-single A

  unit : ArePolynomials F (term 1 origin ∷ [])
  unit = ArePolynomials-single (IsPolynomial-one L)

  module _ (period : List ℕ) (lists : List (List Polynomial)) {last : List Polynomial} where
    -- Where the chains from (f) and from (1) are.
    pub chain_root_from_f : IsChain F f period (f ∷ []) lists last → IsPowerRoot F f (length lists * length period) (repeated_value (F.characteristic ^ length period) (value_of F.characteristic period) (length lists) + 1) last
    chain_root_from_f chain = from_self (length lists * length period) _ (IsAfter-start L A period own lists chain)

    pub chain_root_from_one : IsChain F f period (term 1 origin ∷ []) lists last → IsPowerRoot F f (length lists * length period) (repeated_value (F.characteristic ^ length period) (value_of F.characteristic period) (length lists)) last
    chain_root_from_one chain = from_unit (length lists * length period) _ (IsAfter-start L A period unit lists chain)

    -- The chain from (f) rises, and the chain from (1) falls.
    pub chain_rises : {next : List Polynomial} → All (λ d. d < F.characteristic) period → IsChain F f period (f ∷ []) lists last → FollowsDigits F f period last next → Inside F last next
    chain_rises {next} below chain follows =
        let p = F.characteristic in
        let b = length period in
        let a = value_of p period in
        let k = length lists in
        let R = IsAfter-start L A period own lists chain in
        let S = IsAfter-next L A period own k R follows in
        let place : suc k * b ≡ k * b + b = omega arith in
        let T = subst (λ e. IsPowerRoot F f e (repeated_value (p ^ b) a (suc k) + 1) next) place (from_self (suc k * b) _ S) in
        power_root-rises_across L A (k * b) b (repeated_value (p ^ b) a k + 1) _ (from_self (k * b) _ R) T
        (omega (arith, repeated_last (p ^ b) a k, value_of_below p period below))

    pub chain_falls : {next : List Polynomial} → IsChain F f period (term 1 origin ∷ []) lists last → FollowsDigits F f period last next → Inside F next last
    chain_falls {next} chain follows =
        let p = F.characteristic in
        let b = length period in
        let a = value_of p period in
        let k = length lists in
        let R = IsAfter-start L A period unit lists chain in
        let S = IsAfter-next L A period unit k R follows in
        let place : suc k * b ≡ k * b + b = omega arith in
        let T = subst (λ e. IsPowerRoot F f e (repeated_value (p ^ b) a (suc k)) next) place (from_unit (suc k * b) _ S) in
        power_root-falls_across L A (k * b) b (repeated_value (p ^ b) a k) _ (from_unit (k * b) _ R) T (omega (arith, repeated_last (p ^ b) a k))

  -- The digits of t, as far as the chains need them: pre is c digits that write N, and ceil(t*p^(c+kb)) - 1 is N, written
  -- before k periods.
  module _ (t : Fraction) (above : 0 < t.numerator) (pre period : List ℕ) (some : 0 < length period)
      (number : (k : ℕ) → ceil_times t (F.characteristic ^ (length pre + k * length period)) - 1
      ≡ value_of F.characteristic pre * F.characteristic ^ (k * length period) + repeated_value (F.characteristic ^ length period) (value_of F.characteristic period) k) where
    place : ℕ → ℕ
    place k = length pre + k * length period

    -- From the limit, the root for the digits before the period is the root at c + k b for every large k.
    reached : {S J T : List Polynomial} (P : ArePolynomials F S) (limit : IsLimit F f period S J) → IsMultipleRoot F f J (length pre) (value_of F.characteristic pre) T → (i : ℕ)
        → IsMultipleRoot F f S (place (i + length limit.lists)) (ceil_times t (F.characteristic ^ place (i + length limit.lists)) - 1) T
    unfolding place
    reached {S} {T = T} P limit root i =
        let k = i + length limit.lists in
        let R = IsAfter-limit L A period P limit i in
        subst (λ m. IsMultipleRoot F f S (length pre + k * length period) m T) (sym (number k))
        (IsRoot-digit L (length pre) (k * length period) A _ _ P R root)

    -- The place after e more periods is at least e.
    later : (e n : ℕ) → e ≤ place (e + n)
    unfolding place
    later e n = let product : (e + n) * 1 ≤ (e + n) * length period = mul-le-mul_left (e + n) some in omega arith

    pub test_ideal-reached : {J T : List Polynomial} → IsLimit F f period (f ∷ []) J → IsMultipleRoot F f J (length pre) (value_of F.characteristic pre) T → IsTestIdeal F f t T
    test_ideal-reached {T = T} limit before =
        let p = F.characteristic in
        let n = length limit.lists in
        let root : (i : ℕ) → IsPowerRoot F f (place (i + n)) (ceil_times t (p ^ place (i + n))) T = λ i.
        let positive : 0 < ceil_times t (p ^ place (i + n)) = ceiling_positive t (p ^ place (i + n)) above (power_positive L (place (i + n))) in
        let whole : ceil_times t (p ^ place (i + n)) - 1 + 1 ≡ ceil_times t (p ^ place (i + n)) = omega arith in
        subst (λ m. IsPowerRoot F f (place (i + n)) m T) whole (from_self (place (i + n)) _ (reached own limit before i)) in
        record { start = place (0 + n); root = λ e h. ceiling_root-between L A t (place (0 + n)) e (place (e + n)) h (later e n) (root 0) (root e) }

    pub left_limit-reached : {J T : List Polynomial} → IsLimit F f period (term 1 origin ∷ []) J → IsMultipleRoot F f J (length pre) (value_of F.characteristic pre) T → IsLeftLimit F f t T
    left_limit-reached {T = T} limit before =
        let n = length limit.lists in
        let root : (i : ℕ) → IsPowerRoot F f (place (i + n)) (ceil_times t (F.characteristic ^ place (i + n)) - 1) T =
        λ i. from_unit (place (i + n)) _ (reached unit limit before i) in
        record { start = place (0 + n); root = λ e h. truncation_root-between L A t (place (0 + n)) e (place (e + n)) h (later e n) above (root 0) (root e) }

  -- The lists of a chain are polynomials.
  ArePolynomials-IsLimit : (period : List ℕ) {S J : List Polynomial} → ArePolynomials F S → IsLimit F f period S J → ArePolynomials F J
  ArePolynomials-IsLimit period P limit = (IsAfter-limit L A period P limit 0).polynomials

  module _ (t : Fraction) (interval : IsInUnitInterval t) (d : Expansion) (expansion : IsExpansion F.characteristic t d) {J T : List Polynomial} where
    -- The test ideal and the left limit by the digits of a fraction.
    pub test_ideal-from_root : IsLimit F f d.period (f ∷ []) J → IsMultipleRoot F f J (length d.pre) (value_of F.characteristic d.pre) T → IsTestIdeal F f t T
    test_ideal-from_root limit before =
        test_ideal-reached t interval.above_zero d.pre d.period expansion.lengths.order.positive (number_from_expansion F.characteristic t d (omega (arith, characteristic_large L)) interval expansion) limit before

    pub left_limit-from_root : IsLimit F f d.period (term 1 origin ∷ []) J → IsMultipleRoot F f J (length d.pre) (value_of F.characteristic d.pre) T → IsLeftLimit F f t T
    left_limit-from_root limit before =
        left_limit-reached t interval.above_zero d.pre d.period expansion.lengths.order.positive (number_from_expansion F.characteristic t d (omega (arith, characteristic_large L)) interval expansion) limit before

    pub test_ideal-from_digits : IsLimit F f d.period (f ∷ []) J → FollowsDigits F f d.pre J T → IsTestIdeal F f t T
    test_ideal-from_digits limit follows = test_ideal-from_root limit (FollowsDigits-root L A d.pre (ArePolynomials-IsLimit d.period own limit) follows)

    pub left_limit-from_digits : IsLimit F f d.period (term 1 origin ∷ []) J → FollowsDigits F f d.pre J T → IsLeftLimit F f t T
    left_limit-from_digits limit follows = left_limit-from_root limit (FollowsDigits-root L A d.pre (ArePolynomials-IsLimit d.period unit limit) follows)

  module _ (period : List ℕ) (below : All (λ d. d < F.characteristic) period) (some : 0 < value_of F.characteristic period)
      (u : Fraction) (value : u.numerator * (F.characteristic ^ length period - 1) ≡ value_of F.characteristic period * u.denominator) {J : List Polynomial} where
    -- The test ideal and the left limit at the value of a period.
    pub test_ideal-from_period : IsLimit F f period (f ∷ []) J → IsTestIdeal F f u J
    test_ideal-from_period limit =
        let p = F.characteristic in
        let large = characteristic_large L in
        test_ideal-reached u (period_above p period u large below some value) [] period (period_length p period u large below some value) (number_from_period p period u large below some value) limit
        (FollowsDigits-root L A [] (ArePolynomials-IsLimit period own limit) (SameIdeal-refl L (ArePolynomials-IsLimit period own limit)))

    pub left_limit-from_period : IsLimit F f period (term 1 origin ∷ []) J → IsLeftLimit F f u J
    left_limit-from_period limit =
        let p = F.characteristic in
        let large = characteristic_large L in
        left_limit-reached u (period_above p period u large below some value) [] period (period_length p period u large below some value) (number_from_period p period u large below some value) limit
        (FollowsDigits-root L A [] (ArePolynomials-IsLimit period unit limit) (SameIdeal-refl L (ArePolynomials-IsLimit period unit limit)))
