-- The numbers ceil(t*p^e) and ceil(t*p^e) - 1, as e grows and for fractions of different values.
use Rattle.std.proofs.Common.{◌≡◌, ℕ, zero, suc, ◌+◌, ◌-◌, ◌*◌, ◌^◌, ◌<◌, ◌≤◌, sym, ap, ◌∙◌, subst, arith, inl, inr}
use Rattle.std.specs.declared.cmp.Ordering.TheVariants.{Less}
use Rattle.std.proofs.lemmas.Bool.{cases_lt}
use Rattle.std.proofs.lemmas.Nat.{pow-add}
use Rattle.std.proofs.Math.Nat.{pow-suc, one-le-pow, mul-le-mul_left, mul-le-mul_right, mul-lt-mul_of_pos_right, le_of_mul-le-mul_right}
use Rattle.fj_theory.specs.Fraction.{Fraction, compare, ceil_times}
use Rattle.fj_theory.specs.Digits.{ceiling_less_one}
use Rattle.fj_theory.proofs.Fraction.{ceil_times-IsCeiling, ceil_times-mul, ceil_times-whole, compare-less, less_from_compare}
use Rattle.fj_theory.proofs.Digits.{product_positive, ceiling_less_one-IsTruncation, ceiling_less_one-more}
use Rattle.fj_testideal.specs.Jump.{IsBetween}

-- p^e is at least e.
pub power_large : (p e : ℕ) → 2 ≤ p → e ≤ p ^ e
power_large p zero large = omega arith
power_large p (suc e) large =
    let some : 1 ≤ p ^ e = one-le-pow e p (omega arith) in
    let product : p ^ e * 2 ≤ p ^ e * p = mul-le-mul_left (p ^ e) large in
    omega (arith, power_large p e large, pow-suc p e)

-- ceil(t*q) is positive where t and q are.
pub ceiling_positive : (t : Fraction) (q : ℕ) → 0 < t.numerator → 0 < q → 0 < ceil_times t q
ceiling_positive t q above positive = elim (cases_lt 0 (ceil_times t q)) [
  | inl some ↦ some
  | inr none ↦
      let product : ceil_times t q * t.denominator ≤ 0 * t.denominator = mul-le-mul_right t.denominator none in
      absurd (omega (arith, (ceil_times-IsCeiling t q).enough, product_positive t.numerator q above positive))
]

module _ (t : Fraction) (p e k : ℕ) where
  -- ceil(t*p^(e+k)) is at most p^k*ceil(t*p^e).
  pub ceiling_rises : ceil_times t (p ^ (e + k)) ≤ ceil_times t (p ^ e) * p ^ k
  ceiling_rises =
      let power : p ^ (e + k) ≡ p ^ k * p ^ e = pow-add p e k ∙ omega arith in
      subst (λ q. ceil_times t q ≤ ceil_times t (p ^ e) * p ^ k) (sym power) (omega (arith, ceil_times-mul t (p ^ k) (p ^ e)))

  -- ceil(t*p^(e+k)) - 1 is at least p^k*(ceil(t*p^e) - 1).
  pub truncation_rises : 0 < p → 0 < t.numerator → (ceil_times t (p ^ e) - 1) * p ^ k ≤ ceil_times t (p ^ (e + k)) - 1
  unfolding ceiling_less_one
  truncation_rises positive above = omega (arith, ceiling_less_one-more p t e k positive above)

-- For s below t, ceil(s*q) is at most ceil(t*q) - 1 once q is at least the product of the denominators.
pub ceiling_below : (s t : Fraction) (q : ℕ) → compare s t ≡ Less → s.denominator * t.denominator ≤ q → ceil_times s q ≤ ceil_times t q - 1
ceiling_below s t q less large =
    let enough : t.numerator * q ≤ ceil_times t q * t.denominator = (ceil_times-IsCeiling t q).enough in
    let scaled : t.numerator * q * s.denominator ≤ ceil_times t q * t.denominator * s.denominator = mul-le-mul_right s.denominator enough in
    let apart : (s.numerator * t.denominator + 1) * q ≤ (t.numerator * s.denominator) * q = mul-le-mul_right q (omega (arith, less_from_compare s t less)) in
    let room : s.numerator * q * t.denominator + s.denominator * t.denominator ≤ ceil_times t q * s.denominator * t.denominator = omega arith in
    let at_most : s.numerator * q + s.denominator ≤ ceil_times t q * s.denominator = le_of_mul-le-mul_right (omega arith) t.positive in
    let some : 1 ≤ ceil_times t q = elim (cases_lt 0 (ceil_times t q)) [
      | inl some ↦ some
      | inr none ↦ let product : ceil_times t q * s.denominator ≤ 0 * s.denominator = mul-le-mul_right s.denominator none in absurd (omega (arith, s.positive))
    ] in
    let whole : ceil_times t q ≡ ceil_times t q - 1 + 1 = omega arith in
    let product : ceil_times t q * s.denominator ≡ (ceil_times t q - 1 + 1) * s.denominator = ap (λ n. n * s.denominator) whole in
    (ceil_times-IsCeiling s q).least (ceil_times t q - 1) (omega arith)

-- For m/q in [s, t): ceil(s*q*k) is at most m*k, and that at most ceil(t*q*k) - 1.
module _ (s t : Fraction) (m q k : ℕ) (h : IsBetween s t m q) where
  pub between_low : ceil_times s (q * k) ≤ m * k
  between_low =
      let scaled : s.numerator * q * k ≤ m * s.denominator * k = mul-le-mul_right k h.from in
      (ceil_times-IsCeiling s (q * k)).least (m * k) (omega arith)

  pub between_high : 0 < k → m * k ≤ ceil_times t (q * k) - 1
  between_high positive = elim (cases_lt (m * k) (ceil_times t (q * k))) [
    | inl less ↦ omega arith
    | inr more ↦
        let enough = (ceil_times-IsCeiling t (q * k)).enough in
        let product : ceil_times t (q * k) * t.denominator ≤ m * k * t.denominator = mul-le-mul_right t.denominator more in
        let scaled : m * t.denominator * k < t.numerator * q * k = mul-lt-mul_of_pos_right h.below positive in
        absurd (omega arith)
  ]

-- The fraction (ceil(t*q) - 1)/q.
module _ (t : Fraction) (p e : ℕ) (positive : 0 < p) (above : 0 < t.numerator) where
  abbrev pub just_below : Fraction
  just_below = record { numerator = ceil_times t (p ^ e) - 1; denominator = p ^ e; positive = one-le-pow e p positive }

  pub just_below-less : compare just_below t ≡ Less
  unfolding ceiling_less_one
  just_below-less = compare-less just_below t (ceiling_less_one-IsTruncation p t e positive above).below

  pub ceil_times-just_below : (k : ℕ) → ceil_times just_below (p ^ (e + k)) ≡ (ceil_times t (p ^ e) - 1) * p ^ k
  ceil_times-just_below k =
      let power : p ^ (e + k) ≡ p ^ e * p ^ k = pow-add p e k in
      let product : (ceil_times t (p ^ e) - 1) * p ^ (e + k) ≡ (ceil_times t (p ^ e) - 1) * (p ^ e * p ^ k) = ap (λ q. (ceil_times t (p ^ e) - 1) * q) power in
      ceil_times-whole just_below (p ^ (e + k)) ((ceil_times t (p ^ e) - 1) * p ^ k) (omega arith)
