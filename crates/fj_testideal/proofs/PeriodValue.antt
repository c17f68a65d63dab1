-- The numbers ceil(t*p^e) - 1 at whole numbers of periods, for the digits of a fraction and for the value of a period.
use Rattle.std.proofs.Common.{◌≡◌, ℕ, zero, suc, ◌+◌, ◌-◌, ◌*◌, ◌^◌, ◌<◌, ◌≤◌, List, [], ◌∷◌, length, All, sym, ap, ◌∙◌, subst, arith, eq-zero-or-pos, ⊎_elim}
use Rattle.std.proofs.Math.Nat.{pow-zero, pow-suc, mul-le-mul_right, lt_of_mul-lt-mul_right, le_of_mul-le-mul_right}
use Rattle.fj_theory.specs.Fraction.{Fraction, IsInUnitInterval, ceil_times}
use Rattle.fj_theory.specs.Digits.{ceiling_less_one, digits, value_of, repeated_value, Expansion, IsExpansion}
use Rattle.fj_theory.proofs.Digits.{product_positive, IsTruncation-unique, ceiling_less_one-IsTruncation, value_of-digits}
use Rattle.fj_theory.proofs.Period.{repeated_last, ceiling_less_one-periods}
use Rattle.fj_testideal.proofs.Chain.{power_of_power, value_of_below}

-- What the digits before the period and k periods write is ceil(t*p^(c+kb)) - 1.
pub number_from_expansion : (p : ℕ) (t : Fraction) (d : Expansion) → 0 < p → IsInUnitInterval t → IsExpansion p t d → (k : ℕ)
    → ceil_times t (p ^ (length d.pre + k * length d.period)) - 1 ≡ value_of p d.pre * p ^ (k * length d.period) + repeated_value (p ^ length d.period) (value_of p d.period) k
unfolding ceiling_less_one
number_from_expansion p t d positive unit H k =
    let c = length d.pre in
    let b = length d.period in
    let first : value_of p d.pre ≡ ceiling_less_one p t c = ap (value_of p) H.pre ∙ value_of-digits p t c positive unit in
    let again : repeated_value (p ^ b) (value_of p (digits p t c b)) k ≡ repeated_value (p ^ b) (value_of p d.period) k = ap (λ ds. repeated_value (p ^ b) (value_of p ds) k) (sym H.period) in
    let product : value_of p d.pre * p ^ (k * b) ≡ ceiling_less_one p t c * p ^ (k * b) = ap (λ n. n * p ^ (k * b)) first in
    omega (arith, ceiling_less_one-periods p t c b k positive unit.above_zero H.lengths)

-- a(1 + q + .. + q^(k-1)) (q - 1) + a = a q^k, with r in place of q - 1.
geometric : (r a k : ℕ) → repeated_value (r + 1) a k * r + a ≡ a * (r + 1) ^ k
unfolding repeated_value
geometric r a zero = let one : a * (r + 1) ^ 0 ≡ a * 1 = ap (λ n. a * n) (pow-zero (r + 1)) in omega arith
geometric r a (suc k) =
    let before : (r + 1) * (repeated_value (r + 1) a k * r + a) ≡ (r + 1) * (a * (r + 1) ^ k) = ap (λ n. (r + 1) * n) (geometric r a k) in
    let next : repeated_value (r + 1) a (suc k) * r ≡ ((r + 1) * repeated_value (r + 1) a k + a) * r = ap (λ n. n * r) (repeated_last (r + 1) a k) in
    let power : a * (r + 1) ^ suc k ≡ a * ((r + 1) ^ k * (r + 1)) = ap (λ n. a * n) (pow-suc (r + 1) k) in
    next_to r a (repeated_value (r + 1) a k) ((r + 1) ^ k) (repeated_value (r + 1) a (suc k) * r) (a * (r + 1) ^ suc k) before next power
  where
    next_to : (r a n q x y : ℕ) → (r + 1) * (n * r + a) ≡ (r + 1) * (a * q) → x ≡ ((r + 1) * n + a) * r → y ≡ a * (q * (r + 1)) → x + a ≡ y
    next_to r a n q x y before next power = omega arith

module _ (p : ℕ) (period : List ℕ) (u : Fraction) (large : 2 ≤ p) (below : All (λ d. d < p) period) (some : 0 < value_of p period)
    (value : u.numerator * (p ^ length period - 1) ≡ value_of p period * u.denominator) where
  pub period_length : 0 < length period
  unfolding value_of
  period_length = go period some
    where
      go : (ds : List ℕ) → 0 < value_of p ds → 0 < length ds
      go [] h = absurd (omega arith)
      go (d ∷ ds) h = omega arith

  product_above : 0 < value_of p period * u.denominator
  product_above = product_positive (value_of p period) u.denominator some u.positive

  pub period_above : 0 < u.numerator
  period_above = ⊎_elim
      (λ none. let product : u.numerator * (p ^ length period - 1) ≡ 0 * (p ^ length period - 1) = ap (λ n. n * (p ^ length period - 1)) none in absurd (omega (arith, product_above)))
      (λ h. h) (eq-zero-or-pos u.numerator)

  -- What k periods write is ceil(u*p^(kb)) - 1.
  period_number : (k : ℕ) → ceiling_less_one p u (k * length period) ≡ repeated_value (p ^ length period) (value_of p period) k
  period_number k =
      let b = length period in
      let a = value_of p period in
      let r = p ^ length period - 1 in
      let q = p ^ (k * length period) in
      let n = repeated_value (p ^ length period) (value_of p period) k in
      let fits : value_of p period < p ^ length period = value_of_below p period below in
      let base : p ^ length period - 1 + 1 ≡ p ^ length period = omega arith in
      let sum : n * r + a ≡ a * q =
      subst (λ x. repeated_value x (value_of p period) k * r + a ≡ a * x ^ k) base (geometric r a k) ∙ ap (λ x. a * x) (power_of_power p b k) in
      let scaled : (n * r + a) * u.denominator ≡ a * q * u.denominator = ap (λ x. x * u.denominator) sum in
      let product : u.numerator * r * q ≡ a * u.denominator * q = ap (λ x. x * q) value in
      let room : a * u.denominator ≤ r * u.denominator = mul-le-mul_right u.denominator (omega arith) in
      let less : n * u.denominator * r < u.numerator * q * r = omega (arith, product_above) in
      let at_most : u.numerator * q * r ≤ (n + 1) * u.denominator * r = omega arith in
      let positive_r : 0 < p ^ length period - 1 = omega arith in
      IsTruncation-unique p u (k * b) _ _ (ceiling_less_one-IsTruncation p u (k * b) (omega arith) period_above) (record {
        below = lt_of_mul-lt-mul_right r less;
        next = le_of_mul-le-mul_right at_most positive_r;
      })

  pub number_from_period : (k : ℕ) → ceil_times u (p ^ (length {A = ℕ} [] + k * length period)) - 1 ≡ value_of p [] * p ^ (k * length period) + repeated_value (p ^ length period) (value_of p period) k
  unfolding ceiling_less_one value_of
  number_from_period k =
      let place : k * length period ≡ length {A = ℕ} [] + k * length period = omega arith in
      subst (λ e. ceil_times u (p ^ e) - 1 ≡ value_of p [] * p ^ (k * length period) + repeated_value (p ^ length period) (value_of p period) k) place (omega (arith, period_number k))
