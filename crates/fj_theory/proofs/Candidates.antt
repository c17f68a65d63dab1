-- The candidates by rows: C_E consists of the fractions m/(p^E - p^c) of (0, 1], with c below E.
use Rattle.std.proofs.Common.{◌≡◌, ℕ, zero, suc, ◌+◌, ◌-◌, ◌*◌, ◌^◌, ◌<◌, ◌≤◌, sym, ap, ◌∙◌, arith, mul_comm}
use Rattle.std.proofs.lemmas.Nat.{pow-add}
use Rattle.std.proofs.Math.Nat.{pow-zero, pow-suc, le_of_mul-le-mul_right, one-le-pow, mul-le-mul_right, eq_of_mul-eq-mul_right}
use Rattle.fj_theory.specs.Fraction.{Fraction, SameValue, IsInUnitInterval}
use Rattle.fj_theory.specs.Candidates.{IsCandidate}
use Rattle.fj_theory.proofs.Digits.{product_positive}
use Rattle.fj_theory.proofs.Divisibility.{less_one}

-- t is m/d in (0, 1].
pub record IsMultiple (d : ℕ) (t : Fraction) : Type 0 where
  pub numerator : ℕ
  pub above_zero : 0 < numerator
  pub at_most_one : numerator ≤ d
  pub value : t.numerator * d ≡ numerator * t.denominator

row_denominator : (p c b E : ℕ) → 0 < p → c + b ≡ E → p ^ c * (p ^ b - 1) ≡ p ^ E - p ^ c
row_denominator p c b E positive e =
    let product : p ^ c * p ^ b ≡ p ^ E = sym (pow-add p c b) ∙ ap (λ n. p ^ n) e in
    omega (arith, less_one (p ^ c) (p ^ b) (one-le-pow b p positive))

-- A fraction of a row is a candidate.
pub IsCandidate-from_row : (p E c : ℕ) (t : Fraction) → 0 < p → c < E → IsMultiple (p ^ E - p ^ c) t → IsCandidate p E t
IsCandidate-from_row p E c t positive below h =
    let row : p ^ c * (p ^ (E - c) - 1) ≡ p ^ E - p ^ c = row_denominator p c (E - c) E positive (omega arith) in
    record {
      numerator = h.numerator;
      pre = c;
      period = E - c;
      period_positive = omega arith;
      short = omega arith;
      above_zero = h.above_zero;
      at_most_one = omega (arith, h.at_most_one);
      value = ap (λ n. t.numerator * n) row ∙ h.value;
    }

regroup : (x y z : ℕ) → x * y * z ≡ z * x * y
regroup x y z = omega arith

scaled_value : (n d m q k e : ℕ) → d * k ≡ e → n * d ≡ m * q → n * e ≡ m * k * q
scaled_value n d m q k e scaled value = omega (arith, ap (λ x. n * x) scaled, ap (λ x. x * k) value)

moved_value : (a b c d m k : ℕ) → a * d ≡ c * b → a * k ≡ m * b → c * k * b ≡ m * d * b
moved_value a b c d m k same value = omega (arith, ap (λ x. x * k) same, ap (λ x. x * d) value)

factor_positive : (a b : ℕ) → 0 < a * b → 0 < a
factor_positive zero b some = absurd (omega arith)
factor_positive (suc a) b some = omega arith

-- A candidate is a fraction of a row.
pub row_from_IsCandidate : (p E : ℕ) (t : Fraction) → 0 < p → IsCandidate p E t → (c : ℕ) × (c < E) × IsMultiple (p ^ E - p ^ c) t
row_from_IsCandidate p E t positive h =
    let exponent : E - h.period - h.pre + h.pre ≡ E - h.period = omega (arith, h.short) in
    let power : p ^ (E - h.period - h.pre) * p ^ h.pre ≡ p ^ (E - h.period) = sym (pow-add p (E - h.period - h.pre) h.pre) ∙ ap (λ n. p ^ n) exponent in
    let row : p ^ (E - h.period) * (p ^ h.period - 1) ≡ p ^ E - p ^ (E - h.period) = row_denominator p (E - h.period) h.period E positive (omega (arith, h.short)) in
    let scaled : p ^ h.pre * (p ^ h.period - 1) * p ^ (E - h.period - h.pre) ≡ p ^ E - p ^ (E - h.period) =
    regroup (p ^ h.pre) (p ^ h.period - 1) (p ^ (E - h.period - h.pre)) ∙ ap (λ n. n * (p ^ h.period - 1)) power ∙ row
    in
    let least : h.numerator * p ^ (E - h.period - h.pre) ≤ p ^ h.pre * (p ^ h.period - 1) * p ^ (E - h.period - h.pre) = mul-le-mul_right (p ^ (E - h.period - h.pre)) h.at_most_one in (
      E - h.period,
      omega (arith, h.short, h.period_positive),
      record {
        numerator = h.numerator * p ^ (E - h.period - h.pre);
        above_zero = product_positive h.numerator (p ^ (E - h.period - h.pre)) h.above_zero (one-le-pow (E - h.period - h.pre) p positive);
        at_most_one = omega (arith, scaled);
        value = scaled_value t.numerator (p ^ h.pre * (p ^ h.period - 1)) h.numerator t.denominator (p ^ (E - h.period - h.pre)) (p ^ E - p ^ (E - h.period)) scaled h.value;
      },
    )

-- Candidates are told by their value.
pub IsCandidate-SameValue : (p E : ℕ) (s t : Fraction) → SameValue s t → IsCandidate p E s → IsCandidate p E t
IsCandidate-SameValue p E s t same h = record {
  numerator = h.numerator;
  pre = h.pre;
  period = h.period;
  period_positive = h.period_positive;
  short = h.short;
  above_zero = h.above_zero;
  at_most_one = h.at_most_one;
  value = eq_of_mul-eq-mul_right s.denominator s.positive (t.numerator * (p ^ h.pre * (p ^ h.period - 1))) (h.numerator * t.denominator)
      (moved_value s.numerator s.denominator t.numerator t.denominator h.numerator (p ^ h.pre * (p ^ h.period - 1)) same h.value);
}

-- A candidate lies in (0, 1].
pub IsInUnitInterval-from_candidate : (p E : ℕ) (t : Fraction) → 0 < p → IsCandidate p E t → IsInUnitInterval t
IsInUnitInterval-from_candidate p E t positive h =
    let some : 0 < h.numerator * t.denominator = product_positive h.numerator t.denominator h.above_zero t.positive in
    let fits : h.numerator * t.denominator ≤ p ^ h.pre * (p ^ h.period - 1) * t.denominator = mul-le-mul_right t.denominator h.at_most_one in
    let product : t.numerator * (p ^ h.pre * (p ^ h.period - 1)) ≤ t.denominator * (p ^ h.pre * (p ^ h.period - 1)) =
    omega (arith, h.value, mul_comm t.denominator (p ^ h.pre * (p ^ h.period - 1)))
    in
    record {
      above_zero = factor_positive t.numerator (p ^ h.pre * (p ^ h.period - 1)) (omega (arith, h.value));
      at_most_one = le_of_mul-le-mul_right product (omega (arith, h.above_zero, h.at_most_one));
    }

-- 1 is a candidate.
pub IsCandidate-one : (p E : ℕ) (t : Fraction) → 1 < p → 1 ≤ E → t.numerator ≡ t.denominator → IsCandidate p E t
IsCandidate-one p E t large some one =
    let denominator : p ^ 0 * (p ^ 1 - 1) ≡ p - 1 = rw (pow-zero p, pow-suc p 0, pow-zero p) (omega arith) in
    record {
      numerator = p - 1;
      pre = 0;
      period = 1;
      period_positive = omega arith;
      short = omega arith;
      above_zero = omega arith;
      at_most_one = omega (arith, denominator);
      value = ap (λ n. t.numerator * n) denominator ∙ ap (λ n. n * (p - 1)) one ∙ mul_comm t.denominator (p - 1);
    }
