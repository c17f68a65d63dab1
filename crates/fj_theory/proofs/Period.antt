-- The period of a fraction of (0, 1]: what its digits write, and ceil(t*p^e) at whole numbers of periods.
use Rattle.std.proofs.Common.{◌≡◌, ℕ, zero, suc, ◌+◌, ◌-◌, ◌*◌, ◌/◌, ◌%◌, ◌^◌, ◌<◌, ◌≤◌, sym, ap, ◌∙◌, subst, arith, add-one, inl, inr}
use Rattle.std.proofs.lemmas.Bool.{cases_lt}
use Rattle.std.proofs.lemmas.Nat.{pow-add}
use Rattle.std.proofs.Math.Nat.{add_left_cancel, pow-zero, pow-suc, one-le-pow, lt_of_mul-lt-mul_right, lt_of_mul-lt-mul_left, le_of_mul-le-mul_left, mul-le-mul_left, mul-le-mul_right, mul-div_cancel'}
use Rattle.fj_theory.specs.Fraction.{Fraction, IsInUnitInterval, ceil_times}
use Rattle.fj_theory.specs.Digits.{ceiling_less_one, digit, digits, value_of, IsPeriod, repeated_value}
use Rattle.fj_theory.proofs.Divisibility.{dvd_of_same_remainder}
use Rattle.fj_theory.proofs.Digits.{digit-IsDigit, ceiling_less_one-zero, ceiling_less_one-IsTruncation, IsTruncation-unique, ceiling_less_one-more, ceil_times-ceiling_less_one, product_positive}

-- What the period says: with n = p^c*rest, the rest u = p^c*t - N_c lies in (0, 1] and is remainder/rest, and the number
-- a = u*(p^b - 1) is whole, positive and below p^b, and is what the digits of the period write.
pub record IsPeriodValue (p : ℕ) (t : Fraction) (c b rest : ℕ) : Type 0 where
  pub remainder : ℕ
  pub whole : t.numerator ≡ ceiling_less_one p t c * rest + remainder
  pub above_zero : 0 < remainder
  pub at_most_one : remainder ≤ rest
  pub multiple : value_of p (digits p t c b) * rest + remainder ≡ remainder * p ^ b
  pub value_positive : 0 < value_of p (digits p t c b)
  pub value_below : value_of p (digits p t c b) < p ^ b

-- p^e*t = N + R/n with R in (0, n].
pub record IsRemainder (p : ℕ) (t : Fraction) (e N R : ℕ) : Type 0 where
  pub whole : t.numerator * p ^ e ≡ t.denominator * N + R
  pub above_zero : 0 < R
  pub at_most_one : R ≤ t.denominator

ceiling_less_one-from_remainder : (p : ℕ) (t : Fraction) (e N R : ℕ) → 0 < p → 0 < t.numerator → IsRemainder p t e N R → ceiling_less_one p t e ≡ N
ceiling_less_one-from_remainder p t e N R positive above h =
    IsTruncation-unique p t e (ceiling_less_one p t e) N (ceiling_less_one-IsTruncation p t e positive above) (record {
      below = omega (arith, h.whole, h.above_zero);
      next = omega (arith, h.whole, h.at_most_one);
    })

-- The digit at e is the quotient of p*R, and what it leaves is the next remainder.
pub record Continues (p : ℕ) (t : Fraction) (e d R : ℕ) : Type 0 where
  pub digit_is : digit p t e ≡ d
  pub remainder : IsRemainder p t (e + 1) (ceiling_less_one p t (e + 1)) R

pub remainder-next : (p : ℕ) (t : Fraction) (e R d S : ℕ) → 0 < p → 0 < t.numerator → IsRemainder p t e (ceiling_less_one p t e) R
    → p * R ≡ t.denominator * d + S → 0 < S → S ≤ t.denominator → Continues p t e d S
remainder-next p t e R d S positive above h step some at_most =
    let power : t.numerator * p ^ (e + 1) ≡ p * (t.numerator * p ^ e) = rw add-one (ap (λ n. t.numerator * n) (pow-suc p e) ∙ omega arith) in
    let scaled : p * (t.numerator * p ^ e) ≡ p * (t.denominator * ceiling_less_one p t e + R) = ap (λ n. p * n) h.whole in
    let next : IsRemainder p t (e + 1) (p * ceiling_less_one p t e + d) S = record { whole = omega arith; above_zero = some; at_most_one = at_most } in
    let number : ceiling_less_one p t (e + 1) ≡ p * ceiling_less_one p t e + d = ceiling_less_one-from_remainder p t (e + 1) (p * ceiling_less_one p t e + d) S positive above next in
    record {
      digit_is = omega (arith, (digit-IsDigit p t e positive above).recurrence);
      remainder = subst (λ N. IsRemainder p t (e + 1) N S) (sym number) next;
    }

-- A fraction of (0, 1] is its own remainder.
pub remainder-first : (p : ℕ) (t : Fraction) → IsInUnitInterval t → IsRemainder p t 0 (ceiling_less_one p t 0) t.numerator
remainder-first p t unit =
    rw (ceiling_less_one-zero p t unit.at_most_one) (record { whole = rw (pow-zero p) (omega arith); above_zero = unit.above_zero; at_most_one = unit.at_most_one })

-- Where R*(p^b - 1)/n is a whole number, the next b digits write it and leave R.
IsRemainder-more : (p : ℕ) (t : Fraction) (e N R a b : ℕ) → IsRemainder p t e N R → t.denominator * a + R ≡ R * p ^ b
    → IsRemainder p t (e + b) (p ^ b * N + a) R
IsRemainder-more p t e N R a b h multiple =
    let power : t.numerator * p ^ (e + b) ≡ t.numerator * p ^ e * p ^ b = ap (λ n. t.numerator * n) (pow-add p e b) ∙ omega arith in
    let product : t.numerator * p ^ e * p ^ b ≡ (t.denominator * N + R) * p ^ b = ap (λ n. n * p ^ b) h.whole in
    record { whole = omega arith; above_zero = h.above_zero; at_most_one = h.at_most_one }

-- the facts on the denominator that the period gives
record Periodic (p : ℕ) (t : Fraction) (c b rest : ℕ) : Type 0 where
  remainder : ℕ
  a : ℕ
  whole : t.numerator ≡ ceiling_less_one p t c * rest + remainder
  above_zero : 0 < remainder
  at_most_one : remainder ≤ rest
  multiple : a * rest + remainder ≡ remainder * p ^ b
  start : IsRemainder p t c (ceiling_less_one p t c) (p ^ c * remainder)
  again : t.denominator * a + p ^ c * remainder ≡ p ^ c * remainder * p ^ b

distributed : (r n q : ℕ) → r * (n * q + 1) ≡ r * q * n + r
distributed r n q = omega arith

starts : (p : ℕ) (t : Fraction) (c rest N r : ℕ) → t.denominator ≡ p ^ c * rest → t.numerator ≡ N * rest + r → 0 < p ^ c → 0 < r → r ≤ rest
    → IsRemainder p t c N (p ^ c * r)
starts p t c rest N r split whole some above at_most =
    let scaled : t.numerator * p ^ c ≡ (N * rest + r) * p ^ c = ap (λ n. n * p ^ c) whole in
    let parts : t.denominator * N ≡ p ^ c * rest * N = ap (λ n. n * N) split in
    record {
      whole = omega arith;
      above_zero = product_positive (p ^ c) r some above;
      at_most_one = omega (arith, mul-le-mul_left (p ^ c) at_most);
    }

again : (p c rest n a r b : ℕ) → n ≡ p ^ c * rest → a * rest + r ≡ r * p ^ b → n * a + p ^ c * r ≡ p ^ c * r * p ^ b
again p c rest n a r b split multiple =
    let scaled : p ^ c * (a * rest + r) ≡ p ^ c * (r * p ^ b) = ap (λ m. p ^ c * m) multiple in
    let parts : n * a ≡ p ^ c * rest * a = ap (λ m. m * a) split in
    omega arith

periodic : (p : ℕ) (t : Fraction) (c b rest : ℕ) → 0 < p → 0 < t.numerator → t.denominator ≡ p ^ c * rest → p ^ b % rest ≡ 1 % rest
    → Periodic p t c b rest
periodic p t c b rest positive above split one =
    let N = ceiling_less_one p t c in
    let some : 0 < p ^ c = one-le-pow c p positive in
    let now = ceiling_less_one-IsTruncation p t c positive above in
    let denominator : ceiling_less_one p t c * t.denominator ≡ p ^ c * (ceiling_less_one p t c * rest) = ap (λ n. ceiling_less_one p t c * n) split ∙ omega arith in
    let denominator_next : (ceiling_less_one p t c + 1) * t.denominator ≡ p ^ c * ((ceiling_less_one p t c + 1) * rest) = ap (λ n. (ceiling_less_one p t c + 1) * n) split ∙ omega arith in
    let less : p ^ c * (ceiling_less_one p t c * rest) < p ^ c * t.numerator = omega (arith, now.below) in
    let more : p ^ c * t.numerator ≤ p ^ c * ((ceiling_less_one p t c + 1) * rest) = omega (arith, now.next) in
    let low : ceiling_less_one p t c * rest < t.numerator = lt_of_mul-lt-mul_left (p ^ c) less in
    let high : t.numerator ≤ (ceiling_less_one p t c + 1) * rest = le_of_mul-le-mul_left more some in
    let remainder = t.numerator - ceiling_less_one p t c * rest in
    let whole : t.numerator ≡ ceiling_less_one p t c * rest + (t.numerator - ceiling_less_one p t c * rest) = omega arith in
    let positive_power : 0 < p ^ b = one-le-pow b p positive in
    let power_whole : p ^ b - 1 + 1 ≡ p ^ b = omega arith in
    let quotient : rest * ((p ^ b - 1) / rest) ≡ p ^ b - 1 = mul-div_cancel' rest (dvd_of_same_remainder rest (p ^ b - 1) 1 (ap (λ n. n % rest) power_whole ∙ one)) in
    let power : p ^ b ≡ rest * ((p ^ b - 1) / rest) + 1 = omega arith in
    let multiple : (t.numerator - ceiling_less_one p t c * rest) * ((p ^ b - 1) / rest) * rest + (t.numerator - ceiling_less_one p t c * rest) ≡ (t.numerator - ceiling_less_one p t c * rest) * p ^ b =
    sym (ap (λ n. (t.numerator - ceiling_less_one p t c * rest) * n) power ∙ distributed (t.numerator - ceiling_less_one p t c * rest) rest ((p ^ b - 1) / rest)) in
    record {
      remainder = t.numerator - ceiling_less_one p t c * rest;
      a = (t.numerator - ceiling_less_one p t c * rest) * ((p ^ b - 1) / rest);
      whole = whole;
      above_zero = omega arith;
      at_most_one = omega arith;
      multiple = multiple;
      start = starts p t c rest (ceiling_less_one p t c) (t.numerator - ceiling_less_one p t c * rest) split whole some (omega arith) (omega arith);
      again = again p c rest t.denominator ((t.numerator - ceiling_less_one p t c * rest) * ((p ^ b - 1) / rest)) (t.numerator - ceiling_less_one p t c * rest) b split multiple;
    }

-- The digit may be written last in place of first.
pub repeated_last : (q a k : ℕ) → repeated_value q a (suc k) ≡ q * repeated_value q a k + a
unfolding repeated_value
repeated_last q a zero = rw (pow-zero q) (omega arith)
repeated_last q a (suc k) =
    let power : q ^ suc k * a ≡ q * (q ^ k * a) = ap (λ n. n * a) (pow-suc q k) ∙ omega arith in
    omega (arith, repeated_last q a k)

-- one period after another
remainder_again : (p : ℕ) (t : Fraction) (c b rest k : ℕ) (h : Periodic p t c b rest)
    → IsRemainder p t (c + k * b) (p ^ (k * b) * ceiling_less_one p t c + repeated_value (p ^ b) h.a k) (p ^ c * h.remainder)
unfolding repeated_value
remainder_again p t c b rest zero h =
    let place : c + 0 * b ≡ c = omega arith in
    let number : p ^ (0 * b) * ceiling_less_one p t c + 0 ≡ ceiling_less_one p t c = let none : 0 * b ≡ 0 = omega arith in rw (none, pow-zero p) (omega arith) in
    subst (λ e. IsRemainder p t e (p ^ (0 * b) * ceiling_less_one p t c + 0) (p ^ c * h.remainder)) (sym place)
    (subst (λ N. IsRemainder p t c N (p ^ c * h.remainder)) (sym number) h.start)
remainder_again p t c b rest (suc k) h =
    let place : c + k * b + b ≡ c + suc k * b = omega arith in
    let exponent : b + k * b ≡ suc k * b = omega arith in
    let power : p ^ b * p ^ (k * b) ≡ p ^ (suc k * b) = sym (pow-add p b (k * b)) ∙ ap (λ e. p ^ e) exponent in
    let number : p ^ b * (p ^ (k * b) * ceiling_less_one p t c + repeated_value (p ^ b) h.a k) + h.a ≡ p ^ (suc k * b) * ceiling_less_one p t c + repeated_value (p ^ b) h.a (suc k) =
    omega (arith, repeated_last (p ^ b) h.a k, ap (λ n. n * ceiling_less_one p t c) power)
    in
    subst (λ e. IsRemainder p t e (p ^ (suc k * b) * ceiling_less_one p t c + repeated_value (p ^ b) h.a (suc k)) (p ^ c * h.remainder)) place
    (subst (λ N. IsRemainder p t (c + k * b + b) N (p ^ c * h.remainder)) number
    (IsRemainder-more p t (c + k * b) (p ^ (k * b) * ceiling_less_one p t c + repeated_value (p ^ b) h.a k) (p ^ c * h.remainder) h.a b (remainder_again p t c b rest k h) h.again))

value_of_period : (p : ℕ) (t : Fraction) (c b rest : ℕ) (h : Periodic p t c b rest) → 0 < p → 0 < t.numerator → value_of p (digits p t c b) ≡ h.a
value_of_period p t c b rest h positive above =
    let more = IsRemainder-more p t c (ceiling_less_one p t c) (p ^ c * h.remainder) h.a b h.start h.again in
    add_left_cancel (p ^ b * ceiling_less_one p t c)
    (sym (ceiling_less_one-more p t c b positive above) ∙ ceiling_less_one-from_remainder p t (c + b) (p ^ b * ceiling_less_one p t c + h.a) (p ^ c * h.remainder) positive above more)

at_least_two : (p b : ℕ) → 1 < p → 0 < b → 1 < p ^ b
at_least_two p zero large positive = absurd (omega arith)
at_least_two p (suc b) large positive =
    let some : 1 ≤ p ^ b = one-le-pow b p (omega arith) in
    let product : p ^ b * 2 ≤ p ^ b * p = mul-le-mul_left (p ^ b) large in
    omega (arith, pow-suc p b)

-- What the period of a denominator says of a fraction.
pub period_value : (p : ℕ) (t : Fraction) (c b : ℕ) → 1 < p → 0 < t.numerator → (h : IsPeriod p t.denominator c b) → IsPeriodValue p t c b h.rest
period_value p t c b large above h =
    let parts = periodic p t c b h.rest (omega arith) above h.split h.order.one in
    let same : value_of p (digits p t c b) ≡ parts.a = value_of_period p t c b h.rest parts (omega arith) above in
    let multiple : parts.a * h.rest + parts.remainder ≡ parts.remainder * p ^ b = parts.multiple in
    let two : parts.remainder * 2 ≤ parts.remainder * p ^ b = mul-le-mul_left parts.remainder (at_least_two p b large h.order.positive) in
    let fits : parts.remainder * p ^ b ≤ h.rest * p ^ b = mul-le-mul_right (p ^ b) parts.at_most_one in
    let less : parts.a * h.rest < p ^ b * h.rest = omega (arith, parts.above_zero) in
    record {
      remainder = parts.remainder;
      whole = parts.whole;
      above_zero = parts.above_zero;
      at_most_one = parts.at_most_one;
      multiple = rw same multiple;
      value_positive = rw same (elim (cases_lt 0 parts.a) [ inl some ↦ some | inr none ↦ let product : parts.a * h.rest ≤ 0 * h.rest = mul-le-mul_right h.rest none in absurd (omega (arith, parts.above_zero)) ]);
      value_below = rw same (lt_of_mul-lt-mul_right h.rest less);
    }

-- N_(c+k*b) = p^(k*b)*N_c + a*(1 + p^b + .. + p^((k-1)*b)), with a the number that the digits of the period write.
pub ceiling_less_one-periods : (p : ℕ) (t : Fraction) (c b k : ℕ) → 0 < p → 0 < t.numerator → IsPeriod p t.denominator c b
    → ceiling_less_one p t (c + k * b) ≡ p ^ (k * b) * ceiling_less_one p t c + repeated_value (p ^ b) (value_of p (digits p t c b)) k
ceiling_less_one-periods p t c b k positive above h =
    let parts = periodic p t c b h.rest positive above h.split h.order.one in
    rw (value_of_period p t c b h.rest parts positive above)
    (ceiling_less_one-from_remainder p t (c + k * b) (p ^ (k * b) * ceiling_less_one p t c + repeated_value (p ^ b) parts.a k) (p ^ c * parts.remainder) positive above (remainder_again p t c b h.rest k parts))

-- ceil(t*p^(c+k*b)) by the digits.
pub ceil_times-periods : (p : ℕ) (t : Fraction) (c b k : ℕ) → 0 < p → 0 < t.numerator → IsPeriod p t.denominator c b
    → ceil_times t (p ^ (c + k * b)) ≡ p ^ (k * b) * ceiling_less_one p t c + repeated_value (p ^ b) (value_of p (digits p t c b)) k + 1
ceil_times-periods p t c b k positive above h =
    ceil_times-ceiling_less_one p t (c + k * b) positive above ∙ ap (λ n. n + 1) (ceiling_less_one-periods p t c b k positive above h)
