-- The digits written so far, and the remainder that they leave.
use Rattle.std.proofs.Common.{◌≡◌, ℕ, ◌+◌, ◌*◌, ◌^◌, ◌<◌, ◌≤◌, List, [], ◌∷◌, ◌++◌, length, Contains, refl, sym, ap, ◌∙◌, subst, add-one, arith}
use Rattle.std.specs.Int.{IsGcd}
use Rattle.fj_coeff.specs.Field.{primes}
use Rattle.fj_coeff.specs.PrimeFieldLaws.{prime_bounds}
use Rattle.fj_theory.specs.Fraction.{Fraction, IsInUnitInterval, IsLowest}
use Rattle.fj_theory.specs.Digits.{ceiling_less_one, digits, IsOrder, IsPeriod, IsExpansion}
use Rattle.fj_theory.proofs.Digits.{digits-push, digits_below, length-digits, Any-value_of}
use Rattle.fj_theory.proofs.Period.{IsRemainder, remainder-first, remainder-next, period_value}
use Rattle.fj_ratio.specs.ExpansionDigits.{AreDigits}

-- The items are digits of t from a place on, and the remainder is that of the place after them.
pub record IsExpanded (p : ℕ) (t : Fraction) (from count : ℕ) (items : List ℕ) (remainder : ℕ) : Type 0 where
  pub digits_are : items ≡ digits p t from count
  pub remainder_is : IsRemainder p t (from + count) (ceiling_less_one p t (from + count)) remainder

pub IsExpanded-first : (p : ℕ) (t : Fraction) → IsInUnitInterval t → IsExpanded p t 0 0 [] t.numerator
unfolding digits
IsExpanded-first p t unit =
    let place : 0 + 0 ≡ 0 = omega arith in
    record { digits_are = refl; remainder_is = rw place (remainder-first p t unit) }

-- What follows the first digits begins at their number.
pub IsExpanded-after : (p : ℕ) (t : Fraction) (count : ℕ) (items : List ℕ) (remainder : ℕ) → IsExpanded p t 0 count items remainder
    → IsExpanded p t count 0 [] remainder
unfolding digits
IsExpanded-after p t count items remainder h =
    let place : 0 + count ≡ count + 0 = omega arith in
    record { digits_are = refl; remainder_is = subst (λ e. IsRemainder p t e (ceiling_less_one p t e) remainder) place h.remainder_is }

pub IsExpanded-more : (p : ℕ) (t : Fraction) (from count : ℕ) (items : List ℕ) (remainder d next : ℕ) → 0 < p → 0 < t.numerator
    → IsExpanded p t from count items remainder → p * remainder ≡ t.denominator * d + next → 0 < next → next ≤ t.denominator
    → IsExpanded p t from (count + 1) (items ++ d ∷ []) next
IsExpanded-more p t from count items remainder d next positive above h step some at_most =
    let continues = remainder-next p t (from + count) remainder d next positive above h.remainder_is step some at_most in
    let place : from + count + 1 ≡ from + (count + 1) = omega arith in
    record {
      digits_are = ap (λ ds. ds ++ d ∷ []) h.digits_are ∙ sym (rw (add-one, digits-push p t from count) (ap (λ k. digits p t from count ++ k ∷ []) continues.digit_is));
      remainder_is = subst (λ e. IsRemainder p t e (ceiling_less_one p t e) next) place continues.remainder;
    }

-- The digits of the pre-period and of the period are the expansion.
pub IsExpansion-from_digits : (p : ℕ) (t : Fraction) (c b : ℕ) (pre period : List ℕ) → IsLowest t → IsPeriod p t.denominator c b
    → pre ≡ digits p t 0 c → period ≡ digits p t c b → IsExpansion p t (record { prime = p; pre = pre; period = period })
IsExpansion-from_digits p t c b pre period lowest lengths pre_is period_is =
    let pre_count : length pre ≡ c = ap length pre_is ∙ length-digits p t 0 c in
    let period_count : length period ≡ b = ap length period_is ∙ length-digits p t c b in
    record {
      prime = refl;
      lowest = lowest;
      lengths = rw (pre_count, period_count) lengths;
      pre = rw pre_count pre_is;
      period = rw (pre_count, period_count) period_is;
    }

pub AreDigits-from_digits : (p : ℕ) (t : Fraction) (c b : ℕ) (pre period : List ℕ) → Contains primes p → 0 < t.numerator → IsPeriod p t.denominator c b
    → pre ≡ digits p t 0 c → period ≡ digits p t c b → AreDigits (record { prime = p; pre = pre; period = period })
AreDigits-from_digits p t c b pre period prime above lengths pre_is period_is =
    let large : 1 < p = (prime_bounds p prime).0 in
    let period_count : length period ≡ b = ap length period_is ∙ length-digits p t c b in
    record {
      prime = prime;
      pre = rw pre_is (digits_below p t 0 c (omega arith) above);
      period = rw period_is (digits_below p t c b (omega arith) above);
      not_empty = rw period_count lengths.order.positive;
      nonzero = rw period_is (Any-value_of p (digits p t c b) (period_value p t c b large above lengths).value_positive);
    }

pub IsPeriod-from_split : (p n c b rest m : ℕ) → m ≡ n → m ≡ p ^ c * rest → IsGcd p rest 1 → IsOrder p rest b → IsPeriod p n c b
IsPeriod-from_split p n c b rest m same split prime_to order = record { rest = rest; split = sym same ∙ split; prime_to = prime_to; order = order }
