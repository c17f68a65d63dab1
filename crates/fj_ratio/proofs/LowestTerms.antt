-- Division by the greatest common divisor, and the one form in lowest terms.
use Rattle.std.proofs.Common.{◌≡◌, ℕ, ◌*◌, ◌/◌, ◌^◌, ◌<◌, sym, ap, subst, arith, inl, inr}
use Rattle.std.specs.Int.{IsGcd}
use Rattle.std.proofs.lemmas.Bool.{cases_lt}
use Rattle.std.proofs.Math.Nat.{pos_of_dvd_of_pos, mul-div_cancel', eq_of_mul-eq-mul_right}
use Rattle.fj_theory.specs.Fraction.{Fraction}
use Rattle.fj_theory.proofs.Divisibility.{IsGcd-divided, lowest_unique}
use Rattle.fj_ratio.specs.Lowest.{IsLowestForm, IsTooWide}

pub gcd_positive : (num den g : ℕ) → 0 < den → IsGcd num den g → 0 < g
gcd_positive num den g positive gcd = pos_of_dvd_of_pos gcd.1 positive

-- Both numbers divided by their greatest common divisor.
pub record Divided (num den g : ℕ) : Type 0 where
  pub positive : 0 < den / g
  pub lowest : IsGcd (num / g) (den / g) 1
  pub value : num / g * den ≡ num * (den / g)

pub divided : (num den g : ℕ) → 0 < den → IsGcd num den g → Divided num den g
divided num den g positive gcd =
    let first : g * (num / g) ≡ num = mul-div_cancel' g gcd.0 in
    let second : g * (den / g) ≡ den = mul-div_cancel' g gcd.1 in
    record {
      positive = elim (cases_lt 0 (den / g)) [ inl some ↦ some | inr none ↦ let nothing : den / g ≡ 0 = omega arith in absurd (omega (arith, second, ap (λ n. g * n) nothing)) ];
      lowest = IsGcd-divided g (num / g) (den / g) (gcd_positive num den g positive gcd) (subst (λ n. IsGcd n (g * (den / g)) g) (sym first) (subst (λ n. IsGcd num n g) (sym second) gcd));
      value = omega (arith, ap (λ n. num / g * n) second, ap (λ n. n * (den / g)) first);
    }

-- Two forms of one quotient in lowest terms are equal.
pub same_lowest_form : (num den : ℕ) (s t : Fraction) → 0 < den → IsLowestForm num den s → IsLowestForm num den t
    → (s.numerator ≡ t.numerator) × (s.denominator ≡ t.denominator)
same_lowest_form num den s t positive first second =
    lowest_unique s.numerator s.denominator t.numerator t.denominator s.positive first.lowest second.lowest
    (eq_of_mul-eq-mul_right den positive (s.numerator * t.denominator) (t.numerator * s.denominator)
    (omega (arith, ap (λ n. n * t.denominator) first.value, ap (λ n. n * s.denominator) second.value)))

-- A quotient whose form in lowest terms is narrow isn't too wide.
pub not_too_wide : (num den : ℕ) (t : Fraction) → IsLowestForm num den t → t.numerator < 2 ^ 32 → t.denominator < 2 ^ 16 → IsTooWide num den → ⊥
not_too_wide num den t form narrow short wide =
    let same = same_lowest_form num den wide.form t wide.divides wide.lowest form in
    elim wide.wide [ inl more ↦ omega (arith, same.1) | inr more ↦ omega (arith, same.0) ]
