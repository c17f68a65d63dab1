-- A quotient of two numbers as a fraction in lowest terms, within the limits of a `Ratio`.
use Rattle.std.specs.Prelude.{◌≡◌, ℕ, ◌-◌, ◌*◌, ◌^◌, ◌<◌, ◌⊎◌}
use Rattle.fj_theory.specs.Fraction.{Fraction, IsLowest}

-- The fraction t is num/den in lowest terms.
pub record IsLowestForm (num den : ℕ) (t : Fraction) : Type 0 where
  pub value : t.numerator * den ≡ num * t.denominator
  pub lowest : IsLowest t

-- In lowest terms num/den has a denominator above 65,535 or a numerator above 2^32 - 1.
pub record IsTooWide (num den : ℕ) : Type 0 where
  pub divides : 0 < den
  pub form : Fraction
  pub lowest : IsLowestForm num den form
  pub wide : (65535 < form.denominator) ⊎ (2 ^ 32 - 1 < form.numerator)
