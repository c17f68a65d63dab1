-- Nonnegative fractions, their order by value, and the least whole number not below a multiple of one.
use Rattle.std.specs.Prelude.{◌≡◌, ℕ, ◌+◌, ◌*◌, ◌<◌, ◌≤◌}
use Rattle.std.specs.Int.{IsGcd, div_ceil}
use Rattle.std.specs.Ordering.{nat_cmp}
use Rattle.std.specs.declared.cmp.Ordering.{Ordering}

-- A fraction of natural numbers, in lowest terms or not.
pub record Fraction : Type 0 where
  pub numerator : ℕ
  pub denominator : ℕ
  pub positive : 0 < denominator

-- Numerator and denominator have no common divisor but 1.
abbrev pub IsLowest : Fraction → Type 0
IsLowest t = IsGcd t.numerator t.denominator 1

-- Two fractions are one rational number.
abbrev pub SameValue : Fraction → Fraction → Type 0
SameValue s t = s.numerator * t.denominator ≡ t.numerator * s.denominator

-- s <= t by value.
abbrev pub IsAtMost : Fraction → Fraction → Type 0
IsAtMost s t = s.numerator * t.denominator ≤ t.numerator * s.denominator

-- The fraction t + k.
abbrev pub plus_whole : Fraction → ℕ → Fraction
plus_whole t k = record { numerator = t.numerator + k * t.denominator; denominator = t.denominator; positive = t.positive }

-- The order by value.
abbrev pub compare : Fraction → Fraction → Ordering
compare s t = nat_cmp (s.numerator * t.denominator) (t.numerator * s.denominator)

-- The fraction lies in (0, 1].
pub record IsInUnitInterval (t : Fraction) : Type 0 where
  pub above_zero : 0 < t.numerator
  pub at_most_one : t.numerator ≤ t.denominator

-- ceil(t*q), the least whole number not below t*q.
unfoldable pub ceil_times : Fraction → ℕ → ℕ
ceil_times t q = div_ceil (t.numerator * q) t.denominator
