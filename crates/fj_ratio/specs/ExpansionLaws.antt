-- What the digits of a fraction of (0, 1] say of it, and where it lies among the candidates, which the law functions prove.
use Rattle.std.specs.Prelude.{◌≡◌, ℕ, ◌+◌, ◌*◌, ◌^◌, ◌<◌, ◌≤◌, ◌⊎◌, List, length, Any, Contains}
use Rattle.fj_coeff.specs.Field.{primes}
use Rattle.fj_theory.specs.Fraction.{Fraction, SameValue, IsInUnitInterval, ceil_times}
use Rattle.fj_theory.specs.Digits.{ceiling_less_one, value_of, Expansion, IsExpansion, repeated_value}
use Rattle.fj_theory.specs.Candidates.{AreCandidates, IsInside, gaps}

-- With c digits in the pre-period and b in the period, and N_c = ceil(t*p^c) - 1: the pre-period writes N_c; the rest
-- u = p^c*t - N_c lies in (0, 1]; the period writes a = u*(p^b - 1), positive and below p^b; and for each k
-- ceil(t*p^(c+k*b)) = p^(k*b)*N_c + a*(1 + p^b + .. + p^((k-1)*b)) + 1.
pub record IsWritten (p : ℕ) (t : Fraction) (d : Expansion) : Type 0 where
  pub pre : value_of p d.pre ≡ ceiling_less_one p t (length d.pre)
  -- u is remainder/rest
  pub rest : ℕ
  pub remainder : ℕ
  pub denominator : t.denominator ≡ p ^ length d.pre * rest
  pub whole : t.numerator ≡ value_of p d.pre * rest + remainder
  pub above_zero : 0 < remainder
  pub at_most_one : remainder ≤ rest
  pub period : value_of p d.period * rest + remainder ≡ remainder * p ^ length d.period
  pub period_positive : 0 < value_of p d.period
  pub period_below : value_of p d.period < p ^ length d.period
  pub ceilings : (k : ℕ) → ceil_times t (p ^ (length d.pre + k * length d.period))
      ≡ p ^ (k * length d.period) * value_of p d.pre + repeated_value (p ^ length d.period) (value_of p d.period) k + 1

-- What the expansion of a fraction of (0, 1] writes.
abbrev pub ExpansionWrites : Type 0
ExpansionWrites = (p : ℕ) (t : Fraction) (d : Expansion) → Contains primes p → IsInUnitInterval t → IsExpansion p t d → IsWritten p t d

-- A fraction of (0, 1] has the value of a candidate or lies strictly inside a gap.
abbrev pub CandidateOrInside : Type 0
CandidateOrInside =
    (p E : ℕ) (ts : List Fraction) (t : Fraction) → Contains primes p → 1 ≤ E → AreCandidates p E ts → IsInUnitInterval t
    → Any (SameValue t) ts ⊎ Any (IsInside t) (gaps ts)
