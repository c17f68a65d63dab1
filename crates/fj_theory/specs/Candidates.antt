-- The candidates for jumping numbers: the set C_E of fractions whose pre-period and period have together at most E digits.
use Rattle.std.specs.Prelude.{◌≡◌, ℕ, ◌+◌, ◌-◌, ◌*◌, ◌^◌, ◌<◌, ◌≤◌, List, [], ◌∷◌, All, Any}
use Rattle.std.proofs.Common.{lit<}
use Rattle.std.specs.List.Sorted.{IsStrictlySortedBy}
use Rattle.std.specs.declared.cmp.Ordering.TheVariants.{Less}
use Rattle.fj_theory.specs.Fraction.{Fraction, SameValue, compare}

-- t is m/(p^c*(p^b - 1)) in (0, 1], with b >= 1 and b + c <= E.
pub record IsCandidate (p E : ℕ) (t : Fraction) : Type 0 where
  pub numerator : ℕ
  pub pre : ℕ
  pub period : ℕ
  pub period_positive : 0 < period
  pub short : period + pre ≤ E
  pub above_zero : 0 < numerator
  pub at_most_one : numerator ≤ p ^ pre * (p ^ period - 1)
  pub value : t.numerator * (p ^ pre * (p ^ period - 1)) ≡ numerator * t.denominator

-- C_E as a strictly rising list, so without repeats: each member is a candidate, and each candidate has the value of a
-- member.
pub record AreCandidates (p E : ℕ) (ts : List Fraction) : Type 0 where
  pub sound : All (IsCandidate p E) ts
  pub complete : (t : Fraction) → IsCandidate p E t → Any (SameValue t) ts
  pub rising : IsStrictlySortedBy compare ts

-- Two fractions, the lower first.
pub record Gap : Type 0 where
  pub lower : Fraction
  pub upper : Fraction

-- The fraction lies strictly between the ends of a gap.
pub record IsInside (t : Fraction) (gap : Gap) : Type 0 where
  pub above : compare gap.lower t ≡ Less
  pub below : compare t gap.upper ≡ Less

-- The pairs of neighbours in a list after its first member.
unfoldable pub neighbours : Fraction → List Fraction → List Gap
neighbours s [] = []
neighbours s (t ∷ ts) = record { lower = s; upper = t } ∷ neighbours t ts

-- The gaps of a list of candidates: the pairs of neighbours in 0 and the list.
unfoldable pub gaps : List Fraction → List Gap
gaps ts = neighbours (record { numerator = 0; denominator = 1; positive = lit< tt }) ts
