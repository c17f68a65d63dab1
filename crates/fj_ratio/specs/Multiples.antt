-- Fractions with one denominator at the end of a list.
use Rattle.std.specs.Prelude.{◌≡◌, ℕ, ◌*◌, ◌<◌, List, ◌++◌, All, Any}
use Rattle.fj_theory.specs.Fraction.{Fraction}
use Rattle.fj_theory.proofs.Candidates.{IsMultiple}

-- t is k/d.
abbrev pub IsQuotient : ℕ → ℕ → Fraction → Type 0
IsQuotient k d t = t.numerator * d ≡ k * t.denominator

-- The new list is the old one and after it fractions k/d of (0, 1], among them each with k below m.
pub record AddsMultiples (d m : ℕ) (old new : List Fraction) : Type 0 where
  pub added : List Fraction
  pub appended : new ≡ old ++ added
  pub sound : All (IsMultiple d) added
  pub complete : (k : ℕ) → 0 < k → k < m → Any (IsQuotient k d) added
