-- The ends of the gaps of C_E, and the gap in which the test ideals of f come to be inside (J).
use Rattle.std.specs.Prelude.{◌≡◌, ℕ, ◌^◌, List, ◌∷◌, Contains}
use Rattle.std.proofs.Common.{lit<}
use Rattle.fj_coeff.specs.Field.{Field}
use Rattle.fj_theory.specs.Candidates.{AreCandidates, Gap, gaps}
use Rattle.fj_theory.specs.Fraction.{Fraction, ceil_times}
use Rattle.fj_theory.specs.Polynomial.{Polynomial}
use Rattle.fj_testideal.specs.Threshold.{IsPowerInside}

abbrev pub zero_fraction : Fraction
zero_fraction = record { numerator = 0; denominator = 1; positive = lit< tt }

-- The ends are 0 and then the candidates.
pub record AreEnds (p E : ℕ) (ends : List Fraction) : Type 0 where
  pub candidates : List Fraction
  pub are_candidates : AreCandidates p E candidates
  pub is : ends ≡ zero_fraction ∷ candidates

-- The test ideal at t isn't inside (J): for some e, f^ceil(t*q) isn't in (J^[q]).
abbrev pub IsOutside : Field → Polynomial → List Polynomial → Fraction → Type 0
IsOutside F f J t = (e : ℕ) × (IsPowerInside F f J e (ceil_times t (F.characteristic ^ e)) → ⊥)

-- It is inside: for each e, f^ceil(t*q) is in (J^[q]).
abbrev pub IsInside : Field → Polynomial → List Polynomial → Fraction → Type 0
IsInside F f J t = (e : ℕ) → IsPowerInside F f J e (ceil_times t (F.characteristic ^ e))

-- A gap of C_E such that the test ideal at its lower end isn't inside (J), and the one at its upper end is.
pub record ComesInside (F : Field) (E : ℕ) (f : Polynomial) (J : List Polynomial) (gap : Gap) : Type 0 where
  pub candidates : List Fraction
  pub are_candidates : AreCandidates F.characteristic E candidates
  pub among : Contains (gaps candidates) gap
  pub outside : IsOutside F f J gap.lower
  pub inside : IsInside F f J gap.upper
