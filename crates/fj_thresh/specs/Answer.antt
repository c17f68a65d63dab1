-- What the answers say of a polynomial f and an ideal (J), over a field F.
use Rattle.std.specs.Prelude.{◌≡◌, ℕ, List, Contains}
use Rattle.fj_coeff.specs.Field.{Field}
use Rattle.fj_theory.specs.Candidates.{AreCandidates, Gap, IsCandidate, gaps}
use Rattle.fj_theory.specs.Evaluation.{value}
use Rattle.fj_theory.specs.Exponents.{origin}
use Rattle.fj_theory.specs.Fraction.{Fraction}
use Rattle.fj_theory.specs.Ideal.{Member}
use Rattle.fj_theory.specs.PointIdeal.{point_ideal}
use Rattle.fj_theory.specs.Polynomial.{Polynomial, term}
use Rattle.fj_testideal.specs.Threshold.{HasThresholdInside, IsNu, IsProper, IsThreshold}
use Rattle.fj_thresh.specs.declared.types.Nu.{Nu}
use Rattle.fj_thresh.specs.declared.types.Nu.TheVariants as nus
use Rattle.fj_thresh.specs.declared.types.Threshold.{Threshold}
use Rattle.fj_thresh.specs.declared.types.Threshold.TheVariants as thresholds

-- (J) is proper, and f is in it.
pub record IsProperWith (F : Field) (J : List Polynomial) (f : Polynomial) : Type 0 where
  pub proper : IsProper F J
  pub member : Member F J f

-- nu(e) of f at (J), or why there is none.
abbrev pub IsNuAnswer : Field → ℕ → Polynomial → List Polynomial → Nu → Type 0
IsNuAnswer F e f J (nus.Is r) = IsProperWith F J f × IsNu F f J e r
IsNuAnswer F e f J nus.Unit = Member F J (term 1 origin)
IsNuAnswer F e f J nus.NotIn = IsProper F J × (Member F J f → ⊥)

-- Of the gaps of C_E this one and no other has the threshold inside.
pub record IsGapOfThreshold (F : Field) (E : ℕ) (f : Polynomial) (J : List Polynomial) (gap : Gap) : Type 0 where
  pub candidates : List Fraction
  pub are_candidates : AreCandidates F.characteristic E candidates
  pub among : Contains (gaps candidates) gap
  pub has_threshold : HasThresholdInside F f J E gap
  pub only : (other : Gap) → Contains (gaps candidates) other → HasThresholdInside F f J E other → other ≡ gap

-- The threshold of f at (J) as far as the candidates of C_E tell it, or why there is none.
abbrev pub IsThresholdAnswer : Field → ℕ → Polynomial → List Polynomial → Threshold → Type 0
IsThresholdAnswer F E f J (thresholds.At t) = IsProperWith F J f × IsCandidate F.characteristic E t × IsThreshold F f J t
IsThresholdAnswer F E f J (thresholds.Between s t) = IsProperWith F J f × IsGapOfThreshold F E f J (record { lower = s; upper = t })
IsThresholdAnswer F E f J thresholds.NotIn = IsProper F J × (Member F J f → ⊥)
IsThresholdAnswer F E f J thresholds.Unit = Member F J (term 1 origin)
IsThresholdAnswer F E f J thresholds.Off = ⊥

-- The same at the ideal of a point in the first n variables: (off) where f isn't zero there, and else as above, f being in this
-- ideal, which is proper.
abbrev pub IsPointAnswer : Field → ℕ → Polynomial → ℕ → List ℕ → Threshold → Type 0
IsPointAnswer F E f n point (thresholds.At t) = (value F f point ≡ 0) × IsThresholdAnswer F E f (point_ideal F n point) (thresholds.At t)
IsPointAnswer F E f n point (thresholds.Between s t) = (value F f point ≡ 0) × IsThresholdAnswer F E f (point_ideal F n point) (thresholds.Between s t)
IsPointAnswer F E f n point thresholds.NotIn = ⊥
IsPointAnswer F E f n point thresholds.Unit = ⊥
IsPointAnswer F E f n point thresholds.Off = value F f point ≡ 0 → ⊥
