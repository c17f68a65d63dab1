-- Laws of F-thresholds, which the law functions prove (Mustață, Takagi and Watanabe 2005; Blickle, Mustață and Smith 2008).
use Rattle.std.specs.Prelude.{◌≡◌, ◌↔◌, ◌⊎◌, ℕ, suc, ◌+◌, ◌-◌, ◌*◌, ◌^◌, ◌<◌, ◌≤◌, List, [], ◌∷◌, All, Any, Contains}
use Rattle.std.specs.declared.cmp.Ordering.TheVariants.{Less}
use Rattle.fj_coeff.specs.Field.{Field, IsField}
use Rattle.fj_theory.specs.Polynomial.{Polynomial, IsPolynomial, power}
use Rattle.fj_theory.specs.Ideal.{ArePolynomials, Member, Inside}
use Rattle.fj_theory.specs.Root.{IsRoot}
use Rattle.fj_theory.specs.Fraction.{IsAtMost, Fraction, SameValue, compare, ceil_times}
use Rattle.fj_theory.specs.Candidates.{IsCandidate, AreCandidates, Gap, gaps}
use Rattle.fj_testideal.specs.TestIdeal.{IsTestIdeal, IsLeftLimit}
use Rattle.fj_testideal.specs.Threshold.{IsProper, IsPowerInside, IsNu, IsThreshold, HasThresholdInside}

-- f^m is in (J^[q]) exactly where the root of f^m at e is inside (J).
abbrev pub PowersInsideByRoots : Type 0
PowersInsideByRoots =
    (F : Field) → IsField F → (f : Polynomial) → IsPolynomial F f → (J : List Polynomial) → ArePolynomials F J → (e m : ℕ) (M : List Polynomial)
    → IsRoot F (F.characteristic ^ e) (power F f m ∷ []) M → IsPowerInside F f J e m ↔ Inside F M J

-- A higher power of f is in (J^[q]) where a lower one is. f^0 isn't where (J) is proper, and f^q is where f is in (J). So
-- nu(e) is told by r and r + 1, is one number, and is below p^e where f is in (J).
pub record NuIsUnique (F : Field) (f : Polynomial) (J : List Polynomial) : Type 0 where
  pub higher : (e m n : ℕ) → m ≤ n → IsPowerInside F f J e m → IsPowerInside F f J e n
  pub at_zero : (e : ℕ) → IsProper F J → IsPowerInside F f J e 0 → ⊥
  pub at_power : (e : ℕ) → Member F J f → IsPowerInside F f J e (F.characteristic ^ e)
  pub by_next : (e r : ℕ) → IsNu F f J e r ↔ ((IsPowerInside F f J e r → ⊥) × IsPowerInside F f J e (suc r))
  pub unique : (e r s : ℕ) → IsNu F f J e r → IsNu F f J e s → r ≡ s
  pub below : (e r : ℕ) → Member F J f → IsNu F f J e r → r < F.characteristic ^ e

-- t is the threshold exactly where nu(e) = ceil(t*p^e) - 1 for every e. All thresholds have one value, and each fraction of
-- this value is one. It is the least t whose test ideal is inside (J).
pub record ThresholdIsUnique (F : Field) (f : Polynomial) (J : List Polynomial) : Type 0 where
  pub by_nu : (t : Fraction) → 0 < t.numerator → IsThreshold F f J t ↔ ((e : ℕ) → IsNu F f J e (ceil_times t (F.characteristic ^ e) - 1))
  pub unique : (s t : Fraction) → IsThreshold F f J s → IsThreshold F f J t → SameValue s t
  pub same : (s t : Fraction) → SameValue s t → IsThreshold F f J s → IsThreshold F f J t
  pub least : (t : Fraction) → IsThreshold F f J t → (s : Fraction) (S : List Polynomial) → IsTestIdeal F f s S
      → Inside F S J ↔ IsAtMost t s

-- p nu(e) <= nu(e+1) <= p nu(e) + p - 1.
abbrev pub NuGrowsByDigit : Type 0
NuGrowsByDigit =
    (F : Field) → IsField F → (f : Polynomial) → IsPolynomial F f → (J : List Polynomial) → ArePolynomials F J → (e r s : ℕ)
    → IsNu F f J e r → IsNu F f J (suc e) s → (F.characteristic * r ≤ s) × (s ≤ F.characteristic * r + F.characteristic - 1)

abbrev pub NuAndThresholdAreUnique : Type 0
NuAndThresholdAreUnique =
    (F : Field) → IsField F → (f : Polynomial) → IsPolynomial F f → (J : List Polynomial) → ArePolynomials F J → NuIsUnique F f J × ThresholdIsUnique F f J

-- t > 0 is the threshold exactly where the test ideal at t is inside (J) and the left limit isn't.
abbrev pub ThresholdsByLimits : Type 0
ThresholdsByLimits =
    (F : Field) → IsField F → (f : Polynomial) → IsPolynomial F f → (J : List Polynomial) → ArePolynomials F J
    → (t : Fraction) → 0 < t.numerator → (S T : List Polynomial) → IsLeftLimit F f t S → IsTestIdeal F f t T
    → IsThreshold F f J t ↔ (Inside F T J × (Inside F S J → ⊥))

-- A gap of C_E has the threshold inside exactly where the test ideal at its lower end isn't inside (J), and the left limit at
-- its upper end is.
abbrev pub GapsByLimits : Type 0
GapsByLimits =
    (F : Field) → IsField F → (f : Polynomial) → IsPolynomial F f → (J : List Polynomial) → ArePolynomials F J
    → (E : ℕ) (candidates : List Fraction) → AreCandidates F.characteristic E candidates → (gap : Gap) → Contains (gaps candidates) gap
    → (S T : List Polynomial) → IsLeftLimit F f gap.upper S → IsTestIdeal F f gap.lower T
    → HasThresholdInside F f J E gap ↔ ((Inside F T J → ⊥) × Inside F S J)

-- What is inside (J) at one exponent is inside (J) at each larger one: a test ideal or left limit at s, and the test ideal or
-- left limit at t, for s <= t. From a test ideal at s to the left limit at t this asks for s < t.
pub record StaysInside (F : Field) (f : Polynomial) (J : List Polynomial) : Type 0 where
  pub test_ideals : (s t : Fraction) (S T : List Polynomial) → IsAtMost s t → IsTestIdeal F f s S → IsTestIdeal F f t T → Inside F S J → Inside F T J
  pub left_limits : (s t : Fraction) (S T : List Polynomial) → IsAtMost s t → IsLeftLimit F f s S → IsLeftLimit F f t T → Inside F S J → Inside F T J
  pub from_test_ideal : (s t : Fraction) (S T : List Polynomial) → compare s t ≡ Less → IsTestIdeal F f s S → IsLeftLimit F f t T → Inside F S J → Inside F T J
  pub from_left_limit : (s t : Fraction) (S T : List Polynomial) → IsAtMost s t → IsLeftLimit F f s S → IsTestIdeal F f t T → Inside F S J → Inside F T J

abbrev pub InsideStaysInside : Type 0
InsideStaysInside =
    (F : Field) → IsField F → (f : Polynomial) → IsPolynomial F f → (J : List Polynomial) → ArePolynomials F J → StaysInside F f J

-- The test ideal at 0 isn't inside a proper ideal, and from 1 on it is inside each ideal that has f.
pub record HasEndsInside (F : Field) (f : Polynomial) (J : List Polynomial) : Type 0 where
  pub at_zero : (t : Fraction) (T : List Polynomial) → t.numerator ≡ 0 → IsTestIdeal F f t T → IsProper F J → Inside F T J → ⊥
  pub from_one : (t : Fraction) (T : List Polynomial) → t.denominator ≤ t.numerator → IsTestIdeal F f t T → Member F J f → Inside F T J

abbrev pub EndsInside : Type 0
EndsInside = (F : Field) → IsField F → (f : Polynomial) → IsPolynomial F f → (J : List Polynomial) → ArePolynomials F J → HasEndsInside F f J

-- Two gaps of C_E that have the threshold inside are one.
abbrev pub GapIsUnique : Type 0
GapIsUnique =
    (F : Field) → IsField F → (f : Polynomial) → IsPolynomial F f → (J : List Polynomial) → ArePolynomials F J
    → (E : ℕ) (candidates : List Fraction) → AreCandidates F.characteristic E candidates → (gap other : Gap) → Contains (gaps candidates) gap
    → Contains (gaps candidates) other → HasThresholdInside F f J E gap → HasThresholdInside F f J E other → other ≡ gap

-- A gap (s, t) of C_E such that the test ideal at s isn't inside (J) and the one at t is. Where the left limit at t isn't inside
-- (J), t is the threshold. Where it is, no candidate is the threshold, and this gap and no other has it inside.
pub record IsToldAbove (F : Field) (f : Polynomial) (J : List Polynomial) (E : ℕ) (all : List Gap) (gap : Gap) (left : List Polynomial) : Type 0 where
  pub at_upper : IsThreshold F f J gap.upper ↔ (Inside F left J → ⊥)
  pub between : HasThresholdInside F f J E gap ↔ Inside F left J
  pub no_candidate : Inside F left J → (u : Fraction) → IsCandidate F.characteristic E u → IsThreshold F f J u → ⊥
  pub only : Inside F left J → (other : Gap) → Contains all other → HasThresholdInside F f J E other → other ≡ gap

abbrev pub ThresholdByNeighbours : Type 0
ThresholdByNeighbours =
    (F : Field) → IsField F → (f : Polynomial) → IsPolynomial F f → (J : List Polynomial) → ArePolynomials F J
    → (E : ℕ) (candidates : List Fraction) → AreCandidates F.characteristic E candidates → (gap : Gap) → Contains (gaps candidates) gap
    → (S left T : List Polynomial) → IsTestIdeal F f gap.lower S → IsLeftLimit F f gap.upper left → IsTestIdeal F f gap.upper T
    → (Inside F S J → ⊥) → Inside F T J → IsToldAbove F f J E (gaps candidates) gap left

-- Test ideal and left limit at t, and whether each is inside (J).
pub record IsDecidedAt (F : Field) (f : Polynomial) (J : List Polynomial) (t : Fraction) : Type 0 where
  pub test : List Polynomial
  pub is_test_ideal : IsTestIdeal F f t test
  pub test_inside : Dec (Inside F test J)
  pub left : List Polynomial
  pub is_left_limit : IsLeftLimit F f t left
  pub left_inside : Dec (Inside F left J)

-- Of these gaps one and no other has the threshold inside.
pub record HasOneGap (F : Field) (f : Polynomial) (J : List Polynomial) (E : ℕ) (all : List Gap) : Type 0 where
  pub gap : Gap
  pub among : Contains all gap
  pub has_threshold : HasThresholdInside F f J E gap
  pub only : (other : Gap) → Contains all other → HasThresholdInside F f J E other → other ≡ gap

-- Where (J) is proper and has f, and at each candidate it is decided whether the limits are inside (J): a candidate is the
-- threshold, or exactly one gap has it inside.
abbrev pub ThresholdAtOrBetween : Type 0
ThresholdAtOrBetween =
    (F : Field) → IsField F → (f : Polynomial) → IsPolynomial F f → (J : List Polynomial) → ArePolynomials F J → IsProper F J → Member F J f
    → (E : ℕ) → 1 ≤ E → (candidates : List Fraction) → AreCandidates F.characteristic E candidates → All (IsDecidedAt F f J) candidates
    → Any (IsThreshold F f J) candidates ⊎ HasOneGap F f J E (gaps candidates)

-- So where no candidate is the threshold, exactly one gap has it inside.
abbrev pub ThresholdInOneGap : Type 0
ThresholdInOneGap =
    (F : Field) → IsField F → (f : Polynomial) → IsPolynomial F f → (J : List Polynomial) → ArePolynomials F J → IsProper F J → Member F J f
    → (E : ℕ) → 1 ≤ E → (candidates : List Fraction) → AreCandidates F.characteristic E candidates → All (IsDecidedAt F f J) candidates
    → ((t : Fraction) → IsCandidate F.characteristic E t → IsThreshold F f J t → ⊥) → HasOneGap F f J E (gaps candidates)
