-- The F-jumping numbers among the candidates, and the gaps in which others may lie. The candidates are the project's own.
use Rattle.std.specs.Prelude.{◌⊎◌, ℕ, List, [], All, Any, map, Contains}
use Rattle.std.specs.List.Sorted.{IsStrictlySortedBy}
use Rattle.fj_coeff.specs.Field.{Field}
use Rattle.fj_theory.specs.Polynomial.{Polynomial}
use Rattle.fj_theory.specs.Fraction.{Fraction, SameValue, compare}
use Rattle.fj_theory.specs.Candidates.{IsCandidate, AreCandidates, Gap, gaps}
use Rattle.fj_testideal.specs.TestIdeal.{IsTestIdeal}
use Rattle.fj_testideal.specs.Jump.{IsJump, IsConstant, HoldsChange, IsUnchangedAt}

-- A fraction, and a list of polynomials that is the test ideal there.
pub record Jump : Type 0 where
  pub at : Fraction
  pub ideal : List Polynomial

-- A candidate of C_E that is an F-jumping number, with its test ideal.
pub record IsListedJump (F : Field) (f : Polynomial) (E : ℕ) (jump : Jump) : Type 0 where
  pub candidate : IsCandidate F.characteristic E jump.at
  pub is_jump : IsJump F f jump.at
  pub is_test_ideal : IsTestIdeal F f jump.at jump.ideal

-- The jumps of E, rising: the members of C_E that are F-jumping numbers of f, each once, each with its test ideal. At each
-- other member of C_E the test ideal doesn't change.
pub record AreJumps (F : Field) (f : Polynomial) (E : ℕ) (jumps : List Jump) : Type 0 where
  pub sound : All (IsListedJump F f E) jumps
  pub listed_or_unchanged : (t : Fraction) → IsCandidate F.characteristic E t → Any (λ jump. SameValue t jump.at) jumps ⊎ IsUnchangedAt F f t
  pub rising : IsStrictlySortedBy compare (map (λ jump. jump.at) jumps)

-- The gap is open: tau isn't constant on [s, t), s and t its ends.
abbrev pub IsOpen : Field → Polynomial → Gap → Type 0
IsOpen F f gap = IsConstant F f gap.lower gap.upper → ⊥

-- A change of the test ideal on a gap [s, t): tau(f^s), and a number m/p^e in [s, t) at which the test ideal is another one.
pub record HasChange (F : Field) (f : Polynomial) (gap : Gap) : Type 0 where
  pub ideal : List Polynomial
  pub at_lower : IsTestIdeal F f gap.lower ideal
  pub change : HoldsChange F f gap.lower gap.upper ideal

-- The open gaps of C_E, rising: on each gap [s, t) of C_E tau is constant, or the gap is in the list, and on each gap of the
-- list tau changes.
pub record AreOpenGaps (F : Field) (f : Polynomial) (E : ℕ) (open_gaps : List Gap) : Type 0 where
  pub candidates : List Fraction
  pub are_candidates : AreCandidates F.characteristic E candidates
  pub among : All (Contains (gaps candidates)) open_gaps
  pub constant_or_open : (gap : Gap) → Contains (gaps candidates) gap → IsConstant F f gap.lower gap.upper ⊎ Contains open_gaps gap
  pub changes : All (HasChange F f) open_gaps
  pub rising : IsStrictlySortedBy compare (map (λ gap. gap.lower) open_gaps)

-- The list for E is complete: there is no open gap, so tau is constant on each gap of C_E.
abbrev pub IsComplete : Field → Polynomial → ℕ → Type 0
IsComplete F f E = AreOpenGaps F f E []
