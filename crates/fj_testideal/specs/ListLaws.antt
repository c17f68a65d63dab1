-- Laws of the list of jumps for E, which the law functions prove.
use Rattle.std.specs.Prelude.{◌↔◌, ◌⊎◌, ℕ, ◌≤◌, List, All, Any, map, Contains}
use Rattle.fj_coeff.specs.Field.{Field, IsField}
use Rattle.fj_theory.specs.Polynomial.{Polynomial, IsPolynomial}
use Rattle.fj_theory.specs.Fraction.{Fraction, SameValue, IsInUnitInterval}
use Rattle.fj_theory.specs.Candidates.{IsCandidate, AreCandidates, Gap, gaps, IsInside}
use Rattle.fj_testideal.specs.Jump.{IsJump, IsConstant}
use Rattle.fj_testideal.specs.JumpList.{Jump, AreJumps, IsOpen, AreOpenGaps, IsComplete}

-- A member of C_E is an F-jumping number exactly where it is in the list for E.
abbrev pub ListedAreJumps : Type 0
ListedAreJumps =
    (F : Field) → IsField F → (f : Polynomial) → IsPolynomial F f → (E : ℕ) (jumps : List Jump) → AreJumps F f E jumps
    → (t : Fraction) → IsCandidate F.characteristic E t → IsJump F f t ↔ Any (λ jump. SameValue t jump.at) jumps

-- The open gaps are those on which tau isn't constant: each gap of the list is open, and each gap of C_E that is open is in it.
abbrev pub OpenGapsAreOpen : Type 0
OpenGapsAreOpen =
    (F : Field) → IsField F → (f : Polynomial) → IsPolynomial F f → (E : ℕ) (open_gaps : List Gap) → (are : AreOpenGaps F f E open_gaps)
    → All (IsOpen F f) open_gaps × ((gap : Gap) → Contains (gaps are.candidates) gap → IsOpen F f gap ↔ Contains open_gaps gap)

-- An F-jumping number of (0, 1], whatever its denominator, is in the list for E, or lies inside an open gap.
abbrev pub JumpsAreListedOrInOpenGaps : Type 0
JumpsAreListedOrInOpenGaps =
    (F : Field) → IsField F → (f : Polynomial) → IsPolynomial F f → (E : ℕ) → 1 ≤ E → (jumps : List Jump) → AreJumps F f E jumps
    → (open_gaps : List Gap) → AreOpenGaps F f E open_gaps → (t : Fraction) → IsInUnitInterval t → IsJump F f t
    → Any (λ jump. SameValue t jump.at) jumps ⊎ Any (IsInside t) open_gaps

-- Where the list for E is complete, a fraction of (0, 1], whatever its denominator, is an F-jumping number exactly where it is
-- in the list.
abbrev pub CompleteListsHaveAllJumps : Type 0
CompleteListsHaveAllJumps =
    (F : Field) → IsField F → (f : Polynomial) → IsPolynomial F f → (E : ℕ) → 1 ≤ E → (jumps : List Jump) → AreJumps F f E jumps → IsComplete F f E
    → (t : Fraction) → IsInUnitInterval t → IsJump F f t ↔ Any (λ jump. SameValue t jump.at) jumps

-- Where the list for E is complete, tau is constant on each gap [s, t) of C_E, whatever fractions write the candidates.
abbrev pub CompleteListsLeaveNoChange : Type 0
CompleteListsLeaveNoChange =
    (F : Field) → IsField F → (f : Polynomial) → IsPolynomial F f → (E : ℕ) → 1 ≤ E → IsComplete F f E
    → (candidates : List Fraction) → AreCandidates F.characteristic E candidates → (gap : Gap) → Contains (gaps candidates) gap
    → IsConstant F f gap.lower gap.upper

-- So tau is constant between neighbours in 0 and the F-jumping numbers of a complete list.
abbrev pub CompleteListsAreConstantBetween : Type 0
CompleteListsAreConstantBetween =
    (F : Field) → IsField F → (f : Polynomial) → IsPolynomial F f → (E : ℕ) → 1 ≤ E → (jumps : List Jump) → AreJumps F f E jumps → IsComplete F f E
    → (gap : Gap) → Contains (gaps (map (λ jump. jump.at) jumps)) gap → IsConstant F f gap.lower gap.upper
