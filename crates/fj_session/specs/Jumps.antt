-- What the question on the F-jumping numbers of a polynomial f means.
use Rattle.std.specs.Prelude.{◌≡◌, ◌⊎◌, ◌↔◌, ℕ, Bool, IsTrue, List, [], All, Any, map}
use Rattle.fj_coeff.specs.Field.{Field}
use Rattle.std.specs.List.{AllZip}
use Rattle.fj_theory.specs.Candidates.{IsCandidate}
use Rattle.fj_theory.specs.Fraction.{Fraction, IsInUnitInterval, SameValue}
use Rattle.fj_theory.specs.Polynomial.{Polynomial}
use Rattle.fj_testideal.specs.Jump.{IsJump}
use Rattle.fj_testideal.specs.JumpList.{AreJumps, AreOpenGaps, Jump}
use Rattle.fj_testideal.specs.TestIdeal.{IsTestIdeal}
use Rattle.fj_plain.specs.declared.cert.Cert.{Cert}
use Rattle.fj_plain.specs.declared.order_name.OrderName.{OrderName}
use Rattle.fj_plain.specs.declared.order_name.OrderName.TheVariants.{Grevlex}
use Rattle.fj_ideal.specs.Lists.{RunFor}
use Rattle.fj_chain.specs.Lists.{IsLastTestList}
use Rattle.fj_jump.specs.Lists.{IsHighInSearch, IsSearchList}
use Rattle.fj_jump.specs.Rows.{gap_of}
use Rattle.fj_jump.specs.declared.rows.GapRow.{GapRow}
use Rattle.fj_shell.specs.Named.{polynomials}
use Rattle.fj_session.specs.Meaning.{CertifiesIdeal, IsIdealAnswer, IsPrintedList, Meaning, NoIdeal}
use Rattle.fj_session.specs.declared.types.Answer.{Answer}
use Rattle.fj_session.specs.declared.types.Answer.TheVariants as answers
use Rattle.fj_session.specs.declared.types.ShownJump.{ShownJump}

-- The F-jumping number of a row, with the list of its ideal.
abbrev pub shown_jump : ShownJump → Jump
shown_jump row = record { at = row.at; ideal = polynomials row.ideal }

-- The ideal of the row is the test ideal at its number, by the reduced basis for the printing order.
abbrev pub ShowsTestIdeal : Field → OrderName → Polynomial → ShownJump → Type 0
ShowsTestIdeal F printing f row = IsIdealAnswer F printing (IsTestIdeal F f row.at) row.ideal

-- What an answer to `jumps F E` tells: the F-jumping numbers of f in C_E, each once, rising, each with its test ideal; the gaps
-- of C_E in which the test ideal changes, rising; and that the list is complete exactly where there is no such gap. Where it is
-- complete, the fractions in (0, 1] that are F-jumping numbers of f are those of the list and no other.
pub record AreAllJumps (F : Field) (printing : OrderName) (f : Polynomial) (E : ℕ) (jumps : List ShownJump) (gaps : List GapRow) (complete : Bool) : Type 0 where
  pub are_jumps : AreJumps F f E (map shown_jump jumps)
  pub shown : All (ShowsTestIdeal F printing f) jumps
  pub are_open : AreOpenGaps F f E (map gap_of gaps)
  pub is_complete : IsTrue complete ↔ (gaps ≡ [])
  pub all : IsTrue complete → (t : Fraction) → IsInUnitInterval t → IsJump F f t ↔ Any (λ row. SameValue t row.at) jumps

abbrev pub IsShownJumps : Field → OrderName → Polynomial → ℕ → Answer → Type 0
IsShownJumps F printing f E (answers.Jumps jumps gaps complete) = AreAllJumps F printing f E jumps gaps complete
IsShownJumps F printing f E _ = ⊥

-- The certificates of the ideals that are printed, one a row.
abbrev pub CertifiesJumps : Field → OrderName → Polynomial → Answer → List Cert → Type 0
CertifiesJumps F printing f (answers.Jumps jumps gaps complete) certs = AllZip (λ row cert. CertifiesIdeal F printing (IsTestIdeal F f row.at) (IsLastTestList F f row.at) row.ideal cert) jumps certs
CertifiesJumps F printing f _ certs = ⊥

-- (M) is the test ideal at an F-jumping number in C_E.
pub record IsIdealOfJump (F : Field) (f : Polynomial) (E : ℕ) (M : List Polynomial) : Type 0 where
  pub at : Fraction
  pub candidate : IsCandidate F.characteristic E at
  pub is_jump : IsJump F f at
  pub is_test_ideal : IsTestIdeal F f at M

-- The lists of `jumps F E`: those of the search, and of each ideal that is printed the one for the printing order.
abbrev pub IsListOfJumps : Field → OrderName → Polynomial → ℕ → OrderName → List Polynomial → Type 0
IsListOfJumps F printing f E order L = RunFor Grevlex (IsSearchList F f E) order L ⊎ RunFor printing (IsPrintedList F printing (IsIdealOfJump F f E)) order L

-- `jumps F E`
abbrev pub meaning_of_jumps : Field → OrderName → Polynomial → ℕ → Meaning
meaning_of_jumps F printing f E = record { ideal = NoIdeal; last = NoIdeal; answer = IsShownJumps F printing f E; certificates = CertifiesJumps F printing f; lists = IsListOfJumps F printing f E; products = IsHighInSearch F f E }
