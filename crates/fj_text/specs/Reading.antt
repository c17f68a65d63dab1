-- What `read_expr` reads, and how its answer is seen.
use Rattle.std.specs.Prelude.{◌≡◌, ℕ, if◌then◌else◌, List, Result, Ok, Err, Some, None}
use Rattle.std.specs.declared.option.Option.{Option}
use Rattle.fj_coeff.specs.Field.{Field}
use Rattle.fj_theory.specs.Polynomial.{Polynomial}
use Rattle.fj_text.specs.declared.fault.Cause.{Cause}
use Rattle.fj_text.specs.declared.fault.Cause.TheVariants as causes
use Rattle.fj_text.specs.declared.fault.Fault.{Fault}
use Rattle.fj_text.specs.declared.fault.ReadFault.{ReadFault}
use Rattle.fj_text.specs.declared.fault.ReadFault.TheVariants as refusals
use Rattle.fj_text.specs.declared.fault.TextFault.{TextFault}
use Rattle.fj_text.specs.declared.fault.TextFault.TheVariants as texts
use Rattle.fj_text.specs.declared.scope.Meaning.{Meaning}
use Rattle.fj_text.specs.declared.scope.Meaning.TheVariants as meanings
use Rattle.fj_text.specs.Word.{place_of}
use Rattle.fj_text.specs.State.{State, ◌>>=◌, is_bad_next, state_at, unexpected}
use Rattle.fj_text.specs.Expression.{Answer, expression}

-- A function reads what a rule answers: the value, with this state after it, or the first fault. Of want of memory
-- nothing is said.
abbrev pub Reads : {A : Type 0} → Result A ReadFault → State → Answer A → Type 0
Reads (Ok x) s answer = answer ≡ Ok (x, s)
Reads (Err (refusals.At fault)) s answer = answer ≡ Err fault
Reads (Err refusals.Memory) s answer = Unit {0}

-- The same of a turn of a repetition: without a turn the state stays.
abbrev pub ReadsTurn : {A : Type 0} → Result (Option A) ReadFault → State → State → Option (Answer A) → Type 0
ReadsTurn (Ok None) old new turn = (turn ≡ None) × (new ≡ old)
ReadsTurn (Ok (Some x)) old new turn = turn ≡ Some (Ok (x, new))
ReadsTurn (Err (refusals.At fault)) old new turn = turn ≡ Some (Err fault)
ReadsTurn (Err refusals.Memory) old new turn = Unit {0}

-- A word among names of variables.
abbrev pub meaning_at : Option ℕ → Meaning
meaning_at None = meanings.Unknown
meaning_at (Some i) = meanings.Variable i

abbrev pub meaning_among : List (List ℕ) → List ℕ → Meaning
meaning_among names word = meaning_at (place_of names word)

-- The expression of a line from a column on, and the column behind its last token. What follows it isn't judged, but for
-- a bad byte.
abbrev pub unless_bad : {A : Type 0} → A × State → Result (A × ℕ) Fault
unless_bad (f, s) = if is_bad_next s then Err (unexpected s) else Ok (f, s.end)

unfoldable pub text_at : Field → List (List ℕ) → List ℕ → ℕ → Result (Polynomial × ℕ) Fault
text_at F names line column = expression F (meaning_among names) (state_at line column) >>= unless_bad

-- The fault of a text. There each word that is no variable is unknown.
abbrev pub fault_of : Cause → ℕ → TextFault
fault_of causes.Byte place = texts.Byte place
fault_of causes.Syntax place = texts.Syntax place
fault_of causes.Unknown place = texts.UnknownVar place
fault_of causes.Kind place = texts.UnknownVar place
fault_of causes.Wide place = texts.Wide place
fault_of causes.Large place = texts.Large place

abbrev pub text_fault : ReadFault → TextFault
text_fault (refusals.At fault) = fault_of fault.cause fault.place
text_fault refusals.Memory = texts.Memory

-- A function gives what a text holds: the value, or that fault. Of want of memory nothing is said.
abbrev pub GivesText : Result (Polynomial × ℕ) TextFault → Result (Polynomial × ℕ) Fault → Type 0
GivesText (Err texts.Memory) read = Unit {0}
GivesText result (Ok found) = result ≡ Ok found
GivesText result (Err fault) = result ≡ Err (fault_of fault.cause fault.place)
