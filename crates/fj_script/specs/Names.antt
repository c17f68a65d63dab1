-- The names of a session: variables, and declared names. No word is reserved.
use Rattle.std.specs.Prelude.{ℕ, Bool, ◌||◌, nat_le, if◌then◌else◌, List, length, map, slice_get, Ok, Err, Some, None}
use Rattle.std.specs.declared.option.Option.{Option}
use Rattle.std.specs.Option.{is_some, option_map, option_map_or, option_and_then}
use Rattle.fj_text.specs.declared.scope.Meaning.{Meaning}
use Rattle.fj_text.specs.declared.scope.Meaning.TheVariants as meanings
use Rattle.fj_text.specs.Token.{Token}
use Rattle.fj_text.specs.State.{State}
use Rattle.fj_text.specs.Word.{place_of}
use Rattle.fj_script.specs.declared.fault.FaultKind.{FaultKind}
use Rattle.fj_script.specs.declared.fault.FaultKind.TheVariants as faults
use Rattle.fj_script.specs.declared.value.Kind.{Kind}
use Rattle.fj_script.specs.declared.value.Kind.TheVariants as kinds
use Rattle.fj_script.specs.LineFault.{Answer, ◌>>=◌, fault_at}
use Rattle.fj_script.specs.Items.{taking, word, word_of}
use Rattle.fj_script.specs.Session.{Session, Value, kind}

abbrev pub declared_names : List (List ℕ × Value) → List (List ℕ)
declared_names values = map (λ v. v.0) values

abbrev pub is_variable : Session → List ℕ → Bool
is_variable S w = is_some (place_of S.variables w)

-- What a declared name stands for: its place in order of declaration, from 0, and the kind of its value.
unfoldable pub declared_as : Session → List ℕ → Option (ℕ × Kind)
declared_as S w = option_and_then (λ i. option_map (λ v. (i, kind v.1)) (slice_get S.values i)) (place_of (declared_names S.values) w)

-- What a word stands for in an expression.
abbrev pub unless_declared : Bool → Meaning
unless_declared b = if b then meanings.OtherKind else meanings.Unknown

unfoldable pub meaning : Session → List ℕ → Meaning
meaning S w = option_map_or (λ i. meanings.Variable i) (place_of S.variables w) (unless_declared (is_some (place_of (declared_names S.values) w)))

-- A word that may be declared: it isn't a name, and fewer than 4,096 are declared.
unfoldable pub new_name : Session → State → Answer (List ℕ)
new_name S s = do
  w ← word s
  if is_variable S w.0 || is_some (place_of (declared_names S.values) w.0) then Err (fault_at faults.Taken w.1)
      else (if nat_le 4096 (length S.values) then Err (fault_at faults.Many w.1)
      else Ok w)

-- A declared name, where one is wanted.
unfoldable pub declared_by : Session → Token → State → Answer (ℕ × Kind)
declared_by S token s = do
  w ← word_of token s
  option_map_or (λ v. Ok (v, w.1)) (declared_as S w.0) (Err (fault_at (if is_variable S w.0 then faults.Kind else faults.Unknown) w.1))

unfoldable pub declared : Session → State → Answer (ℕ × Kind)
declared S s = taking (declared_by S) s

-- The kinds of values that places take; a refusal is none.
abbrev pub as_polynomial : Kind → Option FaultKind
as_polynomial kinds.Nonconstant = None
as_polynomial kinds.Constant = None
as_polynomial kinds.Ideal = Some faults.Kind
as_polynomial kinds.Point = Some faults.Kind

abbrev pub as_nonconstant : Kind → Option FaultKind
as_nonconstant kinds.Nonconstant = None
as_nonconstant kinds.Constant = Some faults.Constant
as_nonconstant kinds.Ideal = Some faults.Kind
as_nonconstant kinds.Point = Some faults.Kind

abbrev pub as_ideal : Kind → Option FaultKind
as_ideal kinds.Ideal = None
as_ideal kinds.Nonconstant = Some faults.Kind
as_ideal kinds.Constant = Some faults.Kind
as_ideal kinds.Point = Some faults.Kind

abbrev pub as_point : Kind → Option FaultKind
as_point kinds.Point = None
as_point kinds.Nonconstant = Some faults.Kind
as_point kinds.Constant = Some faults.Kind
as_point kinds.Ideal = Some faults.Kind

-- A declared name of a kind that the place takes.
abbrev pub of_kind : (Kind → Option FaultKind) → (ℕ × Kind) × State → Answer ℕ
of_kind taken v = option_map_or (λ fault. Err (fault_at fault v.1)) (taken v.0.1) (Ok (v.0.0, v.1))

unfoldable pub polynomial : Session → State → Answer ℕ
polynomial S s = declared S s >>= of_kind as_polynomial

unfoldable pub nonconstant : Session → State → Answer ℕ
nonconstant S s = declared S s >>= of_kind as_nonconstant

unfoldable pub ideal : Session → State → Answer ℕ
ideal S s = declared S s >>= of_kind as_ideal

unfoldable pub point_by : Session → Token → State → Answer ℕ
point_by S token s = declared_by S token s >>= of_kind as_point
