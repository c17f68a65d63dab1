-- What programs that read a session share: their words, the bytes that they read, and what they write.
use Rattle.std.specs.Prelude.{◌≡◌, ◌≤◌, ◌⊎◌, ℕ, List, ◌++◌, length, map, codes, decimal}
use Rattle.std.specs.Borrow.{Bor}
use Rattle.std.specs.Io.KnownBytes.{Appends, Consumes, IsAtEnd}
use Rattle.std.specs.List.{flat_map}
use Rattle.std.specs.declared.option.Option.{Option}
use Rattle.fj_io.specs.Outside.{AppendsFront}
use Rattle.fj_script.specs.declared.fault.Fault.{Fault}
use Rattle.fj_script.specs.declared.fault.FaultKind.{FaultKind}
use Rattle.fj_script.specs.declared.fault.FaultKind.TheVariants as kinds

-- The texts of the words.
abbrev pub texts_of : List (Bor (List ℕ)) → List (List ℕ)
texts_of words = map (λ w. w.now) words

-- The bytes that the source gave: all to its end, or the first 1,048,577, which are too many.
pub record IsRead (before after : Option (List ℕ)) (bytes : List ℕ) : Type 0 where
  pub taken : Consumes before after bytes
  pub short : length bytes ≤ 1048577
  pub whole : IsAtEnd after ⊎ (length bytes ≡ 1048577)

-- The pieces, one after the other.
abbrev pub together : List (List ℕ) → List ℕ
together pieces = flat_map (λ piece. piece) pieces

-- Known bytes grow by whole pieces and a front of the next one.
abbrev pub AppendsCut : Option (List ℕ) → Option (List ℕ) → List (List ℕ) → List ℕ → Type 0
AppendsCut old new whole next = (middle : Option (List ℕ)) × Appends old middle (together whole) × AppendsFront middle new next

abbrev pub kind_bytes : FaultKind → List ℕ
kind_bytes kinds.Long = codes "Long"
kind_bytes kinds.Byte = codes "Byte"
kind_bytes kinds.Syntax = codes "Syntax"
kind_bytes kinds.NoRing = codes "NoRing"
kind_bytes kinds.Prime = codes "Prime"
kind_bytes kinds.Vars = codes "Vars"
kind_bytes kinds.Taken = codes "Taken"
kind_bytes kinds.Unknown = codes "Unknown"
kind_bytes kinds.Kind = codes "Kind"
kind_bytes kinds.Wide = codes "Wide"
kind_bytes kinds.Large = codes "Large"
kind_bytes kinds.Constant = codes "Constant"
kind_bytes kinds.Arity = codes "Arity"
kind_bytes kinds.Many = codes "Many"
kind_bytes kinds.Range = codes "Range"

-- The line of a fault: `fault KIND at LINE:COLUMN`.
unfoldable pub fault_line : Fault → List ℕ
fault_line fault = codes "fault " ++ kind_bytes fault.kind ++ codes " at " ++ decimal fault.line ++ codes ":" ++ decimal fault.column ++ codes "\n"
