-- A whole session: its script, or its first fault.
use Rattle.std.specs.Prelude.{ℕ, ◌+◌, ◌==◌, if◌then◌else◌, nat_lt, List, [], ◌∷◌, length, Result, Ok, Err, Some, None}
use Rattle.std.specs.declared.option.Option.{Option}
use Rattle.fj_script.specs.declared.fault.Fault.{Fault}
use Rattle.fj_script.specs.declared.fault.FaultKind.TheVariants as kinds
use Rattle.fj_script.specs.declared.fault.LineFault.{LineFault}
use Rattle.fj_script.specs.LineFault.{◌>>=◌}
use Rattle.fj_script.specs.Session.{Session}
use Rattle.fj_script.specs.Statement.{line}

-- Lines are parted by LF. There is one more than there are LFs.
abbrev pub before_line : ℕ → List (List ℕ) → List (List ℕ)
before_line b [] = []
before_line b (l ∷ ls) = (b ∷ l) ∷ ls

unfoldable pub lines : List ℕ → List (List ℕ)
lines [] = [] ∷ []
lines (b ∷ bytes) = if b == 10 then [] ∷ lines bytes else before_line b (lines bytes)

-- The fault of a line with this number. Lines and columns count from 1.
abbrev pub in_line : {A : Type 0} → ℕ → Result A LineFault → Result A Fault
in_line number (Ok x) = Ok x
in_line number (Err fault) = Err (record { kind = fault.kind; line = number; column = fault.column + 1 })

-- The lines from this number on, one after the other.
unfoldable pub from_line : ℕ → Option Session → List (List ℕ) → Result (Option Session) Fault
from_line number before [] = Ok before
from_line number before (l ∷ ls) = do
  after ← in_line number (line before l)
  from_line (number + 1) after ls

-- There has to be a ring.
abbrev pub with_ring : Option Session → Result Session Fault
with_ring None = Err (record { kind = kinds.NoRing; line = 1; column = 1 })
with_ring (Some S) = Ok S

-- A session has at most 1,048,576 bytes.
unfoldable pub script : List ℕ → Result Session Fault
script bytes =
    if nat_lt 1048576 (length bytes) then Err (record { kind = kinds.Long; line = 1; column = 1 })
    else (from_line 1 None (lines bytes) >>= with_ring)
