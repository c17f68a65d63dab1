-- The ring: `ring p v1, v2, ..`, a prime and one to seven variables.
use Rattle.std.specs.Prelude.{ℕ, if◌then◌else◌, nat_le, List, length, Result, Ok, Err}
use Rattle.std.specs.Option.{is_some}
use Rattle.fj_coeff.specs.Field.{is_prime}
use Rattle.fj_text.specs.State.{State}
use Rattle.fj_text.specs.Word.{place_of}
use Rattle.fj_script.specs.declared.fault.FaultKind.TheVariants as kinds
use Rattle.fj_script.specs.declared.fault.LineFault.{LineFault}
use Rattle.fj_script.specs.LineFault.{Answer, ◌>>=◌, fault_at}
use Rattle.fj_script.specs.Items.{at_end, listed, number, word}
use Rattle.fj_script.specs.Session.{Session, new_session}

unfoldable pub prime : State → Answer ℕ
prime s = do
  n ← number s
  if is_prime n.0 then Ok n else Err (fault_at kinds.Prime n.1)

-- A variable, which is a name from its word on.
unfoldable pub variable : List (List ℕ) → State → Answer (List ℕ)
variable names s = do
  w ← word s
  if nat_le 7 (length names) then Err (fault_at kinds.Vars w.1)
      else (if is_some (place_of names w.0) then Err (fault_at kinds.Taken w.1)
      else Ok w)

unfoldable pub ring : State → Result Session LineFault
ring s = do
  p ← prime s
  names ← listed variable p.1
  at_end (new_session p.0 names.0, names.1)
