-- How the taking of a sign and the end of a line are seen.
use Rattle.std.specs.Prelude.{◌≡◌, Result, Ok, Err, None}
use Rattle.std.specs.Option.{IsSome}
use Rattle.fj_text.specs.State.{State, next}
use Rattle.fj_script.specs.declared.fault.LineFault.{LineFault}
use Rattle.fj_script.specs.LineFault.{not_here}

abbrev pub GivesSign : {X : Type 0} → Result X LineFault → State → Result State LineFault → Type 0
GivesSign (Ok _) s answer = answer ≡ Ok s
GivesSign (Err fault) s answer = answer ≡ Err fault

-- Where the line ends, what was read stands, and else there is this fault.
abbrev pub IsEnd : {X : Type 0} → Result X LineFault → State → Type 0
IsEnd (Ok _) s = next s ≡ None
IsEnd (Err fault) s = (fault ≡ not_here s) × IsSome (next s)
