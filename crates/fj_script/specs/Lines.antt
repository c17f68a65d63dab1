-- How the code reads lines.
use Rattle.std.specs.Prelude.{◌≡◌, ℕ, List, [], ◌∷◌, Result, Ok, Err, Some, None}
use Rattle.std.specs.declared.option.Option.{Option}
use Rattle.std.specs.Borrow.{Bor}
use Rattle.fj_script.specs.declared.fault.Fault.{Fault}
use Rattle.fj_script.specs.declared.fault.ScriptFault.{ScriptFault}
use Rattle.fj_script.specs.declared.fault.ScriptFault.TheVariants as faults
use Rattle.fj_script.specs.Session.{Session}
use Rattle.fj_script.specs.Statement.{line}
use Rattle.fj_script.specs.Script.{in_line, lines}

-- The first line, and the others, which are those of the rest.
abbrev pub IsFirstOf : List ℕ → Option (Bor (List ℕ)) → List (List ℕ) → Type 0
IsFirstOf first None ls = ls ≡ first ∷ []
IsFirstOf first (Some rest) ls = ls ≡ first ∷ lines rest.now

-- A function answers what lines make, or their first fault. Of want of memory nothing is said.
abbrev pub MakesAll : Result (Option Session) ScriptFault → Result (Option Session) Fault → Type 0
MakesAll (Ok S) answer = answer ≡ Ok S
MakesAll (Err (faults.At fault)) answer = answer ≡ Err fault
MakesAll (Err faults.Memory) answer = Unit {0}

abbrev pub MakesIn : Result (Option Session) ScriptFault → ℕ → Option Session → List ℕ → Type 0
MakesIn result number before bytes = MakesAll result (in_line number (line before bytes))
