use Rattle.std.proofs.Common.{◌-◌, ◌≤◌, length, take}
use Rattle.std.specs.Io.KnownBytes.{Consumes}
use Rattle.fj_shell.proofs.input.fill.Given as goal

-- so many bytes were read, and the count of faults has not fallen
abbrev pub invariant-loop-taken : goal.invariant-loop-taken
invariant-loop-taken g l = record {
  within : l.taken ≤ length l.into;
  read : Consumes (g.S.Source.left l.fn.source) (g.S.Source.left l.source) (take l.taken l.into);
  later : g.S.Source.faults l.fn.source ≤ g.S.Source.faults l.source;
}

abbrev pub decreases-loop-taken : goal.decreases-loop-taken
decreases-loop-taken g l = length l.initial.into - l.taken
