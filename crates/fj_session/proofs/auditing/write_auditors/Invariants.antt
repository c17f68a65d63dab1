use Rattle.std.proofs.Common.{◌≤◌, map, take}
use Rattle.std.specs.Io.KnownBytes.{Appends}
use Rattle.fj_session.specs.Lines.{auditor_lines}
use Rattle.fj_session.proofs.auditing.write_auditors.Given as goal
use Rattle.fj_shell.specs.Shell.{together}

-- the lines of the auditors so far are written
abbrev pub invariant-loop-auditor : goal.invariant-loop-auditor
invariant-loop-auditor g l =
    Appends (g.K.Sink.taken l.fn.sink) (g.K.Sink.taken l.sink) (together (auditor_lines (map (λ b. (goal.Auditor-dyn g (b.vtable, b.value)).account b.value) (take l.auditor-index l.auditors))))
    × (g.K.Sink.faults l.fn.sink ≤ g.K.Sink.faults l.sink)
