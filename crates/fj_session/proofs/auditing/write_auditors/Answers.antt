use Rattle.std.proofs.Common.{suc, map, take, drop, Err, ap}
use Rattle.fj_session.specs.Lines.{auditor_line, auditor_lines}
use Rattle.fj_session.proofs.AuditorLines.{lines_around}
use Rattle.fj_session.proofs.auditing.write_auditors.Goals as goal
use Rattle.fj_shell.proofs.Pieces.{rose_later}

pub returns-in-Err-WriteFailed-clause-failed : goal.returns-in-Err-WriteFailed-clause-failed
returns-in-Err-WriteFailed-clause-failed g c = λ five.
    let failed = c.in-Err-WriteFailed.ensures.failed (ap Err c.in-Err-WriteFailed.field-0-is) in
    let before = c.loop-auditor.invariant in (
      rose_later _ _ _ before.1 failed.1,
      (
        auditor_lines (map (λ b. (goal.Auditor-dyn g (b.vtable, b.value)).account b.value) (take c.loop-auditor.auditor-index c.args.auditors.now)),
        auditor_line ((goal.Auditor-dyn g (c.auditor-item.result.vtable, c.auditor-item.result.value)).account c.auditor-item.result.value),
        auditor_lines (map (λ b. (goal.Auditor-dyn g (b.vtable, b.value)).account b.value) (drop (suc c.loop-auditor.auditor-index) c.args.auditors.now)),
        lines_around (λ b. (goal.Auditor-dyn g (b.vtable, b.value)).account b.value) c.args.auditors.now c.loop-auditor.auditor-index c.auditor-item.result c.loop-auditor-test.true c.auditor-item.is failed.0,
        (g.K.Sink.taken c.loop-auditor.sink, before.0, failed.2),
      ),
    )

pub returns-in-Err-NoMemory-clause-memory : goal.returns-in-Err-NoMemory-clause-memory
returns-in-Err-NoMemory-clause-memory g c = λ six.
    let wanting = c.in-Err-NoMemory.ensures.memory (ap Err c.in-Err-NoMemory.field-0-is) in
    let before = c.loop-auditor.invariant in (
      auditor_lines (map (λ b. (goal.Auditor-dyn g (b.vtable, b.value)).account b.value) (take c.loop-auditor.auditor-index c.args.auditors.now)),
      auditor_line ((goal.Auditor-dyn g (c.auditor-item.result.vtable, c.auditor-item.result.value)).account c.auditor-item.result.value),
      auditor_lines (map (λ b. (goal.Auditor-dyn g (b.vtable, b.value)).account b.value) (drop (suc c.loop-auditor.auditor-index) c.args.auditors.now)),
      lines_around (λ b. (goal.Auditor-dyn g (b.vtable, b.value)).account b.value) c.args.auditors.now c.loop-auditor.auditor-index c.auditor-item.result c.loop-auditor-test.true c.auditor-item.is wanting.0,
      rw wanting.1 before.0,
    )
