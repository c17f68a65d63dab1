use Rattle.std.proofs.Common.{◌≡◌, ◌≤◌, List, map, take}
use Rattle.std.specs.Io.KnownBytes.{Appends}
use Rattle.fj_audit.specs.Handing.{AreShownAll}
use Rattle.fj_session.specs.Reply.{AreReplies, Reply, answer_texts, certificates_of, status_of}
use Rattle.fj_session.proofs.writing.write_answers.Given as goal
use Rattle.fj_shell.specs.Shell.{together}

-- the first questions are answered, the texts of their answers written, and the auditors were shown their certificates
abbrev pub invariant-loop-i : goal.invariant-loop-i
invariant-loop-i g l =
    (replies : List Reply) × AreReplies l.script.env (take l.i l.script.asked) replies × (l.status ≡ status_of replies)
    × Appends (g.K.Sink.taken l.fn.sink) (g.K.Sink.taken l.sink) (together (answer_texts l.script.env replies))
    × (g.K.Sink.faults l.fn.sink ≤ g.K.Sink.faults l.sink)
    × AreShownAll (certificates_of replies) (map (λ b. (goal.Auditor-dyn g (b.vtable, b.value)).account b.value) l.initial.auditors.items)
    (map (λ b. (goal.Auditor-dyn g (b.vtable, b.value)).account b.value) l.auditors.items)
