use Rattle.std.proofs.Common.{◌≡◌, List, map, take}
use Rattle.fj_audit.specs.Handing.{AreShownAll}
use Rattle.fj_session.specs.Lines.{IsCount, summary_of}
use Rattle.fj_session.specs.Reply.{AreReplies, Reply, certificates_of}
use Rattle.fj_session.proofs.summary.summarize.Given as goal

-- the first questions are answered and counted, and the auditors were shown the certificates of their answers
abbrev pub invariant-loop-i : goal.invariant-loop-i
invariant-loop-i g l =
    (replies : List Reply) × AreReplies l.script.env (take l.i l.script.asked) replies × (l.summary ≡ summary_of replies) × IsCount l.summary
    × AreShownAll (certificates_of replies) (map (λ b. (goal.Auditor-dyn g (b.vtable, b.value)).account b.value) l.initial.auditors.items)
    (map (λ b. (goal.Auditor-dyn g (b.vtable, b.value)).account b.value) l.auditors.items)
