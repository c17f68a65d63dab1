use Rattle.std.proofs.Common.{map, take}
use Rattle.fj_audit.specs.Handing.{AreShownAll}
use Rattle.fj_audit.proofs.handing.hand_on_all.Given as goal

-- the auditors were shown the certificates so far
abbrev pub invariant-loop-c : goal.invariant-loop-c
invariant-loop-c g l =
    AreShownAll (take l.c-index l.certs) (map (λ b. (goal.Auditor-dyn g (b.vtable, b.value)).account b.value) l.initial.auditors.items)
    (map (λ b. (goal.Auditor-dyn g (b.vtable, b.value)).account b.value) l.auditors.items)
