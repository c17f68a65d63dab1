use Rattle.fj_audit.proofs.Progress.{ShownUpTo}
use Rattle.fj_audit.proofs.handing.hand_on.Given as goal

-- those before this place were shown the certificate
abbrev pub invariant-loop-i : goal.invariant-loop-i
invariant-loop-i g l = ShownUpTo (λ b. (goal.Auditor-dyn g (b.vtable, b.value)).account b.value) l.c l.i l.initial.auditors.items l.auditors.items
