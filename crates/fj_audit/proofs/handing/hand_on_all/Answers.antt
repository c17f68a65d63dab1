use Rattle.std.proofs.Common.{map}
use Rattle.fj_audit.proofs.Progress.{on_err_always}
use Rattle.fj_audit.proofs.Shown.{AreShownAll-nil, AreShownAll-next, AreShownFront-next}
use Rattle.fj_audit.proofs.handing.hand_on_all.Goals as goal

pub loop-c-init : goal.loop-c-init
loop-c-init g c = AreShownAll-nil (map (λ b. (goal.Auditor-dyn g (b.vtable, b.value)).account b.value) c.args.auditors.now.items)

pub returns-in_err-hand_on-clause-wanting : goal.returns-in_err-hand_on-clause-wanting
returns-in_err-hand_on-clause-wanting g c =
    on_err_always c.from_residual.result
    (AreShownFront-next c.args.certs.now c.loop-c.c-index c.c-item.result c.loop-c-test.true c.c-item.is c.requires
    (map (λ b. (goal.Auditor-dyn g (b.vtable, b.value)).account b.value) c.args.auditors.now.items)
    (map (λ b. (goal.Auditor-dyn g (b.vtable, b.value)).account b.value) c.loop-c.auditors.items)
    (map (λ b. (goal.Auditor-dyn g (b.vtable, b.value)).account b.value) c.hand_on.new.auditors.items) c.loop-c.invariant c.in_err-hand_on.ensures.wanting)

pub loop-c-preserved : goal.loop-c-preserved
loop-c-preserved g c =
    AreShownAll-next c.args.certs.now c.loop-c.c-index c.c-item.result c.loop-c-test.true c.c-item.is c.requires
    (map (λ b. (goal.Auditor-dyn g (b.vtable, b.value)).account b.value) c.args.auditors.now.items)
    (map (λ b. (goal.Auditor-dyn g (b.vtable, b.value)).account b.value) c.loop-c.auditors.items)
    (map (λ b. (goal.Auditor-dyn g (b.vtable, b.value)).account b.value) c.hand_on.new.auditors.items) c.loop-c.invariant c.in_ok-hand_on.ensures.shown
