use Rattle.std.proofs.Common.{refl, rules}
use Rattle.fj_audit.proofs.Progress.{on_err_always, shown_next, shown_all, shown_part}
use Rattle.fj_audit.proofs.handing.hand_on.Goals as goal

pub loop-i-init : goal.loop-i-init
loop-i-init g c = refl

pub returns-in_err-show-clause-wanting : goal.returns-in_err-show-clause-wanting
returns-in_err-show-clause-wanting g c =
    let n = c.loop-i.auditors.ok.0 in
    on_err_always _ (shown_part _ _ c.loop-i.i _ _ c.index_mut.result.now c.show.new.auditor c.loop-i.invariant (search rules) c.index_mut.ensures.value c.in_err-show.ensures.remains c.in_err-show.ensures.same)

pub loop-i-preserved : goal.loop-i-preserved
loop-i-preserved g c =
    let n = c.loop-i.auditors.ok.0 in
    shown_next _ _ c.loop-i.i _ _ c.index_mut.result.now c.show.new.auditor c.loop-i.invariant (search rules) c.index_mut.ensures.value c.in_ok-show.ensures.shown

pub returns-clause-shown : goal.returns-clause-shown
returns-clause-shown g c = shown_all _ _ c.loop-i.i _ _ c.loop-i.invariant (search rules)
