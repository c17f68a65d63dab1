use Rattle.fj_plain.specs.Terms.{entry}
use Rattle.fj_audit.proofs.Copied.{viewed_more}
use Rattle.fj_audit.proofs.copy.terms_copy.Goals as goal

pub loop-i-preserved : goal.loop-i-preserved
loop-i-preserved c = viewed_more entry _ _ c.get.result.now c.loop-i.i _ c.get.ensures c.loop-i.invariant c.in_ok-push.ensures.items
