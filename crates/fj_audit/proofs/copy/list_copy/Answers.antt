use Rattle.fj_audit.proofs.Copied.{copied_more}
use Rattle.fj_audit.proofs.copy.list_copy.Goals as goal

pub loop-i-preserved : goal.loop-i-preserved
loop-i-preserved c = copied_more _ _ _ _ c.loop-i.i _ c.get.ensures c.loop-i.invariant c.in_ok-poly_copy.ensures c.in_ok-push.ensures.items
