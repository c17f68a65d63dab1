use Rattle.std.proofs.Common.{◌∙◌}
use Rattle.std.proofs.lemmas.List.{take_all}
use Rattle.fj_basis.proofs.Copies.{copied}
use Rattle.fj_session.proofs.shown.reordered.Goals as goal

pub loop-g-preserved : goal.loop-g-preserved
loop-g-preserved g c = copied _ _ _ c.args.list.now c.loop-g.g-index c.g-item.result c.loop-g-test.true c.g-item.is c.loop-g.invariant c.in_ok-reorder.ensures.value c.in_ok-push.ensures.items

pub returns : goal.returns
returns g c = c.loop-g.invariant ∙ take_all c.loop-g.g-index c.args.list.now c.loop-g-test.false
