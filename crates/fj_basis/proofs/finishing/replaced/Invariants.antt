use Rattle.std.specs.Vec.Iter.{into_iter_items}
use Rattle.fj_basis.proofs.ReplacingSteps.{IsReplaced, AreRecorded}
use Rattle.fj_basis.proofs.finishing.replaced.Given as goal

-- those so far are replaced
abbrev pub invariant-loop-member : goal.invariant-loop-member
invariant-loop-member g l = record {
  replaced : IsReplaced g.K.Coeff.field g.O.Order.key l.fn.members.items l.replaced.items (into_iter_items l.member-iterator);
  recorded : AreRecorded g.K.Coeff.field l.fn.members.items l.replaced.items l.from l.fn.history l.history;
}
