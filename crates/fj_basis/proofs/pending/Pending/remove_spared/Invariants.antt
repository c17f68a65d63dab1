use Rattle.std.proofs.Common.{length}
use Rattle.fj_groebner.specs.Run as definition
use Rattle.fj_basis.specs.State.{IsPendingOf}
use Rattle.fj_basis.proofs.Sparing.{AreRemovedTo}
use Rattle.fj_basis.proofs.pending.Pending.remove_spared.Given as goal

abbrev pub invariant-loop-self : goal.invariant-loop-self
invariant-loop-self g l = (s : definition.Run) → IsPendingOf g.O.Order.key s l.fn.self → AreRemovedTo g.O.Order.key s l.self

abbrev pub decreases-loop-self : goal.decreases-loop-self
decreases-loop-self g l = length l.self.pairs
