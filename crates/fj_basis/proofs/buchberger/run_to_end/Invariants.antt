use Rattle.std.proofs.Common.{◌≡◌, ◌≤◌, ◌-◌}
use Rattle.fj_basis.specs.State.{IsAfter}
use Rattle.fj_basis.proofs.buchberger.run_to_end.Given as goal

-- the turns so far
abbrev pub invariant-loop-alloc : goal.invariant-loop-alloc
invariant-loop-alloc g l = record {
  within : l.made ≤ l.pairs;
  after : IsAfter g.K.Coeff.field g.O.Order.key l.list l.made l.run;
  kept : l.run.history.is_kept ≡ l.is_recorded;
}

abbrev pub decreases-loop-alloc : goal.decreases-loop-alloc
decreases-loop-alloc g l = l.pairs - l.made
