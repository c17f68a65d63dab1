use Rattle.std.proofs.Common.{◌≡◌}
use Rattle.fj_basis.proofs.Starting.{IsStarted}
use Rattle.fj_basis.proofs.run.Run.start.Given as goal

-- those so far are read
abbrev pub invariant-loop-j : goal.invariant-loop-j
invariant-loop-j g l = record {
  started : IsStarted g.K.Coeff.field g.O.Order.key l.list l.j l.run;
  kept : l.run.history.is_kept ≡ l.is_recorded;
}
