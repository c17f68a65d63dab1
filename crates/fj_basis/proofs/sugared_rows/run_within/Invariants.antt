use Rattle.fj_basis.specs.SugaredRun.{IsSugaredRun}
use Rattle.fj_basis.proofs.sugared_rows.run_within.Given as goal

-- the run so far
abbrev pub invariant-loop : goal.invariant-loop
invariant-loop g l = IsSugaredRun g.K.Coeff.field g.O.Order.key l.list l.run
