use Rattle.fj_basis.specs.SugaredRun.{IsSugaredRun}
use Rattle.fj_basis.proofs.sugared_run.SugaredRun.start.Given as goal

-- those so far are read
abbrev pub invariant-loop-j : goal.invariant-loop-j
invariant-loop-j g l = IsSugaredRun g.K.Coeff.field g.O.Order.key l.list l.run
