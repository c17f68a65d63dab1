use Rattle.fj_theory.specs.Polynomial.{product}
use Rattle.fj_basis.proofs.Gathered.{gathered_values}
use Rattle.fj_basis.proofs.cofactors.times_row.Goals as goal

pub loop-y-preserved : goal.loop-y-preserved
loop-y-preserved g c =
    gathered_values (product g.K.Coeff.field c.args.f.now) _ _ _ c.args.row.now c.loop-y.y-index c.y-item.result c.loop-y-test.true c.y-item.is c.loop-y.invariant c.in_ok-mul.ensures.value c.in_ok-push.ensures.items
