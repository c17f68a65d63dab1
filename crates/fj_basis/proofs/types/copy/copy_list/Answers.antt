use Rattle.std.proofs.Common.{subst, sym}
use Rattle.fj_theory.specs.Polynomial.{IsPolynomial}
use Rattle.fj_basis.proofs.Copies.{copied, copied_all}
use Rattle.fj_basis.proofs.types.copy.copy_list.Goals as goal

pub loop-f-preserved : goal.loop-f-preserved
loop-f-preserved g c =
    let is = c.in_ok-copy.ensures.value in (
      copied _ _ _ c.args.list.now c.loop-f.f-index c.f-item.result c.loop-f-test.true c.f-item.is c.loop-f.invariant.0 is c.in_ok-push.ensures.items,
      copied_all (IsPolynomial g.K.Coeff.field) _ _ _ c.loop-f.invariant.1 (subst (IsPolynomial g.K.Coeff.field) (sym is) c.copy.ensures.polynomial) c.in_ok-push.ensures.items,
    )
