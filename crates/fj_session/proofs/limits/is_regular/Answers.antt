use Rattle.std.proofs.Common.{subst}
use Rattle.fj_theory.specs.Polynomial.{Polynomial}
use Rattle.fj_testideal.specs.TestIdeal.{IsTestIdeal}
use Rattle.fj_session.proofs.Verdicts.{decided, regular_by_unit}
use Rattle.fj_session.proofs.limits.is_regular.Goals as goal

pub returns-clause-verdict : goal.returns-clause-verdict
returns-clause-verdict g c =
    let F = g.K.Coeff.field in
    let is = subst (λ (h : Polynomial). IsTestIdeal F h c.args.t.now c.in_ok-ideal.ideal.given) c.in_ok-polynomial.ensures.value c.in_ok-ideal.ensures.value in
    let regular = regular_by_unit g.met.K.Coeff.lawful is in
    let unit = c.is_unit.ensures in
    decided c.is_unit.result ((λ b. regular.0 (unit.0 b)), (λ r. unit.1 (regular.1 r)))
