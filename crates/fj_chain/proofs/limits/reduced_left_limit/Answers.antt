use Rattle.std.proofs.Common.{subst}
use Rattle.std.proofs.lemmas.Result.{IfOk-weaker}
use Rattle.fj_plain.specs.declared.order_name.OrderName.TheVariants.{Grevlex}
use Rattle.fj_ideal.specs.Lists.{RunFor}
use Rattle.fj_ideal.specs.Stop.{StopsOnlyWith}
use Rattle.fj_chain.specs.Lists.{IsHighInLimit, IsLastLimitList, IsLimitList}
use Rattle.fj_chain.proofs.TestIdeals.{left_from_last}
use Rattle.fj_chain.proofs.limits.reduced_left_limit.Goals as goal

pub returns-clause-value : goal.returns-clause-value
returns-clause-value g c =
    let F = g.K.Coeff.field in
    IfOk-weaker c.limit_from.result _ _
    (λ J last. left_from_last g.met.K.Coeff.lawful c.is_zero.ensures.polynomial c.args.t.now J.given (subst (λ h. IsLastLimitList F c.args.f.now c.args.t.now h J.given) c.in_ok-unit.ensures last)) c.limit_from.ensures.list

pub returns-clause-stop : goal.returns-clause-stop
returns-clause-stop g c =
    let F = g.K.Coeff.field in
    let f = c.args.f.now in
    let t = c.args.t.now in
    subst (λ h. StopsOnlyWith F (RunFor Grevlex (IsLimitList F f t h)) (IsHighInLimit F f t h) c.args.pairs c.limit_from.result) c.in_ok-unit.ensures c.limit_from.ensures.stop
