use Rattle.std.proofs.Common.{ℕ, List, inr, sym, subst}
use Rattle.std.proofs.lemmas.Result.{IfOk-weaker}
use Rattle.fj_plain.specs.declared.order_name.OrderName.TheVariants.{Grevlex}
use Rattle.fj_ideal.specs.Lists.{RunFor}
use Rattle.fj_ideal.specs.Stop.{StopsOnlyWith}
use Rattle.fj_ideal.proofs.Stops.{only_handed_on, run_only_as}
use Rattle.fj_chain.specs.Lists.{IsHighInStep, IsListOfStep, IsStepFor, LeadTo}
use Rattle.fj_chain.proofs.ChainLists.{last_of_digits}
use Rattle.fj_jump.specs.PeriodLimits.{IsHighFrom, IsListFrom}
use Rattle.fj_jump.proofs.period_limits.ideal_after.Goals as goal

pub returns-in_err-reached-clause-stop : goal.returns-in_err-reached-clause-stop
returns-in_err-reached-clause-stop g c =
    let F = g.K.Coeff.field in
    let f = c.args.f.now in
    let J = c.args.limit.now.given in
    let pre = c.pre.result.now in
    subst (λ (ds : List ℕ). StopsOnlyWith F (RunFor Grevlex (IsListFrom F f ds J)) (IsHighFrom F f ds J) c.args.pairs c.from_residual.result) c.pre.ensures.value
    (only_handed_on F c.args.pairs (RunFor Grevlex (IsListOfStep F f (IsStepFor F f pre J))) (RunFor Grevlex (IsListFrom F f pre J)) (IsHighInStep F f (IsStepFor F f pre J)) (IsHighFrom F f pre J)
    (λ o L e. (e.0, inr e.1)) (λ L e. e) c.in_err-reached.field-0.0 c.from_residual.result c.from_residual.ensures.1 c.in_err-reached.ensures.stop)

pub returns-clause-list : goal.returns-clause-list
returns-clause-list g c =
    let F = g.K.Coeff.field in
    let f = c.args.f.now in
    let J = c.args.limit.now.given in
    let lead = subst (λ (ds : List ℕ). LeadTo F f ds J c.in_ok-reached.reached.given) c.pre.ensures.value c.in_ok-reached.ensures.list in
    IfOk-weaker c.with_cofactors.result _ _ (λ M S. subst (LeadTo F f c.args.digits.now.pre J) (sym S.given) lead) c.with_cofactors.ensures.value

pub returns-clause-ideal : goal.returns-clause-ideal
returns-clause-ideal g c = IfOk-weaker c.with_cofactors.result _ _ (λ M S. S.ideal) c.with_cofactors.ensures.value

pub returns-clause-stop : goal.returns-clause-stop
returns-clause-stop g c =
    let F = g.K.Coeff.field in
    let f = c.args.f.now in
    let J = c.args.limit.now.given in
    let pre = c.args.digits.now.pre in
    let N = c.in_ok-reached.reached.given in
    let lead = subst (λ (ds : List ℕ). LeadTo F f ds J N) c.pre.ensures.value c.in_ok-reached.ensures.list in
    run_only_as F c.args.pairs Grevlex N (IsListFrom F f pre J) (IsHighFrom F f pre J) (last_of_digits F f pre J N lead) c.with_cofactors.result c.with_cofactors.ensures.stop
