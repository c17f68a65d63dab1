use Rattle.std.proofs.Common.{sym, subst}
use Rattle.std.proofs.lemmas.Result.{IfOk-weaker}
use Rattle.fj_plain.specs.declared.order_name.OrderName.TheVariants.{Grevlex}
use Rattle.fj_ideal.specs.Lists.{RunFor}
use Rattle.fj_ideal.proofs.Stops.{only_handed_on, run_only_as}
use Rattle.fj_testideal.specs.TestIdeal.{IsTestIdeal}
use Rattle.fj_chain.specs.Lists.{IsHighInTest, IsLastTestList, IsTestList}
use Rattle.fj_chain.proofs.LastLists.{last_test_is_list}
use Rattle.fj_chain.proofs.limits.test_ideal.Goals as goal

pub returns-in_err-reduced-clause-stop : goal.returns-in_err-reduced-clause-stop
returns-in_err-reduced-clause-stop g c =
    let F = g.K.Coeff.field in
    let f = c.args.f.now in
    let t = c.args.t.now in
    only_handed_on F c.args.pairs (RunFor Grevlex (IsTestList F f t)) (RunFor Grevlex (IsTestList F f t)) (IsHighInTest F f t) (IsHighInTest F f t) (λ o N e. e) (λ N e. e)
    c.in_err-reduced.field-0.0 c.from_residual.result c.from_residual.ensures.1 c.in_err-reduced.ensures.stop

pub returns-clause-value : goal.returns-clause-value
returns-clause-value g c =
    IfOk-weaker c.with_cofactors.result _ _ (λ J S. subst (IsTestIdeal g.K.Coeff.field c.args.f.now c.args.t.now) (sym S.given) c.in_ok-reduced.ensures.value) c.with_cofactors.ensures.value

pub returns-clause-list : goal.returns-clause-list
returns-clause-list g c =
    IfOk-weaker c.with_cofactors.result _ _ (λ J S. subst (IsLastTestList g.K.Coeff.field c.args.f.now c.args.t.now) (sym S.given) c.in_ok-reduced.ensures.list) c.with_cofactors.ensures.value

pub returns-clause-ideal : goal.returns-clause-ideal
returns-clause-ideal g c = IfOk-weaker c.with_cofactors.result _ _ (λ J S. S.ideal) c.with_cofactors.ensures.value

pub returns-clause-stop : goal.returns-clause-stop
returns-clause-stop g c =
    let F = g.K.Coeff.field in
    let f = c.args.f.now in
    let t = c.args.t.now in
    run_only_as F c.args.pairs Grevlex c.in_ok-reduced.reduced.given (IsTestList F f t) (IsHighInTest F f t) (last_test_is_list F f t c.in_ok-reduced.reduced.given c.in_ok-reduced.ensures.list) c.with_cofactors.result c.with_cofactors.ensures.stop
