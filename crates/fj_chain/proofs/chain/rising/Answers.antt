use Rattle.std.proofs.Common.{[], ◌∷◌, sym, subst, arith}
use Rattle.fj_theory.proofs.IdealBridge.{ArePolynomials-single}
use Rattle.fj_plain.specs.declared.order_name.OrderName.TheVariants.{Grevlex}
use Rattle.fj_ideal.specs.Ideal.{WithBasis}
use Rattle.fj_ideal.specs.Lists.{RunFor}
use Rattle.fj_ideal.proofs.Stops.{only_handed_on}
use Rattle.fj_testideal.specs.Chain.{IsLimit, IsNumberOfRisingPeriods}
use Rattle.fj_chain.specs.Lists.{ChainEndsWith, IsChainList, IsHighInChain}
use Rattle.fj_chain.proofs.ChainLists.{end_is_list, list_stop}
use Rattle.fj_chain.proofs.Chains.{chain_limit, rising_few, rising_number}
use Rattle.fj_chain.proofs.chain.rising.Goals as goal

pub returns-in_err-limit-clause-stop : goal.returns-in_err-limit-clause-stop
returns-in_err-limit-clause-stop g c =
    let F = g.K.Coeff.field in
    let f = c.args.f.now in
    let period = c.args.u.now.period in
    only_handed_on F c.args.pairs (RunFor Grevlex (IsChainList F f period f)) (RunFor Grevlex (IsChainList F f period f)) (IsHighInChain F f period f) (IsHighInChain F f period f) (λ o N e. e) (λ N e. e)
    c.in_err-limit.field-0.0 c.from_residual.result c.from_residual.ensures.1 c.in_err-limit.ensures.stop

pub returns-in_err-ideal-clause-stop : goal.returns-in_err-ideal-clause-stop
returns-in_err-ideal-clause-stop g c =
    let F = g.K.Coeff.field in
    let f = c.args.f.now in
    let period = c.args.u.now.period in
    let N = c.in_ok-limit.limit.given in
    list_stop F f period f c.args.pairs WithBasis N (end_is_list F f period f N c.in_ok-limit.ensures.chain.0)
    c.in_err-ideal.field-0.0 c.from_residual-in_err-ideal.result c.from_residual-in_err-ideal.ensures.1 c.in_err-ideal.ensures.stop

pub returns-clause-limit : goal.returns-clause-limit
returns-clause-limit g c =
    let P = c.in_ok-limit.ensures.polynomial in
    let period = c.args.u.now.period in
    subst (IsLimit g.K.Coeff.field c.args.f.now period (c.args.f.now ∷ [])) (sym c.in_ok-ideal.ensures.value.given) (chain_limit g.met.K.Coeff.lawful P period (ArePolynomials-single P) c.in_ok-limit.ensures.chain.0)

pub returns-clause-periods : goal.returns-clause-periods
returns-clause-periods g c =
    let end = c.in_ok-limit.ensures.chain in
    let period = c.args.u.now.period in
    subst (IsNumberOfRisingPeriods g.K.Coeff.field c.args.f.now period) (sym end.1) (rising_number g.met.K.Coeff.lawful c.in_ok-limit.ensures.polynomial period end.0)

pub returns-clause-few : goal.returns-clause-few
returns-clause-few g c = λ d of_degree.
    let end = c.in_ok-limit.ensures.chain in
    let few = rising_few g.met.K.Coeff.lawful c.in_ok-limit.ensures.polynomial c.args.u.now.period of_degree c.in_ok-limit.ensures.below end.0.periods end.0.start end.0.before in
    let number = end.1 in
    omega (arith, few, number)

pub returns-clause-list : goal.returns-clause-list
returns-clause-list g c = subst (ChainEndsWith g.K.Coeff.field c.args.f.now c.args.u.now.period (c.args.f.now ∷ [])) (sym c.in_ok-ideal.ensures.value.given) c.in_ok-limit.ensures.chain.0
