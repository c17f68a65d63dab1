use Rattle.std.proofs.Common.{[], ◌∷◌, sym, subst}
use Rattle.fj_theory.specs.Exponents.{origin}
use Rattle.fj_theory.specs.Polynomial.{Polynomial, term}
use Rattle.fj_theory.proofs.IdealBridge.{ArePolynomials-single, IsPolynomial-one}
use Rattle.fj_plain.specs.declared.order_name.OrderName.TheVariants.{Grevlex}
use Rattle.fj_ideal.specs.Ideal.{WithBasis}
use Rattle.fj_ideal.specs.Lists.{RunFor}
use Rattle.fj_ideal.specs.Stop.{StopsOnlyWith}
use Rattle.fj_ideal.proofs.Stops.{only_handed_on}
use Rattle.fj_testideal.specs.Chain.{IsLimit}
use Rattle.fj_chain.specs.Lists.{ChainEndsWith, IsChainList, IsHighInChain}
use Rattle.fj_chain.proofs.ChainLists.{end_is_list, list_stop}
use Rattle.fj_chain.proofs.Chains.{chain_limit, falling_told, falling_told_few}
use Rattle.fj_chain.proofs.chain.falling.Goals as goal

pub returns-in_err-limit-clause-stop : goal.returns-in_err-limit-clause-stop
returns-in_err-limit-clause-stop g c =
    let F = g.K.Coeff.field in
    let f = c.args.f.now in
    let h = c.in_ok-unit.unit in
    let period = c.args.u.now.period in
    subst (λ (h : Polynomial). StopsOnlyWith F (RunFor Grevlex (IsChainList F f period h)) (IsHighInChain F f period h) c.args.pairs c.from_residual-in_err-limit.result) c.in_ok-unit.ensures
    (only_handed_on F c.args.pairs (RunFor Grevlex (IsChainList F f period h)) (RunFor Grevlex (IsChainList F f period h)) (IsHighInChain F f period h) (IsHighInChain F f period h) (λ o N e. e) (λ N e. e)
    c.in_err-limit.field-0.0 c.from_residual-in_err-limit.result c.from_residual-in_err-limit.ensures.1 c.in_err-limit.ensures.stop)

pub returns-in_err-ideal-clause-stop : goal.returns-in_err-ideal-clause-stop
returns-in_err-ideal-clause-stop g c =
    let F = g.K.Coeff.field in
    let f = c.args.f.now in
    let h = c.in_ok-unit.unit in
    let period = c.args.u.now.period in
    let N = c.in_ok-limit.limit.given in
    subst (λ (h : Polynomial). StopsOnlyWith F (RunFor Grevlex (IsChainList F f period h)) (IsHighInChain F f period h) c.args.pairs c.from_residual-in_err-ideal.result) c.in_ok-unit.ensures
    (list_stop F f period h c.args.pairs WithBasis N (end_is_list F f period h N c.in_ok-limit.ensures.chain.0)
    c.in_err-ideal.field-0.0 c.from_residual-in_err-ideal.result c.from_residual-in_err-ideal.ensures.1 c.in_err-ideal.ensures.stop)

pub returns-clause-limit : goal.returns-clause-limit
returns-clause-limit g c =
    let F = g.K.Coeff.field in
    let L = g.met.K.Coeff.lawful in
    let f = c.args.f.now in
    let period = c.args.u.now.period in
    let end = subst (λ (h : Polynomial). ChainEndsWith F f period (h ∷ []) c.in_ok-limit.limit.given) c.in_ok-unit.ensures c.in_ok-limit.ensures.chain.0 in
    subst (IsLimit F f period (term 1 origin ∷ [])) (sym c.in_ok-ideal.ensures.value.given) (chain_limit L c.in_ok-limit.ensures.polynomial period (ArePolynomials-single (IsPolynomial-one L)) end)

pub returns-clause-periods : goal.returns-clause-periods
returns-clause-periods g c =
    let end = c.in_ok-limit.ensures.chain in
    falling_told g.met.K.Coeff.lawful c.in_ok-limit.ensures.polynomial c.args.u.now.period c.in_ok-unit.ensures end.0 end.1

pub returns-clause-few : goal.returns-clause-few
returns-clause-few g c = λ d of_degree.
    let end = c.in_ok-limit.ensures.chain in
    falling_told_few g.met.K.Coeff.lawful c.in_ok-limit.ensures.polynomial c.args.u.now.period c.in_ok-unit.ensures of_degree c.in_ok-limit.ensures.below end.0 end.1

pub returns-clause-list : goal.returns-clause-list
returns-clause-list g c =
    let F = g.K.Coeff.field in
    let f = c.args.f.now in
    let period = c.args.u.now.period in
    subst (ChainEndsWith F f period (term 1 origin ∷ [])) (sym c.in_ok-ideal.ensures.value.given)
    (subst (λ (h : Polynomial). ChainEndsWith F f period (h ∷ []) c.in_ok-limit.limit.given) c.in_ok-unit.ensures c.in_ok-limit.ensures.chain.0)
