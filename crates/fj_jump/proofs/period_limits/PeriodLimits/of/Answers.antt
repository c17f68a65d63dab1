use Rattle.std.proofs.Common.{[], ◌∷◌, inl, inr, subst}
use Rattle.fj_theory.specs.Polynomial.{Polynomial}
use Rattle.fj_plain.specs.declared.order_name.OrderName.TheVariants.{Grevlex}
use Rattle.fj_ideal.specs.Lists.{RunFor}
use Rattle.fj_ideal.proofs.Stops.{only_handed_on}
use Rattle.fj_chain.specs.Lists.{ChainEndsWith, IsChainList, IsHighInChain}
use Rattle.fj_jump.specs.PeriodLimits.{IsHighInChains, IsListOfChains}
use Rattle.fj_jump.proofs.period_limits.PeriodLimits.of.Goals as goal

pub returns-in_err-rising-clause-stop : goal.returns-in_err-rising-clause-stop
returns-in_err-rising-clause-stop g c =
    let F = g.K.Coeff.field in
    let f = c.args.f.now in
    let period = c.args.digits.now.period in
    only_handed_on F c.args.pairs (RunFor Grevlex (IsChainList F f period f)) (RunFor Grevlex (IsListOfChains F f period)) (IsHighInChain F f period f) (IsHighInChains F f period)
    (λ o L e. (e.0, inl e.1)) (λ L e. inl e) c.in_err-rising.field-0.0 c.from_residual-in_err-rising.result c.from_residual-in_err-rising.ensures.1 c.in_err-rising.ensures.stop

pub returns-in_err-falling-clause-stop : goal.returns-in_err-falling-clause-stop
returns-in_err-falling-clause-stop g c =
    let F = g.K.Coeff.field in
    let f = c.args.f.now in
    let h = c.in_ok-unit.unit in
    let period = c.args.digits.now.period in
    only_handed_on F c.args.pairs (RunFor Grevlex (IsChainList F f period h)) (RunFor Grevlex (IsListOfChains F f period)) (IsHighInChain F f period h) (IsHighInChains F f period)
    (λ o L e. (e.0, inr (subst (λ (one : Polynomial). IsChainList F f period one L) c.in_ok-unit.ensures e.1)))
    (λ L e. inr (subst (λ (one : Polynomial). IsHighInChain F f period one L) c.in_ok-unit.ensures e))
    c.in_err-falling.field-0.0 c.from_residual-in_err-falling.result c.from_residual-in_err-falling.ensures.1 c.in_err-falling.ensures.stop

pub returns-clause-limits : goal.returns-clause-limits
returns-clause-limits g c =
    let F = g.K.Coeff.field in
    let f = c.args.f.now in
    let period = c.args.digits.now.period in
    record {
      rising = c.in_ok-rising.ensures.chain.0;
      falling = subst (λ (one : Polynomial). ChainEndsWith F f period (one ∷ []) c.in_ok-falling.falling.given) c.in_ok-unit.ensures c.in_ok-falling.ensures.chain.0;
    }
