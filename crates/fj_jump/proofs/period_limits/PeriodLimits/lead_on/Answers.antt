use Rattle.std.proofs.Common.{inl, inr}
use Rattle.fj_plain.specs.declared.order_name.OrderName.TheVariants.{Grevlex}
use Rattle.fj_ideal.specs.Lists.{RunFor}
use Rattle.fj_ideal.proofs.Stops.{only_handed_on}
use Rattle.fj_jump.specs.PeriodLimits.{IsHighFrom, IsHighFromBoth, IsListFrom, IsListFromBoth}
use Rattle.fj_jump.proofs.period_limits.PeriodLimits.lead_on.Goals as goal

pub returns-in_err-at-clause-stop : goal.returns-in_err-at-clause-stop
returns-in_err-at-clause-stop g c =
    let F = g.K.Coeff.field in
    let f = c.args.f.now in
    let pre = c.args.digits.now.pre in
    let J = c.args.self.now.rising.given in
    let N = c.args.self.now.falling.given in
    only_handed_on F c.args.pairs (RunFor Grevlex (IsListFrom F f pre J)) (RunFor Grevlex (IsListFromBoth F f pre J N)) (IsHighFrom F f pre J) (IsHighFromBoth F f pre J N)
    (λ o L e. (e.0, inl e.1)) (λ L e. inl e) c.in_err-at.field-0.0 c.from_residual.result c.from_residual.ensures.1 c.in_err-at.ensures.stop

pub returns-in_err-left-clause-stop : goal.returns-in_err-left-clause-stop
returns-in_err-left-clause-stop g c =
    let F = g.K.Coeff.field in
    let f = c.args.f.now in
    let pre = c.args.digits.now.pre in
    let J = c.args.self.now.rising.given in
    let N = c.args.self.now.falling.given in
    only_handed_on F c.args.pairs (RunFor Grevlex (IsListFrom F f pre N)) (RunFor Grevlex (IsListFromBoth F f pre J N)) (IsHighFrom F f pre N) (IsHighFromBoth F f pre J N)
    (λ o L e. (e.0, inr e.1)) (λ L e. inr e) c.in_err-left.field-0.0 c.from_residual-in_err-left.result c.from_residual-in_err-left.ensures.1 c.in_err-left.ensures.stop
