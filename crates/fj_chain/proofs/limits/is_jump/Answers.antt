use Rattle.std.proofs.Common.{inl, inr}
use Rattle.fj_plain.specs.declared.order_name.OrderName.TheVariants.{Grevlex}
use Rattle.fj_ideal.specs.Lists.{RunFor}
use Rattle.fj_ideal.proofs.Stops.{only_handed_on}
use Rattle.fj_testideal.proofs.Jump.{jump_differs, jump_from_difference}
use Rattle.fj_chain.specs.Lists.{IsHighInJump, IsHighInLeft, IsHighInTest, IsJumpList, IsLeftList, IsTestList}
use Rattle.fj_chain.proofs.TestIdeals.{not_same}
use Rattle.fj_chain.proofs.limits.is_jump.Goals as goal

pub returns-in_err-at-clause-stop : goal.returns-in_err-at-clause-stop
returns-in_err-at-clause-stop g c =
    let F = g.K.Coeff.field in
    let f = c.args.f.now in
    let t = c.args.t.now in
    only_handed_on F c.args.pairs (RunFor Grevlex (IsTestList F f t)) (RunFor Grevlex (IsJumpList F f t)) (IsHighInTest F f t) (IsHighInJump F f t)
    (λ o N e. (e.0, inl e.1)) (λ N e. inl e) c.in_err-at.field-0.0 c.from_residual.result c.from_residual.ensures.1 c.in_err-at.ensures.stop

pub returns-in_err-left-clause-stop : goal.returns-in_err-left-clause-stop
returns-in_err-left-clause-stop g c =
    let F = g.K.Coeff.field in
    let f = c.args.f.now in
    let t = c.args.t.now in
    only_handed_on F c.args.pairs (RunFor Grevlex (IsLeftList F f t)) (RunFor Grevlex (IsJumpList F f t)) (IsHighInLeft F f t) (IsHighInJump F f t)
    (λ o N e. (e.0, inr e.1)) (λ N e. inr e) c.in_err-left.field-0.0 c.from_residual-in_err-left.result c.from_residual-in_err-left.ensures.1 c.in_err-left.ensures.stop

pub returns-clause-value : goal.returns-clause-value
returns-clause-value g c =
    let L = g.met.K.Coeff.lawful in
    let A = c.is_zero.ensures.polynomial in
    not_same c.same.result c.same.ensures
    (jump_differs L A c.args.t.now c.requires.above_zero c.in_ok-left.ensures.value c.in_ok-at.ensures.value, jump_from_difference L A c.args.t.now c.requires.above_zero c.in_ok-left.ensures.value c.in_ok-at.ensures.value)
