use Rattle.std.proofs.Common.{◌≡◌, ◌^◌, List, IfOk, inl, inr, subst, refl}
use Rattle.fj_theory.specs.FrobeniusPower.{frobenius_power}
use Rattle.fj_theory.specs.Ideal.{SameIdeal}
use Rattle.fj_theory.specs.Polynomial.{Polynomial}
use Rattle.fj_ideal.specs.Ideal.{IsIdealOf}
use Rattle.fj_ideal.proofs.Lists.{of_members}
use Rattle.fj_frobenius.specs.Lists.{IsHighMember, IsPowerList}
use Rattle.fj_session.specs.Ideals.{IsHighOfPower, IsLastOfPower, IsListOfPower}
use Rattle.fj_session.specs.Outcome.{IsIdealFor}
use Rattle.fj_session.proofs.Made.{both_ok, same_for}
use Rattle.fj_session.specs.Names.{standing_in}
use Rattle.fj_session.proofs.Standings.{there}
use Rattle.fj_session.proofs.OwnStops.{own_handed_on, own_of_exactly}
use Rattle.fj_session.proofs.ideals.power.Goals as goal

pub returns-in_err-ideal-clause-stop : goal.returns-in_err-ideal-clause-stop
returns-in_err-ideal-clause-stop g c =
    let F = g.K.Coeff.field in
    let q = F.characteristic ^ c.args.e in
    let J = standing_in c.args.names.now c.args.j in
    own_handed_on F c.args.budget (IsListOfPower F q J) (IsHighOfPower F q J.list) J (λ M d. inl d) c.in_err-ideal.field-0.0 c.from_residual.result c.from_residual.ensures.1 c.in_err-ideal.ensures.stop

pub returns-clause-ideal : goal.returns-clause-ideal
returns-clause-ideal g c =
    let F = g.K.Coeff.field in
    let q = F.characteristic ^ c.args.e in
    let M = frobenius_power F q (standing_in c.args.names.now c.args.j).list in
    let G = frobenius_power F q c.ideal.result.now.members in
    let J = standing_in c.args.names.now c.args.j in
    both_ok (λ I. SameIdeal F M I.given) (IsIdealOf F G) (IsIdealFor F (λ N. N ≡ M) (IsLastOfPower F q J.list)) c.frobenius_power.result
    (λ I same is. same_for M (IsLastOfPower F q J.list) same is.ideal (of_members (there c.in_ok-ideal.ideal c.ideal.ensures c.in_ok-ideal.ensures.ideal) (λ A. I.given ≡ frobenius_power F q A) is.given))
    (subst (λ (L : List Polynomial). IfOk c.frobenius_power.result (λ I. SameIdeal F (frobenius_power F q L) I.given)) (there c.in_ok-ideal.ideal c.ideal.ensures c.in_ok-ideal.ensures.ideal).given c.frobenius_power.ensures.ideal) c.frobenius_power.ensures.value

pub returns-clause-stop : goal.returns-clause-stop
returns-clause-stop g c =
    let F = g.K.Coeff.field in
    let q = F.characteristic ^ c.args.e in
    let J = standing_in c.args.names.now c.args.j in
    let G = c.ideal.result.now.members in
    own_of_exactly F c.args.budget (IsListOfPower F q J) (IsHighOfPower F q J.list) (IsPowerList F q G) (IsHighMember F q G)
    (λ M e. inr (of_members (there c.in_ok-ideal.ideal c.ideal.ensures c.in_ok-ideal.ensures.ideal) (λ A. IsPowerList F q A M) e)) (λ M e. of_members (there c.in_ok-ideal.ideal c.ideal.ensures c.in_ok-ideal.ensures.ideal) (λ A. IsHighMember F q A M) e)
    c.frobenius_power.result c.frobenius_power.ensures.stop
