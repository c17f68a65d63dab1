use Rattle.std.proofs.Common.{◌≡◌, ◌∙◌, ◌^◌, List, IfOk, sym, ap, subst}
use Rattle.std.proofs.lemmas.Result.{IfOk-weaker}
use Rattle.fj_theory.specs.FrobeniusPower.{frobenius_power}
use Rattle.fj_theory.specs.Ideal.{SameIdeal}
use Rattle.fj_theory.specs.Polynomial.{Polynomial}
use Rattle.fj_plain.specs.declared.order_name.OrderName.TheVariants.{Grevlex}
use Rattle.fj_ideal.specs.Reduced.{IsReducedOf}
use Rattle.fj_ideal.specs.Lists.{AreLow, RunFor}
use Rattle.fj_ideal.specs.Stop.{StopsExactlyWith}
use Rattle.fj_ideal.proofs.Stops.{refused_exactly, run_as}
use Rattle.fj_frobenius.specs.Lists.{IsHighMember, IsPowerList}
use Rattle.fj_frobenius.proofs.Operations.{low_members, power_of_members}
use Rattle.fj_frobenius.proofs.power.reduced_frobenius_power.Goals as goal

pub returns-in_err-list-clause-stop : goal.returns-in_err-list-clause-stop
returns-in_err-list-clause-stop g c =
    let F = g.K.Coeff.field in
    let q = F.characteristic ^ c.args.e in
    let Stops : List Polynomial → Type 0 = λ G. StopsExactlyWith F (RunFor Grevlex (IsPowerList F q G)) (IsHighMember F q G) c.args.pairs c.from_residual.result in
    subst Stops c.members.ensures.value
    (refused_exactly F c.args.pairs (RunFor Grevlex (IsPowerList F q c.members.result.now)) (IsHighMember F q c.members.result.now) (IsHighMember F q c.members.result.now) (λ M e. e)
    c.in_err-list.field-0.0 c.from_residual.result c.from_residual.ensures.1 c.in_err-list.ensures.stop)

pub returns-clause-value : goal.returns-clause-value
returns-clause-value g c =
    let F = g.K.Coeff.field in
    let q = F.characteristic ^ c.args.e in
    let list_is : c.in_ok-list.list.items ≡ frobenius_power F q c.args.ideal.now.members = c.in_ok-list.ensures.value ∙ ap (frobenius_power F q) c.members.ensures.value in
    subst (λ (M : List Polynomial). IfOk c.of_owned.result (IsReducedOf F M)) list_is c.of_owned.ensures.value

pub returns-clause-ideal : goal.returns-clause-ideal
returns-clause-ideal g c =
    let F = g.K.Coeff.field in
    let q = F.characteristic ^ c.args.e in
    let list_is : c.in_ok-list.list.items ≡ frobenius_power F q c.args.ideal.now.members = c.in_ok-list.ensures.value ∙ ap (frobenius_power F q) c.members.ensures.value in
    IfOk-weaker c.of_owned.result _ _
    (λ J S. subst (SameIdeal F (frobenius_power F q c.args.ideal.now.given)) (sym (S.given ∙ list_is)) (power_of_members g.met.K.Coeff.lawful c.args.e c.members.ensures.ideal))
    c.of_owned.ensures.value

pub returns-clause-stop : goal.returns-clause-stop
returns-clause-stop g c =
    let F = g.K.Coeff.field in
    let q = F.characteristic ^ c.args.e in
    let G = c.args.ideal.now.members in
    let L = c.in_ok-list.list.items in
    let list_is : L ≡ frobenius_power F q G = c.in_ok-list.ensures.value ∙ ap (frobenius_power F q) c.members.ensures.value in
    run_as F c.args.pairs Grevlex L (IsPowerList F q G) (IsHighMember F q G) (record { is = list_is; low = c.in_ok-list.ensures.low }) (λ M e. e.is ∙ sym list_is) (low_members F q G (subst AreLow list_is c.in_ok-list.ensures.low)) c.of_owned.result c.of_owned.ensures.stop
