use Rattle.std.proofs.Common.{◌≡◌, ◌^◌, List, sym, subst}
use Rattle.std.proofs.lemmas.Result.{IfOk-weaker}
use Rattle.fj_theory.specs.Ideal.{multiples}
use Rattle.fj_theory.specs.Polynomial.{Polynomial, power}
use Rattle.fj_theory.specs.Root.{IsRoot}
use Rattle.fj_theory.proofs.PolynomialRing.{IsPolynomial-power}
use Rattle.fj_plain.specs.declared.order_name.OrderName.TheVariants.{Grevlex}
use Rattle.fj_ideal.specs.Lists.{RunFor}
use Rattle.fj_ideal.specs.Stop.{StopsOnlyWith}
use Rattle.fj_ideal.proofs.Stops.{refused_only, only_as}
use Rattle.fj_frobenius.specs.Lists.{IsHighMultiple, IsStepList}
use Rattle.fj_frobenius.proofs.Operations.{root_of_basis_multiples}
use Rattle.fj_frobenius.proofs.root.reduced_root_of_multiples.Goals as goal

pub returns-in_err-list-clause-stop : goal.returns-in_err-list-clause-stop
returns-in_err-list-clause-stop g c =
    let F = g.K.Coeff.field in
    let f = c.args.f.now in
    let d = c.args.d in
    let Stops : List Polynomial → Type 0 = λ G. StopsOnlyWith F (RunFor Grevlex (IsStepList F d f G)) (IsHighMultiple F d f G) c.args.pairs c.from_residual.result in
    subst Stops c.members-members.ensures.value
    (refused_only F c.args.pairs (RunFor Grevlex (IsStepList F d f c.members-members.result.now)) (IsHighMultiple F d f c.members-members.result.now) (IsHighMultiple F d f c.members-members.result.now) (λ M e. e)
    c.in_err-list.field-0.0 c.from_residual.result c.from_residual.ensures.1 c.in_err-list.ensures.stop)

pub returns-clause-list : goal.returns-clause-list
returns-clause-list g c =
    let F = g.K.Coeff.field in
    IfOk-weaker c.by_thinning.result _ _
    (λ J S. subst (IsStepList F c.args.d c.args.f.now c.args.ideal.now.members) (sym S.given) (subst (λ (G : List Polynomial). IsStepList F c.args.d c.args.f.now G c.in_ok-list.list.items) c.members-members.ensures.value c.in_ok-list.ensures.list))
    c.by_thinning.ensures.value

pub returns-clause-ideal : goal.returns-clause-ideal
returns-clause-ideal g c = IfOk-weaker c.by_thinning.result _ _ (λ J S. S.ideal) c.by_thinning.ensures.value

pub returns-clause-root : goal.returns-clause-root
returns-clause-root g c =
    let F = g.K.Coeff.field in
    let h = power F c.args.f.now c.args.d in
    let lawful = g.met.K.Coeff.lawful in
    IfOk-weaker c.by_thinning.result _ _
    (λ J S. subst (IsRoot F (F.characteristic ^ 1) (multiples F h c.args.ideal.now.given)) (sym S.given)
    (root_of_basis_multiples lawful 1 c.members-members.ensures.ideal.polynomials c.members-members.ensures.ideal.reduced (IsPolynomial-power lawful c.is_zero.ensures.polynomial c.args.d)
    (subst (λ (G : List Polynomial). IsRoot F (F.characteristic ^ 1) (multiples F h G) c.in_ok-list.list.items) c.members-members.ensures.value c.in_ok-list.ensures.root)))
    c.by_thinning.ensures.value

pub returns-clause-stop : goal.returns-clause-stop
returns-clause-stop g c =
    let F = g.K.Coeff.field in
    let f = c.args.f.now in
    let d = c.args.d in
    let L = c.in_ok-list.list.items in
    only_as F c.args.pairs Grevlex L (IsStepList F d f c.args.ideal.now.members) (IsHighMultiple F d f c.args.ideal.now.members) (subst (λ (G : List Polynomial). IsStepList F d f G L) c.members-members.ensures.value c.in_ok-list.ensures.list) c.by_thinning.result c.by_thinning.ensures.stop
