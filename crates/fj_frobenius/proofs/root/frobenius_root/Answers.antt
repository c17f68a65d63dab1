use Rattle.std.proofs.Common.{◌≡◌, ◌^◌, List, sym, subst}
use Rattle.std.proofs.lemmas.Result.{IfOk-weaker}
use Rattle.fj_theory.specs.Polynomial.{Polynomial}
use Rattle.fj_theory.specs.Root.{IsRoot}
use Rattle.fj_plain.specs.declared.order_name.OrderName.TheVariants.{Grevlex}
use Rattle.fj_ideal.specs.Lists.{NoProduct}
use Rattle.fj_ideal.proofs.Stops.{run_only_as}
use Rattle.fj_frobenius.specs.Lists.{IsRootList}
use Rattle.fj_frobenius.proofs.Operations.{root_of_members}
use Rattle.fj_frobenius.proofs.root.frobenius_root.Goals as goal

pub returns-clause-list : goal.returns-clause-list
returns-clause-list g c =
    let F = g.K.Coeff.field in
    let q = F.characteristic ^ c.args.e in
    IfOk-weaker c.of_owned.result _ _
    (λ J S. subst (IsRootList F q c.args.ideal.now.members) (sym S.given) (subst (λ (G : List Polynomial). IsRootList F q G c.in_ok-list.list.items) c.members.ensures.value c.in_ok-list.ensures.parts))
    c.of_owned.ensures.value

pub returns-clause-ideal : goal.returns-clause-ideal
returns-clause-ideal g c = IfOk-weaker c.of_owned.result _ _ (λ J S. S.ideal) c.of_owned.ensures.value

pub returns-clause-root : goal.returns-clause-root
returns-clause-root g c =
    let F = g.K.Coeff.field in
    let q = F.characteristic ^ c.args.e in
    IfOk-weaker c.of_owned.result _ _
    (λ J S. subst (IsRoot F q c.args.ideal.now.given) (sym S.given)
    (root_of_members g.met.K.Coeff.lawful c.args.e c.members.ensures.ideal (subst (λ (G : List Polynomial). IsRoot F q G c.in_ok-list.list.items) c.members.ensures.value c.in_ok-list.ensures.root)))
    c.of_owned.ensures.value

pub returns-clause-stop : goal.returns-clause-stop
returns-clause-stop g c =
    let F = g.K.Coeff.field in
    let q = F.characteristic ^ c.args.e in
    let L = c.in_ok-list.list.items in
    run_only_as F c.args.pairs Grevlex L (IsRootList F q c.args.ideal.now.members) NoProduct (subst (λ (G : List Polynomial). IsRootList F q G L) c.members.ensures.value c.in_ok-list.ensures.parts) c.of_owned.result c.of_owned.ensures.stop
