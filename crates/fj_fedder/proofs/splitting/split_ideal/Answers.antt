use Rattle.std.proofs.Common.{◌≡◌, ◌^◌, List, inl, inr, sym, subst}
use Rattle.std.proofs.lemmas.Result.{IfOk-weaker}
use Rattle.fj_theory.specs.Polynomial.{Polynomial}
use Rattle.fj_theory.specs.Root.{IsRoot}
use Rattle.fj_plain.specs.declared.order_name.OrderName.TheVariants.{Grevlex}
use Rattle.fj_ideal.specs.Lists.{NoProduct, RunFor}
use Rattle.fj_ideal.proofs.Stops.{only_from_exactly, only_handed_on, only_of_more}
use Rattle.fj_frobenius.specs.Lists.{IsRootList}
use Rattle.fj_elim.proofs.Quotients.{members-lack}
use Rattle.fj_fedder.specs.Fedder.{IsSplitIdeal}
use Rattle.fj_fedder.specs.Lists.{IsHighInSplit, IsListForColon, IsSplitGiven, IsSplitList}
use Rattle.fj_fedder.proofs.Splits.{parts-lack}
use Rattle.fj_fedder.proofs.splitting.split_ideal.Goals as goal

pub returns-in_err-colon-clause-stop : goal.returns-in_err-colon-clause-stop
returns-in_err-colon-clause-stop g c =
    let F = g.K.Coeff.field in
    let G = c.args.i.now.members in
    only_handed_on F c.args.pairs (IsListForColon F G) (IsSplitList F G) (IsHighInSplit F G) (IsHighInSplit F G) (λ o N e. inl e) (λ N e. e)
    c.in_err-colon.field-0.0 c.from_residual.result c.from_residual.ensures.1 c.in_err-colon.ensures.stop

pub returns-clause-split : goal.returns-clause-split
returns-clause-split g c =
    let F = g.K.Coeff.field in
    let root = subst (λ (G : List Polynomial). IsRoot F (F.characteristic ^ 1) G c.in_ok-parts.parts.items) c.deref.ensures.value c.in_ok-parts.ensures.root in
    let split : IsSplitIdeal F c.args.i.now.given c.in_ok-parts.parts.items = record { colon = c.in_ok-colon.colon.items; is_colon = c.in_ok-colon.ensures.colon; root = root } in
    IfOk-weaker c.of_owned.result _ _ (λ J S. subst (IsSplitIdeal F c.args.i.now.given) (sym S.given) split) c.of_owned.ensures.value

pub returns-clause-given : goal.returns-clause-given
returns-clause-given g c =
    let F = g.K.Coeff.field in
    let G = c.args.i.now.members in
    let list = subst (λ (M : List Polynomial). IsRootList F (F.characteristic ^ 1) M c.in_ok-parts.parts.items) c.deref.ensures.value c.in_ok-parts.ensures.parts in
    let given : IsSplitGiven F G c.in_ok-parts.parts.items = record { colon = c.in_ok-colon.colon.items; basis = c.in_ok-colon.ensures.basis; parts = list } in
    IfOk-weaker c.of_owned.result _ _ (λ J S. subst (IsSplitGiven F G) (sym S.given) given) c.of_owned.ensures.value

pub returns-clause-variables : goal.returns-clause-variables
returns-clause-variables g c =
    let F = g.K.Coeff.field in
    let L = g.met.K.Coeff.lawful in
    let list = subst (λ (M : List Polynomial). IsRootList F (F.characteristic ^ 1) M c.in_ok-parts.parts.items) c.deref.ensures.value c.in_ok-parts.ensures.parts in
    IfOk-weaker c.of_owned.result _ _ (λ J S. members-lack L S.ideal (parts-lack L 1 c.in_ok-colon.ensures.variables (subst (IsRootList F (F.characteristic ^ 1) c.in_ok-colon.colon.items) (sym S.given) list))) c.of_owned.ensures.value

pub returns-clause-stop : goal.returns-clause-stop
returns-clause-stop g c =
    let F = g.K.Coeff.field in
    let G = c.args.i.now.members in
    let P = c.in_ok-parts.parts.items in
    let list = subst (λ (M : List Polynomial). IsRootList F (F.characteristic ^ 1) M P) c.deref.ensures.value c.in_ok-parts.ensures.parts in
    let given : IsSplitGiven F G P = record { colon = c.in_ok-colon.colon.items; basis = c.in_ok-colon.ensures.basis; parts = list } in
    let run = RunFor Grevlex (λ L. L ≡ P) in
    only_of_more F c.args.pairs run (IsSplitList F G) NoProduct (IsHighInSplit F G) (λ o N e. inr (e.0, subst (IsSplitGiven F G) (sym e.1) given)) (λ N none. absurd none)
    c.of_owned.result (only_from_exactly F c.args.pairs run NoProduct c.of_owned.result c.of_owned.ensures.stop)
