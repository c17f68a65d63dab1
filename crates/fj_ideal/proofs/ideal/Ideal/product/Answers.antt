use Rattle.std.proofs.Common.{◌≡◌, ◌∙◌, List, IfOk, sym, ap₂, subst}
use Rattle.std.proofs.lemmas.Result.{IfOk-weaker}
use Rattle.fj_theory.specs.Ideal.{SameIdeal, products}
use Rattle.fj_theory.specs.Polynomial.{Polynomial}
use Rattle.fj_plain.specs.declared.order_name.OrderName.TheVariants.{Grevlex}
use Rattle.fj_ideal.specs.Ideal.{IsIdealOf}
use Rattle.fj_ideal.specs.Lists.{AreLow, IsHighPair, IsProductList, RunFor}
use Rattle.fj_ideal.specs.Stop.{StopsExactlyWith}
use Rattle.fj_ideal.proofs.Products.{low_pairs}
use Rattle.fj_ideal.proofs.ReducedBasis.{SameIdeal-product}
use Rattle.fj_ideal.proofs.Stops.{refused_exactly, run_as}
use Rattle.fj_ideal.proofs.ideal.Ideal.product.Goals as goal

pub returns-in_err-list-clause-stop : goal.returns-in_err-list-clause-stop
returns-in_err-list-clause-stop g c =
    let F = g.K.Coeff.field in
    let Stops : List Polynomial → List Polynomial → Type 0 = λ G H. StopsExactlyWith F (RunFor Grevlex (IsProductList F G H)) (IsHighPair F G H) c.args.pairs c.from_residual.result in
    subst (Stops c.args.self.now.members) c.members-2.ensures.value
    (subst (λ G. Stops G c.members-2.result.now) c.members.ensures.value
    (refused_exactly F c.args.pairs (RunFor Grevlex (IsProductList F c.members.result.now c.members-2.result.now)) (IsHighPair F c.members.result.now c.members-2.result.now) (IsHighPair F c.members.result.now c.members-2.result.now) (λ M e. e)
    c.in_err-list.field-0.0 c.from_residual.result c.from_residual.ensures.1 c.in_err-list.ensures.stop))

pub returns-clause-value : goal.returns-clause-value
returns-clause-value g c =
    let F = g.K.Coeff.field in
    let list_is : c.in_ok-list.list.items ≡ products F c.args.self.now.members c.args.o.now.members = c.in_ok-list.ensures.value ∙ ap₂ (products F) c.members.ensures.value c.members-2.ensures.value in
    subst (λ (M : List Polynomial). IfOk c.of_owned.result (IsIdealOf F M)) list_is c.of_owned.ensures.value

pub returns-clause-ideal : goal.returns-clause-ideal
returns-clause-ideal g c =
    let F = g.K.Coeff.field in
    let list_is : c.in_ok-list.list.items ≡ products F c.args.self.now.members c.args.o.now.members = c.in_ok-list.ensures.value ∙ ap₂ (products F) c.members.ensures.value c.members-2.ensures.value in
    IfOk-weaker c.of_owned.result _ _
    (λ J S. subst (SameIdeal F (products F c.args.self.now.given c.args.o.now.given)) (sym (S.given ∙ list_is)) (SameIdeal-product g.met.K.Coeff.lawful c.members.ensures.ideal c.members-2.ensures.ideal))
    c.of_owned.ensures.value

pub returns-clause-stop : goal.returns-clause-stop
returns-clause-stop g c =
    let F = g.K.Coeff.field in
    let G = c.args.self.now.members in
    let H = c.args.o.now.members in
    let L = c.in_ok-list.list.items in
    let list_is : L ≡ products F G H = c.in_ok-list.ensures.value ∙ ap₂ (products F) c.members.ensures.value c.members-2.ensures.value in
    run_as F c.args.pairs Grevlex L (IsProductList F G H) (IsHighPair F G H) (record { is = list_is; low = c.in_ok-list.ensures.low }) (λ M e. e.is ∙ sym list_is) (low_pairs F G H (subst AreLow list_is c.in_ok-list.ensures.low)) c.of_owned.result c.of_owned.ensures.stop
