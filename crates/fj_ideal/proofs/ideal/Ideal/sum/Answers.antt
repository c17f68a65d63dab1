use Rattle.std.proofs.Common.{◌≡◌, ◌∙◌, ◌++◌, sym, ap₂, subst}
use Rattle.std.proofs.lemmas.Result.{IfOk-weaker}
use Rattle.fj_theory.specs.Ideal.{SameIdeal}
use Rattle.fj_plain.specs.declared.order_name.OrderName.TheVariants.{Grevlex}
use Rattle.fj_ideal.specs.Lists.{IsSumList, NoProduct}
use Rattle.fj_ideal.proofs.ReducedBasis.{SameIdeal-sum}
use Rattle.fj_ideal.proofs.Stops.{run_as}
use Rattle.fj_ideal.proofs.ideal.Ideal.sum.Goals as goal

pub returns-clause-ideal : goal.returns-clause-ideal
returns-clause-ideal g c =
    let list_is : c.append.new.self.items ≡ c.args.self.now.members ++ c.args.o.now.members =
    c.in_ok-append.ensures.items ∙ ap₂ ◌++◌ (c.in_ok-list.ensures.value ∙ c.members.ensures.value) (c.in_ok-copy_list.ensures.value ∙ c.members-2.ensures.value) in
    IfOk-weaker c.of_owned.result _ _
    (λ J S. subst (SameIdeal g.K.Coeff.field (c.args.self.now.given ++ c.args.o.now.given)) (sym (S.given ∙ list_is)) (SameIdeal-sum g.met.K.Coeff.lawful c.members.ensures.ideal c.members-2.ensures.ideal))
    c.of_owned.ensures.value

pub returns-clause-stop : goal.returns-clause-stop
returns-clause-stop g c =
    let G = c.args.self.now.members in
    let H = c.args.o.now.members in
    let list_is : c.append.new.self.items ≡ G ++ H = c.in_ok-append.ensures.items ∙ ap₂ ◌++◌ (c.in_ok-list.ensures.value ∙ c.members.ensures.value) (c.in_ok-copy_list.ensures.value ∙ c.members-2.ensures.value) in
    run_as g.K.Coeff.field c.args.pairs Grevlex c.append.new.self.items (IsSumList G H) NoProduct list_is (λ M e. e ∙ sym list_is) (λ M none. none) c.of_owned.result c.of_owned.ensures.stop
