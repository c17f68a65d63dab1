use Rattle.std.proofs.Common.{◌≡◌, ◌∙◌, List, subst, length, IfOk}
use Rattle.std.proofs.lemmas.List.{take_all}
use Rattle.std.proofs.lemmas.Result.{IfOk-weaker}
use Rattle.fj_theory.specs.Polynomial.{Polynomial}
use Rattle.fj_groebner.specs.ReducedBasis.{IsReducedBasis}
use Rattle.fj_groebner.specs.Run.{Unfinished, TooHigh}
use Rattle.fj_plain.specs.OrderRow.{order_in_row}
use Rattle.fj_basis.specs.Basis.{IsMadeOf}
use Rattle.fj_basis.specs.Outcome.{IsStopWhere}
use Rattle.fj_basis.proofs.Copies.{copied}
use Rattle.fj_ideal.proofs.ReducedBasis.{IsReducedBasis-given}
use Rattle.fj_ideal.proofs.ideal.Ideal.in_order.Goals as goal

pub loop-g-preserved : goal.loop-g-preserved
loop-g-preserved g c = copied _ _ _ c.members-members.result.now c.loop-g.g-index c.g-item.result c.loop-g-test.true c.g-item.is c.loop-g.invariant c.in_ok-reorder.ensures.value c.in_ok-push.ensures.items

pub returns-clause-reduced : goal.returns-clause-reduced
returns-clause-reduced g c =
    let list_is : c.deref.result.now ≡ c.args.self.now.members = c.deref.ensures.value ∙ c.loop-g.invariant ∙ take_all c.loop-g.g-index c.members-members.result.now c.loop-g-test.false ∙ c.members-members.ensures.value in
    IfOk-weaker c.basis.result _ _
    (λ b S. IsReducedBasis-given g.met.K.Coeff.lawful c.members-members.ensures.ideal g.met.O.Order.monomial_order (subst (λ (L : List Polynomial). IsReducedBasis g.K.Coeff.field g.O.Order.key L b.members) list_is S))
    c.basis.ensures.reduced

pub returns-clause-made : goal.returns-clause-made
returns-clause-made g c =
    let list_is : c.deref.result.now ≡ c.args.self.now.members = c.deref.ensures.value ∙ c.loop-g.invariant ∙ take_all c.loop-g.g-index c.members-members.result.now c.loop-g-test.false ∙ c.members-members.ensures.value in
    subst (λ (L : List Polynomial). IfOk c.basis.result (IsMadeOf g.K.Coeff.field L)) list_is c.basis.ensures.made

pub returns-clause-long : goal.returns-clause-long
returns-clause-long g c =
    let list_is : c.deref.result.now ≡ c.args.self.now.members = c.deref.ensures.value ∙ c.loop-g.invariant ∙ take_all c.loop-g.g-index c.members-members.result.now c.loop-g-test.false ∙ c.members-members.ensures.value in
    subst (λ (L : List Polynomial). IfOk c.basis.result (λ b. length b.up ≡ length L)) list_is c.basis.ensures.long

pub returns-clause-stop : goal.returns-clause-stop
returns-clause-stop g c =
    let list_is : c.deref.result.now ≡ c.args.self.now.members = c.deref.ensures.value ∙ c.loop-g.invariant ∙ take_all c.loop-g.g-index c.members-members.result.now c.loop-g-test.false ∙ c.members-members.ensures.value in
    let F = g.K.Coeff.field in
    let key = g.O.Order.key in
    subst (λ (L : List Polynomial). IsStopWhere F (Unfinished F key L c.args.pairs) (TooHigh F key L c.args.pairs) (order_in_row g.O.Order.ROW) key L c.basis.result) list_is c.basis.ensures.stop
