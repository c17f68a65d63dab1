use Rattle.std.proofs.Common.{◌≡◌, map, refl, ap, ap₂, sym, ◌∙◌, subst, arith}
use Rattle.std.proofs.lemmas.List.{length-map}
use Rattle.fj_theory.specs.Evaluation.{IsPoint, monomial_value}
use Rattle.fj_theory.specs.Polynomial.{IsFalling}
use Rattle.fj_theory.proofs.Evaluation.{value-empty}
use Rattle.fj_poly.specs.Terms.{AreTerms, entry, entries}
use Rattle.fj_poly.proofs.Changed.{at_item}
use Rattle.fj_poly.proofs.Values.{value_more, ranks_are_point}
use Rattle.fj_poly.proofs.poly.Poly.eval.Goals as goal

pub loop-t-init : goal.loop-t-init
loop-t-init g c =
    let at : IsPoint g.K.Coeff.field c.args.at.now = subst (IsPoint g.K.Coeff.field) c.at.view_is (ranks_are_point g.K.Coeff.field g.K.Coeff.rank g.met.K.Coeff.rank_below c.at.inside.coordinates.items c.at.invariant) in
    c.zero-sum.ensures ∙ sym (value-empty g.met.K.Coeff.lawful at)

pub loop-t-preserved : goal.loop-t-preserved
loop-t-preserved g c =
    let F = g.K.Coeff.field in
    let at : IsPoint F c.args.at.now = subst (IsPoint F) c.at.view_is (ranks_are_point F g.K.Coeff.rank g.met.K.Coeff.rank_below c.at.inside.coordinates.items c.at.invariant) in
    let items = c.as_slice-t-items.result.now in
    let falls : IsFalling g.O.Order.key (entries g.K.Coeff.rank items) = rw c.as_slice-t-items.ensures.value c.self.invariant.0 in
    let terms : AreTerms F (entries g.K.Coeff.rank items) = rw c.as_slice-t-items.ensures.value c.self.invariant.1 in
    let item = at_item (entry g.K.Coeff.rank) items items c.loop-t.t-index c.t-item.result refl c.loop-t-test.true c.t-item.is in
    let point : map g.K.Coeff.rank c.as_slice-point.result.now ≡ c.args.at.now = ap (map g.K.Coeff.rank) c.as_slice-point.ensures.value ∙ c.at.view_is in
    c.add-sum.ensures
    ∙ ap₂ F.add c.loop-t.invariant
    (c.mul.ensures ∙ ap (F.mul (g.K.Coeff.rank c.t-item.result.coefficient)) (c.value_of_monomial-monomial.ensures ∙ ap (monomial_value F c.t-item.result.monomial.exponents) point))
    ∙ sym (value_more g.met.K.Coeff.lawful at g.O.Order.key (entries g.K.Coeff.rank items) falls terms c.loop-t.t-index (entry g.K.Coeff.rank c.t-item.result)
    (omega (arith, length-map items (entry g.K.Coeff.rank), c.loop-t-test.true)) (sym item))
