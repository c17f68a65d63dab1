use Rattle.std.proofs.Common.{get_or, below_more, ◌∙◌, subst, arith}
use Rattle.std.specs.FinMap.{empty}
use Rattle.std.proofs.lemmas.List.{get_or_default}
use Rattle.fj_theory.specs.Polynomial.{IsPolynomial}
use Rattle.fj_basis.proofs.sugar.look_over.Goals as goal

pub loop-f-preserved : goal.loop-f-preserved
loop-f-preserved g c =
    below_more (λ k. IsPolynomial g.K.Coeff.field (get_or c.args.list.now k empty)) c.loop-f.f-index c.loop-f.invariant
    (subst (IsPolynomial g.K.Coeff.field) (c.f-item.is ∙ get_or_default c.args.list.now c.loop-f.f-index c.f-item.result empty c.loop-f-test.true) c.is_zero.ensures.polynomial)

pub returns : goal.returns
returns g c = record {
  each = λ k d l. subst (IsPolynomial g.K.Coeff.field) (get_or_default c.args.list.now k empty d l)
      (c.loop-f.invariant k (let past = c.loop-f-test.false in omega (arith, l, past)));
}
