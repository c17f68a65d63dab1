use Rattle.std.proofs.Common.{◌∷◌, [], ◌∙◌, sym, append-nil}
use Rattle.fj_theory.specs.Polynomial.{IsPolynomial}
use Rattle.fj_poly.specs.Limit.{IsHigh}
use Rattle.fj_basis.proofs.Copies.{copied_all}
use Rattle.fj_ideal.specs.Lists.{IsHighPair, NoList}
use Rattle.fj_ideal.proofs.HighProducts.{Contains-of_single}
use Rattle.fj_ideal.proofs.Products.{products_more, products_all}
use Rattle.fj_ideal.proofs.Stops.{only_handed_on}
use Rattle.fj_ideal.proofs.operations.products_of.Goals as goal

pub loop-h-init : goal.loop-h-init
loop-h-init g c = record {
  value = c.loop-g.invariant.value ∙ sym (append-nil _);
  polynomials = c.loop-g.invariant.polynomials;
  low = c.loop-g.invariant.low;
}

pub loop-h-preserved : goal.loop-h-preserved
loop-h-preserved g c =
    let F = g.K.Coeff.field in
    record {
      value = products_more F _ c.g-item.result c.args.others.now c.loop-h.h-index c.h-item.result _ _ _ c.loop-h-test.true c.h-item.is c.loop-h.invariant.value c.in_ok-times.ensures.value c.in_ok-push.ensures.items;
      polynomials = record { each = copied_all (IsPolynomial F) _ _ _ c.loop-h.invariant.polynomials.each c.in_ok-times.ensures.polynomial c.in_ok-push.ensures.items };
      low = copied_all (λ f. IsHigh f → ⊥) _ _ _ c.loop-h.invariant.low c.in_ok-times.ensures.low c.in_ok-push.ensures.items;
    }

pub loop-g-preserved : goal.loop-g-preserved
loop-g-preserved g c = record {
  value = products_all g.K.Coeff.field c.args.list.now c.args.others.now c.loop-g.g-index c.loop-h.h-index c.g-item.result _ c.loop-g-test.true c.g-item.is c.loop-h-test.false c.loop-h.invariant.value;
  polynomials = c.loop-h.invariant.polynomials;
  low = c.loop-h.invariant.low;
}

pub returns-in_err-times-clause-stop : goal.returns-in_err-times-clause-stop
returns-in_err-times-clause-stop g c =
    let F = g.K.Coeff.field in
    let L = c.args.list.now in
    let M = c.args.others.now in
    only_handed_on F 0 NoList NoList (IsHighPair F (c.g-item.result ∷ []) (c.h-item.result ∷ [])) (IsHighPair F L M) (λ o N e. e)
    (λ N e. record {
      g = e.g;
      h = e.h;
      g_there = Contains-of_single L c.loop-g.g-index c.g-item.result c.loop-g-test.true c.g-item.is e.g e.g_there;
      h_there = Contains-of_single M c.loop-h.h-index c.h-item.result c.loop-h-test.true c.h-item.is e.h e.h_there;
      high = e.high;
      is = e.is;
    })
    c.in_err-times.field-0.0 c.from_residual-in_err-times.result c.from_residual-in_err-times.ensures.1 c.in_err-times.ensures.stop
