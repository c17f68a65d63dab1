use Rattle.std.proofs.Common.{◌≡◌, ◌≤◌, ◌∙◌, ℕ, List, [], length, get_or, take, All, true≢false, refl, sym, subst, arith}
use Rattle.std.proofs.lemmas.List.{take_all}
use Rattle.std.proofs.lemmas.Option.{get_or_from_slice_get}
use Rattle.fj_theory.specs.Polynomial.{terms_falling}
use Rattle.fj_ideal.proofs.Products.{All-take_more}
use Rattle.fj_elim.proofs.Eighth.{UsesFirst-terms, UsesFirst-term_refused}
use Rattle.fj_elim.proofs.elimination.lacks_eighth.Goals as goal

pub returns-then-exp-ne0-clause-value : goal.returns-then-exp-ne0-clause-value
returns-then-exp-ne0-clause-value g c =
    let terms = terms_falling g.O.Order.key c.args.g.now in
    let t : List ℕ × ℕ = (c.at-m.result.1.exponents, g.K.Coeff.rank c.at-m.result.0) in (
      λ e. absurd (true≢false (sym e)),
      λ u. absurd (UsesFirst-term_refused g.met.O.Order.monomial_order c.is_zero.ensures.polynomial c.loop-i.i ([], 0) t (omega (arith, c.loop-i-test.true, c.len-i-end.ensures.terms))
          (get_or_from_slice_get terms c.loop-i.i t ([], 0) c.at-m.ensures.term) (λ z. c.if-exp-ne0.true (c.exp.ensures ∙ z)) u),
    )

pub loop-i-preserved : goal.loop-i-preserved
loop-i-preserved g c =
    let terms = terms_falling g.O.Order.key c.args.g.now in
    let t : List ℕ × ℕ = (c.at-m.result.1.exponents, g.K.Coeff.rank c.at-m.result.0) in
    All-take_more (λ u. get_or u.0 7 0 ≡ 0) terms c.loop-i.i t (omega (arith, c.loop-i-test.true, c.len-i-end.ensures.terms)) (sym (get_or_from_slice_get terms c.loop-i.i t t c.at-m.ensures.term))
    c.loop-i.invariant (sym c.exp.ensures ∙ c.if-exp-ne0.false)

pub returns-clause-value : goal.returns-clause-value
returns-clause-value g c =
    let terms = terms_falling g.O.Order.key c.args.g.now in
    let past : length terms ≤ c.loop-i.i = omega (arith, c.loop-i-test.false, c.len-i-end.ensures.terms) in (
      λ e. UsesFirst-terms g.met.O.Order.monomial_order c.is_zero.ensures.polynomial (subst (All (λ u. get_or u.0 7 0 ≡ 0)) (take_all c.loop-i.i terms past) c.loop-i.invariant),
      λ u. refl,
    )
