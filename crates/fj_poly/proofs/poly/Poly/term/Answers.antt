use Rattle.std.proofs.Common.{◌≡◌, ◌<◌, sym, ◌∙◌, subst}
use Rattle.fj_poly.proofs.Polynomials.{polynomial_of-term, term-zero}
use Rattle.fj_poly.proofs.Coefficients.{positive_rank, zero_rank}
use Rattle.fj_theory.specs.Polynomial.{IsPolynomial}
use Rattle.fj_theory.proofs.Polynomial.{IsPolynomial-term}
use Rattle.fj_poly.proofs.poly.Poly.term.Goals.{then-ne+in_ok-push, else-ne}
use Rattle.fj_poly.proofs.poly.Poly.term.Goals as goal

pub returns-clause-value : goal.returns-clause-value
returns-clause-value g c = elim c.if-ne.branch [
  | then-ne+in_ok-push w ↦
      let positive : 0 < g.K.Coeff.rank c.args.c = positive_rank _ _ _ (g.met.K.Coeff.eq_is_rank c.args.c c.zero.result) c.zero.ensures (sym c.ne.ensures ∙ w.if-ne.true) in
      rw (w.terms-is, w.in_ok-push.ensures.items, c.new-terms.ensures.items) (polynomial_of-term g.met.K.Coeff.lawful _ _ positive)
  | else-ne w ↦
      let zero : g.K.Coeff.rank c.args.c ≡ 0 = zero_rank _ _ _ (g.met.K.Coeff.eq_is_rank c.args.c c.zero.result) c.zero.ensures (sym c.ne.ensures ∙ w.if-ne.false) in
      rw (w.terms-is, c.new-terms.ensures.items, zero) (sym (term-zero c.args.m.now.exponents))
]

pub returns-clause-polynomial : goal.returns-clause-polynomial
returns-clause-polynomial g c =
    subst (IsPolynomial g.K.Coeff.field) (sym (returns-clause-value g c)) (IsPolynomial-term _ (g.met.K.Coeff.rank_below c.args.c) (record { eight = c.args.m.now.eight }))
