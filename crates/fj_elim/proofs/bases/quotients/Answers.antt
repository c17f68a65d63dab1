use Rattle.std.proofs.Common.{◌∷◌, [], ◌++◌, ◌∙◌, sym, ap, ap₂, subst}
use Rattle.std.proofs.lemmas.List.{map-append}
use Rattle.fj_theory.specs.Ideal.{Member, multiples}
use Rattle.fj_theory.specs.Polynomial.{IsPolynomial, product}
use Rattle.fj_basis.proofs.Copies.{copied_all}
use Rattle.fj_elim.proofs.Quotients.{one_more}
use Rattle.fj_elim.proofs.bases.quotients.Goals as goal

pub quotient-requires-clause-multiple : goal.quotient-requires-clause-multiple
quotient-requires-clause-multiple g c =
    subst (Member g.K.Coeff.field (c.args.g.now ∷ [])) (sym c.h-item.is) (c.requires.multiples c.loop-h.h-index c.h-item.result c.loop-h-test.true)

pub loop-h-preserved : goal.loop-h-preserved
loop-h-preserved g c =
    let F = g.K.Coeff.field in
    record {
      value = ap (multiples F c.args.g.now) c.in_ok-push.ensures.items ∙ map-append (product F c.args.g.now) c.loop-h.quotients.items _
          ∙ ap₂ (λ xs x. xs ++ x ∷ []) c.loop-h.invariant.value (sym c.in_ok-quotient.ensures.value)
          ∙ sym (one_more c.args.list.now c.loop-h.h-index c.h-item.result c.loop-h-test.true c.h-item.is);
      polynomials = record { each = copied_all (IsPolynomial F) _ _ _ c.loop-h.invariant.polynomials.each c.in_ok-quotient.ensures.polynomial c.in_ok-push.ensures.items };
    }
