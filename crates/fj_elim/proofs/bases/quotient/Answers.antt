use Rattle.std.proofs.Common.{[], ◌≢◌, ◌∙◌, All, ap, sym, subst}
use Rattle.std.specs.FinMap.{empty}
use Rattle.std.proofs.lemmas.List.Elements.{All-cons, All-nil}
use Rattle.fj_theory.specs.Polynomial.{IsPolynomial, product}
use Rattle.fj_groebner.proofs.DegreeOrder.{grevlex_key-IsDegreeOrder}
use Rattle.fj_elim.proofs.Quotients.{popped, quotient_of_multiple}
use Rattle.fj_elim.proofs.bases.quotient.Goals as goal

pub divide-requires : goal.divide-requires
divide-requires g c = subst (All (λ f. f ≢ empty)) (sym c.from_ref.ensures.value) (All-cons (λ f. f ≢ empty) c.args.g.now [] c.requires.nonzero (All-nil (λ f. f ≢ empty)))

pub unreachable-requires : goal.unreachable-requires
unreachable-requires g c = rw c.in-Err-High.field-0-is at (c.in-Err-High.ensures.degree_order grevlex_key-IsDegreeOrder)

pub returns-in-Ok-clause-value : goal.returns-in-Ok-clause-value
returns-in-Ok-clause-value g c =
    let q = quotient_of_multiple g.met.K.Coeff.lawful c.is_zero.ensures.polynomial c.requires.nonzero c.requires.multiple c.from_ref.ensures.value c.in-Ok.ensures.value in
    q.whole ∙ ap (product g.K.Coeff.field c.args.g.now) (sym (popped q.quotient c.unwrap.result _ c.in-Ok.quotients.items c.pop.result q.single c.pop.ensures.items c.unwrap.ensures))

pub returns-in-Ok-clause-polynomial : goal.returns-in-Ok-clause-polynomial
returns-in-Ok-clause-polynomial g c =
    let q = quotient_of_multiple g.met.K.Coeff.lawful c.is_zero.ensures.polynomial c.requires.nonzero c.requires.multiple c.from_ref.ensures.value c.in-Ok.ensures.value in
    subst (IsPolynomial g.K.Coeff.field) (sym (popped q.quotient c.unwrap.result _ c.in-Ok.quotients.items c.pop.result q.single c.pop.ensures.items c.unwrap.ensures)) q.polynomial
