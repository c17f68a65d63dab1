use Rattle.std.proofs.Common.{◌≡◌, ℕ, List, ◌+◌, ◌<◌, ◌∷◌, get_or, length, drop, sym, ap, ◌∙◌, arith}
use Rattle.std.proofs.lemmas.List.{drop_more}
use Rattle.fj_coeff.specs.Field.{Field, IsField}
use Rattle.fj_theory.specs.MonomialOrder.{IsMonomialOrder}
use Rattle.fj_theory.specs.Polynomial.{Polynomial, IsFalling}
use Rattle.fj_poly.specs.Terms.{AreTerms, entry, entries}
use Rattle.fj_poly.specs.declared.poly.Term.{Term}
use Rattle.fj_poly.proofs.Polynomials.{polynomial_of, IsPolynomial-polynomial_of}
use Rattle.fj_poly.proofs.Leads.{IsPopped, popped}
use Rattle.fj_poly.proofs.buckets.slot.Slot.pop.Goals as goal

after : {K : Type 0} {F : Field} (L : IsField F) {key : List ℕ → List ℕ} (O : IsMonomialOrder key) (rank : K → ℕ) (items : List (Term K)) (start : ℕ) (t : Term K) {f : Polynomial}
    → IsFalling key (entries rank (drop start items)) → AreTerms F (entries rank (drop start items)) → polynomial_of (entries rank (drop start items)) ≡ f
    → start < length items → t ≡ get_or items start t → IsPopped F key f (entry rank t) (entries rank (drop (start + 1) items))
after L O rank items start t falls terms seen within at =
    popped L O (entries rank (drop start items)) _ _ falls terms seen
    (ap (entries rank) (drop_more items start t within ∙ ap (λ s. s ∷ drop (start + 1) items) (sym at)))

pub returns-clause-lead : goal.returns-clause-lead
returns-clause-lead g c =
    (after g.met.K.Coeff.lawful g.met.O.Order.monomial_order g.K.Coeff.rank c.self.inside.terms.items c.self.inside.start c.index-t.result.now c.self.invariant.1 c.self.invariant.2 c.self.view_is
    (omega (arith, c.if-prove.false, c.len.ensures, c.self.inside.terms.ok.0)) c.index-t.ensures).lead

pub returns-clause-value : goal.returns-clause-value
returns-clause-value g c =
    (after g.met.K.Coeff.lawful g.met.O.Order.monomial_order g.K.Coeff.rank c.self.inside.terms.items c.self.inside.start c.index-t.result.now c.self.invariant.1 c.self.invariant.2 c.self.view_is
    (omega (arith, c.if-prove.false, c.len.ensures, c.self.inside.terms.ok.0)) c.index-t.ensures).value

pub returns-clause-below : goal.returns-clause-below
returns-clause-below g c =
    (after g.met.K.Coeff.lawful g.met.O.Order.monomial_order g.K.Coeff.rank c.self.inside.terms.items c.self.inside.start c.index-t.result.now c.self.invariant.1 c.self.invariant.2 c.self.view_is
    (omega (arith, c.if-prove.false, c.len.ensures, c.self.inside.terms.ok.0)) c.index-t.ensures).below

pub returns-clause-fewer : goal.returns-clause-fewer
returns-clause-fewer g c =
    (after g.met.K.Coeff.lawful g.met.O.Order.monomial_order g.K.Coeff.rank c.self.inside.terms.items c.self.inside.start c.index-t.result.now c.self.invariant.1 c.self.invariant.2 c.self.view_is
    (omega (arith, c.if-prove.false, c.len.ensures, c.self.inside.terms.ok.0)) c.index-t.ensures).fewer

pub returns-clause-polynomial : goal.returns-clause-polynomial
returns-clause-polynomial g c =
    IsPolynomial-polynomial_of _ (after g.met.K.Coeff.lawful g.met.O.Order.monomial_order g.K.Coeff.rank c.self.inside.terms.items c.self.inside.start c.index-t.result.now c.self.invariant.1
    c.self.invariant.2 c.self.view_is (omega (arith, c.if-prove.false, c.len.ensures, c.self.inside.terms.ok.0)) c.index-t.ensures).terms
