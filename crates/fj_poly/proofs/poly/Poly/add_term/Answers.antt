use Rattle.std.proofs.Common.{◌≡◌, ◌<◌, sym, ap, ◌∙◌, arith, subst}
use Rattle.std.specs.List.{insert}
use Rattle.std.proofs.lemmas.Bool.{eqb-true, eqb-false}
use Rattle.std.proofs.lemmas.List.{length-map}
use Rattle.fj_theory.specs.Polynomial.{IsPolynomial, sum, term}
use Rattle.fj_theory.proofs.PolynomialRing.{sum_empty}
use Rattle.fj_poly.specs.Terms.{entry, entries}
use Rattle.fj_poly.proofs.Adding.{Added, map-insert, place_within, put_in}
use Rattle.fj_poly.proofs.Polynomials.{polynomial_of, IsPolynomial-polynomial_of, term-zero}
use Rattle.fj_poly.proofs.View.{polynomial_seen}
use Rattle.fj_poly.proofs.poly.Poly.add_term.Given as given
use Rattle.fj_poly.proofs.poly.Poly.add_term.Goals as goal

pub change_at-requires-clause-place : goal.change_at-requires-clause-place
change_at-requires-clause-place g c =
    let within = place_within (entries g.K.Coeff.rank c.self.inside.terms.items) c.in-Ok.i c.args.m.now.exponents (rw c.as_slice.ensures.value at c.in-Ok.ensures) in
    omega (arith, within, length-map c.self.inside.terms.items (entry g.K.Coeff.rank))

pub returns-then-eq-clause-value : goal.returns-then-eq-clause-value
returns-then-eq-clause-value g c =
    let none : g.K.Coeff.rank c.args.c ≡ 0 = eqb-true _ _ (sym (g.met.K.Coeff.eq_is_rank c.args.c c.zero.result) ∙ sym c.eq.ensures ∙ c.if-eq.true) ∙ c.zero.ensures in
    sym (ap (sum g.K.Coeff.field c.args.self.now) (ap (λ k. term k c.args.m.now.exponents) none ∙ term-zero c.args.m.now.exponents) ∙ sum_empty g.met.K.Coeff.lawful (polynomial_seen _ c.self.invariant.1 c.self.view_is))

pub returns-then-eq-clause-polynomial : goal.returns-then-eq-clause-polynomial
returns-then-eq-clause-polynomial g c = polynomial_seen _ c.self.invariant.1 c.self.view_is

after : (g : given.Over) (c : goal.In_ok-insert-in-Err g) → Added g.K.Coeff.field g.O.Order.key c.args.self.now c.args.m.now.exponents (g.K.Coeff.rank c.args.c)
    (insert (entries g.K.Coeff.rank c.self.inside.terms.items) c.in-Err.i (c.args.m.now.exponents, g.K.Coeff.rank c.args.c))
after g c =
    let differs = eqb-false _ _ (sym (g.met.K.Coeff.eq_is_rank c.args.c c.zero.result) ∙ sym c.eq.ensures ∙ c.if-eq.false) in
    let positive : 0 < g.K.Coeff.rank c.args.c = omega (arith, c.zero.ensures) in
    let place = rw c.as_slice.ensures.value at c.in-Err.ensures in
    subst (λ f. Added g.K.Coeff.field g.O.Order.key f c.args.m.now.exponents (g.K.Coeff.rank c.args.c) (insert (entries g.K.Coeff.rank c.self.inside.terms.items) c.in-Err.i (c.args.m.now.exponents, g.K.Coeff.rank c.args.c)))
    c.self.view_is
    (put_in g.met.K.Coeff.lawful g.O.Order.key (entries g.K.Coeff.rank c.self.inside.terms.items) c.self.invariant.0 c.self.invariant.1 c.in-Err.i (c.args.m.now.exponents, g.K.Coeff.rank c.args.c)
    place.1 place.2 c.args.m.now.eight positive (g.met.K.Coeff.rank_below c.args.c))

items : (g : given.Over) (c : goal.In_ok-insert-in-Err g)
    → entries g.K.Coeff.rank c.insert.new.self.items ≡ insert (entries g.K.Coeff.rank c.self.inside.terms.items) c.in-Err.i (c.args.m.now.exponents, g.K.Coeff.rank c.args.c)
items g c = ap (entries g.K.Coeff.rank) c.in_ok-insert-in-Err.ensures.items ∙ map-insert (entry g.K.Coeff.rank) _ _ _

pub invariant_of-self-in-Err : goal.invariant_of-self-in-Err
invariant_of-self-in-Err g c = rw (items g c) ((after g c).falls, (after g c).terms)

pub returns-in_ok-insert-in-Err-clause-value : goal.returns-in_ok-insert-in-Err-clause-value
returns-in_ok-insert-in-Err-clause-value g c = ap polynomial_of (items g c) ∙ (after g c).value

pub returns-in_ok-insert-in-Err-clause-polynomial : goal.returns-in_ok-insert-in-Err-clause-polynomial
returns-in_ok-insert-in-Err-clause-polynomial g c = subst (λ ts. IsPolynomial g.K.Coeff.field (polynomial_of ts)) (sym (items g c)) (IsPolynomial-polynomial_of _ (after g c).terms)
