use Rattle.std.proofs.Common.{◌≡◌, [], ◌∷◌, ◌++◌, ap, ◌∙◌, sym, subst}
use Rattle.std.proofs.lemmas.List.{map_push}
use Rattle.fj_theory.specs.Polynomial.{IsPolynomial, terms_falling}
use Rattle.fj_poly.specs.Terms.{entry, entries}
use Rattle.fj_poly.proofs.Polynomials.{polynomial_of, IsPolynomial-polynomial_of}
use Rattle.fj_poly.proofs.Push.{Pushed, pushed}
use Rattle.fj_poly.proofs.poly.Poly.push_term.Given as given
use Rattle.fj_poly.proofs.poly.Poly.push_term.Goals as goal

after : (g : given.Over) (c : goal.In_ok-push g)
    → Pushed g.K.Coeff.field g.O.Order.key (entries g.K.Coeff.rank c.self.inside.terms.items) (c.args.m.now.exponents, g.K.Coeff.rank c.args.c) c.args.self.now
after g c =
    pushed g.met.K.Coeff.lawful g.met.O.Order.monomial_order _ _ c.self.invariant.0 c.self.invariant.1 c.self.view_is c.args.m.now.eight c.requires.nonzero
    (g.met.K.Coeff.rank_below c.args.c) c.requires.below

items : (g : given.Over) (c : goal.In_ok-push g)
    → entries g.K.Coeff.rank c.push.new.self.items ≡ entries g.K.Coeff.rank c.self.inside.terms.items ++ (c.args.m.now.exponents, g.K.Coeff.rank c.args.c) ∷ []
items g c = ap (entries g.K.Coeff.rank) c.in_ok-push.ensures.items ∙ map_push (entry g.K.Coeff.rank) _ _

pub invariant_of-self-2 : goal.invariant_of-self-2
invariant_of-self-2 g c = rw (items g c) ((after g c).falls, (after g c).terms)

pub returns-clause-value : goal.returns-clause-value
returns-clause-value g c = ap polynomial_of (items g c) ∙ (after g c).value

pub returns-clause-terms : goal.returns-clause-terms
returns-clause-terms g c = ap (λ ts. terms_falling g.O.Order.key (polynomial_of ts)) (items g c) ∙ (after g c).listed

pub returns-clause-polynomial : goal.returns-clause-polynomial
returns-clause-polynomial g c = subst (λ ts. IsPolynomial g.K.Coeff.field (polynomial_of ts)) (sym (items g c)) (IsPolynomial-polynomial_of _ (after g c).terms)
