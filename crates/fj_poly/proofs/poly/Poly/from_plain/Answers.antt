use Rattle.fj_poly.specs.Terms.{entry}
use Rattle.fj_poly.proofs.Plain.{read_back}
use Rattle.fj_poly.proofs.Polynomials.{IsPolynomial-polynomial_of}
use Rattle.fj_poly.proofs.poly.Poly.from_plain.Goals as goal

pub invariant_of-result : goal.invariant_of-result
invariant_of-result g c =
    let read = read_back {F = g.K.Coeff.field} g.met.O.Order.monomial_order c.args.h.now c.requires.ranks (entry g.K.Coeff.rank) _ _ c.in_ok-terms.ensures c.sort_falling.ensures.same c.sort_falling.ensures.falls in
    (read.falls, read.terms)

pub returns-clause-value : goal.returns-clause-value
returns-clause-value g c =
    (read_back {F = g.K.Coeff.field} g.met.O.Order.monomial_order c.args.h.now c.requires.ranks (entry g.K.Coeff.rank) _ _ c.in_ok-terms.ensures c.sort_falling.ensures.same c.sort_falling.ensures.falls).value

pub returns-clause-polynomial : goal.returns-clause-polynomial
returns-clause-polynomial g c =
    let read = read_back {F = g.K.Coeff.field} g.met.O.Order.monomial_order c.args.h.now c.requires.ranks (entry g.K.Coeff.rank) _ _ c.in_ok-terms.ensures c.sort_falling.ensures.same c.sort_falling.ensures.falls in
    IsPolynomial-polynomial_of _ read.terms
