use Rattle.fj_poly.proofs.Polynomials.{IsPolynomial-polynomial_of}
use Rattle.fj_poly.proofs.View.{polynomial_seen}
use Rattle.fj_poly.proofs.buckets.slot.Slot.merge.Goals as goal

pub returns-in_err-merge_terms-clause-polynomial : goal.returns-in_err-merge_terms-clause-polynomial
returns-in_err-merge_terms-clause-polynomial g c = polynomial_seen _ c.self.invariant.2 c.self.view_is

pub returns-in_err-merge_terms-clause-others : goal.returns-in_err-merge_terms-clause-others
returns-in_err-merge_terms-clause-others g c = IsPolynomial-polynomial_of _ c.requires.terms

pub returns-clause-polynomial : goal.returns-clause-polynomial
returns-clause-polynomial g c = rw c.swap.ensures.x_after (IsPolynomial-polynomial_of _ c.in_ok-merge_terms.ensures.terms)

pub returns-clause-others : goal.returns-clause-others
returns-clause-others g c = IsPolynomial-polynomial_of _ c.requires.terms
