use Rattle.std.proofs.Common.{length, sym, ap, ◌∙◌}
use Rattle.std.proofs.lemmas.List.{length-map}
use Rattle.fj_poly.specs.Terms.{entry}
use Rattle.fj_poly.proofs.View.{terms_falling-polynomial_of, len-polynomial_of, polynomial_seen}
use Rattle.fj_poly.proofs.poly.Poly.len.Goals as goal

pub returns-clause-count : goal.returns-clause-count
returns-clause-count g c =
    rw (← c.self.view_is) (c.len.ensures ∙ c.self.inside.terms.ok.0 ∙ sym (length-map c.self.inside.terms.items (entry g.K.Coeff.rank))
    ∙ sym (len-polynomial_of g.met.O.Order.monomial_order g.K.Coeff.field _ c.self.invariant.0 c.self.invariant.1))

pub returns-clause-terms : goal.returns-clause-terms
returns-clause-terms g c =
    rw (← c.self.view_is) (c.len.ensures ∙ c.self.inside.terms.ok.0 ∙ sym (length-map c.self.inside.terms.items (entry g.K.Coeff.rank))
    ∙ ap length (sym (terms_falling-polynomial_of g.met.O.Order.monomial_order g.K.Coeff.field _ c.self.invariant.0 c.self.invariant.1)))

pub returns-clause-polynomial : goal.returns-clause-polynomial
returns-clause-polynomial g c = polynomial_seen _ c.self.invariant.1 c.self.view_is
