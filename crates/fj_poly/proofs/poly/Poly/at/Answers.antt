use Rattle.std.proofs.Common.{◌<◌, length, arith}
use Rattle.std.proofs.lemmas.List.{length-map}
use Rattle.fj_poly.specs.Terms.{entry}
use Rattle.fj_poly.proofs.View.{terms_falling-polynomial_of, len-polynomial_of, slice_get-map_at, polynomial_seen}
use Rattle.fj_poly.proofs.poly.Poly.at.Goals as goal

pub index-t-requires : goal.index-t-requires
index-t-requires g c =
    let all = len-polynomial_of g.met.O.Order.monomial_order g.K.Coeff.field _ c.self.invariant.0 c.self.invariant.1 in
    omega (arith, all, length-map c.self.inside.terms.items (entry g.K.Coeff.rank), rw (← c.self.view_is) at c.requires)

pub returns-clause-term : goal.returns-clause-term
returns-clause-term g c =
    let all = len-polynomial_of g.met.O.Order.monomial_order g.K.Coeff.field _ c.self.invariant.0 c.self.invariant.1 in
    let within : c.args.i < length c.self.inside.terms.items =
    omega (arith, all, length-map c.self.inside.terms.items (entry g.K.Coeff.rank), rw (← c.self.view_is) at c.requires) in
    rw (← c.self.view_is, terms_falling-polynomial_of g.met.O.Order.monomial_order g.K.Coeff.field _ c.self.invariant.0 c.self.invariant.1)
    (slice_get-map_at (entry g.K.Coeff.rank) c.self.inside.terms.items c.args.i c.index-t.result.now within c.index-t.ensures)

pub returns-clause-polynomial : goal.returns-clause-polynomial
returns-clause-polynomial g c = polynomial_seen _ c.self.invariant.1 c.self.view_is
