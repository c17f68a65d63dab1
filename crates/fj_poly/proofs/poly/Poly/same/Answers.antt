use Rattle.std.proofs.Common.{◌≡◌, sym, ap, ◌∙◌}
use Rattle.fj_poly.specs.Terms.{entry, entries}
use Rattle.fj_poly.proofs.View.{term_eq-polynomial_of}
use Rattle.std.specs.Cmp.Derive.Mapped.{pointwise-map}
use lib.Pointwise.{pointwise}
use Rattle.std.proofs.Common.{◌&&◌, nat_eq}
use Rattle.fj_poly.proofs.View.{term_eq}
use Rattle.fj_poly.proofs.poly.Poly.same.Goals as goal

pub returns : goal.returns
returns g c =
    let same = term_eq-polynomial_of g.met.O.Order.monomial_order g.K.Coeff.field _ c.self.invariant.0 c.self.invariant.1 _ c.o.invariant.0 c.o.invariant.1 in
    let found : c.eq.result ≡ pointwise term_eq (entries g.K.Coeff.rank c.self.inside.terms.items) (entries g.K.Coeff.rank c.o.inside.terms.items) =
    c.eq.ensures
    ∙ ap (λ E. pointwise E c.self.inside.terms.items c.o.inside.terms.items)
    (λ i s t. g.met.K.Coeff.eq_is_rank s.coefficient t.coefficient i && pointwise nat_eq s.monomial.exponents t.monomial.exponents)
    ∙ sym (pointwise-map (entry g.K.Coeff.rank) term_eq c.self.inside.terms.items c.o.inside.terms.items) in
    rw (found, ← c.self.view_is, ← c.o.view_is) same
