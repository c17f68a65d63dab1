use Rattle.std.proofs.Common.{◌≡◌, IfOk, ap, ◌∙◌, subst}
use Rattle.fj_theory.specs.Polynomial.{product}
use Rattle.fj_theory.proofs.PolynomialRing.{product_comm}
use Rattle.fj_poly.specs.Limit.{IsHigh}
use Rattle.fj_poly.specs.Terms.{entries}
use Rattle.fj_poly.proofs.Changed.{Listed, rows_within}
use Rattle.fj_poly.proofs.Polynomials.{polynomial_of}
use Rattle.fj_poly.proofs.View.{polynomial_seen}
use Rattle.fj_poly.proofs.poly.Poly.product_within.Goals as goal

pub rows-requires-clause-within : goal.rows-requires-clause-within
rows-requires-clause-within g c =
    let P = polynomial_seen _ c.self.invariant.1 c.self.view_is in
    let Q = polynomial_seen _ c.o.invariant.1 c.o.view_is in
    let own : Listed g.K.Coeff.field g.O.Order.key (entries g.K.Coeff.rank c.o.inside.terms.items) c.args.o.now = record { falls = c.o.invariant.0; terms = c.o.invariant.1; value = c.o.view_is } in
    rw c.as_slice.ensures.value
    (rows_within g.met.K.Coeff.lawful g.met.O.Order.monomial_order own P (subst (λ f. IsHigh f → ⊥) (product_comm g.met.K.Coeff.lawful P Q) c.requires))

pub rows-requires-else-len-clause-within : goal.rows-requires-else-len-clause-within
rows-requires-else-len-clause-within g c =
    let Q = polynomial_seen _ c.o.invariant.1 c.o.view_is in
    let own : Listed g.K.Coeff.field g.O.Order.key (entries g.K.Coeff.rank c.self.inside.terms.items) c.args.self.now = record { falls = c.self.invariant.0; terms = c.self.invariant.1; value = c.self.view_is } in
    rw c.as_slice-else-len.ensures.value (rows_within g.met.K.Coeff.lawful g.met.O.Order.monomial_order own Q c.requires)

pub returns-then-len : goal.returns-then-len
returns-then-len g c =
    let P = polynomial_seen _ c.self.invariant.1 c.self.view_is in
    let Q = polynomial_seen _ c.o.invariant.1 c.o.view_is in
    let seen = ap (λ ts. polynomial_of (entries g.K.Coeff.rank ts)) c.as_slice.ensures.value ∙ c.o.view_is in
    subst (λ h. IfOk c.rows.result (λ p. p ≡ h)) (ap (λ f. product g.K.Coeff.field f c.args.self.now) seen ∙ product_comm g.met.K.Coeff.lawful Q P) c.rows.ensures
