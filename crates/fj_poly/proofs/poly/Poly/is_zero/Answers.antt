use Rattle.std.proofs.Common.{◌≡◌, [], length, sym, ap, ◌∙◌}
use Rattle.std.proofs.lemmas.List.{length-map, nil_from_length}
use Rattle.std.proofs.lemmas.Bool.{eqb-true, eq-eqb}
use Rattle.fj_poly.specs.Terms.{entry, entries}
use Rattle.fj_poly.proofs.View.{polynomial_of-empty, polynomial_seen}
use Rattle.fj_poly.proofs.Polynomials.{polynomial_of}
use Rattle.fj_poly.proofs.poly.Poly.is_zero.Goals as goal

pub returns-clause-zero : goal.returns-clause-zero
returns-clause-zero g c = rw (c.is_empty.ensures, ← c.self.view_is) (
  λ h. let none : c.self.inside.terms.items ≡ [] = nil_from_length _ (sym c.self.inside.terms.ok.0 ∙ eqb-true _ _ h) in
      ap (λ ts. polynomial_of (entries g.K.Coeff.rank ts)) none,
  λ e. let none : entries g.K.Coeff.rank c.self.inside.terms.items ≡ [] = polynomial_of-empty g.K.Coeff.field _ c.self.invariant.1 e in
      eq-eqb _ _ (c.self.inside.terms.ok.0 ∙ sym (length-map c.self.inside.terms.items (entry g.K.Coeff.rank)) ∙ ap length none),
)

pub returns-clause-polynomial : goal.returns-clause-polynomial
returns-clause-polynomial g c = polynomial_seen _ c.self.invariant.1 c.self.view_is
