use Rattle.std.proofs.Common.{◌≡◌, ◌≤◌, ◌<◌, ◌^◌, All, rules, sym, ap, ◌∙◌, subst, arith}
use Rattle.fj_theory.specs.Exponents.{total}
use Rattle.fj_theory.specs.Plain.{IsPlain}
use Rattle.fj_theory.specs.Polynomial.{terms_falling}
use Rattle.fj_plain.specs.Terms as plain
use Rattle.fj_plain.proofs.Entries.{All-entries_back}
use Rattle.fj_poly.specs.Terms.{entries}
use Rattle.fj_poly.proofs.Plain.{IsPlain-falling, bounded_entries}
use Rattle.fj_poly.proofs.Polynomials.{each_term}
use Rattle.fj_poly.proofs.View.{terms_falling-polynomial_of}
use Rattle.fj_poly.proofs.poly.Poly.to_plain.Goals as goal

pub unwrap-requires : goal.unwrap-requires
unwrap-requires g c =
    let F = g.K.Coeff.field in
    let ts = entries g.K.Coeff.rank c.self.inside.terms.items in
    let same : ts ≡ plain.entries c.in_ok-terms.terms.items = sym (c.in_ok-terms.ensures ∙ ap (entries g.K.Coeff.rank) c.as_slice.ensures.value) in
    let below : All (λ t. t.1 < c.SIZE.result) ts = λ k d l. omega (arith, (each_term {F = F} ts c.self.invariant.1 k d l).below, c.SIZE.ensures, g.met.K.Coeff.size_is) in
    c.of.ensures.plain.1 (
      subst IsPlain same (IsPlain-falling F g.O.Order.key ts c.self.invariant.0 c.self.invariant.1 (bounded_entries g.K.Coeff.rank c.self.inside.terms.items)),
      All-entries_back (λ t. t.1 < c.SIZE.result) c.in_ok-terms.terms.items (subst (All (λ t. t.1 < c.SIZE.result)) same below),
    )

pub returns-clause-terms : goal.returns-clause-terms
returns-clause-terms g c =
    let same : c.unwrap.result.terms ≡ entries g.K.Coeff.rank c.self.inside.terms.items = search rules in
    same ∙ sym (ap (terms_falling g.O.Order.key) (sym c.self.view_is) ∙ terms_falling-polynomial_of g.met.O.Order.monomial_order g.K.Coeff.field _ c.self.invariant.0 c.self.invariant.1)

pub returns-clause-totals : goal.returns-clause-totals
returns-clause-totals g c =
    let same : c.unwrap.result.terms ≡ entries g.K.Coeff.rank c.self.inside.terms.items = search rules in
    subst (All (λ t. total t.0 ≤ 2 ^ 40)) (sym same) (bounded_entries g.K.Coeff.rank c.self.inside.terms.items)
