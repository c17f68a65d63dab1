use Rattle.std.proofs.Common.{◌≡◌, map, max, sym, ap, ◌∙◌}
use Rattle.fj_poly.specs.Terms.{entry}
use Rattle.fj_poly.proofs.View.{degree-polynomial_of}
use Rattle.std.proofs.Common.{take, sum, max}
use Rattle.std.specs.List.{reduce}
use Rattle.std.proofs.lemmas.List.{take_all}
use Rattle.std.proofs.lemmas.Simd.{map-map}
use Rattle.fj_theory.specs.Exponents.{total}
use Rattle.fj_poly.proofs.Changed.{low_list, entries_within}
use Rattle.fj_poly.specs.Terms.{entries}
use Rattle.fj_poly.proofs.poly.Poly.degree.Goals as goal

pub returns-clause-value : goal.returns-clause-value
returns-clause-value g c =
    let all : take c.loop-t.t-index c.as_slice-t-items.result.now ≡ c.self.inside.terms.items = take_all _ _ c.loop-t-test.false ∙ c.as_slice-t-items.ensures.value in
    rw (← c.self.view_is)
    (c.loop-t.invariant ∙ ap (λ ts. reduce max (map (λ t. sum t.monomial.exponents) ts)) all
    ∙ ap (reduce max) (sym (map-map (λ t. total t.0) (entry g.K.Coeff.rank) c.self.inside.terms.items))
    ∙ sym (degree-polynomial_of g.met.O.Order.monomial_order g.K.Coeff.field _ c.self.invariant.0 c.self.invariant.1))

pub returns-clause-limit : goal.returns-clause-limit
returns-clause-limit g c =
    rw (← c.self.view_is) (low_list g.met.K.Coeff.lawful (entries g.K.Coeff.rank c.self.inside.terms.items) c.self.invariant.1 (entries_within g.K.Coeff.rank c.self.inside.terms.items))
