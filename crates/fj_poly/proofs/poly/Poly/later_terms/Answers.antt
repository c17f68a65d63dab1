use Rattle.std.proofs.Common.{◌≡◌, ◌≢◌, ◌-◌, ◌≤◌, ℕ, List, [], ◌∷◌, length, take, drop, sym, ap, ◌∙◌, arith}
use Rattle.std.specs.FinMap.{empty}
use Rattle.std.proofs.lemmas.List.{take_all}
use Rattle.fj_coeff.specs.Field.{Field, IsField}
use Rattle.fj_theory.specs.MonomialOrder.{IsMonomialOrder}
use Rattle.fj_theory.specs.Polynomial.{Polynomial, IsFalling}
use Rattle.fj_poly.specs.Slots.{without_lead}
use Rattle.fj_poly.specs.Terms.{AreTerms, entry, entries}
use Rattle.fj_poly.specs.declared.poly.Term.{Term}
use Rattle.fj_poly.proofs.Leads.{without_lead-first}
use Rattle.fj_poly.proofs.Polynomials.{polynomial_of}
use Rattle.fj_poly.proofs.poly.Poly.later_terms.Goals as goal

later : {K : Type 0} {F : Field} (L : IsField F) {key : List ℕ → List ℕ} (O : IsMonomialOrder key) (rank : K → ℕ) (items : List (Term K)) {f : Polynomial}
    → IsFalling key (entries rank items) → AreTerms F (entries rank items) → polynomial_of (entries rank items) ≡ f → f ≢ empty
    → polynomial_of (entries rank (take (length items - 1) (drop 1 items))) ≡ without_lead F key f
later L O rank [] falls terms seen n = absurd (n (sym seen))
later {F = F} L {key} O rank (t ∷ items) falls terms seen n =
    let short : length items ≤ length (t ∷ items) - 1 = omega arith in
    ap (λ ts. polynomial_of (entries rank ts)) (take_all (length (t ∷ items) - 1) items short)
    ∙ sym (without_lead-first L O (entry rank t) (entries rank items) falls terms) ∙ ap (without_lead F key) seen

pub returns-clause-value : goal.returns-clause-value
returns-clause-value g c =
    let same = c.deref.ensures.value in
    rw same (later g.met.K.Coeff.lawful g.met.O.Order.monomial_order g.K.Coeff.rank c.self.inside.terms.items c.self.invariant.0 c.self.invariant.1 c.self.view_is c.requires)
