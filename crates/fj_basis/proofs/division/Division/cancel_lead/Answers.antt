use Rattle.std.proofs.Common.{◌≡◌, ℕ, ◌+◌, ◌<◌, max, List, IsTrue, length, get_or, set, All, Greater, ap, ap₂, ◌∙◌, sym, subst, arith}
use Rattle.std.specs.FinMap.{empty}
use Rattle.std.proofs.lemmas.List.{get_or_default}
use Rattle.fj_theory.specs.Exponents.{IsExponents, divides, minus, total}
use Rattle.fj_theory.specs.MonomialOrder.{compare_by}
use Rattle.fj_theory.specs.Polynomial.{IsPolynomial, lead, sum, product, term, terms_falling}
use Rattle.fj_theory.specs.Lead.{lead_exponents, lead_coefficient}
use Rattle.fj_theory.proofs.Field.{zero_below}
use Rattle.fj_theory.proofs.Lead.{lead_coefficient-nonzero, lead_coefficient-below}
use Rattle.fj_theory.proofs.Polynomial.{IsPolynomial-sum, IsPolynomial-term}
use Rattle.fj_groebner.specs.Division.{Division, cancel_lead}
use Rattle.fj_poly.specs.Slots.{without_lead}
use Rattle.fj_basis.specs.Quotients.{with_lead}
use Rattle.fj_basis.proofs.DivisionState.{some_from_map, lead-parts, lead-positive, lead-some}
use Rattle.fj_basis.proofs.Held.{state, state_same, split, rest-within, negative-nonzero, cancel_lead-taken}
use Rattle.fj_basis.proofs.Multiples.{quotient_nonzero, product_term-low}
use Rattle.fj_basis.proofs.division.Division.cancel_lead.Goals as goal

pub unwrap-d-requires : goal.unwrap-d-requires
unwrap-d-requires g c = some_from_map _ c.lead.result _ c.lead.ensures.lead (lead-some g.met.O.Order.monomial_order c.lead.ensures.polynomial c.requires.nonzero)

pub quot-monomial-requires : goal.quot-monomial-requires
quot-monomial-requires g c =
    let parts = lead-parts g.O.Order.key c.args.g.now _ (sym (rw c.unwrap-d.ensures at c.lead.ensures.lead)) in
    subst (λ a. IsTrue (divides a c.args.m.now.exponents)) parts.0 c.requires.divisor

pub returns-then-risen-gt-DEGREE_LIMIT-clause-high : goal.returns-then-risen-gt-DEGREE_LIMIT-clause-high
returns-then-risen-gt-DEGREE_LIMIT-clause-high g c =
    let parts = lead-parts g.O.Order.key c.args.g.now _ (sym (rw c.unwrap-d.ensures at c.lead.ensures.lead)) in
    let same : total (minus c.args.m.now.exponents (lead_exponents g.O.Order.key c.args.g.now)) ≡ c.total.result =
    ap (λ a. total (minus c.args.m.now.exponents a)) parts.0 ∙ ap total (sym c.quot-monomial.ensures) ∙ sym c.total.ensures in
    omega (arith, same)

pub ratio-coefficient-requires : goal.ratio-coefficient-requires
ratio-coefficient-requires g c =
    let parts = lead-parts g.O.Order.key c.args.g.now _ (sym (rw c.unwrap-d.ensures at c.lead.ensures.lead)) in
    let positive = lead_coefficient-nonzero g.met.O.Order.monomial_order c.lead.ensures.polynomial c.requires.nonzero in
    let same = parts.1 in
    λ z. absurd (omega (arith, positive, same, z))

pub add_multiple_of_rest-requires-clause-nonzero : goal.add_multiple_of_rest-requires-clause-nonzero
add_multiple_of_rest-requires-clause-nonzero g c =
    let F = g.K.Coeff.field in
    let L = g.met.K.Coeff.lawful in
    let O = g.met.O.Order.monomial_order in
    let parts = lead-parts g.O.Order.key c.args.g.now _ (sym (rw c.unwrap-d.ensures at c.lead.ensures.lead)) in
    let is : g.K.Coeff.rank c.ratio-coefficient.result ≡ F.mul (g.K.Coeff.rank c.args.c) (F.inverse (lead_coefficient g.O.Order.key c.args.g.now)) =
    c.ratio-coefficient.ensures ∙ ap (λ d. F.mul (g.K.Coeff.rank c.args.c) (F.inverse d)) (sym parts.1) in
    let P : IsPolynomial F c.args.self.now.dividend = subst (λ d. IsPolynomial F d.dividend) c.self.view_is c.self.invariant in
    let M : IsExponents c.args.m.now.exponents = record { eight = c.args.m.now.eight } in
    let positive = quotient_nonzero L (g.K.Coeff.rank c.args.c) (lead_coefficient g.O.Order.key c.args.g.now) (g.met.K.Coeff.rank_below c.args.c)
    (lead_coefficient-below O c.lead.ensures.polynomial (zero_below L))
    (lead-positive O (IsPolynomial-sum L (IsPolynomial-term (g.K.Coeff.rank c.args.c) (g.met.K.Coeff.rank_below c.args.c) M) P) c.requires.lead)
    (lead_coefficient-nonzero O c.lead.ensures.polynomial c.requires.nonzero) in
    λ z. negative-nonzero L O (g.K.Coeff.rank c.ratio-coefficient.result) (g.met.K.Coeff.rank_below c.ratio-coefficient.result) (omega (arith, is, positive)) (sym c.neg.ensures ∙ z)

pub add_multiple_of_rest-requires-clause-within : goal.add_multiple_of_rest-requires-clause-within
add_multiple_of_rest-requires-clause-within g c =
    let L = g.met.K.Coeff.lawful in
    let O = g.met.O.Order.monomial_order in
    let Q = c.lead.ensures.polynomial in
    product_term-low L (split L O Q c.requires.nonzero).rest (g.K.Coeff.rank c.neg.result) (g.met.K.Coeff.rank_below c.neg.result) (record { eight = c.quot-monomial.result.eight })
    c.args.sugar (rest-within L O Q c.requires.nonzero c.args.sugar c.requires.within) (omega (arith, c.total.ensures))

pub push_term-requires-clause-nonzero : goal.push_term-requires-clause-nonzero
push_term-requires-clause-nonzero g c =
    let F = g.K.Coeff.field in
    let L = g.met.K.Coeff.lawful in
    let O = g.met.O.Order.monomial_order in
    let parts = lead-parts g.O.Order.key c.args.g.now _ (sym (rw c.unwrap-d.ensures at c.lead.ensures.lead)) in
    let is : g.K.Coeff.rank c.ratio-coefficient.result ≡ F.mul (g.K.Coeff.rank c.args.c) (F.inverse (lead_coefficient g.O.Order.key c.args.g.now)) =
    c.ratio-coefficient.ensures ∙ ap (λ d. F.mul (g.K.Coeff.rank c.args.c) (F.inverse d)) (sym parts.1) in
    let P : IsPolynomial F c.args.self.now.dividend = subst (λ d. IsPolynomial F d.dividend) c.self.view_is c.self.invariant in
    let M : IsExponents c.args.m.now.exponents = record { eight = c.args.m.now.eight } in
    let positive = quotient_nonzero L (g.K.Coeff.rank c.args.c) (lead_coefficient g.O.Order.key c.args.g.now) (g.met.K.Coeff.rank_below c.args.c)
    (lead_coefficient-below O c.lead.ensures.polynomial (zero_below L))
    (lead-positive O (IsPolynomial-sum L (IsPolynomial-term (g.K.Coeff.rank c.args.c) (g.met.K.Coeff.rank_below c.args.c) M) P) c.requires.lead)
    (lead_coefficient-nonzero O c.lead.ensures.polynomial c.requires.nonzero) in
    λ z. absurd (omega (arith, is, positive, z))

pub push_term-requires-clause-below : goal.push_term-requires-clause-below
push_term-requires-clause-below g c =
    let parts = lead-parts g.O.Order.key c.args.g.now _ (sym (rw c.unwrap-d.ensures at c.lead.ensures.lead)) in
    let items : c.self.inside.quotients.items ≡ c.args.self.now.quotients = ap (λ d. d.quotients) c.self.view_is in
    let own : c.index_mut.result.now ≡ get_or c.args.self.now.quotients c.args.k empty =
    c.index_mut.ensures.value ∙ get_or_default c.self.inside.quotients.items c.args.k c.index_mut.result.now empty (subst (λ qs. c.args.k < length qs) (sym items) c.requires.place)
    ∙ ap (λ qs. get_or qs c.args.k empty) items in
    let monomial : minus c.args.m.now.exponents (lead_exponents g.O.Order.key c.args.g.now) ≡ c.quot-monomial.result.exponents = ap (minus c.args.m.now.exponents) parts.0 ∙ sym c.quot-monomial.ensures in
    subst (λ q. All (λ t. compare_by g.O.Order.key t.0 c.quot-monomial.result.exponents ≡ Greater) (terms_falling g.O.Order.key q)) (sym own)
    (subst (λ a. All (λ t. compare_by g.O.Order.key t.0 a ≡ Greater) (terms_falling g.O.Order.key (get_or c.args.self.now.quotients c.args.k empty))) monomial c.requires.above)

pub returns-clause-value : goal.returns-clause-value
returns-clause-value g c =
    let F = g.K.Coeff.field in
    let L = g.met.K.Coeff.lawful in
    let O = g.met.O.Order.monomial_order in
    let key = g.O.Order.key in
    let parts = lead-parts key c.args.g.now _ (sym (rw c.unwrap-d.ensures at c.lead.ensures.lead)) in
    let e : ℕ = F.mul (g.K.Coeff.rank c.args.c) (F.inverse (lead_coefficient key c.args.g.now)) in
    let a : List ℕ = minus c.args.m.now.exponents (lead_exponents key c.args.g.now) in
    let rest = without_lead F key c.args.g.now in
    let qs = c.self.inside.quotients.items in
    let s : Division = state c.self.inside.left qs c.self.inside.remainder c.self.inside.sugar in
    let M : IsExponents c.args.m.now.exponents = record { eight = c.args.m.now.eight } in
    let is : g.K.Coeff.rank c.ratio-coefficient.result ≡ e = c.ratio-coefficient.ensures ∙ ap (λ d. F.mul (g.K.Coeff.rank c.args.c) (F.inverse d)) (sym parts.1) in
    let monomial : c.quot-monomial.result.exponents ≡ a = c.quot-monomial.ensures ∙ ap (minus c.args.m.now.exponents) (sym parts.0) in
    let left : c.add_multiple_of_rest.new.self ≡ sum F c.self.inside.left (product F (term (F.neg e) a) rest) =
    c.in_ok-add_multiple_of_rest.ensures.value ∙ ap₂ (λ d b. sum F c.self.inside.left (product F (term d b) rest)) (c.neg.ensures ∙ ap F.neg is) monomial in
    let own : c.index_mut.result.now ≡ get_or qs c.args.k empty =
    c.index_mut.ensures.value ∙ get_or_default qs c.args.k c.index_mut.result.now empty (subst (λ d. c.args.k < length d.quotients) (sym c.self.view_is) c.requires.place) in
    let quotient : c.push_term.new.self ≡ sum F (get_or qs c.args.k empty) (term e a) = c.in_ok-push_term.ensures.value ∙ ap₂ (sum F) own (ap₂ term is monomial) in
    let degree : total a ≡ c.total.result = ap total (sym monomial) ∙ sym c.total.ensures in
    let risen : c.max-self-inside.result ≡ max c.self.inside.sugar (total a + c.args.sugar) = omega (arith, degree, c.max-self-inside.ensures) in
    let lead_is = ap (λ d. lead key (with_lead F (g.K.Coeff.rank c.args.c) c.args.m.now.exponents d).dividend) c.self.view_is ∙ c.requires.lead in
    state_same c.self.inside.remainder left (ap (set qs c.args.k) quotient) risen
    ∙ cancel_lead-taken L O s c.self.invariant M (g.K.Coeff.rank c.args.c) (g.met.K.Coeff.rank_below c.args.c) lead_is c.lead.ensures.polynomial c.requires.nonzero c.requires.divisor
    c.args.k c.args.sugar
    ∙ ap (λ d. cancel_lead F key c.args.k (record { polynomial = c.args.g.now; sugar = c.args.sugar }) (with_lead F (g.K.Coeff.rank c.args.c) c.args.m.now.exponents d)) c.self.view_is

pub returns-clause-high : goal.returns-clause-high
returns-clause-high g c =
    let parts = lead-parts g.O.Order.key c.args.g.now _ (sym (rw c.unwrap-d.ensures at c.lead.ensures.lead)) in
    let same : total (minus c.args.m.now.exponents (lead_exponents g.O.Order.key c.args.g.now)) ≡ c.total.result =
    ap (λ a. total (minus c.args.m.now.exponents a)) parts.0 ∙ ap total (sym c.quot-monomial.ensures) ∙ sym c.total.ensures in
    λ above. absurd (omega (arith, same, above))
