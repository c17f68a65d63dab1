use Rattle.std.proofs.Common.{◌≡◌, ℕ, List, get_or, Some, sym, ap₂, ◌∙◌, subst, length, ◌<◌, arith}
use Rattle.std.specs.FinMap.{empty}
use Rattle.std.specs.Option.{option_map}
use Rattle.std.proofs.lemmas.List.{get_or_default}
use Rattle.fj_coeff.specs.Field.{Field, IsField}
use Rattle.fj_theory.specs.MonomialOrder.{IsMonomialOrder, compare_by}
use Rattle.fj_theory.specs.Polynomial.{Polynomial, IsPolynomial, lead}
use Rattle.fj_poly.proofs.Leads.{HasMonomial, empty-no_monomial, has_monomial, some_lead}
use Rattle.fj_poly.proofs.Slots.{greatest-zero, greatest-first, greatest-above, greatest-kept}
use Rattle.fj_poly.proofs.buckets.greater.Goals as goal

at : (fs : List Polynomial) (i : ℕ) (x : Polynomial) → i < length fs → x ≡ get_or fs i x → x ≡ get_or fs i empty
at fs i x l e = e ∙ get_or_default fs i x empty l

-- What is seen of the lead of the slot at a place.
record IsSeen {F : Field} (L : IsField F) {key : List ℕ → List ℕ} (O : IsMonomialOrder key) (f : Polynomial) (a : List ℕ) : Type 0 where
  pub polynomial : IsPolynomial F f
  pub monomial : HasMonomial L O f a

seen : {F : Field} (L : IsField F) {key : List ℕ → List ℕ} (O : IsMonomialOrder key) (fs : List Polynomial) (i : ℕ) (x : Polynomial) → i < length fs → x ≡ get_or fs i x → (a : List ℕ) → IsPolynomial F x
    → Some a ≡ option_map {T = List ℕ × ℕ} {U = List ℕ} (λ t. t.0) (lead key x) → IsSeen L O (get_or fs i empty) a
seen L O fs i x l e a P h = subst (λ f. IsSeen L O f a) (at fs i x l e) (record { polynomial = P; monomial = has_monomial L O a (sym h) })

pub returns-in_default : goal.returns-in_default
returns-in_default g c =
    greatest-zero g.met.K.Coeff.lawful g.met.O.Order.monomial_order c.args.slots.now c.args.i c.args.place c.requires.before
    (sym (at c.args.slots.now c.args.i c.index-slots-i.result c.requires.inside c.index-slots-i.is) ∙ empty-no_monomial g.met.K.Coeff.lawful g.met.O.Order.monomial_order c.in_default.ensures.polynomial (sym c.in_default.ensures.lead))

pub returns-in_default-place : goal.returns-in_default-place
returns-in_default-place g c =
    let L = g.met.K.Coeff.lawful in
    let O = g.met.O.Order.monomial_order in
    let first = seen L O c.args.slots.now c.args.i c.index-slots-i.result c.requires.inside c.index-slots-i.is c.in-Some.m.now.exponents c.in-Some.ensures.polynomial c.in-Some.ensures.lead in
    greatest-first L O c.args.slots.now c.args.i first.polynomial first.monomial.nonzero (rw c.in_default-place.is at c.requires.before)

pub unwrap-n-requires : goal.unwrap-n-requires
unwrap-n-requires g c =
    let L = g.met.K.Coeff.lawful in
    let O = g.met.O.Order.monomial_order in
    let before = rw c.in-Some-place.is at c.requires.before in
    let within : c.in-Some-place.k < length c.args.slots.now = omega (arith, before.place, c.requires.inside) in
    some_lead L O _ c.lead-2.result c.lead-2.ensures.polynomial
    (λ e. before.nonzero (sym (at c.args.slots.now c.in-Some-place.k c.index-slots-k.result within c.index-slots-k.is) ∙ e)) c.lead-2.ensures.lead

pub returns-in-Greater : goal.returns-in-Greater
returns-in-Greater g c =
    let L = g.met.K.Coeff.lawful in
    let O = g.met.O.Order.monomial_order in
    let before = rw c.in-Some-place.is at c.requires.before in
    let within : c.in-Some-place.k < length c.args.slots.now = omega (arith, before.place, c.requires.inside) in
    let first = seen L O c.args.slots.now c.args.i c.index-slots-i.result c.requires.inside c.index-slots-i.is c.in-Some.m.now.exponents c.in-Some.ensures.polynomial c.in-Some.ensures.lead in
    let second = seen L O c.args.slots.now c.in-Some-place.k c.index-slots-k.result within c.index-slots-k.is c.unwrap-n.result.now.exponents c.lead-2.ensures.polynomial
    (rw c.unwrap-n.ensures at c.lead-2.ensures.lead) in
    greatest-above L O c.args.slots.now c.args.i first.polynomial first.monomial.nonzero c.in-Some-place.k before
    (ap₂ (compare_by g.O.Order.key) first.monomial.exponents second.monomial.exponents ∙ sym c.cmp.ensures ∙ c.in-Greater.is)

pub returns-in_default-cmp : goal.returns-in_default-cmp
returns-in_default-cmp g c =
    let L = g.met.K.Coeff.lawful in
    let O = g.met.O.Order.monomial_order in
    let before = rw c.in-Some-place.is at c.requires.before in
    let within : c.in-Some-place.k < length c.args.slots.now = omega (arith, before.place, c.requires.inside) in
    let first = seen L O c.args.slots.now c.args.i c.index-slots-i.result c.requires.inside c.index-slots-i.is c.in-Some.m.now.exponents c.in-Some.ensures.polynomial c.in-Some.ensures.lead in
    let second = seen L O c.args.slots.now c.in-Some-place.k c.index-slots-k.result within c.index-slots-k.is c.unwrap-n.result.now.exponents c.lead-2.ensures.polynomial
    (rw c.unwrap-n.ensures at c.lead-2.ensures.lead) in
    greatest-kept L O c.args.slots.now c.args.i first.polynomial first.monomial.nonzero c.in-Some-place.k before second.polynomial
    (λ e. c.in_default-cmp.not-Greater (c.cmp.ensures ∙ ap₂ (compare_by g.O.Order.key) (sym first.monomial.exponents) (sym second.monomial.exponents) ∙ e))
