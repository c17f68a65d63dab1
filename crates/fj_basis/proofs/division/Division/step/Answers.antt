use Rattle.std.proofs.Common.{◌≡◌, ◌<◌, List, length, map, get_or, Some, None, IsTrue, All, Greater, ap, ◌∙◌, sym, subst, subst₂, arith}
use Rattle.std.specs.FinMap.{empty}
use Rattle.std.proofs.lemmas.List.{length-map}
use Rattle.std.proofs.lemmas.Result.{on_ok_weaker}
use Rattle.fj_theory.specs.Exponents.{divides, minus}
use Rattle.fj_theory.specs.MonomialOrder.{compare_by}
use Rattle.fj_theory.specs.Polynomial.{terms_falling}
use Rattle.fj_theory.specs.Lead.{lead_exponents}
use Rattle.fj_groebner.specs.Division.{Sugared, DegreeAtMost, member_at}
use Rattle.fj_groebner.proofs.Division.{first_divisor-Some}
use Rattle.fj_basis.proofs.DivisionState.{lead-parts, some-lead}
use Rattle.fj_basis.proofs.DivisionSteps.{within_at, sugared_same, member_at-map, nonzero_list, step_by-cancel, step_by-move, sugar-cancel, sugar-move}
use Rattle.fj_basis.proofs.FirstDivisor.{first_divisor-from_leads}
use Rattle.fj_basis.proofs.Faults.{same_condition}
use Rattle.fj_basis.proofs.UnderWay.{factor-below, remainder-below, member-polynomial, member-nonzero}
use Rattle.fj_basis.specs.Quotients.{with_lead}
use Rattle.fj_basis.proofs.division.Division.step.Goals as goal

pub offset_bounds-list-k : goal.offset_bounds-list-k
offset_bounds-list-k g c =
    let found = first_divisor-Some g.O.Order.key (map g.D.Divisor.sugared c.args.list.now) c.args.m.now.exponents c.in-Some.k (sym (first_divisor-from_leads g.O.Order.key c.args.m.now.exponents (map g.D.Divisor.sugared c.args.list.now) c.requires.leads (Some c.in-Some.k) c.in-Some.ensures)) in
    let l = found.0 in
    omega (arith, l, length-map c.args.list.now g.D.Divisor.sugared)

pub bounds-list-k : goal.bounds-list-k
bounds-list-k g c =
    let found = first_divisor-Some g.O.Order.key (map g.D.Divisor.sugared c.args.list.now) c.args.m.now.exponents c.in-Some.k (sym (first_divisor-from_leads g.O.Order.key c.args.m.now.exponents (map g.D.Divisor.sugared c.args.list.now) c.requires.leads (Some c.in-Some.k) c.in-Some.ensures)) in
    let l = found.0 in
    omega (arith, l, length-map c.args.list.now g.D.Divisor.sugared)

pub cancel_lead-requires-clause-nonzero : goal.cancel_lead-requires-clause-nonzero
cancel_lead-requires-clause-nonzero g c =
    let G : List Sugared = map g.D.Divisor.sugared c.args.list.now in
    let found = first_divisor-Some g.O.Order.key G c.args.m.now.exponents c.in-Some.k (sym (first_divisor-from_leads g.O.Order.key c.args.m.now.exponents (map g.D.Divisor.sugared c.args.list.now) c.requires.leads (Some c.in-Some.k) c.in-Some.ensures)) in
    let l : c.in-Some.k < length c.args.list.now = (let l = found.0 in omega (arith, l, length-map c.args.list.now g.D.Divisor.sugared)) in
    let member = member_at-map g.D.Divisor.sugared c.args.list.now c.in-Some.k c.index-list-k.result l c.index-list-k.is in
    λ z. member-nonzero g.met.K.Coeff.lawful g.met.O.Order.monomial_order G c.requires.polynomials c.requires.nonzero c.in-Some.k found.0
    (ap (λ x. x.polynomial) member ∙ sym c.polynomial.ensures ∙ z)

pub cancel_lead-requires-clause-divisor : goal.cancel_lead-requires-clause-divisor
cancel_lead-requires-clause-divisor g c =
    let G : List Sugared = map g.D.Divisor.sugared c.args.list.now in
    let found = first_divisor-Some g.O.Order.key G c.args.m.now.exponents c.in-Some.k (sym (first_divisor-from_leads g.O.Order.key c.args.m.now.exponents (map g.D.Divisor.sugared c.args.list.now) c.requires.leads (Some c.in-Some.k) c.in-Some.ensures)) in
    let l : c.in-Some.k < length c.args.list.now = (let l = found.0 in omega (arith, l, length-map c.args.list.now g.D.Divisor.sugared)) in
    let member = member_at-map g.D.Divisor.sugared c.args.list.now c.in-Some.k c.index-list-k.result l c.index-list-k.is in
    subst (λ f. IsTrue (divides (lead_exponents g.O.Order.key f) c.args.m.now.exponents)) (ap (λ x. x.polynomial) member ∙ sym c.polynomial.ensures) found.1

pub cancel_lead-requires-clause-place : goal.cancel_lead-requires-clause-place
cancel_lead-requires-clause-place g c =
    let G : List Sugared = map g.D.Divisor.sugared c.args.list.now in
    let found = first_divisor-Some g.O.Order.key G c.args.m.now.exponents c.in-Some.k (sym (first_divisor-from_leads g.O.Order.key c.args.m.now.exponents (map g.D.Divisor.sugared c.args.list.now) c.requires.leads (Some c.in-Some.k) c.in-Some.ensures)) in
    let l = found.0 in
    let long = c.requires.state.long in
    omega (arith, l, long)

pub cancel_lead-requires-clause-within : goal.cancel_lead-requires-clause-within
cancel_lead-requires-clause-within g c =
    let G : List Sugared = map g.D.Divisor.sugared c.args.list.now in
    let found = first_divisor-Some g.O.Order.key G c.args.m.now.exponents c.in-Some.k (sym (first_divisor-from_leads g.O.Order.key c.args.m.now.exponents (map g.D.Divisor.sugared c.args.list.now) c.requires.leads (Some c.in-Some.k) c.in-Some.ensures)) in
    let l : c.in-Some.k < length c.args.list.now = (let l = found.0 in omega (arith, l, length-map c.args.list.now g.D.Divisor.sugared)) in
    let member = member_at-map g.D.Divisor.sugared c.args.list.now c.in-Some.k c.index-list-k.result l c.index-list-k.is in
    subst₂ DegreeAtMost (ap (λ x. x.sugar) member ∙ sym c.sugar.ensures) (ap (λ x. x.polynomial) member ∙ sym c.polynomial.ensures)
    (within_at G c.requires.within c.in-Some.k found.0)

pub cancel_lead-requires-clause-above : goal.cancel_lead-requires-clause-above
cancel_lead-requires-clause-above g c =
    let G : List Sugared = map g.D.Divisor.sugared c.args.list.now in
    let L = g.met.K.Coeff.lawful in
    let O = g.met.O.Order.monomial_order in
    let key = g.O.Order.key in
    let found = first_divisor-Some key G c.args.m.now.exponents c.in-Some.k (sym (first_divisor-from_leads g.O.Order.key c.args.m.now.exponents (map g.D.Divisor.sugared c.args.list.now) c.requires.leads (Some c.in-Some.k) c.in-Some.ensures)) in
    let l : c.in-Some.k < length c.args.list.now = (let l = found.0 in omega (arith, l, length-map c.args.list.now g.D.Divisor.sugared)) in
    let member = member_at-map g.D.Divisor.sugared c.args.list.now c.in-Some.k c.index-list-k.result l c.index-list-k.is in
    let lead_is = (lead-parts key (with_lead g.K.Coeff.field (g.K.Coeff.rank c.args.c) c.args.m.now.exponents c.args.self.now).dividend _ c.requires.lead).0 in
    let place : c.in-Some.k < length (with_lead g.K.Coeff.field (g.K.Coeff.rank c.args.c) c.args.m.now.exponents c.args.self.now).quotients = (let l = found.0 in let long = c.requires.state.long in omega (arith, l, long)) in
    let quotient = get_or (with_lead g.K.Coeff.field (g.K.Coeff.rank c.args.c) c.args.m.now.exponents c.args.self.now).quotients c.in-Some.k empty in
    subst₂ (λ f m. All (λ t. compare_by key t.0 (minus m (lead_exponents key f)) ≡ Greater) (terms_falling key (get_or (with_lead g.K.Coeff.field (g.K.Coeff.rank c.args.c) c.args.m.now.exponents c.args.self.now).quotients c.in-Some.k empty)))
    (ap (λ x. x.polynomial) member ∙ sym c.polynomial.ensures) lead_is
    (factor-below L O G c.requires.polynomials c.requires.nonzero c.requires.state (some-lead g.K.Coeff.field O c.requires.lead) c.in-Some.k place
    (member-polynomial L O G c.requires.polynomials c.requires.nonzero c.in-Some.k found.0)
    (subst (λ m. IsTrue (divides (lead_exponents key (member_at G c.in-Some.k).polynomial) m)) (sym lead_is) found.1))

pub returns-in-Some-clause-step : goal.returns-in-Some-clause-step
returns-in-Some-clause-step g c =
    let G : List Sugared = map g.D.Divisor.sugared c.args.list.now in
    let found = first_divisor-Some g.O.Order.key G c.args.m.now.exponents c.in-Some.k (sym (first_divisor-from_leads g.O.Order.key c.args.m.now.exponents (map g.D.Divisor.sugared c.args.list.now) c.requires.leads (Some c.in-Some.k) c.in-Some.ensures)) in
    let l : c.in-Some.k < length c.args.list.now = (let l = found.0 in omega (arith, l, length-map c.args.list.now g.D.Divisor.sugared)) in
    let member = member_at-map g.D.Divisor.sugared c.args.list.now c.in-Some.k c.index-list-k.result l c.index-list-k.is in
    on_ok_weaker c.cancel_lead.result
    (λ e. step_by-cancel g.K.Coeff.field g.met.O.Order.monomial_order G (with_lead g.K.Coeff.field (g.K.Coeff.rank c.args.c) c.args.m.now.exponents c.args.self.now) c.cancel_lead.new.self c.args.m.now.exponents _ c.requires.lead c.in-Some.k
    (record { polynomial = c.polynomial.result.now; sugar = c.sugar.result }) (first_divisor-from_leads g.O.Order.key c.args.m.now.exponents (map g.D.Divisor.sugared c.args.list.now) c.requires.leads (Some c.in-Some.k) c.in-Some.ensures) (member ∙ sugared_same (g.D.Divisor.sugared c.index-list-k.result) c.polynomial.ensures c.sugar.ensures) e)
    c.cancel_lead.ensures.value

pub returns-in-Some-clause-high : goal.returns-in-Some-clause-high
returns-in-Some-clause-high g c =
    let G : List Sugared = map g.D.Divisor.sugared c.args.list.now in
    let found = first_divisor-Some g.O.Order.key G c.args.m.now.exponents c.in-Some.k (sym (first_divisor-from_leads g.O.Order.key c.args.m.now.exponents (map g.D.Divisor.sugared c.args.list.now) c.requires.leads (Some c.in-Some.k) c.in-Some.ensures)) in
    let l : c.in-Some.k < length c.args.list.now = (let l = found.0 in omega (arith, l, length-map c.args.list.now g.D.Divisor.sugared)) in
    let member = member_at-map g.D.Divisor.sugared c.args.list.now c.in-Some.k c.index-list-k.result l c.index-list-k.is in
    let sugar = sugar-cancel g.K.Coeff.field g.met.O.Order.monomial_order G (with_lead g.K.Coeff.field (g.K.Coeff.rank c.args.c) c.args.m.now.exponents c.args.self.now) (with_lead g.K.Coeff.field (g.K.Coeff.rank c.args.c) c.args.m.now.exponents c.args.self.now) c.args.m.now.exponents _ c.requires.lead c.in-Some.k
    (record { polynomial = c.polynomial.result.now; sugar = c.sugar.result }) (first_divisor-from_leads g.O.Order.key c.args.m.now.exponents (map g.D.Divisor.sugared c.args.list.now) c.requires.leads (Some c.in-Some.k) c.in-Some.ensures) (member ∙ sugared_same (g.D.Divisor.sugared c.index-list-k.result) c.polynomial.ensures c.sugar.ensures) in
    let low = c.requires.low in
    same_condition c.cancel_lead.result (λ h. omega (arith, sugar, h)) (λ h. omega (arith, sugar, h, low)) c.cancel_lead.ensures.high

pub move_lead-requires-clause-above : goal.move_lead-requires-clause-above
move_lead-requires-clause-above g c =
    let key = g.O.Order.key in
    let O = g.met.O.Order.monomial_order in
    let own = (lead-parts key (with_lead g.K.Coeff.field (g.K.Coeff.rank c.args.c) c.args.m.now.exponents c.args.self.now).dividend _ c.requires.lead).0 in
    subst (λ m. All (λ t. compare_by key t.0 m ≡ Greater) (terms_falling key c.args.self.now.remainder)) own
    (remainder-below g.met.K.Coeff.lawful O (map g.D.Divisor.sugared c.args.list.now) c.requires.polynomials c.requires.nonzero c.requires.state (some-lead g.K.Coeff.field O c.requires.lead))

pub returns-in_ok-move_lead-in-None-clause-step : goal.returns-in_ok-move_lead-in-None-clause-step
returns-in_ok-move_lead-in-None-clause-step g c =
    step_by-move g.K.Coeff.field g.met.O.Order.monomial_order (map g.D.Divisor.sugared c.args.list.now) (with_lead g.K.Coeff.field (g.K.Coeff.rank c.args.c) c.args.m.now.exponents c.args.self.now)
    c.move_lead.new.self c.args.m.now.exponents _ c.requires.lead (first_divisor-from_leads g.O.Order.key c.args.m.now.exponents (map g.D.Divisor.sugared c.args.list.now) c.requires.leads None c.in-None.ensures) c.in_ok-move_lead-in-None.ensures

pub returns-in_ok-move_lead-in-None-clause-high : goal.returns-in_ok-move_lead-in-None-clause-high
returns-in_ok-move_lead-in-None-clause-high g c =
    let before = with_lead g.K.Coeff.field (g.K.Coeff.rank c.args.c) c.args.m.now.exponents c.args.self.now in
    let sugar = sugar-move g.K.Coeff.field g.met.O.Order.monomial_order (map g.D.Divisor.sugared c.args.list.now) before before c.args.m.now.exponents _ c.requires.lead (first_divisor-from_leads g.O.Order.key c.args.m.now.exponents (map g.D.Divisor.sugared c.args.list.now) c.requires.leads None c.in-None.ensures) in
    let low = c.requires.low in
    λ h. absurd (omega (arith, sugar, h, low))
