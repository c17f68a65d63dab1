use Rattle.std.proofs.Common.{◌≡◌, ◌<◌, List, Some, None, map, ap, ◌∙◌, sym, subst, arith, ⊎_elim}
use Rattle.std.proofs.lemmas.Bool.{cases_lt}
use Rattle.std.proofs.lemmas.Result.{err_from_is_err_and}
use Rattle.fj_theory.specs.Polynomial.{lead}
use Rattle.fj_groebner.specs.Division.{IsDivisionStep, IsLowDivision, Sugared, degree_limit}
use Rattle.fj_groebner.proofs.Division.{IsLowDivision-IsHighDivision}
use Rattle.fj_basis.specs.Quotients.{IsUnderWay, with_lead}
use Rattle.fj_basis.proofs.DivisionState.{some-lead}
use Rattle.fj_basis.proofs.DivisionSteps.{nonzero_list}
use Rattle.fj_basis.proofs.Faults.{handed_on}
use Rattle.fj_basis.proofs.Held.{nothing-taken, with_lead-taken}
use Rattle.fj_basis.proofs.Reached.{Reached, start-is, Reached-start, Reached-step, Reached-end, Reached-high, Reached-falls, after-step, after-sugar, next-sugar}
use Rattle.fj_basis.proofs.division.divide_sugared.Goals as goal

pub leads_of-requires : goal.leads_of-requires
leads_of-requires g c = nonzero_list g.D.Divisor.sugared c.args.list.now c.requires.nonzero

pub loop-division-init : goal.loop-division-init
loop-division-init g c = record {
  reached = Reached-start g.met.K.Coeff.lawful g.met.O.Order.monomial_order (map g.D.Divisor.sugared c.args.list.now) c.requires.polynomials c.requires.nonzero
      (record { polynomial = c.args.h.now; sugar = c.args.sugar }) c.in_ok-division.ensures.polynomial c.in_ok-division.division
      (c.in_ok-division.ensures.value ∙ start-is g.D.Divisor.sugared c.args.list.now c.args.h.now c.args.sugar) c.requires.low;
  polynomial = c.in_ok-division.ensures.polynomial;
}

pub step-requires-clause-lead : goal.step-requires-clause-lead
step-requires-clause-lead g c =
    let L = g.met.K.Coeff.lawful in
    let O = g.met.O.Order.monomial_order in
    let is : lead g.O.Order.key c.loop-division.division.dividend ≡ Some (c.in-Some.lead.1.exponents, g.K.Coeff.rank c.in-Some.lead.0) = sym (rw c.in-Some.is at c.in_ok-lead.ensures.lead) in
    let back = with_lead-taken L O c.loop-division.invariant.reached.under_way.dividend c.in-Some.lead.1.exponents (g.K.Coeff.rank c.in-Some.lead.0) is c.take_lead.new.self c.in_ok-lead.ensures.rest
    (some-lead g.K.Coeff.field O is) in
    ap (λ d. lead g.O.Order.key d.dividend) back ∙ is

pub step-requires-clause-state : goal.step-requires-clause-state
step-requires-clause-state g c =
    let L = g.met.K.Coeff.lawful in
    let O = g.met.O.Order.monomial_order in
    let is : lead g.O.Order.key c.loop-division.division.dividend ≡ Some (c.in-Some.lead.1.exponents, g.K.Coeff.rank c.in-Some.lead.0) = sym (rw c.in-Some.is at c.in_ok-lead.ensures.lead) in
    let under_way = c.loop-division.invariant.reached.under_way in
    let back = with_lead-taken L O under_way.dividend c.in-Some.lead.1.exponents (g.K.Coeff.rank c.in-Some.lead.0) is c.take_lead.new.self c.in_ok-lead.ensures.rest (some-lead g.K.Coeff.field O is) in
    subst (IsUnderWay g.K.Coeff.field g.O.Order.key (map g.D.Divisor.sugared c.args.list.now)) (sym back) under_way

pub step-requires-clause-low : goal.step-requires-clause-low
step-requires-clause-low g c =
    let same = ap (λ d. d.sugar) c.in_ok-lead.ensures.rest in
    let low = c.loop-division.invariant.reached.low in
    omega (arith, same, low)

pub loop-division-preserved : goal.loop-division-preserved
loop-division-preserved g c =
    let L = g.met.K.Coeff.lawful in
    let O = g.met.O.Order.monomial_order in
    let F = g.K.Coeff.field in
    let key = g.O.Order.key in
    let G : List Sugared = map g.D.Divisor.sugared c.args.list.now in
    let h : Sugared = record { polynomial = c.args.h.now; sugar = c.args.sugar } in
    let H = c.loop-division.invariant.polynomial in
    let reached = c.loop-division.invariant.reached in
    let is : lead key c.loop-division.division.dividend ≡ Some (c.in-Some.lead.1.exponents, g.K.Coeff.rank c.in-Some.lead.0) = sym (rw c.in-Some.is at c.in_ok-lead.ensures.lead) in
    let back = with_lead-taken L O reached.under_way.dividend c.in-Some.lead.1.exponents (g.K.Coeff.rank c.in-Some.lead.0) is c.take_lead.new.self c.in_ok-lead.ensures.rest (some-lead F O is) in
    let step : IsDivisionStep F key G c.loop-division.division c.step.new.self = subst (λ d. IsDivisionStep F key G d c.step.new.self) back c.in_ok-step.ensures.step in
    let taken = ap (λ d. lead key d.dividend) back ∙ is in
    let sugar = next-sugar L O G c.requires.polynomials c.requires.nonzero h H taken c.in_ok-step.ensures.step in
    record {
      reached = Reached-step L O G c.requires.polynomials c.requires.nonzero h H reached step
          (⊎_elim (λ high. absurd (c.in_ok-step.ensures.high (subst (λ n. degree_limit < n) sugar high))) (λ low. low) (cases_lt degree_limit c.step.new.self.sugar));
      polynomial = H;
    }

pub loop-division-smaller : goal.loop-division-smaller
loop-division-smaller g c =
    let L = g.met.K.Coeff.lawful in
    let O = g.met.O.Order.monomial_order in
    let F = g.K.Coeff.field in
    let key = g.O.Order.key in
    let G : List Sugared = map g.D.Divisor.sugared c.args.list.now in
    let h : Sugared = record { polynomial = c.args.h.now; sugar = c.args.sugar } in
    let H = c.loop-division.invariant.polynomial in
    let reached = c.loop-division.invariant.reached in
    let is : lead key c.loop-division.division.dividend ≡ Some (c.in-Some.lead.1.exponents, g.K.Coeff.rank c.in-Some.lead.0) = sym (rw c.in-Some.is at c.in_ok-lead.ensures.lead) in
    let back = with_lead-taken L O reached.under_way.dividend c.in-Some.lead.1.exponents (g.K.Coeff.rank c.in-Some.lead.0) is c.take_lead.new.self c.in_ok-lead.ensures.rest (some-lead F O is) in
    let step : IsDivisionStep F key G c.loop-division.division c.step.new.self = subst (λ d. IsDivisionStep F key G d c.step.new.self) back c.in_ok-step.ensures.step in
    let taken = ap (λ d. lead key d.dividend) back ∙ is in
    let sugar = next-sugar L O G c.requires.polynomials c.requires.nonzero h H taken c.in_ok-step.ensures.step in
    let next = Reached-step L O G c.requires.polynomials c.requires.nonzero h H reached step
    (⊎_elim (λ high. absurd (c.in_ok-step.ensures.high (subst (λ n. degree_limit < n) sugar high))) (λ low. low) (cases_lt degree_limit c.step.new.self.sugar)) in
    Reached-falls L O G c.requires.polynomials c.requires.nonzero h H c.requires.within c.requires.bound reached next step is

pub returns-in_err-step-clause-high : goal.returns-in_err-step-clause-high
returns-in_err-step-clause-high g c =
    let L = g.met.K.Coeff.lawful in
    let O = g.met.O.Order.monomial_order in
    let F = g.K.Coeff.field in
    let key = g.O.Order.key in
    let G : List Sugared = map g.D.Divisor.sugared c.args.list.now in
    let h : Sugared = record { polynomial = c.args.h.now; sugar = c.args.sugar } in
    let H = c.loop-division.invariant.polynomial in
    let reached = c.loop-division.invariant.reached in
    let p = err_from_is_err_and c.from_residual-in_err-step.result c.from_residual-in_err-step.ensures.1 in
    let is : lead key c.loop-division.division.dividend ≡ Some (c.in-Some.lead.1.exponents, g.K.Coeff.rank c.in-Some.lead.0) = sym (rw c.in-Some.is at c.in_ok-lead.ensures.lead) in
    let back = with_lead-taken L O reached.under_way.dividend c.in-Some.lead.1.exponents (g.K.Coeff.rank c.in-Some.lead.0) is c.take_lead.new.self c.in_ok-lead.ensures.rest (some-lead F O is) in
    let before = with_lead F (g.K.Coeff.rank c.in-Some.lead.0) c.in-Some.lead.1.exponents c.take_lead.new.self in
    let taken : lead key before.dividend ≡ Some (c.in-Some.lead.1.exponents, g.K.Coeff.rank c.in-Some.lead.0) = ap (λ d. lead key d.dividend) back ∙ is in
    let sugar = after-sugar L O G c.requires.polynomials c.requires.nonzero h H before taken in
    handed_on (Unit {0}) _ _ _ _ p.0 c.in_err-step.field-0.0 p.1 p.2
    (λ high. Reached-high L O G c.requires.polynomials c.requires.nonzero h H (subst (Reached F key G h) (sym back) reached) (after-step L O G c.requires.polynomials c.requires.nonzero h H taken)
    (subst (λ n. degree_limit < n) (sym sugar) high)) c.in_err-step.ensures.high

pub returns-clause-value : goal.returns-clause-value
returns-clause-value g c =
    let L = g.met.K.Coeff.lawful in
    let O = g.met.O.Order.monomial_order in
    let G : List Sugared = map g.D.Divisor.sugared c.args.list.now in
    let h : Sugared = record { polynomial = c.args.h.now; sugar = c.args.sugar } in
    let reached = c.loop-division.invariant.reached in
    let none : lead g.O.Order.key c.loop-division.division.dividend ≡ None = sym (rw c.in_default.is at c.in_ok-lead.ensures.lead) in
    subst (IsLowDivision g.K.Coeff.field g.O.Order.key G h) (nothing-taken L O reached.under_way.dividend none c.in_ok-lead.ensures.rest)
    (Reached-end L O G c.requires.polynomials c.requires.nonzero h c.loop-division.invariant.polynomial reached none)

pub returns-clause-high : goal.returns-clause-high
returns-clause-high g c =
    let none : lead g.O.Order.key c.loop-division.division.dividend ≡ None = sym (rw c.in_default.is at c.in_ok-lead.ensures.lead) in
    IsLowDivision-IsHighDivision
    (Reached-end g.met.K.Coeff.lawful g.met.O.Order.monomial_order (map g.D.Divisor.sugared c.args.list.now) c.requires.polynomials c.requires.nonzero
    (record { polynomial = c.args.h.now; sugar = c.args.sugar }) c.loop-division.invariant.polynomial c.loop-division.invariant.reached none)
