use Rattle.std.proofs.Common.{◌≡◌, ◌≢◌, List, [], ◌∷◌, ◌++◌, map, ap, ap₂, ◌∙◌, sym}
use Rattle.std.specs.FinMap.{empty}
use Rattle.std.proofs.lemmas.List.{map-append}
use Rattle.fj_theory.specs.Lead.{lead_exponents}
use Rattle.fj_basis.specs.Leads.{exponents_of}
use Rattle.fj_basis.proofs.DivisionState.{lead-parts, lead-some, some_from_map}
use Rattle.fj_basis.proofs.FirstDivisor.{lead_list-more}
use Rattle.fj_basis.proofs.division.leads_of.Goals as goal

pub unwrap-lead-requires : goal.unwrap-lead-requires
unwrap-lead-requires g c =
    let some : c.polynomial.result.now ≢ empty =
    (λ z. c.requires c.loop-g.g-index c.g-item.result c.loop-g-test.true (ap (λ x. (g.D.Divisor.sugared x).polynomial) (sym c.g-item.is) ∙ sym c.polynomial.ensures ∙ z)) in
    some_from_map _ c.lead.result _ c.lead.ensures.lead (lead-some g.met.O.Order.monomial_order c.lead.ensures.polynomial some)

pub loop-g-preserved : goal.loop-g-preserved
loop-g-preserved g c =
    let key = g.O.Order.key in
    let parts = lead-parts key c.polynomial.result.now _ (sym (rw c.unwrap-lead.ensures at c.lead.ensures.lead)) in
    let own : c.unwrap-lead.result.1.exponents ≡ lead_exponents key (g.D.Divisor.sugared c.g-item.result).polynomial = sym parts.0 ∙ ap (lead_exponents key) c.polynomial.ensures in
    ap exponents_of c.in_ok-push.ensures.value ∙ map-append (λ m. m.exponents) c.loop-g.leads (c.unwrap-lead.result.1 ∷ [])
    ∙ ap₂ (λ es e. es ++ e ∷ []) c.loop-g.invariant own
    ∙ sym (lead_list-more key g.D.Divisor.sugared c.args.list.now c.loop-g.g-index c.g-item.result c.loop-g-test.true c.g-item.is)
