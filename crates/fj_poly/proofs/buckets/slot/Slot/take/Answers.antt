use Rattle.std.proofs.Common.{refl, sym}
use Rattle.fj_poly.proofs.Leads.{has_monomial, sum-zero_term, IsBelow-other_lead}
use Rattle.fj_poly.proofs.buckets.slot.Slot.take.Goals as goal

pub pop-coefficient-requires : goal.pop-coefficient-requires
pop-coefficient-requires g c = (has_monomial g.met.K.Coeff.lawful g.met.O.Order.monomial_order _ (c.if-has_lead.ensures.lead.0 refl)).nonzero

pub returns-else-has_lead-clause-value : goal.returns-else-has_lead-clause-value
returns-else-has_lead-clause-value g c = sym (sum-zero_term g.met.K.Coeff.lawful c.if-has_lead.ensures.polynomial _ _ c.zero.ensures)

pub returns-else-has_lead-clause-below : goal.returns-else-has_lead-clause-below
returns-else-has_lead-clause-below g c =
    IsBelow-other_lead g.met.K.Coeff.lawful g.met.O.Order.monomial_order (record { eight = c.args.m.now.eight }) c.if-has_lead.ensures.polynomial c.requires
    (λ x. let z = c.if-has_lead.ensures.lead.1 x in cc)
