use Rattle.std.proofs.Common.{sym}
use Rattle.fj_basis.proofs.DivisionState.{lead-parts, lead-some, some_from_map}
use Rattle.fj_basis.proofs.members.Member.lead.Goals as goal

pub unwrap-m-requires : goal.unwrap-m-requires
unwrap-m-requires g c = some_from_map _ c.lead.result _ c.lead.ensures.lead (lead-some g.met.O.Order.monomial_order c.lead.ensures.polynomial c.requires)

pub returns : goal.returns
returns g c = sym (lead-parts g.O.Order.key c.args.self.now.polynomial _ (sym (rw c.unwrap-m.ensures at c.lead.ensures.lead))).0
