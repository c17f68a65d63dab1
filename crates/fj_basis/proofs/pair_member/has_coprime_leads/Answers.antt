use Rattle.std.proofs.Common.{ap₂, ◌∙◌, sym}
use Rattle.fj_groebner.specs.Run.{are_coprime, has_coprime_leads}
use Rattle.fj_basis.proofs.Leading.{lead_of-is}
use Rattle.fj_basis.proofs.pair_member.has_coprime_leads.Goals as goal

pub returns : goal.returns
unfolding has_coprime_leads
returns g c =
    let items = c.args.members.now in
    let i = rw c.first.ensures at c.index-members-first.is in
    let j = rw c.second.ensures at c.index-members-second.is in
    c.are_coprime.ensures
    ∙ ap₂ are_coprime (c.lead-first.ensures ∙ sym (lead_of-is g.O.Order.key items c.args.pair.now.i c.index-members-first.result c.requires.first i))
    (c.lead-second.ensures ∙ sym (lead_of-is g.O.Order.key items c.args.pair.now.j c.index-members-second.result c.requires.second j))
