use Rattle.std.proofs.Common.{◌-◌, ap, ap₂, ◌∙◌, sym}
use Rattle.fj_theory.specs.Exponents.{total}
use Rattle.fj_basis.proofs.Leading.{member_is, lead_of-is, nonzero_at}
use Rattle.fj_basis.proofs.pair_member.above.Goals as goal

pub lead-requires : goal.lead-requires
lead-requires g c = nonzero_at c.args.members.now c.requires.nonzero c.args.k c.index-members-k-2.result c.requires.place c.index-members-k-2.is

pub returns : goal.returns
returns g c =
    c.saturating_sub.ensures
    ∙ ap₂ (λ a b. a - b) (ap (λ x. x.sugar) (sym c.index-members-k.is) ∙ sym (ap (λ x. x.sugar) (member_is c.args.members.now c.args.k c.index-members-k.result c.requires.place c.index-members-k.is)))
    (c.total.ensures ∙ ap total (c.lead.ensures ∙ sym (lead_of-is g.O.Order.key c.args.members.now c.args.k c.index-members-k-2.result c.requires.place c.index-members-k-2.is)))
