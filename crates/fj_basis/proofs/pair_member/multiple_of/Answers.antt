use Rattle.std.proofs.Common.{IsTrue, ap, ap₂, ◌∙◌, sym, subst}
use Rattle.std.proofs.lemmas.Result.{IfOk-weaker}
use Rattle.fj_theory.specs.Exponents.{divides, minus}
use Rattle.fj_theory.specs.Polynomial.{product, term}
use Rattle.fj_poly.specs.Limit.{IsHigh}
use Rattle.fj_basis.specs.Members.{sugared_members}
use Rattle.fj_basis.proofs.Leading.{places, member_is, lead_of-is, nonzero_at, nonzero_members, never_high, multiple-low}
use Rattle.fj_basis.proofs.MonicMembers.{monic-AreGood}
use Rattle.fj_basis.proofs.pair_member.multiple_of.Goals as goal

pub lead-requires : goal.lead-requires
lead-requires g c =
    let good = monic-AreGood g.met.K.Coeff.lawful g.met.O.Order.monomial_order c.requires.members in
    let items = c.args.members.now in
    nonzero_at items (nonzero_members items good.nonzero) c.args.k c.index-members-k.result c.requires.place c.index-members-k.is

pub quot-factor-requires : goal.quot-factor-requires
quot-factor-requires g c =
    let items = c.args.members.now in
    subst (λ a. IsTrue (divides a c.args.m.now.exponents)) (lead_of-is g.O.Order.key items c.args.k c.index-members-k.result c.requires.place c.index-members-k.is ∙ sym c.lead.ensures) c.requires.divisor

pub returns-clause-value : goal.returns-clause-value
returns-clause-value g c =
    let items = c.args.members.now in
    let F = g.K.Coeff.field in
    let factor = c.quot-factor.ensures ∙ ap (minus c.args.m.now.exponents) (c.lead.ensures ∙ sym (lead_of-is g.O.Order.key items c.args.k c.index-members-k.result c.requires.place c.index-members-k.is)) in
    let member = ap (λ x. x.polynomial) (member_is items c.args.k c.index-members-k-2.result c.requires.place c.index-members-k-2.is) ∙ ap (λ x. x.polynomial) c.index-members-k-2.is in
    IfOk-weaker c.shift.result _ _ (λ f e. e ∙ ap₂ (λ a h. product F (term 1 a) h) factor (sym member)) c.shift.ensures.value

pub returns-clause-high : goal.returns-clause-high
returns-clause-high g c =
    let items = c.args.members.now in
    let F = g.K.Coeff.field in
    let good = monic-AreGood g.met.K.Coeff.lawful g.met.O.Order.monomial_order c.requires.members in
    let factor = c.quot-factor.ensures ∙ ap (minus c.args.m.now.exponents) (c.lead.ensures ∙ sym (lead_of-is g.O.Order.key items c.args.k c.index-members-k.result c.requires.place c.index-members-k.is)) in
    let member = ap (λ x. x.polynomial) (member_is items c.args.k c.index-members-k-2.result c.requires.place c.index-members-k-2.is) ∙ ap (λ x. x.polynomial) c.index-members-k-2.is in
    never_high ⊥ c.shift.result c.shift.ensures.high
    (λ high. multiple-low g.met.K.Coeff.lawful g.met.O.Order.monomial_order (sugared_members items) good c.args.k (places items c.args.k c.requires.place) c.args.m.now.exponents
    (record { eight = c.args.m.now.eight }) c.requires.divisor c.requires.low (subst IsHigh (ap₂ (λ a h. product F (term 1 a) h) factor (sym member)) high))
