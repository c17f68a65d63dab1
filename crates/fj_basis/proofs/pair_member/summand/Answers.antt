use Rattle.std.proofs.Common.{IsTrue, ap, ◌∙◌, sym, subst}
use Rattle.fj_theory.specs.Exponents.{divides, minus}
use Rattle.fj_theory.specs.Polynomial.{term}
use Rattle.fj_basis.proofs.Leading.{lead_of-is}
use Rattle.fj_basis.proofs.pair_member.summand.Goals as goal

pub quot-monomial-requires : goal.quot-monomial-requires
quot-monomial-requires g c =
    let items = c.args.members.now in
    subst (λ a. IsTrue (divides a c.args.m.now.exponents)) (lead_of-is g.O.Order.key items c.args.k c.index-members-k.result c.requires.place c.index-members-k.is ∙ sym c.lead.ensures) c.requires.divisor

pub returns-clause-factor : goal.returns-clause-factor
returns-clause-factor g c =
    let items = c.args.members.now in
    let factor = c.quot-monomial.ensures ∙ ap (minus c.args.m.now.exponents) (c.lead.ensures ∙ sym (lead_of-is g.O.Order.key items c.args.k c.index-members-k.result c.requires.place c.index-members-k.is)) in
    c.in_ok-term.ensures.value ∙ ap (term (g.K.Coeff.rank c.args.c)) factor
