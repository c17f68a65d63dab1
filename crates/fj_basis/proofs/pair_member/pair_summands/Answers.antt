use Rattle.std.proofs.Common.{IsTrue, ap, ap₂, ◌∙◌, sym, subst₂, arith}
use Rattle.fj_theory.specs.Exponents.{divides, minus}
use Rattle.fj_theory.specs.Polynomial.{term}
use Rattle.fj_groebner.specs.Run.{lead_of}
use Rattle.fj_basis.specs.Members.{sugared_members}
use Rattle.fj_basis.proofs.Leading.{first-divides, multiple_is, nonzero_members, places, second-divides, some_multiple}
use Rattle.fj_basis.proofs.MonicMembers.{monic-AreGood}
use Rattle.fj_basis.proofs.pair_member.pair_summands.Goals as goal

pub unwrap-multiple-requires : goal.unwrap-multiple-requires
unwrap-multiple-requires g c =
    some_multiple g.K.Coeff.field g.O.Order.key (sugared_members c.args.members.now) c.args.pair.now c.requires.pair c.requires.low c.lcm.result c.lcm.ensures

pub summand-requires-clause-nonzero : goal.summand-requires-clause-nonzero
summand-requires-clause-nonzero g c = nonzero_members c.args.members.now (monic-AreGood g.met.K.Coeff.lawful g.met.O.Order.monomial_order c.requires.members).nonzero

pub summand-requires-2-clause-nonzero : goal.summand-requires-2-clause-nonzero
summand-requires-2-clause-nonzero g c = nonzero_members c.args.members.now (monic-AreGood g.met.K.Coeff.lawful g.met.O.Order.monomial_order c.requires.members).nonzero

pub summand-requires-clause-divisor : goal.summand-requires-clause-divisor
summand-requires-clause-divisor g c =
    let items = c.args.members.now in
    let i = c.args.pair.now.i in
    let j = c.args.pair.now.j in
    let G = sugared_members items in
    let first = c.requires.first in
    let second = c.requires.second in
    let is = multiple_is g.O.Order.key G c.args.pair.now c.requires.pair c.unwrap-multiple.result (sym c.unwrap-multiple.ensures ∙ c.lcm.ensures) in
    subst₂ (λ k a. IsTrue (divides (lead_of g.O.Order.key G k) a)) (sym c.first.ensures) (sym is)
    (first-divides g.met.K.Coeff.lawful g.met.O.Order.monomial_order G (monic-AreGood g.met.K.Coeff.lawful g.met.O.Order.monomial_order c.requires.members) i j
    (places items i (omega (arith, first, second))) (places items j second))

pub summand-requires-2-clause-divisor : goal.summand-requires-2-clause-divisor
summand-requires-2-clause-divisor g c =
    let items = c.args.members.now in
    let i = c.args.pair.now.i in
    let j = c.args.pair.now.j in
    let G = sugared_members items in
    let first = c.requires.first in
    let second = c.requires.second in
    let is = multiple_is g.O.Order.key G c.args.pair.now c.requires.pair c.unwrap-multiple.result (sym c.unwrap-multiple.ensures ∙ c.lcm.ensures) in
    subst₂ (λ k a. IsTrue (divides (lead_of g.O.Order.key G k) a)) (sym c.second.ensures) (sym is)
    (second-divides g.met.K.Coeff.lawful g.met.O.Order.monomial_order G (monic-AreGood g.met.K.Coeff.lawful g.met.O.Order.monomial_order c.requires.members) i j
    (places items i (omega (arith, first, second))) (places items j second))

pub returns : goal.returns
returns g c =
    let G = sugared_members c.args.members.now in
    let key = g.O.Order.key in
    let F = g.K.Coeff.field in
    let is = multiple_is key G c.args.pair.now c.requires.pair c.unwrap-multiple.result (sym c.unwrap-multiple.ensures ∙ c.lcm.ensures) in
    record {
      first = c.in_ok-first.first;
      second = c.in_ok-second.second;
      are = c.in_ok-vec.ensures.items;
      first_place = c.in_ok-first.ensures.place ∙ c.first.ensures;
      first_factor = c.in_ok-first.ensures.factor ∙ ap₂ term c.one.ensures (ap₂ (λ a k. minus a (lead_of key G k)) is c.first.ensures);
      second_place = c.in_ok-second.ensures.place ∙ c.second.ensures;
      second_factor = c.in_ok-second.ensures.factor ∙ ap₂ term (c.neg.ensures ∙ ap F.neg c.one-2.ensures) (ap₂ (λ a k. minus a (lead_of key G k)) is c.second.ensures);
    }
