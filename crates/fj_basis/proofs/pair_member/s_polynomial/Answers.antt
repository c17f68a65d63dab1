use Rattle.std.proofs.Common.{◌≡◌, ◌<◌, ◌-◌, IsTrue, ap, ap₂, ◌∙◌, sym, subst, subst₂, arith}
use Rattle.fj_theory.specs.Exponents.{divides, minus, total}
use Rattle.fj_theory.specs.Polynomial.{difference, product, term, sum, negation}
use Rattle.fj_groebner.specs.Division.{member_at, degree_limit}
use Rattle.fj_groebner.specs.Run.{lead_of, pair_multiple}
use Rattle.fj_basis.specs.Members.{sugared_members}
use Rattle.fj_basis.specs.Place.{IsWithinLimit}
use Rattle.fj_basis.proofs.Leading.{places, nonzero_members, first-divides, second-divides, s-sugar, s-polynomial, s-is}
use Rattle.fj_basis.proofs.MonicMembers.{monic-AreGood}
use Rattle.fj_basis.proofs.pair_member.s_polynomial.Goals as goal

pub returns-in_default-clause-high : goal.returns-in_default-clause-high
returns-in_default-clause-high g c =
    let G = sugared_members c.args.members.now in
    let i = c.args.pair.now.i in
    let j = c.args.pair.now.j in
    let high : degree_limit < total (pair_multiple g.O.Order.key G (i, j)) =
    subst (IsWithinLimit (pair_multiple g.O.Order.key G (i, j))) (sym c.lcm.ensures ∙ c.in_default.is) c.requires.pair.lcm in
    omega (arith, s-sugar g.K.Coeff.field g.O.Order.key G i j, high)

pub above-requires-clause-nonzero : goal.above-requires-clause-nonzero
above-requires-clause-nonzero g c =
    nonzero_members c.args.members.now (monic-AreGood g.met.K.Coeff.lawful g.met.O.Order.monomial_order c.requires.members).nonzero

pub above-requires-2-clause-nonzero : goal.above-requires-2-clause-nonzero
above-requires-2-clause-nonzero g c =
    nonzero_members c.args.members.now (monic-AreGood g.met.K.Coeff.lawful g.met.O.Order.monomial_order c.requires.members).nonzero

pub returns-then-sugar-gt-DEGREE_LIMIT-clause-high : goal.returns-then-sugar-gt-DEGREE_LIMIT-clause-high
returns-then-sugar-gt-DEGREE_LIMIT-clause-high g c =
    let key = g.O.Order.key in
    let G = sugared_members c.args.members.now in
    let i = c.args.pair.now.i in
    let j = c.args.pair.now.j in
    let own : c.in-Some.multiple.exponents ≡ pair_multiple key G (i, j) = subst (IsWithinLimit (pair_multiple key G (i, j))) (sym c.lcm.ensures ∙ c.in-Some.is) c.requires.pair.lcm in
    let first : c.above.result ≡ (member_at G i).sugar - total (lead_of key G i) = c.above.ensures ∙ ap (λ k. (member_at G k).sugar - total (lead_of key G k)) c.first.ensures in
    let second : c.above-2.result ≡ (member_at G j).sugar - total (lead_of key G j) = c.above-2.ensures ∙ ap (λ k. (member_at G k).sugar - total (lead_of key G k)) c.second.ensures in
    let whole = ap total own in
    omega (arith, s-sugar g.K.Coeff.field key G i j, first, second, whole)

pub multiple_of-requires-clause-divisor : goal.multiple_of-requires-clause-divisor
multiple_of-requires-clause-divisor g c =
    let key = g.O.Order.key in
    let G = sugared_members c.args.members.now in
    let i = c.args.pair.now.i in
    let j = c.args.pair.now.j in
    let own : c.in-Some.multiple.exponents ≡ pair_multiple key G (i, j) = subst (IsWithinLimit (pair_multiple key G (i, j))) (sym c.lcm.ensures ∙ c.in-Some.is) c.requires.pair.lcm in
    let good = monic-AreGood g.met.K.Coeff.lawful g.met.O.Order.monomial_order c.requires.members in
    subst₂ (λ k a. IsTrue (divides (lead_of key G k) a)) (sym c.first-2.ensures) (sym own)
    (first-divides g.met.K.Coeff.lawful g.met.O.Order.monomial_order G good i j (places c.args.members.now i c.requires.first) (places c.args.members.now j c.requires.second))

pub multiple_of-requires-2-clause-divisor : goal.multiple_of-requires-2-clause-divisor
multiple_of-requires-2-clause-divisor g c =
    let key = g.O.Order.key in
    let G = sugared_members c.args.members.now in
    let i = c.args.pair.now.i in
    let j = c.args.pair.now.j in
    let own : c.in-Some.multiple.exponents ≡ pair_multiple key G (i, j) = subst (IsWithinLimit (pair_multiple key G (i, j))) (sym c.lcm.ensures ∙ c.in-Some.is) c.requires.pair.lcm in
    let good = monic-AreGood g.met.K.Coeff.lawful g.met.O.Order.monomial_order c.requires.members in
    subst₂ (λ k a. IsTrue (divides (lead_of key G k) a)) (sym c.second-2.ensures) (sym own)
    (second-divides g.met.K.Coeff.lawful g.met.O.Order.monomial_order G good i j (places c.args.members.now i c.requires.first) (places c.args.members.now j c.requires.second))

pub returns-clause-value : goal.returns-clause-value
unfolding difference
returns-clause-value g c =
    let key = g.O.Order.key in
    let F = g.K.Coeff.field in
    let G = sugared_members c.args.members.now in
    let i = c.args.pair.now.i in
    let j = c.args.pair.now.j in
    let own : c.in-Some.multiple.exponents ≡ pair_multiple key G (i, j) = subst (IsWithinLimit (pair_multiple key G (i, j))) (sym c.lcm.ensures ∙ c.in-Some.is) c.requires.pair.lcm in
    let first : c.above.result ≡ (member_at G i).sugar - total (lead_of key G i) = c.above.ensures ∙ ap (λ k. (member_at G k).sugar - total (lead_of key G k)) c.first.ensures in
    let second : c.above-2.result ≡ (member_at G j).sugar - total (lead_of key G j) = c.above-2.ensures ∙ ap (λ k. (member_at G k).sugar - total (lead_of key G k)) c.second.ensures in
    let whole = ap total own in
    s-is F key G i j _ _
    (c.in_ok-sub.ensures.value
    ∙ ap₂ (λ f h. sum F f (negation F h)) (c.in_ok-first.ensures.value ∙ ap₂ (λ k a. product F (term 1 (minus a (lead_of key G k))) (member_at G k).polynomial) c.first-2.ensures own)
    (c.in_ok-second.ensures.value ∙ ap₂ (λ k a. product F (term 1 (minus a (lead_of key G k))) (member_at G k).polynomial) c.second-2.ensures own)
    ∙ sym (s-polynomial F key G i j))
    (omega (arith, s-sugar F key G i j, first, second, whole))
