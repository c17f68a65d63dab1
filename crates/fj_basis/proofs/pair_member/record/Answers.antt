use Rattle.std.proofs.Common.{◌<◌, length, ap, subst, arith}
use Rattle.fj_theory.specs.Exponents.{origin}
use Rattle.fj_theory.specs.Polynomial.{term}
use Rattle.fj_basis.specs.declared.history.Making.{Making}
use Rattle.fj_basis.specs.declared.history.Source.TheVariants.{Combined}
use Rattle.fj_basis.specs.History.{IsWithNegatives}
use Rattle.fj_basis.proofs.MonicMembers.{monic-AreGood}
use Rattle.fj_basis.proofs.NextMember.{all-sum, each-summand, next-IsMaking}
use Rattle.fj_basis.proofs.pair_member.record.Goals as goal

pub returns-in_ok-push : goal.returns-in_ok-push
returns-in_ok-push g c = λ last D quotients some inverse.
    let L = g.met.K.Coeff.lawful in
    let O = g.met.O.Order.monomial_order in
    let items = c.args.members.now in
    let good = monic-AreGood L O c.requires.members in
    let i = c.args.pair.now.i in
    let j = c.args.pair.now.j in
    let first = c.requires.first in
    let second = c.requires.second in
    let l : i < length items = omega (arith, first, second) in
    let both = c.in_ok-both.both.items in
    let all = c.in_ok-summands.summands.items in
    let with = subst (λ qs. IsWithNegatives g.K.Coeff.field both 0 qs all) quotients c.in_ok-summands.ensures in
    let making : Making g.row.K.Denot g.row.O.Denot = record { constant = term (g.K.Coeff.rank c.args.c) origin; source = Combined c.in_ok-summands.summands } in
    record {
      kept = c.in_ok-push.ensures.kept;
      making = λ was. (
        making,
        c.in_ok-push.ensures.recorded was,
        λ N.
            next-IsMaking L O items good i j l second last D both all c.in_ok-both.ensures with N some making (ap (λ n. term n origin) inverse)
            (each-summand L O items good i j l second last D both all c.in_ok-both.ensures with, all-sum L O items good i j l second last D both all c.in_ok-both.ensures with),
      );
    }
