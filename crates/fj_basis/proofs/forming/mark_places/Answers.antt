use Rattle.std.proofs.Common.{All, subst, arith}
use Rattle.std.proofs.lemmas.List.{take_all}
use Rattle.fj_basis.specs.Forming.{IsMarked}
use Rattle.fj_basis.proofs.Marks.{MarkedUpTo-none}
use Rattle.fj_basis.proofs.forming.mark_places.Goals as goal

pub loop-summand-init : goal.loop-summand-init
loop-summand-init g c = MarkedUpTo-none c.args.summands.now c.args.marks.now

pub returns-clause-marked : goal.returns-clause-marked
returns-clause-marked g c =
    subst (All (λ s. IsMarked c.loop-summand.marks s.place)) (take_all c.loop-summand.summand-index c.args.summands.now (omega (arith, c.loop-summand-test.false))) c.loop-summand.invariant.marked

pub returns-clause-kept : goal.returns-clause-kept
returns-clause-kept g c = c.loop-summand.invariant.kept

pub returns-clause-beyond : goal.returns-clause-beyond
returns-clause-beyond g c = c.loop-summand.invariant.beyond
