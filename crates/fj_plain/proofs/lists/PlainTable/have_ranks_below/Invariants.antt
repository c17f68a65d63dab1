use Rattle.fj_theory.specs.Certificate.{AllRanksBelow}
use Rattle.fj_plain.proofs.Each.{EachBefore}
use Rattle.fj_plain.proofs.lists.PlainTable.have_ranks_below.Given as goal

-- the ranks of the members so far
abbrev pub invariant-loop-i : goal.invariant-loop-i
invariant-loop-i l = EachBefore (AllRanksBelow l.p) l.self l.i
