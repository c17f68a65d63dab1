use Rattle.fj_theory.specs.Plain.{HasRanksBelow}
use Rattle.fj_plain.proofs.Each.{EachBefore}
use Rattle.fj_plain.proofs.lists.PlainList.have_ranks_below.Given as goal

-- the ranks of the members so far
abbrev pub invariant-loop-i : goal.invariant-loop-i
invariant-loop-i l = EachBefore (HasRanksBelow l.p) l.self l.i
