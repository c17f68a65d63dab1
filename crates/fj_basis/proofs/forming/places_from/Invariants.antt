use Rattle.fj_basis.proofs.Marks.{MarkedFrom}
use Rattle.fj_basis.proofs.forming.places_from.Given as goal

-- the places so far
abbrev pub invariant-loop-k : goal.invariant-loop-k
invariant-loop-k l = MarkedFrom l.from l.k l.marks.items
