use Rattle.fj_basis.proofs.Marks.{ClosedFrom}
use Rattle.fj_basis.proofs.forming.needed.Given as goal

-- those from the place k on are done
abbrev pub invariant-loop-k : goal.invariant-loop-k
invariant-loop-k g l = ClosedFrom l.makings l.from l.k l.needed.items

abbrev pub decreases-loop-k : goal.decreases-loop-k
decreases-loop-k g l = l.k
