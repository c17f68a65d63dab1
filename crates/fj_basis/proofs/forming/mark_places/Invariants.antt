use Rattle.fj_basis.proofs.Marks.{MarkedUpTo}
use Rattle.fj_basis.proofs.forming.mark_places.Given as goal

-- the summands so far are marked
abbrev pub invariant-loop-summand : goal.invariant-loop-summand
invariant-loop-summand g l = MarkedUpTo l.summands l.fn.marks l.summand-index l.marks
