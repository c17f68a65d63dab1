use Rattle.fj_basis.proofs.Combined.{AreNegatives}
use Rattle.fj_basis.proofs.history.with_negatives.Given as goal

-- the quotients so far
abbrev pub invariant-loop-k : goal.invariant-loop-k
invariant-loop-k g l = AreNegatives g.K.Coeff.field l.fn.first.items l.from l.quotients l.k l.summands.items
