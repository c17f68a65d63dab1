use Rattle.fj_session.proofs.Marks.{AreMarkedTo}
use Rattle.fj_session.proofs.lets.marks_of.Given as goal

-- each let passed that is marked has its names marked
abbrev pub invariant-loop-above : goal.invariant-loop-above
invariant-loop-above l = AreMarkedTo l.env l.question l.count l.above l.marks.items
