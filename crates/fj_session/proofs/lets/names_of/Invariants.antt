use Rattle.fj_session.proofs.LetValues.{AreValuesTo}
use Rattle.fj_session.proofs.lets.names_of.Given as goal

-- the lets passed that are used have their values
abbrev pub invariant-loop-place : goal.invariant-loop-place
invariant-loop-place g l = AreValuesTo g.K.Coeff.field l.env l.question l.place l.names
