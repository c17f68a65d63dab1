use Rattle.fj_text.proofs.Places.{IsPassed}
use Rattle.fj_text.proofs.names.Names.place.Given as goal

-- the word is none of the names before
abbrev pub invariant-loop-place : goal.invariant-loop-place
invariant-loop-place l = IsPassed l.self l.word l.place
