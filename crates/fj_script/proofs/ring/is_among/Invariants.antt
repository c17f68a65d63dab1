use Rattle.std.proofs.Common.{map}
use Rattle.fj_text.proofs.Places.{IsPassed}
use Rattle.fj_script.proofs.ring.is_among.Given as goal

-- the word is none of the names before
abbrev pub invariant-loop-name : goal.invariant-loop-name
invariant-loop-name l = IsPassed (map (λ name. name.now) l.names) l.word l.name-index
