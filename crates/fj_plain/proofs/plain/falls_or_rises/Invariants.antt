use Rattle.fj_plain.specs.TermKey.{term_key}
use Rattle.fj_plain.proofs.Directions.{InDirection}
use Rattle.fj_plain.proofs.plain.falls_or_rises.Given as goal

-- each two of the exponent lists so far are in one direction
abbrev pub invariant-loop-i : goal.invariant-loop-i
invariant-loop-i l = InDirection (term_key l.order) l.direction l.terms l.i
