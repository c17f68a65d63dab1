use Rattle.std.proofs.Common.{◌≡◌, ◌-◌}
use Rattle.fj_theory.specs.Parts.{iterated_root}
use Rattle.fj_root.proofs.part.root.Given as goal

-- the root of what is left of e is the whole root
abbrev pub invariant-loop : goal.invariant-loop
invariant-loop g l = iterated_root g.K.Coeff.field (l.e - l.counter) (g.K.Coeff.rank l.root) ≡ iterated_root g.K.Coeff.field l.e (g.K.Coeff.rank l.fn.c)
