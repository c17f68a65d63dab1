use Rattle.std.proofs.Common.{zip}
use Rattle.fj_theory.specs.Certificate.{IsRowOf}
use Rattle.fj_plain.proofs.Each.{EachBefore}
use Rattle.fj_plain.proofs.identity.are_combinations.Given as goal

-- the targets so far are combinations
abbrev pub invariant-loop-i : goal.invariant-loop-i
invariant-loop-i l = EachBefore (λ e. IsRowOf l.p l.sources e.0 e.1) (zip l.targets l.table) l.i
