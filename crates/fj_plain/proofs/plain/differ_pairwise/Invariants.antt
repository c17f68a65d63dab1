use Rattle.std.proofs.Common.{◌≢◌, AllPairs, take}
use Rattle.fj_plain.proofs.plain.differ_pairwise.Given as goal

-- the exponents so far are distinct
abbrev pub invariant-loop-i : goal.invariant-loop-i
invariant-loop-i l = AllPairs (λ s t. s.exps ≢ t.exps) (take l.i l.terms)
