use Rattle.std.proofs.Common.{ℕ, ◌<◌, ◌≤◌, get_or, max}
use Rattle.fj_basis.proofs.pending.divides_multiple.Given as goal

abbrev pub invariant-loop-i : goal.invariant-loop-i
invariant-loop-i l = (k : ℕ) → k < l.i → get_or l.m.exponents k 0 ≤ max (get_or l.a.exponents k 0) (get_or l.b.exponents k 0)
