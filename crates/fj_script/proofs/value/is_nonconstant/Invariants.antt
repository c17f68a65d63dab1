use Rattle.std.proofs.Common.{◌≡◌, ◌<◌, ℕ, false, nat_lt, List, get_or}
use Rattle.fj_theory.specs.Exponents.{total}
use Rattle.fj_script.proofs.value.is_nonconstant.Given as goal

-- the terms before i are constant
abbrev pub invariant-loop-i : goal.invariant-loop-i
invariant-loop-i l = (k : ℕ) (d : List ℕ × ℕ) → k < l.i → nat_lt 0 (total (get_or l.f.terms k d).0) ≡ false
