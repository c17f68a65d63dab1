use Rattle.std.proofs.Common.{◌≡◌, ℕ, ◌+◌, ◌<◌, get_or, length}
use Rattle.fj_mono.proofs.mono.Mono.try_mul.Given as goal

abbrev pub invariant-loop-i : goal.invariant-loop-i
invariant-loop-i l = record {
  eight : length l.exponents ≡ 8;
  written : (k : ℕ) → k < l.i → get_or l.exponents k 0 ≡ get_or l.self.exponents k 0 + get_or l.o.exponents k 0;
}
