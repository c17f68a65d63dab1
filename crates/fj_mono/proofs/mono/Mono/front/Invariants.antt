use Rattle.std.proofs.Common.{◌≡◌, sum, take}
use Rattle.fj_mono.proofs.mono.Mono.front.Given as goal

abbrev pub invariant-loop-i : goal.invariant-loop-i
invariant-loop-i l = l.sum ≡ sum (take l.i l.self.exponents)
