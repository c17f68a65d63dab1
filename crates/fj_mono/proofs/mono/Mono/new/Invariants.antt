use Rattle.std.proofs.Common.{◌≡◌, ◌≤◌, ◌^◌, take, sum}
use Rattle.fj_mono.proofs.mono.Mono.new.Given as goal

-- the total of the exponents so far, within the limit
abbrev pub invariant-loop-exponent : goal.invariant-loop-exponent
invariant-loop-exponent l = (l.total ≡ sum (take l.exponent-index l.e)) × (l.total ≤ 2 ^ 40)
