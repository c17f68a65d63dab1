use Rattle.std.proofs.Common.{◌≡◌, ℕ, ◌%◌, ◌^◌, ◌<◌}
use Rattle.fj_ratio.proofs.digits.order.Given as goal

-- the power at hand, and that none before it is 1 modulo n
abbrev pub invariant-loop-k : goal.invariant-loop-k
invariant-loop-k l = record {
  power_is : l.power ≡ l.p ^ l.k % l.n;
  none_before : (j : ℕ) → 0 < j → j < l.k → l.p ^ j % l.n ≡ 1 % l.n → ⊥;
}
