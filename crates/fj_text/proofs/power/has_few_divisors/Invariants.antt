use Rattle.std.proofs.Common.{◌≡◌, ◌*◌, ◌≤◌, drop}
use Rattle.fj_theory.specs.Exponents.{times}
use Rattle.fj_text.specs.Divisors.{divisor_count}
use Rattle.fj_text.proofs.power.has_few_divisors.Given as goal

-- The divisors in the variables so far, times those in the others, are all.
abbrev pub invariant-variables : goal.invariant-variables
invariant-variables l = record {
  value : l.count * divisor_count (times l.k (drop l.i l.m.exponents)) ≡ divisor_count (times l.k l.m.exponents);
  few : l.count ≤ 1000;
}
