use Rattle.std.proofs.Common.{◌≡◌, ◌^◌, take}
use Rattle.fj_theory.specs.Digits.{value_of}
use Rattle.fj_plain.proofs.packing.packed.Given as goal

-- the exponents so far are digits of the number
abbrev pub invariant-loop-k : goal.invariant-loop-k
invariant-loop-k l = l.key ≡ value_of (2 ^ 16) (take l.k-index l.k-items)
