use Rattle.std.proofs.Common.{◌≡◌, take}
use Rattle.fj_ideal.proofs.ideal.Ideal.in_order.Given as goal

-- the members so far
abbrev pub invariant-loop-g : goal.invariant-loop-g
invariant-loop-g g l = l.list.items ≡ take l.g-index l.members
