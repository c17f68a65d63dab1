use Rattle.std.proofs.Common.{◌≡◌, map}
use Rattle.std.specs.List.{range_with_len}
use Rattle.fj_groebner.specs.Run.{is_left_out}
use Rattle.fj_basis.specs.Members.{sugared_members}
use Rattle.fj_basis.proofs.finishing.left_out.Given as goal

-- the members so far
abbrev pub invariant-loop-i : goal.invariant-loop-i
invariant-loop-i g l = l.out.items ≡ map (is_left_out g.O.Order.key (sugared_members l.members)) (range_with_len 0 l.i)
