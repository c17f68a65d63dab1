use Rattle.std.proofs.Common.{◌≡◌, ◌<◌, ℕ, false}
use Rattle.fj_basis.specs.Members.{sugared_members}
use Rattle.fj_basis.proofs.FinishingActs.{leaves_out}
use Rattle.fj_basis.proofs.finishing.is_left_out.Given as goal

-- none so far leaves it out
abbrev pub invariant-loop-j : goal.invariant-loop-j
invariant-loop-j g l = (j : ℕ) → j < l.j → leaves_out g.O.Order.key (sugared_members l.members) l.i j ≡ false
