use Rattle.std.proofs.Common.{◌-◌, length}
use Rattle.fj_basis.specs.Members.{sugared, sugared_members}
use Rattle.fj_basis.proofs.FinishingActs.{IsBehind}
use Rattle.fj_basis.proofs.finishing.place_by_lead.Given as goal

-- the member isn't to stand among those so far
abbrev pub invariant-loop-place : goal.invariant-loop-place
invariant-loop-place g l = IsBehind g.O.Order.key (sugared l.member) (sugared_members l.sorted.items) l.place

abbrev pub decreases-loop-place : goal.decreases-loop-place
decreases-loop-place g l = length l.sorted.items - l.place
