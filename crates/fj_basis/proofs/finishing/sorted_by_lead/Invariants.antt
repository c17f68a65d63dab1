use Rattle.std.proofs.Common.{◌≡◌, ◌≤◌, length, take, All, Contains}
use Rattle.fj_groebner.specs.Run.{sort_by_lead}
use Rattle.fj_basis.specs.Members.{sugared_members}
use Rattle.fj_basis.proofs.FinishingActs.{kept_from}
use Rattle.fj_basis.proofs.finishing.sorted_by_lead.Given as goal

-- those that left the end of the list are sorted, but for what is left out
abbrev pub invariant-loop-member : goal.invariant-loop-member
invariant-loop-member g l =
    (l.members.items ≡ take (length l.members.items) l.fn.members.items) × (length l.members.items ≤ length l.fn.members.items)
    × (sugared_members l.sorted.items ≡ sort_by_lead g.O.Order.key (kept_from g.O.Order.key (sugared_members l.fn.members.items) (length l.members.items)))
    × All (Contains l.fn.members.items) l.sorted.items

abbrev pub decreases-loop-member : goal.decreases-loop-member
decreases-loop-member g l = length l.members.items
