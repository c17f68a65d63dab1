use Rattle.std.proofs.Common.{◌<◌, ◌-◌}
use Rattle.fj_poly.proofs.buckets.place_of.Given as goal

abbrev pub invariant-loop-room : goal.invariant-loop-room
invariant-loop-room l = l.place < l.room

abbrev pub decreases-loop-room : goal.decreases-loop-room
decreases-loop-room l = l.count - l.room
