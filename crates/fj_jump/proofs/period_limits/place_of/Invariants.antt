use Rattle.std.proofs.Common.{◌≤◌, ◌-◌, length}
use Rattle.fj_jump.proofs.period_limits.place_of.Given as goal

-- the place is at most `high`
abbrev pub invariant-loop-low : goal.invariant-loop-low
invariant-loop-low g l = (l.low ≤ l.high) × (l.high ≤ length l.fn.periods)

abbrev pub decreases-loop-low : goal.decreases-loop-low
decreases-loop-low g l = l.high - l.low
