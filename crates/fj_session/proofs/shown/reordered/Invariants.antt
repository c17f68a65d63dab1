use Rattle.std.proofs.Common.{◌≡◌, take}
use Rattle.fj_session.proofs.shown.reordered.Given as goal

-- the first polynomials are reordered
abbrev pub invariant-loop-g : goal.invariant-loop-g
invariant-loop-g g l = l.made.items ≡ take l.g-index l.list
