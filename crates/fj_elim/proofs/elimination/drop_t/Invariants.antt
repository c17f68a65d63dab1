use Rattle.std.proofs.Common.{◌≡◌, take}
use Rattle.fj_groebner.specs.Elimination.{without_eighth}
use Rattle.fj_elim.proofs.elimination.drop_t.Given as goal

-- those of the polynomials so far that lack it
abbrev pub invariant-loop-g : goal.invariant-loop-g
invariant-loop-g g l = l.members.items ≡ without_eighth (take l.g-index l.list)
