use Rattle.std.proofs.Common.{◌≡◌, ℕ, List, ◌++◌, length}
use Rattle.fj_ideal.specs.Reduced.{IsReduced}
use Rattle.fj_chain.specs.Lists.{LeadTo}
use Rattle.fj_chain.proofs.steps.follow.Given as goal

-- the digits that are used lead from the start to where the steps are
abbrev pub invariant-loop-left : goal.invariant-loop-left
invariant-loop-left g l =
    ((used : List ℕ) × (l.fn.digits ≡ l.left ++ used) × LeadTo g.K.Coeff.field l.f used l.fn.start.given l.reached.given) × IsReduced g.K.Coeff.field l.reached

abbrev pub decreases-loop-left : goal.decreases-loop-left
decreases-loop-left g l = length l.left
