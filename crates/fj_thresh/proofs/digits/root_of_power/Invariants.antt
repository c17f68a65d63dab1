use Rattle.std.proofs.Common.{◌≡◌, ℕ, List, [], ◌∷◌, ◌++◌, length}
use Rattle.fj_theory.specs.Exponents.{origin}
use Rattle.fj_theory.specs.Polynomial.{term}
use Rattle.fj_ideal.specs.Reduced.{IsReduced}
use Rattle.fj_chain.specs.Lists.{LeadTo}
use Rattle.fj_thresh.proofs.digits.root_of_power.Given as goal

-- the digits that are used lead from (1) to where the steps are
abbrev pub invariant-loop-left : goal.invariant-loop-left
invariant-loop-left g l =
    ((used : List ℕ) × (l.fn.higher ++ l.fn.last ∷ [] ≡ l.left ++ used) × LeadTo g.K.Coeff.field l.f used (term 1 origin ∷ []) l.reached.given) × IsReduced g.K.Coeff.field l.reached

abbrev pub decreases-loop-left : goal.decreases-loop-left
decreases-loop-left g l = length l.left
