use Rattle.std.proofs.Common.{ℕ, List, map, take}
use Rattle.std.specs.FinMap.{empty}
use Rattle.fj_groebner.specs.Division.{Sugared}
use Rattle.fj_basis.specs.Forming.{AreCombined}
use Rattle.fj_basis.specs.History.{combined, polynomial_at}
use Rattle.fj_basis.specs.Members.{IsRowWithin}
use Rattle.fj_basis.proofs.forming.combined_row.Given as goal

-- the row of the summands so far
abbrev pub invariant-loop-summand : goal.invariant-loop-summand
invariant-loop-summand g l =
    (G : List Sugared) (bound : ℕ) → AreCombined g.K.Coeff.field l.list G bound (map (λ row. row.items) l.rows) l.summands
    → IsRowWithin g.K.Coeff.field l.list (record { polynomial = combined g.K.Coeff.field (polynomial_at G) empty (take l.summand-index l.summands); sugar = bound }) l.row.items
