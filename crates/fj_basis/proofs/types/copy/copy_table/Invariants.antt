use Rattle.std.proofs.Common.{◌≡◌, take, map}
use Rattle.fj_basis.proofs.types.copy.copy_table.Given as goal

-- the rows so far
abbrev pub invariant-loop-row : goal.invariant-loop-row
invariant-loop-row g l = map (λ row. row.items) l.copies.items ≡ map (λ row. row.items) (take l.row-index l.rows)
