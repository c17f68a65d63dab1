use Rattle.std.proofs.Common.{◌≡◌, map}
use Rattle.std.specs.List.{range_with_len}
use Rattle.fj_basis.specs.Basis.{unit_row}
use Rattle.fj_basis.proofs.types.itself.unit_rows.Given as goal

-- the rows so far
abbrev pub invariant-loop-j : goal.invariant-loop-j
invariant-loop-j g l = map (λ row. row.items) l.rows.items ≡ map (unit_row l.count) (range_with_len 0 l.j)
