use Rattle.std.proofs.Common.{◌≡◌, map, take}
use Rattle.fj_theory.specs.Certificate.{AllRowsBelow}
use Rattle.fj_theory.specs.Plain.{polynomial}
use Rattle.fj_groebner.specs.Rows.{product_of_rows}
use Rattle.fj_ideal.proofs.tables.product_of_tables.Given as goal

-- the rows so far
abbrev pub invariant-loop-i : goal.invariant-loop-i
invariant-loop-i g l =
    (map (map polynomial) l.table.items ≡ product_of_rows g.K.Coeff.field l.width (map (map polynomial) (take l.i l.factors)) (map (map polynomial) l.rows))
    × AllRowsBelow g.K.Coeff.field.size l.table.items
