use Rattle.std.proofs.Common.{◌≡◌, map, drop, length, replicate}
use Rattle.std.specs.FinMap.{empty}
use Rattle.fj_theory.specs.Certificate.{AllRanksBelow}
use Rattle.fj_theory.specs.Plain.{polynomial}
use Rattle.fj_groebner.specs.Rows.{add_multiples}
use Rattle.fj_ideal.proofs.tables.combine.Given as goal

-- the multiples that are left give the same sum
abbrev pub invariant-loop-k : goal.invariant-loop-k
invariant-loop-k g l =
    let fs = map polynomial l.factors in
    let rows = map (map polynomial) l.rows in
    (add_multiples g.K.Coeff.field (drop l.k fs) (drop l.k rows) (map polynomial l.row.items) ≡ add_multiples g.K.Coeff.field fs rows (replicate l.width empty))
    × AllRanksBelow g.K.Coeff.field.size l.row.items
    × (length l.row.items ≡ l.width)
