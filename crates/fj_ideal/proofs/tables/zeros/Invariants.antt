use Rattle.std.proofs.Common.{◌≡◌, map, replicate}
use Rattle.std.specs.FinMap.{empty}
use Rattle.fj_theory.specs.Certificate.{AllRanksBelow}
use Rattle.fj_theory.specs.Plain.{polynomial}
use Rattle.fj_ideal.proofs.tables.zeros.Given as goal

-- the zeros so far
abbrev pub invariant-loop : goal.invariant-loop
invariant-loop g l = (map polynomial l.row.items ≡ replicate l.counter empty) × AllRanksBelow g.K.Coeff.field.size l.row.items
