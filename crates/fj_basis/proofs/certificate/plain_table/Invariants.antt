use Rattle.std.proofs.Common.{◌≡◌, map, take, All}
use Rattle.fj_theory.specs.Plain.{polynomial}
use Rattle.fj_theory.specs.Certificate.{AllRanksBelow}
use Rattle.fj_basis.specs.Outcome.{TotalsAreLow}
use Rattle.fj_basis.proofs.certificate.plain_table.Given as goal

-- the rows so far
abbrev pub invariant-loop-row : goal.invariant-loop-row
invariant-loop-row g l = (map (map polynomial) l.plain.items ≡ map (λ row. row.items) (take l.row-index l.rows)) × All (AllRanksBelow g.K.Coeff.field.size) l.plain.items × All TotalsAreLow l.plain.items
