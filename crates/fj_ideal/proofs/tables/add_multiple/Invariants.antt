use Rattle.std.proofs.Common.{◌≡◌, map}
use Rattle.fj_theory.specs.Certificate.{AllRanksBelow}
use Rattle.fj_theory.specs.Plain.{polynomial}
use Rattle.fj_basis.proofs.Rows.{added}
use Rattle.fj_ideal.proofs.tables.add_multiple.Given as goal

-- the entries so far
abbrev pub invariant-loop-j : goal.invariant-loop-j
invariant-loop-j g l =
    (map polynomial l.row ≡ added g.K.Coeff.field (polynomial l.f) l.j (map polynomial l.fn.row) (map polynomial l.other)) × AllRanksBelow g.K.Coeff.field.size l.row
