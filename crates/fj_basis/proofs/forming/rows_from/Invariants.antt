use Rattle.std.proofs.Common.{◌≡◌, List, length, map}
use Rattle.fj_groebner.specs.Division.{Sugared}
use Rattle.fj_basis.specs.History.{AreMade}
use Rattle.fj_basis.proofs.FormedRows.{AreFormed}
use Rattle.fj_basis.proofs.forming.rows_from.Given as goal

-- the rows so far
abbrev pub invariant-loop-k : goal.invariant-loop-k
invariant-loop-k g l = record {
  long : length l.rows.items ≡ l.k;
  formed : (G : List Sugared) (made : AreMade g.K.Coeff.field l.list G l.makings) → AreFormed G l.makings made l.needed.items (map (λ row. row.items) l.rows.items);
}
