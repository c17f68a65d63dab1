-- Where a polynomial uses the first variables alone, so do the rows of its parts.
use Rattle.std.proofs.Common.{◌≡◌, ℕ, ◌≤◌, List, get_or, All}
use Rattle.fj_coeff.specs.Field.{Field, IsField}
use Rattle.fj_theory.specs.PointIdeal.{UsesFirst}
use Rattle.fj_theory.specs.Polynomial.{Polynomial}
use Rattle.fj_algebra.proofs.Lists.{All-map_back}
use Rattle.fj_theory.proofs.UsesFirst.{UsesFirst-parts, UsesFirst-residues}
use Rattle.fj_session.specs.Answer.{RowUsesFirst}
use Rattle.fj_session.specs.Meaning.{AreRows, part_of}
use Rattle.fj_session.specs.declared.types.PartRow.{PartRow}

module _ {F : Field} (L : IsField F) (n e : ℕ) (f : Polynomial) (first : UsesFirst n f) where
  pub rows_use_first : {key : List ℕ → List ℕ} (rows : List PartRow) → AreRows F key e f rows → All (RowUsesFirst n) rows
  rows_use_first rows are k d h = record {
    residue = All-map_back (λ part. (i : ℕ) → n ≤ i → get_or part.residue i 0 ≡ 0) part_of rows (UsesFirst-residues L e first are.parts) k d h;
    part = All-map_back (λ part. UsesFirst n part.polynomial) part_of rows (UsesFirst-parts L e first are.parts) k d h;
  }
