-- Lists that generate Frobenius roots.
use Rattle.std.specs.Prelude.{◌≡◌, ℕ, List, All, map, flat_map}
use Rattle.fj_coeff.specs.Field.{Field}
use Rattle.fj_theory.specs.Polynomial.{Polynomial}
use Rattle.fj_theory.specs.Parts.{IsParts}
use Rattle.fj_theory.specs.RootLaws.{WithParts}

-- M lists the parts over q-th powers of the polynomials of L: those of the first one, then those of the second one, and
-- so on, each with its residues rising in Lex.
pub record ArePartsOf (F : Field) (q : ℕ) (L M : List Polynomial) : Type 0 where
  pub families : List WithParts
  pub parts : All (λ h. IsParts F q h.polynomial h.parts) families
  pub members : L ≡ map (λ h. h.polynomial) families
  pub listed : M ≡ flat_map (λ h. map (λ part. part.polynomial) h.parts) families
