-- The law that printed polynomials are read as they were.
use Rattle.std.specs.Prelude.{◌≡◌, ℕ, ◌≤◌, List, length, All, Ok}
use Rattle.fj_coeff.specs.Field.{Field, IsField}
use Rattle.fj_theory.specs.Exponents.{total}
use Rattle.fj_theory.specs.Plain.{PlainPolynomial, HasRanksBelow, polynomial}
use Rattle.fj_theory.specs.PointIdeal.{UsesFirst}
use Rattle.fj_text.specs.Word.{AreNames}
use Rattle.fj_text.specs.Printed.{polynomial_bytes}
use Rattle.fj_text.specs.Reading.{text_at}

-- A polynomial over GF(p) in the variables that have these names, with at most 1,000 terms and of degree at most 1,000.
pub record IsSmall (p : ℕ) (names : List (List ℕ)) (f : PlainPolynomial) : Type 0 where
  pub ranks : HasRanksBelow p f
  pub variables : UsesFirst (length names) (polynomial f)
  pub few : length f.terms ≤ 1000
  pub low : All (λ t. total t.0 ≤ 1000) f.terms

-- The text of such a polynomial is read as the same polynomial, to its end.
abbrev pub PrintedIsRead : Type 0
PrintedIsRead =
    (F : Field) → IsField F → (names : List (List ℕ)) → AreNames names → (f : PlainPolynomial) → IsSmall F.characteristic names f
    → text_at F names (polynomial_bytes names f) 0 ≡ Ok (polynomial f, length (polynomial_bytes names f))
