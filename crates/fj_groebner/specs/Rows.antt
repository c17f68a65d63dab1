-- Rows of cofactors: row i of a table gives the i-th polynomial of a list as the combination of another list.
use Rattle.std.specs.Prelude.{◌≡◌, ℕ, List, [], ◌∷◌, length, map, replicate}
use Rattle.std.specs.FinMap.{empty}
use Rattle.fj_coeff.specs.Field.{Field}
use Rattle.fj_theory.specs.Polynomial.{Polynomial, sum, product}
use Rattle.fj_theory.specs.Ideal.{ArePolynomials, list_combination}

-- The row xs and f times the row ys, added entry by entry.
unfoldable pub add_multiple : Field → Polynomial → List Polynomial → List Polynomial → List Polynomial
add_multiple F f [] ys = []
add_multiple F f (x ∷ xs) [] = x ∷ xs
add_multiple F f (x ∷ xs) (y ∷ ys) = sum F x (product F f y) ∷ add_multiple F f xs ys

-- The sum of the rows of a table, each times its factor, added to the row `first`.
unfoldable pub add_multiples : Field → List Polynomial → List (List Polynomial) → List Polynomial → List Polynomial
add_multiples F [] rows first = first
add_multiples F (f ∷ fs) [] first = first
add_multiples F (f ∷ fs) (row ∷ rows) first = add_multiples F fs rows (add_multiple F f first row)

-- The product of two tables, the rows of the second one n long: row i is the sum over k of factors_ik times row k.
abbrev pub product_of_rows : Field → ℕ → List (List Polynomial) → List (List Polynomial) → List (List Polynomial)
product_of_rows F n factors rows = map (λ fs. add_multiples F fs rows (replicate n empty)) factors

-- The row has one polynomial for each of the list, and f is the combination of the list with it.
pub record IsRow (F : Field) (L : List Polynomial) (f : Polynomial) (row : List Polynomial) : Type 0 where
  pub polynomials : ArePolynomials F row
  pub long : length row ≡ length L
  pub is : f ≡ list_combination F row L

-- The table has a row for each polynomial of the list G.
unfoldable pub AreRows : Field → List Polynomial → List Polynomial → List (List Polynomial) → Type 0
AreRows F L [] [] = Unit {0}
AreRows F L [] (row ∷ rows) = ⊥
AreRows F L (g ∷ G) [] = ⊥
AreRows F L (g ∷ G) (row ∷ rows) = IsRow F L g row × AreRows F L G rows
