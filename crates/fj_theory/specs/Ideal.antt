-- Ideals of polynomials. A list of polynomials stands for the ideal that it generates
-- (Cox, Little and O'Shea 2015, chapter 1, section 4).
use Rattle.std.specs.Prelude.{◌≡◌, ℕ, zero, suc, List, [], ◌∷◌, All, map, flat_map}
use Rattle.std.specs.FinMap.{empty}
use Rattle.fj_coeff.specs.Field.{Field}
use Rattle.fj_theory.specs.Polynomial.{Polynomial, IsPolynomial, sum, product}

-- Each map of the list is a polynomial.
pub record ArePolynomials (F : Field) (L : List Polynomial) : Type 0 where
  pub each : All (IsPolynomial F) L

-- The sum of c j times the j-th polynomial of the list.
unfoldable pub combination : Field → (ℕ → Polynomial) → List Polynomial → Polynomial
combination F c [] = empty
combination F c (g ∷ L) = sum F (product F (c zero) g) (combination F (λ j. c (suc j)) L)

-- The sum of the products of the members of two lists at the same places, as far as both go: a list of cofactors, and a list.
unfoldable pub list_combination : Field → List Polynomial → List Polynomial → Polynomial
list_combination F [] L = empty
list_combination F (c ∷ cs) [] = empty
list_combination F (c ∷ cs) (g ∷ L) = sum F (product F c g) (list_combination F cs L)

-- h is in the ideal (L): it is the sum of c j times the j-th polynomial of L, for some polynomials c j.
pub record Member (F : Field) (L : List Polynomial) (h : Polynomial) : Type 0 where
  pub cofactors : ℕ → Polynomial
  pub polynomials : (j : ℕ) → IsPolynomial F (cofactors j)
  pub is : h ≡ combination F cofactors L

-- (L) is inside (M): each polynomial of the list L is in (M).
pub record Inside (F : Field) (L M : List Polynomial) : Type 0 where
  pub each : All (Member F M) L

-- (L) and (M) are one ideal: each is inside the other.
pub record SameIdeal (F : Field) (L M : List Polynomial) : Type 0 where
  pub forth : Inside F L M
  pub back : Inside F M L

-- The list f L of the products f g, for g in L.
abbrev pub multiples : Field → Polynomial → List Polynomial → List Polynomial
multiples F f L = map (product F f) L

-- The list of the products g h, for g in L and h in M. It generates the product of the ideals.
abbrev pub products : Field → List Polynomial → List Polynomial → List Polynomial
products F L M = flat_map (λ g. multiples F g M) L
