-- The lists that the calls on ideals run, and the products that they form. G and H are the members of the ideals.
use Rattle.std.specs.Prelude.{◌≡◌, List, [], ◌∷◌, ◌++◌, All, Contains}
use Rattle.fj_coeff.specs.Field.{Field}
use Rattle.fj_theory.specs.Ideal.{products}
use Rattle.fj_theory.specs.MonomialOrder.{grevlex_key}
use Rattle.fj_theory.specs.Polynomial.{Polynomial, product}
use Rattle.fj_groebner.specs.ReducedBasis.{IsReducedBasis}
use Rattle.fj_plain.specs.declared.order_name.OrderName.{OrderName}
use Rattle.fj_poly.specs.Limit.{IsHigh}

-- These lists, run for this order.
abbrev pub RunFor : OrderName → (List Polynomial → Type 0) → OrderName → List Polynomial → Type 0
RunFor order IsList o L = (o ≡ order) × IsList L

abbrev pub NoList : OrderName → List Polynomial → Type 0
NoList o L = ⊥

abbrev pub NoProduct : List Polynomial → Type 0
NoProduct L = ⊥

-- P holds of the reduced Grevlex basis of the ideal (J).
pub record OfBasis (F : Field) (J : List Polynomial) (P : List Polynomial → Type 0) : Type 0 where
  pub members : List Polynomial
  pub reduced : IsReducedBasis F grevlex_key J members
  pub holds : P members

-- No polynomial of the list has a term of a total degree above 2^40.
abbrev pub AreLow : List Polynomial → Type 0
AreLow L = All (λ h. IsHigh h → ⊥) L

-- The list of the sum: the members of G, followed by those of H.
abbrev pub IsSumList : List Polynomial → List Polynomial → List Polynomial → Type 0
IsSumList G H L = L ≡ G ++ H

-- The list of the product: the products g h, g in G and h in H, g slowest.
pub record IsProductList (F : Field) (G H L : List Polynomial) : Type 0 where
  pub is : L ≡ products F G H
  pub low : AreLow L

-- L is a pair of a member of G and one of H, whose product has a term of a total degree above 2^40.
pub record IsHighPair (F : Field) (G H L : List Polynomial) : Type 0 where
  pub g : Polynomial
  pub h : Polynomial
  pub g_there : Contains G g
  pub h_there : Contains H h
  pub high : IsHigh (product F g h)
  pub is : L ≡ g ∷ h ∷ []
