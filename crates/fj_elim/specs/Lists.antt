-- The lists that meets and quotients of ideals run, and the products that they form: elimination of the eighth variable t
-- (Cox, Little and O'Shea 2015, chapter 4, sections 3 and 4). G and H, A and B have the members of the ideals.
use Rattle.std.specs.Prelude.{◌≡◌, ◌≢◌, ◌⊎◌, List, [], ◌∷◌, ◌++◌, Contains}
use Rattle.std.specs.FinMap.{empty}
use Rattle.fj_coeff.specs.Field.{Field}
use Rattle.fj_theory.specs.Colon.{IsColon}
use Rattle.fj_theory.specs.Exponents.{origin}
use Rattle.fj_theory.specs.Ideal.{ArePolynomials, multiples}
use Rattle.fj_theory.specs.MonomialOrder.{elim_key, grevlex_key}
use Rattle.fj_theory.specs.Polynomial.{Polynomial, difference, product, term}
use Rattle.fj_groebner.specs.Elimination.{eighth_variable, elimination_list, without_eighth}
use Rattle.fj_groebner.specs.ReducedBasis.{IsReducedBasis}
use Rattle.fj_plain.specs.declared.order_name.OrderName.{OrderName}
use Rattle.fj_plain.specs.declared.order_name.OrderName.TheVariants.{Elim, Grevlex}
use Rattle.fj_poly.specs.Limit.{IsHigh}
use Rattle.fj_ideal.specs.Lists.{AreLow, RunFor}

-- The list of the meet: t g for g in G, then (1 - t) h for h in H.
pub record IsMeetList (F : Field) (G H L : List Polynomial) : Type 0 where
  pub is : L ≡ elimination_list F G H
  pub low : AreLow L

-- L is one polynomial of M, whose product with f has a term of a total degree above 2^40.
pub record IsHighTimes (F : Field) (f : Polynomial) (M L : List Polynomial) : Type 0 where
  pub g : Polynomial
  pub there : Contains M g
  pub high : IsHigh (product F f g)
  pub is : L ≡ g ∷ []

unfoldable pub one_less_eighth : Field → Polynomial
one_less_eighth F = difference F (term 1 origin) eighth_variable

-- It is a member of G or of H, whose product for the list of the meet is so.
abbrev pub IsHighInMeet : Field → List Polynomial → List Polynomial → List Polynomial → Type 0
IsHighInMeet F G H L = IsHighTimes F eighth_variable G L ⊎ IsHighTimes F (one_less_eighth F) H L

-- N has the members without t of the reduced basis of the list of the meet, for the order that eliminates t.
pub record IsEliminated (F : Field) (G H N : List Polynomial) : Type 0 where
  pub list : List Polynomial
  pub formed : IsMeetList F G H list
  pub basis : List Polynomial
  pub reduced : IsReducedBasis F elim_key list basis
  pub is : N ≡ without_eighth basis

-- The quotients by g: each times g is a member without t of the basis for A and g.
pub record IsQuotientList (F : Field) (A : List Polynomial) (g : Polynomial) (L : List Polynomial) : Type 0 where
  pub polynomials : ArePolynomials F L
  pub eliminated : IsEliminated F A (g ∷ []) (multiples F g L)

-- C is the reduced Grevlex basis of the quotient (A) : (B).
pub record IsColonBasis (F : Field) (A B C : List Polynomial) : Type 0 where
  pub colon : IsColon F A B C
  pub reduced : IsReducedBasis F grevlex_key C C

-- The meets that the quotient (A) : (B) takes: for each g of B that of A and g; and from the second g on that of the
-- reduced bases of the quotients of (A) by the members before g, and by g.
pub data IsMetInColon (F : Field) (A B G H : List Polynomial) : Type 0 where
  by_member : (g : Polynomial) → Contains B g → g ≢ empty → G ≡ A → H ≡ g ∷ [] → IsMetInColon F A B G H
  so_far : (before after : List Polynomial) (g : Polynomial) → B ≡ before ++ g ∷ after → before ≢ [] → IsColonBasis F A before G
      → IsColonBasis F A (g ∷ []) H → IsMetInColon F A B G H

-- The list of one of these meets.
pub record IsMeetOfColon (F : Field) (A B L : List Polynomial) : Type 0 where
  pub first : List Polynomial
  pub second : List Polynomial
  pub met : IsMetInColon F A B first second
  pub formed : IsMeetList F first second L

-- The quotients by one g of B.
pub record IsQuotientOfColon (F : Field) (A B L : List Polynomial) : Type 0 where
  pub g : Polynomial
  pub there : Contains B g
  pub nonzero : g ≢ empty
  pub quotients : IsQuotientList F A g L

-- The lists of the quotient (A) : (B), each with its order.
abbrev pub IsColonList : Field → List Polynomial → List Polynomial → OrderName → List Polynomial → Type 0
IsColonList F A B order L = RunFor Elim (IsMeetOfColon F A B) order L ⊎ RunFor Grevlex (IsQuotientOfColon F A B) order L

-- A polynomial whose product for one of its meets has a term of a total degree above 2^40.
pub record IsHighInColon (F : Field) (A B L : List Polynomial) : Type 0 where
  pub first : List Polynomial
  pub second : List Polynomial
  pub met : IsMetInColon F A B first second
  pub high : IsHighInMeet F first second L

-- The list that the quotient (A) : (B) is made of: [1] by zero, the quotients by one member, and the members without t of
-- the last meet by more, which are the reduced Grevlex basis of the quotient.
abbrev pub IsColonGiven : Field → List Polynomial → List Polynomial → List Polynomial → Type 0
IsColonGiven F A [] L = L ≡ term 1 origin ∷ []
IsColonGiven F A (g ∷ []) L = IsQuotientList F A g L
IsColonGiven F A (g ∷ h ∷ B) L = IsColonBasis F A (g ∷ h ∷ B) L
