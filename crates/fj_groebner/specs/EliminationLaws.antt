-- Laws of the elimination of the eighth variable, and of meets and quotients by it, which the law functions prove
-- (Cox, Little and O'Shea 2015, chapter 3, section 1, and chapter 4, sections 3 and 4).
use Rattle.std.specs.Prelude.{◌≡◌, ◌≢◌, ◌↔◌, ℕ, IsTrue, List, [], ◌∷◌, All}
use Rattle.std.specs.FinMap.{empty}
use Rattle.fj_coeff.specs.Field.{Field, IsField}
use Rattle.fj_theory.specs.MonomialOrder.{IsMonomialOrder, elim_key, grevlex_key}
use Rattle.fj_theory.specs.Polynomial.{Polynomial, IsPolynomial, product}
use Rattle.fj_theory.specs.Ideal.{ArePolynomials, Member, multiples}
use Rattle.fj_theory.specs.Colon.{IsMeet, IsColon}
use Rattle.fj_theory.specs.PointIdeal.{UsesFirst}
use Rattle.fj_groebner.specs.ReducedBasis.{IsReducedBasis}
use Rattle.fj_groebner.specs.Division.{Division, IsDivision}
use Rattle.fj_groebner.specs.Run.{given}
use Rattle.fj_groebner.specs.Elimination.{elimination_list, lacks_eighth, without_eighth}

-- The test says whether the polynomial uses the first seven variables alone.
abbrev pub EighthIsTested : Type 0
EighthIsTested = (F : Field) → IsField F → (f : Polynomial) → IsPolynomial F f → IsTrue (lacks_eighth f) ↔ UsesFirst 7 f

-- The elimination theorem, for a reduced basis G of (E) in an order that eliminates the eighth variable: those members of G
-- that lack it generate the part of (E) that lacks it, and they are a reduced basis in Grevlex.
pub record Eliminates (F : Field) (E G : List Polynomial) : Type 0 where
  pub lack : All (UsesFirst 7) (without_eighth G)
  pub members : (h : Polynomial) → IsPolynomial F h → UsesFirst 7 h → Member F (without_eighth G) h ↔ Member F E h
  pub basis : IsReducedBasis F grevlex_key (without_eighth G) (without_eighth G)

abbrev pub EliminationTheorem : Type 0
EliminationTheorem = (F : Field) → IsField F → (E G : List Polynomial) → ArePolynomials F E → IsReducedBasis F elim_key E G → Eliminates F E G

-- For E = t I, (1 - t) J, where t is the eighth variable, they are the meet of (I) and (J), and so its reduced Grevlex basis.
abbrev pub EliminationGivesMeet : Type 0
EliminationGivesMeet =
    (F : Field) → IsField F → (I J G : List Polynomial) → ArePolynomials F I → ArePolynomials F J → All (UsesFirst 7) I → All (UsesFirst 7) J
    → IsReducedBasis F elim_key (elimination_list F I J) G
    → IsMeet F I J (without_eighth G) × IsReducedBasis F grevlex_key (without_eighth G) (without_eighth G)

-- The division of h by g alone has ended in the state `last`: it has one quotient, the remainder is zero, and h is g times
-- the quotient.
pub record IsExact (F : Field) (g h : Polynomial) (last : Division) : Type 0 where
  pub quotient : Polynomial
  pub polynomial : IsPolynomial F quotient
  pub quotients : last.quotients ≡ quotient ∷ []
  pub remainder : last.remainder ≡ empty
  pub whole : h ≡ product F g quotient

-- The division of a multiple of g by g is exact, in each order.
abbrev pub DivisionOfMultiples : Type 0
DivisionOfMultiples =
    (F : Field) → IsField F → (key : List ℕ → List ℕ) → IsMonomialOrder key → (g h : Polynomial) → IsPolynomial F g → g ≢ empty → Member F (g ∷ []) h
    → (last : Division) → IsDivision F key (given g ∷ []) (given h) last → IsExact F g h last

-- The quotient (I) : (g), for g not zero, where G is the reduced elimination basis of t I, (1 - t) g. Each member of G that
-- lacks t is divided by g with the remainder zero, in each order. Where Q is the list of the quotients, each times g being
-- the member at its place, (Q) is (I) : (g), and Q lacks t.
pub record DividesOut (F : Field) (I : List Polynomial) (g : Polynomial) (G : List Polynomial) : Type 0 where
  pub exact : (key : List ℕ → List ℕ) → IsMonomialOrder key
      → All (λ h. (last : Division) → IsDivision F key (given g ∷ []) (given h) last → IsExact F g h last) (without_eighth G)
  pub colon : (Q : List Polynomial) → ArePolynomials F Q → multiples F g Q ≡ without_eighth G → IsColon F I (g ∷ []) Q
  pub lack : (Q : List Polynomial) → ArePolynomials F Q → multiples F g Q ≡ without_eighth G → All (UsesFirst 7) Q

abbrev pub EliminationGivesColon : Type 0
EliminationGivesColon =
    (F : Field) → IsField F → (I G : List Polynomial) (g : Polynomial) → ArePolynomials F I → IsPolynomial F g → g ≢ empty → All (UsesFirst 7) I → UsesFirst 7 g
    → IsReducedBasis F elim_key (elimination_list F I (g ∷ [])) G → DividesOut F I g G
