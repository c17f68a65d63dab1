-- What finishing has found.
use Rattle.std.specs.Prelude.{◌≡◌, ◌≢◌, ℕ, List, [], ◌∷◌, All}
use Rattle.std.specs.FinMap.{empty}
use Rattle.fj_coeff.specs.Field.{Field}
use Rattle.fj_theory.specs.Polynomial.{Polynomial}
use Rattle.fj_theory.specs.Ideal.{ArePolynomials}
use Rattle.fj_groebner.specs.Division.{AreWithinSugars, Sugared, Division, polynomials_of, IsLowDivision, IsHighDivision}
use Rattle.fj_groebner.specs.Run as definition
use Rattle.fj_basis.specs.declared.members.Member.{Member}
use Rattle.fj_basis.specs.Members.{sugared, sugared_members, AreInPlace}

-- What a list that divides has to be.
pub record AreDivisors (F : Field) (G : List Sugared) : Type 0 where
  pub polynomials : ArePolynomials F (polynomials_of G)
  pub nonzero : All (λ f. f ≢ empty) (polynomials_of G)
  pub within : AreWithinSugars G

-- The members of a run on some list.
pub record AreMembersOfRun {K O : Type 0} (F : Field) (key : List ℕ → List ℕ) (members : List (Member K O)) : Type 0 where
  pub list : List Polynomial
  pub given : ArePolynomials F list
  pub turns : ℕ
  pub state : definition.Run
  pub run : definition.IsRun F key list turns state
  pub are : state.members ≡ sugared_members members
  pub in_place : AreInPlace members

-- The member is replaced by its remainder by those before it.
pub record IsReplacementOf {K O : Type 0} (F : Field) (key : List ℕ → List ℕ) (before : List (Member K O)) (m next : Member K O) : Type 0 where
  pub last : Division
  pub division : IsLowDivision F key (sugared_members before) (sugared m) last
  pub polynomial : next.polynomial ≡ last.remainder
  pub sugar : next.sugar ≡ last.sugar

-- In the second act a sugar above the limit arises.
pub record IsHighReplacing (F : Field) (key : List ℕ → List ℕ) (members : List Sugared) : Type 0 where
  pub reached : definition.Replacing
  pub member : Sugared
  pub rest : List Sugared
  pub replacing : definition.IsReplacing F key members reached
  pub next : reached.rest ≡ member ∷ rest
  pub high : IsHighDivision F key reached.replaced member

-- The row is the quotients of the division of f.
pub record IsQuotients (F : Field) (key : List ℕ → List ℕ) (G : List Sugared) (f : Polynomial) (row : List Polynomial) : Type 0 where
  pub last : Division
  pub division : IsLowDivision F key G (definition.given f) last
  pub quotients : last.quotients ≡ row

-- Each row is the quotients of the division of the polynomial at its place.
unfoldable pub AreQuotients : Field → (List ℕ → List ℕ) → List Sugared → List Polynomial → List (List Polynomial) → Type 0
AreQuotients F key G [] [] = Unit {0}
AreQuotients F key G [] (row ∷ rows) = ⊥
AreQuotients F key G (f ∷ L) [] = ⊥
AreQuotients F key G (f ∷ L) (row ∷ rows) = IsQuotients F key G f row × AreQuotients F key G L rows
