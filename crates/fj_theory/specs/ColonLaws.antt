-- Laws of meets and quotients of ideals, which the law functions prove (Cox, Little and O'Shea 2015, chapter 4).
use Rattle.std.specs.Prelude.{◌≡◌, List, [], ◌∷◌, ◌++◌, All}
use Rattle.std.specs.FinMap.{empty}
use Rattle.fj_coeff.specs.Field.{Field, IsField}
use Rattle.fj_theory.specs.Exponents.{origin}
use Rattle.fj_theory.specs.Polynomial.{Polynomial, term}
use Rattle.fj_theory.specs.Ideal.{ArePolynomials, SameIdeal}
use Rattle.fj_theory.specs.Colon.{IsMeet, IsColon}

-- The meet of two ideals is one ideal, and depends on the ideals alone.
pub record MeetsAreOfIdeals (F : Field) : Type 0 where
  pub unique : (L M N N' : List Polynomial) → IsMeet F L M N → IsMeet F L M N' → SameIdeal F N N'
  pub same : (L L' M M' N N' : List Polynomial) → ArePolynomials F L → ArePolynomials F L' → ArePolynomials F M → ArePolynomials F M' → ArePolynomials F N'
      → SameIdeal F L L' → SameIdeal F M M' → SameIdeal F N N' → IsMeet F L M N → IsMeet F L' M' N'

abbrev pub MeetsDependOnIdeals : Type 0
MeetsDependOnIdeals = (F : Field) → IsField F → MeetsAreOfIdeals F

-- The quotient of two ideals is one ideal, and depends on the ideals alone.
pub record ColonsAreOfIdeals (F : Field) : Type 0 where
  pub unique : (L M N N' : List Polynomial) → IsColon F L M N → IsColon F L M N' → SameIdeal F N N'
  pub same : (L L' M M' N N' : List Polynomial) → ArePolynomials F L → ArePolynomials F L' → ArePolynomials F M → ArePolynomials F M' → ArePolynomials F N'
      → SameIdeal F L L' → SameIdeal F M M' → SameIdeal F N N' → IsColon F L M N → IsColon F L' M' N'

abbrev pub ColonsDependOnIdeals : Type 0
ColonsDependOnIdeals = (F : Field) → IsField F → ColonsAreOfIdeals F

-- The quotient by the zero ideal is the unit ideal: by the empty list, and by a list of zeros.
abbrev pub ColonByZero : Type 0
ColonByZero = (F : Field) → IsField F → (I M : List Polynomial) → ArePolynomials F I → All (λ g. g ≡ empty) M → IsColon F I M (term 1 origin ∷ [])

-- The quotient by a sum of ideals is the meet of the quotients. So (I) : (M, g) is the meet of (I) : (M) and (I) : (g).
abbrev pub ColonBySum : Type 0
ColonBySum =
    (F : Field) → IsField F → (I M N K Q H : List Polynomial) → IsColon F I M K → IsColon F I N Q → IsMeet F K Q H → IsColon F I (M ++ N) H
