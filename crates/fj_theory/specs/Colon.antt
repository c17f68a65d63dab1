-- Meets and quotients of ideals of polynomials, by their members (Cox, Little and O'Shea 2015, chapter 4).
use Rattle.std.specs.Prelude.{◌↔◌, List, All}
use Rattle.fj_coeff.specs.Field.{Field}
use Rattle.fj_theory.specs.Polynomial.{Polynomial, IsPolynomial, product}
use Rattle.fj_theory.specs.Ideal.{ArePolynomials, Member}

-- h is in the meet of (L) and (M): it is in both.
pub record InMeet (F : Field) (L M : List Polynomial) (h : Polynomial) : Type 0 where
  pub left : Member F L h
  pub right : Member F M h

-- (N) is the meet of (L) and (M).
pub record IsMeet (F : Field) (L M N : List Polynomial) : Type 0 where
  pub polynomials : ArePolynomials F N
  pub members : (h : Polynomial) → IsPolynomial F h → Member F N h ↔ InMeet F L M h

-- h is in the quotient (L) : (M): h g is in (L) for each g in M.
pub record InColon (F : Field) (L M : List Polynomial) (h : Polynomial) : Type 0 where
  pub each : All (λ g. Member F L (product F h g)) M

-- (N) is the quotient (L) : (M).
pub record IsColon (F : Field) (L M N : List Polynomial) : Type 0 where
  pub polynomials : ArePolynomials F N
  pub members : (h : Polynomial) → IsPolynomial F h → Member F N h ↔ InColon F L M h
