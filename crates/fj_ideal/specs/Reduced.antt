-- An ideal by its reduced Grevlex basis alone: the list that it was made of, and the members of the basis.
use Rattle.std.specs.Prelude.{◌≡◌, List}
use Rattle.std.specs.FinMap.{code}
use Rattle.std.specs.Coded.{Coded, coded_list, coded×, coded_ℕ}
use base.Stored.{coded_via}
use Rattle.fj_coeff.specs.Field.{Field}
use Rattle.fj_theory.specs.MonomialOrder.{grevlex_key}
use Rattle.fj_theory.specs.Polynomial.{Polynomial}
use Rattle.fj_theory.specs.Ideal.{ArePolynomials}
use Rattle.fj_groebner.specs.ReducedBasis.{IsReducedBasis}

-- The list that the ideal was made of, and the members of its basis.
pub record WithMembers : Type 0 where
  pub given : List Polynomial
  pub members : List Polynomial

-- The members are the reduced Grevlex basis of the ideal of the given polynomials.
pub record IsReduced (F : Field) (J : WithMembers) : Type 0 where
  pub polynomials : ArePolynomials F J.given
  pub reduced : IsReducedBasis F grevlex_key J.given J.members

-- It is the ideal of the list L, made of it.
pub record IsReducedOf (F : Field) (L : List Polynomial) (J : WithMembers) : Type 0 where
  pub given : J.given ≡ L
  pub ideal : IsReduced F J

abbrev parts : WithMembers → List Polynomial × List Polynomial
parts J = (J.given, J.members)

-- It is determined by its parts, and stored as they are.
pub same_parts : (I J : WithMembers) → parts I ≡ parts J → I ≡ J
same_parts I J h = λ i. record { given = (h i).0; members = (h i).1 }

abbrev pub reduced_code : Coded WithMembers
reduced_code = coded_via (coded× (coded_list (code (coded_list coded_ℕ) coded_ℕ)) (coded_list (code (coded_list coded_ℕ) coded_ℕ))) parts same_parts
