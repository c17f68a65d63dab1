-- An ideal as the code keeps it: the list that it was made of, the reduced Grevlex basis, and the cofactors both ways.
use Rattle.std.specs.Prelude.{◌≡◌, List, length}
use Rattle.std.specs.FinMap.{code}
use Rattle.std.specs.Coded.{Coded, coded_list, coded×, coded_ℕ}
use base.Stored.{coded_via}
use Rattle.fj_coeff.specs.Field.{Field}
use Rattle.fj_theory.specs.MonomialOrder.{grevlex_key}
use Rattle.fj_theory.specs.Polynomial.{Polynomial}
use Rattle.fj_theory.specs.Ideal.{ArePolynomials}
use Rattle.fj_groebner.specs.ReducedBasis.{IsReducedBasis}
use Rattle.fj_basis.specs.Basis.{WithCofactors, IsMadeOf, basis_code, unit_rows}

-- The list that the ideal was made of, the members of its basis, the cofactors of the given polynomials in each member,
-- and those of the members in each given polynomial.
pub record WithBasis : Type 0 where
  pub given : List Polynomial
  pub members : List Polynomial
  pub down : List (List Polynomial)
  pub up : List (List Polynomial)

-- The basis with its cofactors.
abbrev pub basis_of : WithBasis → WithCofactors
basis_of J = record { members = J.members; down = J.down; up = J.up }

-- A list as the basis of its own ideal: it was made of itself, with the cofactors 1 and 0.
abbrev pub of_itself : List Polynomial → WithBasis
of_itself L = record { given = L; members = L; down = unit_rows (length L); up = unit_rows (length L) }

-- The members are the reduced Grevlex basis of the ideal of the given polynomials, and the rows give each list as
-- combinations of the other.
pub record IsIdeal (F : Field) (J : WithBasis) : Type 0 where
  pub polynomials : ArePolynomials F J.given
  pub reduced : IsReducedBasis F grevlex_key J.given J.members
  pub made : IsMadeOf F J.given (basis_of J)

-- It is the ideal of the list L, made of it.
pub record IsIdealOf (F : Field) (L : List Polynomial) (J : WithBasis) : Type 0 where
  pub given : J.given ≡ L
  pub ideal : IsIdeal F J

abbrev parts : WithBasis → List Polynomial × WithCofactors
parts J = (J.given, basis_of J)

-- It is determined by its parts, and stored as they are.
pub same_parts : (I J : WithBasis) → parts I ≡ parts J → I ≡ J
same_parts I J h = λ i. record { given = (h i).0; members = (h i).1.members; down = (h i).1.down; up = (h i).1.up }

abbrev pub ideal_code : Coded WithBasis
ideal_code = coded_via (coded× (coded_list (code (coded_list coded_ℕ) coded_ℕ)) basis_code) parts same_parts
