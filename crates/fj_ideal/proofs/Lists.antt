-- Ideals of a list, by their members.
use Rattle.std.proofs.Common.{List, subst}
use Rattle.fj_coeff.specs.Field.{Field}
use Rattle.fj_theory.specs.Ideal.{ArePolynomials}
use Rattle.fj_theory.specs.MonomialOrder.{grevlex_key}
use Rattle.fj_theory.specs.Polynomial.{Polynomial}
use Rattle.fj_groebner.specs.ReducedBasis.{IsReducedBasis}
use Rattle.fj_ideal.specs.Ideal.{IsIdealOf, WithBasis}
use Rattle.fj_ideal.specs.Lists.{OfBasis}

module _ {F : Field} {L : List Polynomial} {J : WithBasis} (is : IsIdealOf F L J) where
  -- The members of an ideal are the reduced basis of the list that it was made of.
  pub basis_of_list : IsReducedBasis F grevlex_key L J.members
  basis_of_list = subst (λ M. IsReducedBasis F grevlex_key M J.members) is.given is.ideal.reduced

  pub polynomials_of_list : ArePolynomials F L
  polynomials_of_list = subst (ArePolynomials F) is.given is.ideal.polynomials

  -- What holds of the members holds of the basis of the list.
  pub of_members : (P : List Polynomial → Type 0) → P J.members → OfBasis F L P
  of_members P h = record { members = J.members; reduced = basis_of_list; holds = h }
