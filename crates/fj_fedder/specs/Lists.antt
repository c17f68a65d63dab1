-- The lists by which F-purity is decided, and the products that they form (Fedder 1983, section 1). G has the members of the
-- ideal I, and p is the characteristic.
use Rattle.std.specs.Prelude.{◌⊎◌, ◌^◌, List}
use Rattle.fj_coeff.specs.Field.{Field}
use Rattle.fj_theory.specs.MonomialOrder.{grevlex_key}
use Rattle.fj_theory.specs.Polynomial.{Polynomial}
use Rattle.fj_groebner.specs.ReducedBasis.{IsReducedBasis}
use Rattle.fj_plain.specs.declared.order_name.OrderName.{OrderName}
use Rattle.fj_plain.specs.declared.order_name.OrderName.TheVariants.{Grevlex}
use Rattle.fj_ideal.specs.Lists.{RunFor}
use Rattle.fj_frobenius.specs.Lists.{IsHighMember, IsPowerList, IsRootList}
use Rattle.fj_elim.specs.Lists.{IsColonBasis, IsColonList, IsHighInColon}

-- P is the reduced Grevlex basis of the p-th powers of G, none of which is too high.
pub record IsPowerBasis (F : Field) (G P : List Polynomial) : Type 0 where
  pub powers : List Polynomial
  pub formed : IsPowerList F (F.characteristic ^ 1) G powers
  pub reduced : IsReducedBasis F grevlex_key powers P

-- L is a list of the quotient I^[p] : I, by the reduced bases of the two, with its order.
pub record IsFedderColonList (F : Field) (G : List Polynomial) (order : OrderName) (L : List Polynomial) : Type 0 where
  pub power : List Polynomial
  pub basis : IsPowerBasis F G power
  pub list : IsColonList F power G order L

-- L is a polynomial whose product for one of these lists has a term of a total degree above 2^40.
pub record IsHighInFedderColon (F : Field) (G L : List Polynomial) : Type 0 where
  pub power : List Polynomial
  pub basis : IsPowerBasis F G power
  pub high : IsHighInColon F power G L

-- C is the reduced Grevlex basis of I^[p] : I.
pub record IsFedderColonBasis (F : Field) (G C : List Polynomial) : Type 0 where
  pub power : List Polynomial
  pub basis : IsPowerBasis F G power
  pub colon : IsColonBasis F power G C

-- The list that the root of I^[p] : I is made of: the parts at 1 of its reduced basis, in order.
pub record IsSplitGiven (F : Field) (G L : List Polynomial) : Type 0 where
  pub colon : List Polynomial
  pub basis : IsFedderColonBasis F G colon
  pub parts : IsRootList F (F.characteristic ^ 1) colon L

-- The lists for the quotient, each with its order: the p-th powers of G, then those of I^[p] : I.
abbrev pub IsListForColon : Field → List Polynomial → OrderName → List Polynomial → Type 0
IsListForColon F G order L = RunFor Grevlex (IsPowerList F (F.characteristic ^ 1) G) order L ⊎ IsFedderColonList F G order L

-- The lists for its root: these, then the parts at 1 of its reduced basis.
abbrev pub IsSplitList : Field → List Polynomial → OrderName → List Polynomial → Type 0
IsSplitList F G order L = IsListForColon F G order L ⊎ RunFor Grevlex (IsSplitGiven F G) order L

-- L is a polynomial whose p-th power, or whose product for the quotient, has a term of a total degree above 2^40.
abbrev pub IsHighInSplit : Field → List Polynomial → List Polynomial → Type 0
IsHighInSplit F G L = IsHighMember F (F.characteristic ^ 1) G L ⊎ IsHighInFedderColon F G L
