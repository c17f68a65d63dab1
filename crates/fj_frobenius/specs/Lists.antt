-- The lists that Frobenius powers and roots of ideals run, and the products that they form. G has the members of the ideal.
use Rattle.std.specs.Prelude.{◌≡◌, ℕ, ◌^◌, List, [], ◌∷◌, Contains}
use Rattle.fj_coeff.specs.Field.{Field}
use Rattle.fj_theory.specs.FrobeniusPower.{frobenius_power}
use Rattle.fj_theory.specs.Ideal.{multiples}
use Rattle.fj_theory.specs.Polynomial.{Polynomial, power, product}
use Rattle.fj_poly.specs.Limit.{IsHigh}
use Rattle.fj_root.specs.Root.{ArePartsOf}
use Rattle.fj_ideal.specs.Lists.{AreLow}

-- The list of the Frobenius power: the q-th powers of the members.
pub record IsPowerList (F : Field) (q : ℕ) (G L : List Polynomial) : Type 0 where
  pub is : L ≡ frobenius_power F q G
  pub low : AreLow L

-- L is one member, whose q-th power has a term of a total degree above 2^40.
pub record IsHighMember (F : Field) (q : ℕ) (G L : List Polynomial) : Type 0 where
  pub g : Polynomial
  pub there : Contains G g
  pub high : IsHigh (power F g q)
  pub is : L ≡ g ∷ []

-- The list of the Frobenius root: the parts over q-th powers of the members, in order.
abbrev pub IsRootList : Field → ℕ → List Polynomial → List Polynomial → Type 0
IsRootList F q G L = ArePartsOf F q G L

-- The list of a step: the parts over p-th powers of f^d g for the members g, in order.
pub record IsStepList (F : Field) (d : ℕ) (f : Polynomial) (G L : List Polynomial) : Type 0 where
  pub low : AreLow (multiples F (power F f d) G)
  pub parts : ArePartsOf F (F.characteristic ^ 1) (multiples F (power F f d) G) L

-- L is f with one member g for which f^d g has a term of a total degree above 2^40.
pub record IsHighMultiple (F : Field) (d : ℕ) (f : Polynomial) (G L : List Polynomial) : Type 0 where
  pub g : Polynomial
  pub there : Contains G g
  pub high : IsHigh (product F (power F f d) g)
  pub is : L ≡ f ∷ g ∷ []
