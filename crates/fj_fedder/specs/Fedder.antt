-- The ideal of a quotient by which Fedder's criterion decides (Fedder 1983, section 1), and the verdict at a point.
use Rattle.std.specs.Prelude.{ℕ, ◌^◌, List}
use Rattle.fj_coeff.specs.Field.{Field}
use Rattle.fj_theory.specs.Evaluation.{IsZeroOf}
use Rattle.fj_theory.specs.FrobeniusPower.{frobenius_power}
use Rattle.fj_theory.specs.Polynomial.{Polynomial}
use Rattle.fj_theory.specs.Root.{IsRoot}
use Rattle.fj_theory.specs.Splitting.{IsFPureAt}
use Rattle.fj_elim.specs.Lists.{IsColonBasis}
use Rattle.fj_fedder.specs.declared.purity.PureAt.{PureAt}
use Rattle.fj_fedder.specs.declared.purity.PureAt.TheVariants.{Yes, No, Off}

-- C is the reduced Grevlex basis of the quotient I^[p] : I, p the characteristic.
abbrev pub IsFedderColon : Field → List Polynomial → List Polynomial → Type 0
IsFedderColon F I C = IsColonBasis F (frobenius_power F (F.characteristic ^ 1) I) I C

-- M is the root at 1 of I^[p] : I.
pub record IsSplitIdeal (F : Field) (I M : List Polynomial) : Type 0 where
  pub colon : List Polynomial
  pub is_colon : IsFedderColon F I colon
  pub root : IsRoot F (F.characteristic ^ 1) colon M

-- The verdict on the ring of polynomials modulo (I) at a point: whether it is F-pure there, and whether the point is a zero
-- of (I) at all.
abbrev pub IsVerdictAt : Field → List Polynomial → List ℕ → PureAt → Type 0
IsVerdictAt F I point Yes = IsZeroOf F I point × IsFPureAt F I point
IsVerdictAt F I point No = IsZeroOf F I point × (IsFPureAt F I point → ⊥)
IsVerdictAt F I point Off = IsZeroOf F I point → ⊥
