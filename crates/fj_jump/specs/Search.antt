-- What a search tells of an interval of candidates, over a field F.
use Rattle.std.specs.Prelude.{◌≡◌, ◌⊎◌, List, [], ◌∷◌, ◌++◌}
use Rattle.std.proofs.Common.{lit<}
use Rattle.std.specs.List.Sorted.{IsStrictlySortedBy}
use Rattle.fj_coeff.specs.Field.{Field}
use Rattle.fj_theory.specs.Candidates.{Gap, neighbours}
use Rattle.fj_theory.specs.Fraction.{Fraction, compare}
use Rattle.fj_theory.specs.Ideal.{SameIdeal}
use Rattle.fj_theory.specs.Polynomial.{Polynomial}
use Rattle.fj_ideal.specs.Ideal.{IsIdeal, WithBasis}
use Rattle.fj_testideal.specs.Jump.{IsConstant, IsJump, IsUnchangedAt}
use Rattle.fj_testideal.specs.JumpList.{HasChange}
use Rattle.fj_testideal.specs.TestIdeal.{IsTestIdeal}
use Rattle.fj_chain.specs.Lists.{IsLastTestList}
use Rattle.fj_jump.specs.declared.rows.GapRow.{GapRow}
use Rattle.fj_jump.specs.declared.rows.JumpRow.{JumpRow}
use Rattle.fj_jump.specs.Chosen.{AreChosen}
use Rattle.fj_jump.specs.Rows.{gap_of}

-- The ideal of the row was made of the last one of the test lists at its exponent.
pub record IsMadeOfLastList {K : Type 0} (F : Field) (f : Polynomial) (row : JumpRow K) : Type 0 where
  pub last : IsLastTestList F f row.at row.ideal.given
  pub ideal : IsIdeal F row.ideal

-- The row tells that t is an F-jumping number, and its test ideal.
pub record IsRowOfJump {K : Type 0} (F : Field) (f : Polynomial) (t : Fraction) (row : JumpRow K) : Type 0 where
  pub at : row.at ≡ t
  pub is_jump : IsJump F f row.at
  pub is_test_ideal : IsTestIdeal F f row.at row.ideal.given
  pub made : IsMadeOfLastList F f row

-- The row tells the gap, on which tau changes.
pub record IsRowOfGap (F : Field) (f : Polynomial) (gap : Gap) (row : GapRow) : Type 0 where
  pub is : gap_of row ≡ gap
  pub change : HasChange F f gap

-- The rows tell those of these exponents that are F-jumping numbers. At each other one the test ideal doesn't change.
abbrev pub AreRowsOfJumps : {K : Type 0} → Field → Polynomial → List Fraction → List (JumpRow K) → Type 0
AreRowsOfJumps F f ts rows = AreChosen (IsUnchangedAt F f) (IsRowOfJump F f) ts rows

-- The rows tell those of these gaps on which tau changes. On each other one it is constant.
abbrev pub AreRowsOfGaps : Field → Polynomial → List Gap → List GapRow → Type 0
AreRowsOfGaps F f gaps rows = AreChosen (λ gap. IsConstant F f gap.lower gap.upper) (IsRowOfGap F f) gaps rows

-- The rows tell what there is between s and t, with the exponents ts between them.
pub record AreFoundBetween {K : Type 0} (F : Field) (f : Polynomial) (s : Fraction) (ts : List Fraction) (t : Fraction) (jumps : List (JumpRow K)) (gaps : List GapRow) : Type 0 where
  pub jumps_are : AreRowsOfJumps F f ts jumps
  pub gaps_are : AreRowsOfGaps F f (neighbours s (ts ++ t ∷ [])) gaps

-- The exponents ts rise strictly between s and t.
abbrev pub RiseBetween : Fraction → List Fraction → Fraction → Type 0
RiseBetween s ts t = IsStrictlySortedBy compare (s ∷ (ts ++ t ∷ []))

-- A row for t has come to the rows where T, the test ideal there, isn't the left limit S.
abbrev pub HasRowWhereChanged : {K : Type 0} → Field → Fraction → List Polynomial → WithBasis → List (JumpRow K) → List (JumpRow K) → Type 0
HasRowWhereChanged F t S T before after =
    (SameIdeal F S T.given × (after ≡ before)) ⊎ ((SameIdeal F S T.given → ⊥) × (after ≡ before ++ record { at = t; ideal = T } ∷ []))

-- The fraction 0, at which the first gap begins.
abbrev pub zero_fraction : Fraction
zero_fraction = record { numerator = 0; denominator = 1; positive = lit< tt }
