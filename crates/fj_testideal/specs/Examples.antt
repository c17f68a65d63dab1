-- Examples over fields of characteristic 2 and over GF(5). They tell the definitions from readings that are near to them.
use Rattle.std.specs.Prelude.{◌≡◌, ℕ, ◌^◌, [], ◌∷◌}
use Rattle.std.proofs.Common.{lit<}
use Rattle.fj_coeff.specs.Field.{Field, IsField}
use Rattle.fj_coeff.specs.PrimeField.{prime_field}
use Rattle.fj_theory.specs.Polynomial.{Polynomial, sum, power, term}
use Rattle.fj_theory.specs.Fraction.{Fraction, ceil_times}
use Rattle.fj_theory.specs.Digits.{digits, IsExpansion}
use Rattle.fj_theory.specs.Root.{IsRoot}
use Rattle.fj_testideal.specs.TestIdeal.{IsTestIdeal, IsLeftLimit}
use Rattle.fj_testideal.specs.Jump.{IsJump}
use Rattle.fj_testideal.specs.Chain.{FollowsDigits, IsLimit, IsNumberOfRisingPeriods, IsNumberOfFallingPeriods}

-- x^n, x the first variable.
abbrev pub x : ℕ → Polynomial
x n = term 1 (n ∷ 0 ∷ 0 ∷ 0 ∷ 0 ∷ 0 ∷ 0 ∷ 0 ∷ [])

abbrev pub third : Fraction
third = record { numerator = 1; denominator = 3; positive = lit< tt }

abbrev pub one : Fraction
one = record { numerator = 1; denominator = 1; positive = lit< tt }

-- The test ideal is no single root: for f = x^5 and t = 1/3 the root of f^ceil(t*p^2) at 2 is (x^2), and tau(f^t) is (x).
pub record IsNoSingleRoot (F : Field) : Type 0 where
  pub root : IsRoot F (F.characteristic ^ 2) (power F (x 5) (ceil_times third (F.characteristic ^ 2)) ∷ []) (x 2 ∷ [])
  pub test_ideal : IsTestIdeal F (x 5) third (x 1 ∷ [])
  pub apart : IsTestIdeal F (x 5) third (x 2 ∷ []) → ⊥

abbrev pub OneRootIsNoLimit : Type 0
OneRootIsNoLimit = (F : Field) → IsField F → F.characteristic ≡ 2 → IsNoSingleRoot F

-- The falling chain starts at (1): for f = x and t = 1, whose period is the digit 1, the chain from (f) has the limit (x),
-- the chain from (1) has the limit (1), and (1) is the left limit.
pub record StartsAtOne (F : Field) : Type 0 where
  pub digits_of_one : digits F.characteristic one 0 1 ≡ 1 ∷ []
  pub limit_from_f : IsLimit F (x 1) (1 ∷ []) (x 1 ∷ []) (x 1 ∷ [])
  pub limit_from_one : IsLimit F (x 1) (1 ∷ []) (x 0 ∷ []) (x 0 ∷ [])
  pub left_limit : IsLeftLimit F (x 1) one (x 0 ∷ [])
  pub apart : IsLeftLimit F (x 1) one (x 1 ∷ []) → ⊥

abbrev pub FallingChainStartsAtOne : Type 0
FallingChainStartsAtOne = (F : Field) → IsField F → F.characteristic ≡ 2 → StartsAtOne F

-- The lowest digit comes first: for f = x^5 and t = 1/3, whose period has the digits 0 and 1, the chain that uses 1 before 0
-- has the limit (x), which is tau(f^t), and the chain that uses 0 before 1 has the limit (x^3). The first chain goes over (x^2)
-- and (x) to (x), so its number of periods is 3.
pub record UsesLowestFirst (F : Field) : Type 0 where
  pub digits_of_third : digits F.characteristic third 0 2 ≡ 0 ∷ 1 ∷ []
  pub limit : IsLimit F (x 5) (0 ∷ 1 ∷ []) (x 5 ∷ []) (x 1 ∷ [])
  pub number : IsNumberOfRisingPeriods F (x 5) (0 ∷ 1 ∷ []) 3
  pub other_limit : IsLimit F (x 5) (1 ∷ 0 ∷ []) (x 5 ∷ []) (x 3 ∷ [])
  pub test_ideal : IsTestIdeal F (x 5) third (x 1 ∷ [])
  pub apart : IsTestIdeal F (x 5) third (x 3 ∷ []) → ⊥

abbrev pub LowestDigitComesFirst : Type 0
LowestDigitComesFirst = (F : Field) → IsField F → F.characteristic ≡ 2 → UsesLowestFirst F

-- x^i y^j, and x^2 + y^3 over GF(5).
abbrev pub xy : ℕ → ℕ → Polynomial
xy i j = term 1 (i ∷ j ∷ 0 ∷ 0 ∷ 0 ∷ 0 ∷ 0 ∷ 0 ∷ [])

abbrev pub cusp : Polynomial
cusp = sum (prime_field 5) (xy 2 0) (xy 0 3)

abbrev pub four_fifths : Fraction
four_fifths = record { numerator = 4; denominator = 5; positive = lit< tt }

-- Over GF(5), for f = x^2 + y^3 and t = 4/5, which has the digit 3 before the period and the period 4: the chain from (f) leads
-- to (y, x), the test ideal, and the chain from (1) to (1), the left limit. So 4/5 is an F-jumping number, and a falling chain
-- from (f) would miss it.
pub record IsCuspOverFive : Type 0 where
  pub expansion : IsExpansion 5 four_fifths (record { prime = 5; pre = 3 ∷ []; period = 4 ∷ [] })
  pub limit_from_f : IsLimit (prime_field 5) cusp (4 ∷ []) (cusp ∷ []) (cusp ∷ [])
  pub digits_from_f : FollowsDigits (prime_field 5) cusp (3 ∷ []) (cusp ∷ []) (xy 0 1 ∷ xy 1 0 ∷ [])
  pub limit_from_one : IsLimit (prime_field 5) cusp (4 ∷ []) (xy 0 0 ∷ []) (xy 0 1 ∷ xy 1 0 ∷ [])
  pub number_from_one : IsNumberOfFallingPeriods (prime_field 5) cusp (4 ∷ []) 2
  pub digits_from_one : FollowsDigits (prime_field 5) cusp (3 ∷ []) (xy 0 1 ∷ xy 1 0 ∷ []) (xy 0 0 ∷ [])
  pub test_ideal : IsTestIdeal (prime_field 5) cusp four_fifths (xy 0 1 ∷ xy 1 0 ∷ [])
  pub left_limit : IsLeftLimit (prime_field 5) cusp four_fifths (xy 0 0 ∷ [])
  pub is_jump : IsJump (prime_field 5) cusp four_fifths
  pub apart : IsLeftLimit (prime_field 5) cusp four_fifths (xy 0 1 ∷ xy 1 0 ∷ []) → ⊥
