-- Examples of what a search would tell wrongly that tests less than the definitions ask.
use Rattle.std.specs.Prelude.{ℕ, ◌-◌, ◌^◌, List, [], ◌∷◌}
use Rattle.std.proofs.Common.{lit<}
use Rattle.fj_coeff.specs.Field.{Field, IsField}
use Rattle.fj_coeff.specs.PrimeField.{prime_field}
use Rattle.fj_theory.specs.Polynomial.{Polynomial, sum, power, term}
use Rattle.fj_theory.specs.PointIdeal.{variable_exponents}
use Rattle.fj_theory.specs.Fraction.{Fraction, ceil_times}
use Rattle.fj_theory.specs.Candidates.{Gap, IsInside}
use Rattle.fj_testideal.specs.TestIdeal.{IsTestIdeal}
use Rattle.fj_testideal.specs.JumpList.{IsOpen}
use Rattle.fj_testideal.specs.Examples.{x, third}
use Rattle.fj_testideal.specs.Threshold.{IsPowerInside, IsThreshold}

abbrev pub three_eighths : Fraction
three_eighths = record { numerator = 3; denominator = 8; positive = lit< tt }

-- From 1/3 to 1/2, for the prime 2 a gap of C_2.
abbrev pub third_to_half : Gap
third_to_half = record { lower = third; upper = record { numerator = 1; denominator = 2; positive = lit< tt } }

-- An inner point settles no gap: for f = x^5, tau(f^t) is (x) at the lower end 1/3 and at 3/8 inside, and the gap is open.
pub record IsOpenPastInnerPoint (F : Field) : Type 0 where
  pub at_lower : IsTestIdeal F (x 5) third (x 1 ∷ [])
  pub at_inner : IsTestIdeal F (x 5) three_eighths (x 1 ∷ [])
  pub inner : IsInside three_eighths third_to_half
  pub is_open : IsOpen F (x 5) third_to_half

abbrev pub InnerPointSettlesNoGap : Type 0
InnerPointSettlesNoGap = (F : Field) → IsField F → IsOpenPastInnerPoint F

-- The variable at a place.
abbrev pub variable : ℕ → Polynomial
variable i = term 1 (variable_exponents i)

-- x^3 + y^3 + z^3, and the list x, y, z.
abbrev pub sum_of_cubes : Field → Polynomial
sum_of_cubes F = sum F (power F (variable 0) 3) (sum F (power F (variable 1) 3) (power F (variable 2) 3))

abbrev pub first_three : List Polynomial
first_three = variable 0 ∷ variable 1 ∷ variable 2 ∷ []

abbrev pub three_quarters : Fraction
three_quarters = record { numerator = 3; denominator = 4; positive = lit< tt }

-- One exponent tells no threshold: over GF(5), for f = x^3 + y^3 + z^3 and J = (x, y, z), 3/4 is as the threshold at e = 1,
-- where f^4 is in (J^[5]) and f^3 isn't, and it isn't the threshold.
pub record OneExponentTellsNoThreshold : Type 0 where
  pub inside_at_one : IsPowerInside (prime_field 5) (sum_of_cubes (prime_field 5)) first_three 1 (ceil_times three_quarters (5 ^ 1))
  pub outside_at_one : IsPowerInside (prime_field 5) (sum_of_cubes (prime_field 5)) first_three 1 (ceil_times three_quarters (5 ^ 1) - 1) → ⊥
  pub not_threshold : IsThreshold (prime_field 5) (sum_of_cubes (prime_field 5)) first_three three_quarters → ⊥
