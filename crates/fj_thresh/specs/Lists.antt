-- The lists that nu and thresholds of a polynomial f at an ideal (J) run, and the products that they form, over a field F. The
-- digits of a number come the highest first.
use Rattle.std.specs.Prelude.{◌≡◌, ◌⊎◌, ℕ, ◌<◌, List, [], ◌∷◌, ◌++◌, length, All}
use Rattle.fj_coeff.specs.Field.{Field}
use Rattle.fj_theory.specs.Candidates.{IsCandidate}
use Rattle.fj_theory.specs.Digits.{value_of}
use Rattle.fj_theory.specs.Evaluation.{value}
use Rattle.fj_theory.specs.Fraction.{Fraction}
use Rattle.fj_theory.specs.PointIdeal.{point_ideal}
use Rattle.fj_theory.specs.Polynomial.{Polynomial}
use Rattle.fj_testideal.specs.Threshold.{IsNu}
use Rattle.fj_chain.specs.Lists.{IsDigitList, IsHighInDigits, IsHighInJump, IsJumpList}
use Rattle.fj_thresh.specs.Answer.{IsProperWith}

-- The digits write nu(k) in base p, k being their number.
pub record WriteNu (F : Field) (f : Polynomial) (J : List Polynomial) (digits : List ℕ) : Type 0 where
  pub below : All (λ d. d < F.characteristic) digits
  pub is_nu : IsNu F f J (length digits) (value_of F.characteristic digits)

-- The digit lists of the numbers that these digits and one more at the end write.
pub record IsLongerDigitList (F : Field) (f : Polynomial) (digits : List ℕ) (L : List Polynomial) : Type 0 where
  pub last : ℕ
  pub below : last < F.characteristic
  pub list : IsDigitList F f (digits ++ last ∷ []) L

pub record IsHighInLongerDigits (F : Field) (f : Polynomial) (digits : List ℕ) (L : List Polynomial) : Type 0 where
  pub last : ℕ
  pub below : last < F.characteristic
  pub high : IsHighInDigits F f (digits ++ last ∷ []) L

-- The nu lists of e, f and J: none where (J) isn't proper or f isn't in it. Else, for each k below e, the digit lists of the
-- numbers r from p nu(k) to p nu(k) + p - 1, which the digits of nu(k) and one more at the end write.
pub record IsNuList (F : Field) (e : ℕ) (f : Polynomial) (J L : List Polynomial) : Type 0 where
  pub within : IsProperWith F J f
  pub digits : List ℕ
  pub few : length digits < e
  pub written : WriteNu F f J digits
  pub list : IsLongerDigitList F f digits L

pub record IsHighInNu (F : Field) (e : ℕ) (f : Polynomial) (J L : List Polynomial) : Type 0 where
  pub within : IsProperWith F J f
  pub digits : List ℕ
  pub few : length digits < e
  pub written : WriteNu F f J digits
  pub high : IsHighInLongerDigits F f digits L

-- The lists of the threshold of f at (J) among the candidates of C_E: none where (J) isn't proper or f isn't in it. Else the test
-- lists and the left lists of each candidate.
pub record IsThresholdList (F : Field) (E : ℕ) (f : Polynomial) (J L : List Polynomial) : Type 0 where
  pub within : IsProperWith F J f
  pub at : Fraction
  pub candidate : IsCandidate F.characteristic E at
  pub list : IsJumpList F f at L

pub record IsHighInThreshold (F : Field) (E : ℕ) (f : Polynomial) (J L : List Polynomial) : Type 0 where
  pub within : IsProperWith F J f
  pub at : Fraction
  pub candidate : IsCandidate F.characteristic E at
  pub high : IsHighInJump F f at L

-- The lists of the threshold of f at a point in the first n variables: none where f isn't zero there. Else the polynomials
-- x_i - c_i, and the lists of the threshold at their ideal.
pub record IsPointThresholdList (F : Field) (E : ℕ) (f : Polynomial) (n : ℕ) (point : List ℕ) (L : List Polynomial) : Type 0 where
  pub zero_there : value F f point ≡ 0
  pub list : (L ≡ point_ideal F n point) ⊎ IsThresholdList F E f (point_ideal F n point) L

pub record IsHighInPointThreshold (F : Field) (E : ℕ) (f : Polynomial) (n : ℕ) (point : List ℕ) (L : List Polynomial) : Type 0 where
  pub zero_there : value F f point ≡ 0
  pub high : IsHighInThreshold F E f (point_ideal F n point) L
