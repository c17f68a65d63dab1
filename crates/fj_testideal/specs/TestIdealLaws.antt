-- Laws of test ideals and left limits, which the law functions prove (Blickle, Mustață and Smith 2008, section 2).
use Rattle.std.specs.Prelude.{◌≡◌, ◌↔◌, ℕ, ◌*◌, ◌^◌, ◌<◌, List, [], ◌∷◌}
use Rattle.std.specs.declared.cmp.Ordering.TheVariants.{Less}
use Rattle.fj_coeff.specs.Field.{Field, IsField}
use Rattle.fj_theory.specs.Exponents.{origin}
use Rattle.fj_theory.specs.Polynomial.{Polynomial, IsPolynomial, power, term}
use Rattle.fj_theory.specs.Ideal.{ArePolynomials, Inside, SameIdeal, multiples}
use Rattle.fj_theory.specs.Fraction.{Fraction, SameValue, IsAtMost, plus_whole, compare}
use Rattle.fj_theory.specs.Root.{IsRoot}
use Rattle.fj_testideal.specs.TestIdeal.{IsTestIdeal, IsLeftLimit}

-- There is one test ideal for each value of t: two lists for equal exponents are one ideal, and each list that generates
-- this ideal is one. The same for left limits.
pub record AreUnique (F : Field) (f : Polynomial) : Type 0 where
  pub test_ideal : (s t : Fraction) (S T : List Polynomial) → SameValue s t → IsTestIdeal F f s S → IsTestIdeal F f t T → SameIdeal F S T
  pub same_test_ideal : (s t : Fraction) (S T : List Polynomial) → SameValue s t → IsTestIdeal F f s S → ArePolynomials F T → SameIdeal F S T → IsTestIdeal F f t T
  pub left_limit : (s t : Fraction) (S T : List Polynomial) → SameValue s t → IsLeftLimit F f s S → IsLeftLimit F f t T → SameIdeal F S T
  pub same_left_limit : (s t : Fraction) (S T : List Polynomial) → SameValue s t → IsLeftLimit F f s S → ArePolynomials F T → SameIdeal F S T → IsLeftLimit F f t T

abbrev pub LimitsAreUnique : Type 0
LimitsAreUnique = (F : Field) → IsField F → (f : Polynomial) → IsPolynomial F f → AreUnique F f

-- The test ideal falls as t grows, and so does the left limit. The left limit at t has the test ideal at t inside, and is
-- inside the test ideal at each s below t.
pub record AreFalling (F : Field) (f : Polynomial) : Type 0 where
  pub test_ideals : (s t : Fraction) (S T : List Polynomial) → IsAtMost s t → IsTestIdeal F f s S → IsTestIdeal F f t T → Inside F T S
  pub left_limits : (s t : Fraction) (S T : List Polynomial) → IsAtMost s t → IsLeftLimit F f s S → IsLeftLimit F f t T → Inside F T S
  pub at_one_place : (t : Fraction) (S T : List Polynomial) → IsLeftLimit F f t S → IsTestIdeal F f t T → Inside F T S
  pub below : (s t : Fraction) (S T : List Polynomial) → compare s t ≡ Less → IsTestIdeal F f s S → IsLeftLimit F f t T → Inside F T S

abbrev pub TestIdealsFall : Type 0
TestIdealsFall = (F : Field) → IsField F → (f : Polynomial) → IsPolynomial F f → AreFalling F f

-- tau(f^0) is (1), and tau(f^(t+k)) is f^k tau(f^t). The left limit at t + k is f^k times that at t > 0.
pub record WholeNumbersComeOut (F : Field) (f : Polynomial) : Type 0 where
  pub at_zero : (t : Fraction) → t.numerator ≡ 0 → IsTestIdeal F f t (term 1 origin ∷ [])
  pub test_ideal : (t : Fraction) (k : ℕ) (T : List Polynomial) → IsTestIdeal F f t T → IsTestIdeal F f (plus_whole t k) (multiples F (power F f k) T)
  pub left_limit : (t : Fraction) (k : ℕ) (T : List Polynomial) → 0 < t.numerator → IsLeftLimit F f t T → IsLeftLimit F f (plus_whole t k) (multiples F (power F f k) T)

abbrev pub WholeNumbersInExponents : Type 0
WholeNumbersInExponents = (F : Field) → IsField F → (f : Polynomial) → IsPolynomial F f → WholeNumbersComeOut F f

-- tau(f^(m/p^e)) is the root of f^m at e.
abbrev pub TestIdealsAreRoots : Type 0
TestIdealsAreRoots =
    (F : Field) → IsField F → (f : Polynomial) → IsPolynomial F f → (e m : ℕ) (t : Fraction) → t.numerator * F.characteristic ^ e ≡ m * t.denominator
    → (T : List Polynomial) → IsTestIdeal F f t T ↔ IsRoot F (F.characteristic ^ e) (power F f m ∷ []) T

-- T is the test ideal at every s below t and near to it: at every s in [near, t), for some number near below t.
pub record IsTestIdealJustBelow (F : Field) (f : Polynomial) (t : Fraction) (T : List Polynomial) : Type 0 where
  pub near : Fraction
  pub is_below : compare near t ≡ Less
  pub test_ideal : (s : Fraction) → IsAtMost near s → compare s t ≡ Less → IsTestIdeal F f s T

-- The left limit at t is what the test ideals below t and near to it are.
abbrev pub LeftLimitsAreLimits : Type 0
LeftLimitsAreLimits =
    (F : Field) → IsField F → (f : Polynomial) → IsPolynomial F f → (t : Fraction) → 0 < t.numerator
    → (T : List Polynomial) → IsLeftLimit F f t T ↔ IsTestIdealJustBelow F f t T
