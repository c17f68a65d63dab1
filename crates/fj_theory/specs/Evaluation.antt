-- The value of a polynomial at a point.
use Rattle.std.specs.Prelude.{◌≡◌, ℕ, ◌<◌, ◌≤◌, List, [], ◌∷◌, length, All}
use Rattle.fj_coeff.specs.Field.{Field, power}
use Rattle.fj_theory.specs.Polynomial.{Polynomial, coefficient, support, total_over}

-- A point over the field: at most eight elements. Each coordinate past its end is zero.
pub record IsPoint (F : Field) (point : List ℕ) : Type 0 where
  pub short : length point ≤ 8
  pub below : All (λ x. x < F.size) point

-- The value of a monomial at a point: the product of the powers of its coordinates.
unfoldable pub monomial_value : Field → List ℕ → List ℕ → ℕ
monomial_value F [] point = 1
monomial_value F (k ∷ a) [] = F.mul (power F 0 k) (monomial_value F a [])
monomial_value F (k ∷ a) (x ∷ point) = F.mul (power F x k) (monomial_value F a point)

-- The value of a polynomial at a point: the sum over its terms of the coefficient times the value of the monomial.
unfoldable pub value : Field → Polynomial → List ℕ → ℕ
value F f point = total_over F (λ a. F.mul (coefficient f a) (monomial_value F a point)) (support f)

-- The point is a zero of the list, and so of its ideal: each polynomial of the list is zero there.
pub record IsZeroOf (F : Field) (L : List Polynomial) (point : List ℕ) : Type 0 where
  pub each : All (λ g. value F g point ≡ 0) L
