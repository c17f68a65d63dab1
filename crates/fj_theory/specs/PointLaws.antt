-- Laws of values at a point and of the ideal of a point, which the law functions prove.
use Rattle.std.specs.Prelude.{◌≡◌, ◌↔◌, ℕ, ◌<◌, ◌≤◌, List}
use Rattle.std.specs.FinMap.{empty}
use Rattle.fj_coeff.specs.Field as field
use Rattle.fj_coeff.specs.Field.{Field, IsField}
use Rattle.fj_theory.specs.Exponents.{origin}
use Rattle.fj_theory.specs.Polynomial.{Polynomial, IsPolynomial, PolynomialOver, sum, negation, product, power, term}
use Rattle.fj_theory.specs.Ideal.{ArePolynomials, Member}
use Rattle.fj_theory.specs.Evaluation.{IsPoint, value, IsZeroOf}
use Rattle.fj_theory.specs.PointIdeal.{UsesFirst, point_ideal}

-- The value at the point is a map of rings from the polynomials to the field.
pub record ValueIsRingMap (F : Field) (point : List ℕ) : Type 0 where
  pub element : (f : PolynomialOver F) → value F f.map point < F.size
  pub keeps_zero : value F empty point ≡ 0
  pub keeps_one : value F (term 1 origin) point ≡ 1
  pub keeps_sum : (f g : PolynomialOver F) → value F (sum F f.map g.map) point ≡ F.add (value F f.map point) (value F g.map point)
  pub keeps_negation : (f : PolynomialOver F) → value F (negation F f.map) point ≡ F.neg (value F f.map point)
  pub keeps_product : (f g : PolynomialOver F) → value F (product F f.map g.map) point ≡ F.mul (value F f.map point) (value F g.map point)
  pub keeps_power : (f : PolynomialOver F) (k : ℕ) → value F (power F f.map k) point ≡ field.power F (value F f.map point) k

abbrev pub ValuesAreRingMaps : Type 0
ValuesAreRingMaps = (F : Field) → IsField F → (point : List ℕ) → IsPoint F point → ValueIsRingMap F point

-- A zero of a list is a zero of each member of its ideal.
abbrev pub MembersAreZeroAtZeros : Type 0
MembersAreZeroAtZeros =
    (F : Field) → IsField F → (point : List ℕ) → IsPoint F point → (L : List Polynomial) → ArePolynomials F L → IsZeroOf F L point
    → (h : Polynomial) → Member F L h → value F h point ≡ 0

-- A polynomial in the first n variables is in the ideal of a point in these variables exactly where it is zero there.
abbrev pub PointIdealByValue : Type 0
PointIdealByValue =
    (F : Field) → IsField F → (point : List ℕ) → IsPoint F point → (n : ℕ) → n ≤ 8 → (f : Polynomial) → IsPolynomial F f → UsesFirst n f
    → Member F (point_ideal F n point) f ↔ (value F f point ≡ 0)

-- The ideal of a point is proper: 1 isn't in it.
abbrev pub PointIdealIsProper : Type 0
PointIdealIsProper =
    (F : Field) → IsField F → (point : List ℕ) → IsPoint F point → (n : ℕ) → n ≤ 8 → Member F (point_ideal F n point) (term 1 origin) → ⊥
