-- The ideal of a point.
use Rattle.std.specs.Prelude.{◌≡◌, ℕ, ◌<◌, ◌≤◌, List, map, set, slice_index}
use Rattle.std.specs.List.{range_with_len}
use Rattle.fj_coeff.specs.Field.{Field}
use Rattle.fj_theory.specs.Exponents.{origin}
use Rattle.fj_theory.specs.Polynomial.{Polynomial, coefficient, sum, negation, term}

-- The exponents of the variable x_i. The variables are counted from 0.
unfoldable pub variable_exponents : ℕ → List ℕ
variable_exponents i = set origin i 1

-- The polynomial x_i - c_i, where c_i is the coordinate of the point.
unfoldable pub less_coordinate : Field → List ℕ → ℕ → Polynomial
less_coordinate F point i = sum F (term 1 (variable_exponents i)) (negation F (term (slice_index point i) origin))

-- The ideal of a point in the first n variables: the polynomials x_i - c_i generate it.
unfoldable pub point_ideal : Field → ℕ → List ℕ → List Polynomial
point_ideal F n point = map (less_coordinate F point) (range_with_len 0 n)

-- The polynomial uses the first n variables alone: in each of its terms the later exponents are zero.
pub record UsesFirst (n : ℕ) (f : Polynomial) : Type 0 where
  pub later : (a : List ℕ) → 0 < coefficient f a → (i : ℕ) → n ≤ i → slice_index a i ≡ 0
