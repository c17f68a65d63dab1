-- Frobenius powers of ideals of polynomials.
use Rattle.std.specs.Prelude.{ℕ, List, map}
use Rattle.fj_coeff.specs.Field.{Field}
use Rattle.fj_theory.specs.Polynomial.{Polynomial, power}

-- The Frobenius power L^[q], for a power q of the characteristic: the list of the q-th powers of the polynomials of L
-- (Hochster and Huneke 1990).
abbrev pub frobenius_power : Field → ℕ → List Polynomial → List Polynomial
frobenius_power F q L = map (λ g. power F g q) L
