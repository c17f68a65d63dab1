-- Frobenius roots of ideals of polynomials.
use Rattle.std.specs.Prelude.{ℕ, List}
use Rattle.fj_coeff.specs.Field.{Field}
use Rattle.fj_theory.specs.Polynomial.{Polynomial}
use Rattle.fj_theory.specs.Ideal.{ArePolynomials, Inside}
use Rattle.fj_theory.specs.FrobeniusPower.{frobenius_power}

-- M is the root of L at q, for a power q of the characteristic: (M) is the smallest ideal whose Frobenius power has L
-- inside (Blickle, Mustață and Smith 2008, definition 2.2).
pub record IsRoot (F : Field) (q : ℕ) (L M : List Polynomial) : Type 0 where
  pub polynomials : ArePolynomials F M
  pub inside : Inside F L (frobenius_power F q M)
  pub least : (N : List Polynomial) → ArePolynomials F N → Inside F L (frobenius_power F q N) → Inside F M N
