-- Polynomials that differ by one of an ideal (Cox, Little and O'Shea 2015, chapter 5, section 2).
use Rattle.std.specs.Prelude.{◌≡◌, List}
use Rattle.fj_coeff.specs.Field.{Field}
use Rattle.fj_theory.specs.Polynomial.{Polynomial, sum}
use Rattle.fj_theory.specs.Ideal.{Member}

-- h and r are congruent modulo the ideal (L): h is the sum of a polynomial of (L) and r.
pub record AreCongruent (F : Field) (L : List Polynomial) (h r : Polynomial) : Type 0 where
  pub between : Polynomial
  pub member : Member F L between
  pub is : h ≡ sum F between r
