-- The polynomials of which test ideals are calculated.
use Rattle.std.specs.Prelude.{◌≡◌, ℕ, ◌<◌, ◌≤◌, Some}
use Rattle.fj_theory.specs.PointIdeal.{UsesFirst}
use Rattle.fj_theory.specs.Polynomial.{Polynomial, degree}

-- f isn't constant, has a degree of at most 1,000, and doesn't use the eighth variable.
pub record IsAdmissible (f : Polynomial) : Type 0 where
  pub total : ℕ
  pub has_degree : degree f ≡ Some total
  pub nonconstant : 0 < total
  pub bounded : total ≤ 1000
  pub seven : UsesFirst 7 f
