-- The state of a division as the value of a model.
use Rattle.std.specs.Prelude.{◌≡◌, ℕ, List}
use Rattle.std.specs.Coded.{Coded, coded_list, coded×, coded_ℕ}
use Rattle.std.specs.FinMap.{code}
use base.Stored.{coded_via}
use Rattle.fj_theory.specs.Polynomial.{Polynomial}
use Rattle.fj_groebner.specs.Division.{Division}

abbrev polynomial_code : Coded Polynomial
polynomial_code = code (coded_list coded_ℕ) coded_ℕ

-- The parts of the state.
abbrev parts : Division → Polynomial × (List Polynomial × (Polynomial × ℕ))
parts d = (d.dividend, (d.quotients, (d.remainder, d.sugar)))

-- A state is determined by its parts.
pub same_division : (d e : Division) → parts d ≡ parts e → d ≡ e
same_division d e h = λ i. record { dividend = (h i).0; quotients = (h i).1.0; remainder = (h i).1.1.0; sugar = (h i).1.1.1 }

-- It is stored as its parts.
abbrev pub division_code : Coded Division
division_code = coded_via (coded× polynomial_code (coded× (coded_list polynomial_code) (coded× polynomial_code coded_ℕ))) parts same_division
