-- The lead of a polynomial in the order of a key: its greatest term.
use Rattle.std.specs.Prelude.{ℕ, List, unwrap_or}
use Rattle.fj_coeff.specs.Field.{Field}
use Rattle.fj_theory.specs.Exponents.{origin}
use Rattle.fj_theory.specs.Polynomial.{Polynomial, lead, term, product}

-- The exponents of the lead, those of 1 for the zero polynomial.
unfoldable pub lead_exponents : (List ℕ → List ℕ) → Polynomial → List ℕ
lead_exponents key f = (unwrap_or (lead key f) (origin, 0)).0

-- The leading coefficient, 0 for the zero polynomial.
unfoldable pub lead_coefficient : (List ℕ → List ℕ) → Polynomial → ℕ
lead_coefficient key f = (unwrap_or (lead key f) (origin, 0)).1

-- The polynomial divided by its leading coefficient.
unfoldable pub made_monic : Field → (List ℕ → List ℕ) → Polynomial → Polynomial
made_monic F key f = product F (term (F.inverse (lead_coefficient key f)) origin) f
