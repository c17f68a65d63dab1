-- Buchberger's criterion (Cox, Little and O'Shea 2015, chapter 2, section 9).
use Rattle.std.specs.Prelude.{◌≡◌, ℕ, ◌<◌, List, length}
use Rattle.std.specs.declared.cmp.Ordering.TheVariants.{Less}
use Rattle.fj_coeff.specs.Field.{Field}
use Rattle.fj_theory.specs.Exponents.{plus}
use Rattle.fj_theory.specs.MonomialOrder.{compare_by}
use Rattle.fj_theory.specs.Polynomial.{Polynomial, IsPolynomial, coefficient}
use Rattle.fj_theory.specs.Ideal.{combination}
use Rattle.fj_groebner.specs.Division.{Sugared, polynomials_of}
use Rattle.fj_groebner.specs.Run.{lead_of, pair_multiple, s_polynomial}

-- The pair is settled: its S-polynomial has an lcm representation by the list. It is the sum of multiples of the members
-- whose terms, times the member's lead, are all below the least common multiple of the pair's leads.
pub record IsSettled (F : Field) (key : List ℕ → List ℕ) (G : List Sugared) (pair : ℕ × ℕ) : Type 0 where
  pub cofactors : ℕ → Polynomial
  pub polynomials : (k : ℕ) → IsPolynomial F (cofactors k)
  pub is : (s_polynomial F key G pair).polynomial ≡ combination F cofactors (polynomials_of G)
  pub below : (k : ℕ) → k < length G → (a : List ℕ) → 0 < coefficient (cofactors k) a
      → compare_by key (plus a (lead_of key G k)) (pair_multiple key G pair) ≡ Less

-- Each pair of members is settled.
pub record AllSettled (F : Field) (key : List ℕ → List ℕ) (G : List Sugared) : Type 0 where
  pub each : (i j : ℕ) → i < j → j < length G → IsSettled F key G (i, j)
