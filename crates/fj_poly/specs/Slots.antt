-- Polynomials as sums of polynomials in slots (Yan 1998, "The geobucket data structure for polynomials"), and their leading
-- terms.
use Rattle.std.specs.Prelude.{◌≡◌, ◌≢◌, ℕ, ◌+◌, ◌<◌, List, [], ◌∷◌, MatchOption, Option, slice_index_or}
use Rattle.std.specs.FinMap.{empty, len}
use Rattle.std.specs.declared.cmp.Ordering.TheVariants.{Less, Greater}
use Rattle.fj_coeff.specs.Field.{Field}
use Rattle.fj_theory.specs.Exponents.{IsExponents}
use Rattle.fj_theory.specs.Lead.{lead_coefficient, lead_exponents}
use Rattle.fj_theory.specs.MonomialOrder.{compare_by}
use Rattle.fj_theory.specs.Polynomial.{Polynomial, coefficient, difference, sum, term}

-- The sum of the polynomials of a list.
unfoldable pub sum_all : Field → List Polynomial → Polynomial
sum_all F [] = empty
sum_all F (f ∷ fs) = sum F f (sum_all F fs)

-- The number of terms of the polynomials of a list.
unfoldable pub count_terms : List Polynomial → ℕ
count_terms [] = 0
count_terms (f ∷ fs) = len f + count_terms fs

-- The polynomial without its leading term.
unfoldable pub without_lead : Field → (List ℕ → List ℕ) → Polynomial → Polynomial
without_lead F key f = difference F f (term (lead_coefficient key f) (lead_exponents key f))

-- No term of the polynomial is above the monomial.
pub record IsUpTo (key : List ℕ → List ℕ) (m : List ℕ) (f : Polynomial) : Type 0 where
  pub none : (u : List ℕ) → IsExponents u → compare_by key m u ≡ Less → coefficient f u ≡ 0

-- Each term of the polynomial is below the monomial.
pub record IsBelow (key : List ℕ → List ℕ) (m : List ℕ) (f : Polynomial) : Type 0 where
  pub none : (u : List ℕ) → IsExponents u → compare_by key m u ≢ Greater → coefficient f u ≡ 0

-- The first n polynomials of the list are zero.
pub record AreZero (fs : List Polynomial) (n : ℕ) : Type 0 where
  pub zero_at : (j : ℕ) → j < n → slice_index_or fs j empty ≡ empty

-- The polynomial at the place k has the greatest lead among the first n of the list.
pub record IsGreatest (key : List ℕ → List ℕ) (fs : List Polynomial) (n k : ℕ) : Type 0 where
  pub place : k < n
  pub nonzero : slice_index_or fs k empty ≢ empty
  pub up_to : (j : ℕ) → j < n → IsUpTo key (lead_exponents key (slice_index_or fs k empty)) (slice_index_or fs j empty)

-- The place of the greatest lead among the first n polynomials of the list, none where all are zero.
abbrev pub IsGreatestPlace : (List ℕ → List ℕ) → List Polynomial → ℕ → Option ℕ → Type 0
IsGreatestPlace key fs n o = MatchOption o (AreZero fs n) (IsGreatest key fs n)
