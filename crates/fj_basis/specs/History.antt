-- How polynomials are made in a calculation, one after the other: each is a constant times a polynomial of the given list, or
-- times a sum of multiples of those made before.
use Rattle.std.specs.Prelude.{◌≡◌, ℕ, suc, ◌+◌, ◌<◌, ◌≤◌, true, List, [], ◌∷◌, ◌++◌, length, take, slice_index_or, All}
use Rattle.std.specs.FinMap.{empty}
use Rattle.fj_coeff.specs.Field.{Field}
use Rattle.fj_theory.specs.Exponents.{total, minus}
use Rattle.fj_theory.specs.Polynomial.{Polynomial, IsPolynomial, coefficient, negation, product, sum, term}
use Rattle.fj_groebner.specs.Division.{DegreeAtMost, Sugared, degree_limit, member_at}
use Rattle.fj_groebner.specs.Run.{lead_of, pair_multiple}
use Rattle.fj_basis.specs.declared.history.Summand.{Summand}
use Rattle.fj_basis.specs.declared.history.Source.{Source}
use Rattle.fj_basis.specs.declared.history.Source.TheVariants.{Given, Combined}
use Rattle.fj_basis.specs.declared.history.Making.{Making}
use Rattle.fj_basis.specs.declared.history.History.{History}

-- The polynomial at a place.
abbrev pub polynomial_at : List Sugared → ℕ → Polynomial
polynomial_at G k = (member_at G k).polynomial

-- The multiples of the polynomials at some places, added in turn to the first one.
unfoldable pub combined : {K O : Type 0} → Field → (ℕ → Polynomial) → Polynomial → List (Summand K O) → Polynomial
combined F at first [] = first
combined F at first (s ∷ rest) = combined F at (sum F first (product F s.factor (at s.place))) rest

-- The same of the polynomials from a place on with the negatives of these quotients.
unfoldable pub subtracted : Field → (ℕ → Polynomial) → Polynomial → ℕ → List Polynomial → Polynomial
subtracted F at first from [] = first
subtracted F at first from (q ∷ rest) = subtracted F at (sum F first (product F (negation F q) (at from))) (suc from) rest

-- A multiple of a polynomial made before, with terms whose totals are, with the sugar of that polynomial, at most the bound.
pub record IsSummand {K O : Type 0} (F : Field) (G : List Sugared) (bound : ℕ) (s : Summand K O) : Type 0 where
  pub place : s.place < length G
  pub factor : IsPolynomial F s.factor
  pub within : (a : List ℕ) → 0 < coefficient s.factor a → total a + (member_at G s.place).sugar ≤ bound

-- What the source stands for, where the polynomials of G were made before from the list L.
abbrev pub IsSourceOf : {K O : Type 0} → Field → List Polynomial → List Sugared → ℕ → Polynomial → Source K O → Type 0
IsSourceOf F L G bound f (Given j) = (j < length L) × (f ≡ slice_index_or L j empty)
IsSourceOf F L G bound f (Combined summands) = All (IsSummand F G bound) summands.items × (f ≡ combined F (polynomial_at G) empty summands.items)

-- So g is made, where the polynomials of G were made before from the list L.
pub record IsMaking {K O : Type 0} (F : Field) (L : List Polynomial) (G : List Sugared) (g : Sugared) (making : Making K O) : Type 0 where
  pub made_of : Polynomial
  pub source : IsSourceOf F L G g.sugar made_of making.source
  pub constant : IsPolynomial F making.constant
  pub degree : DegreeAtMost 0 making.constant
  pub is : g.polynomial ≡ product F making.constant made_of
  pub low : g.sugar ≤ degree_limit

-- So the polynomials of G are made from the list L, in order.
pub record AreMade {K O : Type 0} (F : Field) (L : List Polynomial) (G : List Sugared) (makings : List (Making K O)) : Type 0 where
  pub long : length makings ≡ length G
  pub each : (k : ℕ) (d : Making K O) → k < length makings → IsMaking F L (take k G) (member_at G k) (slice_index_or makings k d)

-- The history says so, where one is kept.
pub record IsHistoryOf {K O : Type 0} (F : Field) (L : List Polynomial) (G : List Sugared) (h : History K O) : Type 0 where
  pub made : h.is_kept ≡ true → AreMade F L G h.makings.items

-- One making comes to be recorded, where a history is kept.
pub record HasRecorded {K O : Type 0} (constant : Polynomial) (source : Source K O) (before after : History K O) : Type 0 where
  pub kept : after.is_kept ≡ before.is_kept
  pub recorded : before.is_kept ≡ true → after.makings.items ≡ before.makings.items ++ record { constant = constant; source = source } ∷ []

-- How g is made comes to be recorded, where a history is kept.
pub record HasRecordedMember {K O : Type 0} (F : Field) (G : List Sugared) (g : Sugared) (before after : History K O) : Type 0 where
  pub kept : after.is_kept ≡ before.is_kept
  pub making : before.is_kept ≡ true → (x : Making K O) × (after.makings.items ≡ before.makings.items ++ x ∷ []) × ((L : List Polynomial) → IsMaking F L G g x)

-- The multiples of the members of a pair whose sum is its S-polynomial.
pub record ArePairSummands {K O : Type 0} (F : Field) (key : List ℕ → List ℕ) (G : List Sugared) (pair : ℕ × ℕ) (summands : List (Summand K O)) : Type 0 where
  pub first : Summand K O
  pub second : Summand K O
  pub are : summands ≡ first ∷ second ∷ []
  pub first_place : first.place ≡ pair.0
  pub first_factor : first.factor ≡ term 1 (minus (pair_multiple key G pair) (lead_of key G pair.0))
  pub second_place : second.place ≡ pair.1
  pub second_factor : second.factor ≡ term (F.neg 1) (minus (pair_multiple key G pair) (lead_of key G pair.1))

-- Some multiples, and those of the polynomials from a place on by the negatives of the quotients.
pub record IsWithNegatives {K O : Type 0} (F : Field) (first : List (Summand K O)) (from : ℕ) (quotients : List Polynomial) (all : List (Summand K O)) : Type 0 where
  pub sum_is : (at : ℕ → Polynomial) (start : Polynomial) → ((k : ℕ) → IsPolynomial F (at k)) → IsPolynomial F (combined F at start first)
      → combined F at start all ≡ subtracted F at (combined F at start first) from quotients
  pub each : (G : List Sugared) (bound : ℕ) → All (IsSummand F G bound) first
      → ((s : Summand K O) (k : ℕ) → k < length quotients → s.place ≡ from + k → s.factor ≡ negation F (slice_index_or quotients k empty) → IsSummand F G bound s) → All (IsSummand F G bound) all
