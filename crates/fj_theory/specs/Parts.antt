-- The parts of a polynomial over its q-th powers (Blickle, Mustață and Smith 2008, section 2).
use Rattle.std.specs.Prelude.{◌≡◌, ◌≢◌, ℕ, ◌<◌, if◌then◌else◌, List, [], ◌∷◌, All, map}
use Rattle.std.specs.FinMap.{empty}
use Rattle.std.specs.Ordering.{nat_cmp, eq_by_cmp}
use Rattle.std.specs.Cmp.Lexicographic.{slice_cmp}
use Rattle.fj_coeff.specs.Field.{Field}
use Rattle.fj_theory.specs.Exponents.{IsExponents}
use Rattle.fj_theory.specs.MonomialOrder.{lex_key, IsRising}
use Rattle.fj_theory.specs.Polynomial.{Polynomial, IsPolynomial, sum, product, power, term}
unfoldable pub use Rattle.fj_theory.specs.PartTerms.{iterated_root, part_terms}

-- The part of a polynomial at a residue.
pub record Part : Type 0 where
  pub residue : List ℕ
  pub polynomial : Polynomial

-- The part at a residue in a list of parts, and zero where none is listed.
unfoldable pub part_at : List Part → List ℕ → Polynomial
part_at [] a = empty
part_at (part ∷ parts) a = if eq_by_cmp (slice_cmp nat_cmp) a part.residue then part.polynomial else part_at parts a

-- The sum of h_a^q * x^a over a list of parts h_a at residues a.
unfoldable pub sum_of_parts : Field → ℕ → List Part → Polynomial
sum_of_parts F q [] = empty
sum_of_parts F q (part ∷ parts) =
    sum F (product F (power F part.polynomial q) (term 1 part.residue)) (sum_of_parts F q parts)

-- The parts of h over q-th powers: the family of polynomials h_a, a over the exponent lists with entries below q, with
-- h = sum over a of h_a^q * x^a. Zero polynomials are left out, and the residues a rise in Lex.
pub record IsParts (F : Field) (q : ℕ) (h : Polynomial) (parts : List Part) : Type 0 where
  pub whole : h ≡ sum_of_parts F q parts
  pub residues : All (λ part. IsExponents part.residue) parts
  pub below : All (λ part. All (λ k. k < q) part.residue) parts
  pub rising : IsRising lex_key (map (λ part. part.residue) parts)
  pub polynomials : All (λ part. IsPolynomial F part.polynomial) parts
  pub nonzero : All (λ part. part.polynomial ≢ empty) parts
