-- Plain polynomials: polynomials over GF(p) as lists of terms in any order, apart from every monomial order.
use Rattle.std.specs.Prelude.{◌≢◌, ℕ, ◌<◌, ◌≤◌, ◌^◌, List, All, AllPairs}
use Rattle.std.specs.FinMap.{from_entries, entries}
use Rattle.fj_coeff.specs.PrimeField.{prime_field}
use Rattle.fj_theory.specs.Exponents.{IsExponents, total}
use Rattle.fj_theory.specs.Polynomial.{Polynomial, sum, product}

-- A term is its exponents and its rank. The terms of a plain polynomial have eight exponents with a total of at most
-- 2^41, ranks that aren't zero, and no two the same exponents.
pub record IsPlain (terms : List (List ℕ × ℕ)) : Type 0 where
  pub exponents : All (λ t. IsExponents t.0) terms
  pub bounded : All (λ t. total t.0 ≤ 2 ^ 41) terms
  pub nonzero : All (λ t. 0 < t.1) terms
  pub distinct : AllPairs (λ s t. s.0 ≢ t.0) terms

-- A plain polynomial: its terms, with what makes them one.
pub record PlainPolynomial : Type 0 where
  pub terms : List (List ℕ × ℕ)
  pub plain : IsPlain terms

-- The polynomial with these terms, as a finite map.
abbrev pub polynomial : PlainPolynomial → Polynomial
polynomial f = from_entries f.terms

-- The ranks are those of coefficients in GF(p).
pub record HasRanksBelow (p : ℕ) (f : PlainPolynomial) : Type 0 where
  pub below : All (λ t. t.1 < p) f.terms

-- The terms of a polynomial, by rising exponents in Lex.
abbrev pub rising_terms : Polynomial → List (List ℕ × ℕ)
rising_terms f = entries f

-- The terms of the sum of two plain polynomials over GF(p), by rising exponents in Lex.
abbrev pub plain_sum : ℕ → PlainPolynomial → PlainPolynomial → List (List ℕ × ℕ)
plain_sum p f g = rising_terms (sum (prime_field p) (polynomial f) (polynomial g))

-- The terms of the product of two plain polynomials over GF(p), by rising exponents in Lex.
abbrev pub plain_product : ℕ → PlainPolynomial → PlainPolynomial → List (List ℕ × ℕ)
plain_product p f g = rising_terms (product (prime_field p) (polynomial f) (polynomial g))
