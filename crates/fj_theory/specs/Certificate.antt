-- Certificates: identities over GF(p) by which an answer can be checked apart from the run that found it.
use Rattle.std.specs.Prelude.{◌≡◌, ℕ, ◌<◌, ◌≤◌, ◌^◌, List, [], ◌∷◌, All, Contains, length, map, zip}
use Rattle.fj_coeff.specs.Field.{Field, primes}
use Rattle.fj_coeff.specs.PrimeField.{prime_field}
use Rattle.fj_theory.specs.Ideal.{list_combination}
use Rattle.fj_theory.specs.Polynomial.{Polynomial, power}
use Rattle.fj_theory.specs.Plain.{PlainPolynomial, polynomial, HasRanksBelow}

-- f is the sum over j of row_j * source_j.
pub record IsRowOf (p : ℕ) (sources : List PlainPolynomial) (f : PlainPolynomial) (row : List PlainPolynomial) : Type 0 where
  pub fitting : length row ≡ length sources
  pub identity : polynomial f ≡ list_combination (prime_field p) (map polynomial row) (map polynomial sources)

-- Each target is the sum over j of row_j * source_j, by its own row of the table.
pub record IsExpressed (p : ℕ) (targets : List PlainPolynomial) (table : List (List PlainPolynomial)) (sources : List PlainPolynomial) : Type 0 where
  pub rows : length table ≡ length targets
  pub identities : All (λ e. IsRowOf p sources e.0 e.1) (zip targets table)

-- All ranks of a list, and of a table.
abbrev pub AllRanksBelow : ℕ → List PlainPolynomial → Type 0
AllRanksBelow p fs = All (HasRanksBelow p) fs

abbrev pub AllRowsBelow : ℕ → List (List PlainPolynomial) → Type 0
AllRowsBelow p rows = All (AllRanksBelow p) rows

-- Two lists generate one ideal over GF(p): each member of one is a combination of the other, by its own row.
pub record IsExpressedBothWays (p : ℕ) (first second : List PlainPolynomial) (to_second to_first : List (List PlainPolynomial)) : Type 0 where
  pub prime : Contains primes p
  pub first_below : AllRanksBelow p first
  pub second_below : AllRanksBelow p second
  pub to_second_below : AllRowsBelow p to_second
  pub to_first_below : AllRowsBelow p to_first
  pub second_by_first : IsExpressed p second to_second first
  pub first_by_second : IsExpressed p first to_first second

-- One term of rank 1 with exponents below q.
pub record IsResidue (q : ℕ) (f : PlainPolynomial) : Type 0 where
  pub exponents : List ℕ
  pub monomial : f.terms ≡ (exponents, 1) ∷ []
  pub below : All (λ k. k < q) exponents

-- f is the sum over i of residue_i * (part_i)^q.
pub record HasParts (p q : ℕ) (f : PlainPolynomial) (residues parts : List PlainPolynomial) : Type 0 where
  pub fitting : length residues ≡ length parts
  pub are_residues : All (IsResidue q) residues
  pub identity : polynomial f ≡ list_combination (prime_field p) (map polynomial residues) (map (λ g. power (prime_field p) (polynomial g) q) parts)

-- Each member of the list is the sum of its parts over p^e-th powers, by its rows of the two tables.
pub record IsRootCertificate (p e : ℕ) (members : List PlainPolynomial) (residues parts : List (List PlainPolynomial)) : Type 0 where
  pub prime : Contains primes p
  pub exponent : e ≤ 12
  pub members_below : AllRanksBelow p members
  pub residues_below : AllRowsBelow p residues
  pub parts_below : AllRowsBelow p parts
  pub residue_rows : length residues ≡ length members
  pub part_rows : length parts ≡ length members
  pub sums : All (λ r. HasParts p (p ^ e) r.0 r.1.0 r.1.1) (zip members (zip residues parts))
