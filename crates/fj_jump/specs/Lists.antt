-- The lists that a search runs, and the products that it forms: those of both limits at each candidate, over a field F.
use Rattle.std.specs.Prelude.{ℕ, List}
use Rattle.fj_coeff.specs.Field.{Field}
use Rattle.fj_theory.specs.Candidates.{IsCandidate}
use Rattle.fj_theory.specs.Fraction.{Fraction}
use Rattle.fj_theory.specs.Polynomial.{Polynomial}
use Rattle.fj_chain.specs.Lists.{IsHighInJump, IsJumpList}

-- L is one of the test lists or the left lists of f at one of these exponents.
pub record IsListAtOne (F : Field) (f : Polynomial) (IsExponent : Fraction → Type 0) (L : List Polynomial) : Type 0 where
  pub at : Fraction
  pub exponent : IsExponent at
  pub list : IsJumpList F f at L

-- L is f with a polynomial, of a product for such a list that has a term of a total degree above 2^40.
pub record IsHighAtOne (F : Field) (f : Polynomial) (IsExponent : Fraction → Type 0) (L : List Polynomial) : Type 0 where
  pub at : Fraction
  pub exponent : IsExponent at
  pub high : IsHighInJump F f at L

-- The lists of a search for E: the test lists and the left lists of f at each member of C_E.
abbrev pub IsSearchList : Field → Polynomial → ℕ → List Polynomial → Type 0
IsSearchList F f E = IsListAtOne F f (IsCandidate F.characteristic E)

abbrev pub IsHighInSearch : Field → Polynomial → ℕ → List Polynomial → Type 0
IsHighInSearch F f E = IsHighAtOne F f (IsCandidate F.characteristic E)
