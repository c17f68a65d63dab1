-- Polynomials by residue, as the parts of a polynomial are gathered.
use Rattle.std.specs.Prelude.{◌≡◌, ◌≢◌, ℕ, List, [], map, Option, None, Some}
use Rattle.std.specs.BTreeMap.{BTreeMap, get}
use Rattle.std.specs.Ordering.{nat_cmp}
use Rattle.std.specs.Cmp.Lexicographic.{slice_cmp}
use Rattle.std.specs.declared.cmp.Ordering.{Ordering}
use Rattle.fj_coeff.specs.Field.{Field}
use Rattle.fj_theory.specs.Polynomial.{Polynomial, IsPolynomial, terms_falling}
use Rattle.fj_theory.specs.Parts as theory
use Rattle.fj_mono.specs.Monomial.{Monomial}

-- The lexicographic order of monomials.
abbrev pub lex : Monomial → Monomial → Ordering
lex a b = slice_cmp nat_cmp a.exponents b.exponents

-- The terms of a polynomial that may be missing, falling in the order of the key.
abbrev pub optional_terms : (List ℕ → List ℕ) → Option Polynomial → List (List ℕ × ℕ)
optional_terms key None = []
optional_terms key (Some p) = terms_falling key p

-- The terms of the polynomial at a residue.
abbrev pub terms_at : (List ℕ → List ℕ) → BTreeMap Monomial Polynomial → Monomial → List (List ℕ × ℕ)
terms_at key groups a = optional_terms key (get lex groups a)

-- What is gathered at a residue: a polynomial with these terms, or nothing where there are none.
abbrev pub IsGroup : Field → (List ℕ → List ℕ) → Option Polynomial → List (List ℕ × ℕ) → Type 0
IsGroup F key None ts = ts ≡ []
IsGroup F key (Some p) ts = IsPolynomial F p × (terms_falling key p ≡ ts) × (ts ≢ [])

-- The entries of the map as parts.
abbrev pub gathered_parts : BTreeMap Monomial Polynomial → List theory.Part
gathered_parts groups = map (λ group. record { residue = group.0.exponents; polynomial = group.1 }) groups.entries
