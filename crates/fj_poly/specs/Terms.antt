-- The terms of a polynomial as a list that falls in a monomial order.
use Rattle.std.specs.Prelude.{◌≡◌, ℕ, ◌<◌, List, [], ◌∷◌, length, map}
use Rattle.fj_coeff.specs.Field.{Field}
use Rattle.fj_poly.specs.declared.poly.Term.{Term}

-- Each term has eight exponents and a nonzero coefficient of the field.
abbrev pub AreTerms : Field → List (List ℕ × ℕ) → Type 0
AreTerms F [] = Unit {0}
AreTerms F (t ∷ more) = ((length t.0 ≡ 8) × (0 < t.1) × (t.1 < F.size)) × AreTerms F more

-- The exponents and the rank of a term.
abbrev pub entry : {K : Type 0} → (K → ℕ) → Term K → List ℕ × ℕ
entry rank t = (t.monomial.exponents, rank t.coefficient)

-- The exponents and the ranks of the terms of a list.
abbrev pub entries : {K : Type 0} → (K → ℕ) → List (Term K) → List (List ℕ × ℕ)
entries rank ts = map (entry rank) ts
