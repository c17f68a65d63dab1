-- The printed texts of polynomials, lists of polynomials and fractions, as bytes.
use Rattle.std.specs.Prelude.{ℕ, ◌==◌, if◌then◌else◌, List, [], ◌∷◌, ◌++◌, map, codes, decimal}
use Rattle.std.specs.List.{flat_map}
use Rattle.fj_theory.specs.Fraction.{Fraction}
use Rattle.fj_theory.specs.Plain.{PlainPolynomial}

-- The pieces, with a text between each two.
abbrev pub joined : List ℕ → List (List ℕ) → List ℕ
joined between [] = []
joined between (piece ∷ pieces) = piece ++ flat_map (λ p. between ++ p) pieces

-- The pieces, or `0` where there is none.
abbrev pub or_zero : List (List ℕ) → List (List ℕ)
or_zero [] = codes "0" ∷ []
or_zero (piece ∷ pieces) = piece ∷ pieces

-- A variable with its exponent, which is left out where it is 1.
abbrev pub power_bytes : List ℕ → ℕ → List ℕ
power_bytes name exponent = if exponent == 1 then name else name ++ codes "^" ++ decimal exponent

-- The powers of the variables whose exponents aren't 0, in the order of the names.
abbrev pub powers_bytes : List (List ℕ) → List ℕ → List (List ℕ)
powers_bytes [] exponents = []
powers_bytes (name ∷ names) [] = []
powers_bytes (name ∷ names) (exponent ∷ exponents) =
    if exponent == 0 then powers_bytes names exponents else power_bytes name exponent ∷ powers_bytes names exponents

-- The coefficient before the powers. The coefficient 1 is left out, except where there is no power.
abbrev pub factors : ℕ → List (List ℕ) → List (List ℕ)
factors rank [] = decimal rank ∷ []
factors rank (power ∷ powers) = if rank == 1 then power ∷ powers else decimal rank ∷ power ∷ powers

-- A term of these exponents and this rank: its coefficient and its powers, joined by `*`.
abbrev pub term_bytes : List (List ℕ) → List ℕ × ℕ → List ℕ
term_bytes names t = joined (codes "*") (factors t.1 (powers_bytes names t.0))

-- A polynomial: its terms in their order, joined by `+`. Zero is `0`.
unfoldable pub polynomial_bytes : List (List ℕ) → PlainPolynomial → List ℕ
polynomial_bytes names f = joined (codes "+") (or_zero (map (term_bytes names) f.terms))

-- A list: its members in their order, parted by a comma and a blank, in parentheses. The list without a member is `(0)`.
unfoldable pub list_bytes : List (List ℕ) → List PlainPolynomial → List ℕ
list_bytes names l = codes "(" ++ joined (codes ", ") (or_zero (map (polynomial_bytes names) l)) ++ codes ")"

-- A fraction: numerator and denominator parted by `/`, or the numerator alone where the denominator is 1.
abbrev pub ratio_bytes : Fraction → List ℕ
ratio_bytes t = if t.denominator == 1 then decimal t.numerator else decimal t.numerator ++ codes "/" ++ decimal t.denominator
