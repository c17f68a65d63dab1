-- Polynomials in eight variables over a field on ranks, as finite maps from exponent lists to nonzero coefficients.
use Rattle.std.specs.Prelude.{slice_get, ◌≡◌, ℕ, zero, suc, ◌<◌, ◌==◌, if◌then◌else◌, List, [], ◌∷◌, ◌++◌, map, unwrap_or, Option, Some, max}
use Rattle.std.specs.Ordering.{nat_cmp, is_gt}
use Rattle.std.specs.declared.cmp.Ordering.TheVariants.{Greater}
use Rattle.std.specs.List.{flat_map, reduce}
use Rattle.std.specs.Cmp.Lexicographic.{slice_cmp}
use Rattle.std.specs.FinMap.{FinMap, get, insert, empty, keys, entries}
use Rattle.fj_coeff.specs.Field.{Field}
use Rattle.fj_theory.specs.Exponents.{IsExponents, origin, plus, minus, divides, total}
use Rattle.fj_theory.specs.MonomialOrder.{compare_by}

-- A finite map from exponent lists to coefficients.
abbrev pub Polynomial : Type 0
Polynomial = FinMap (slice_cmp nat_cmp) ℕ

-- The map is a polynomial over the field: eight exponents in each list, and nonzero coefficients of the field.
pub record IsPolynomial (F : Field) (f : Polynomial) : Type 0 where
  pub exponents : (a : List ℕ) (c : ℕ) → get f a ≡ Some c → IsExponents a
  pub nonzero : (a : List ℕ) (c : ℕ) → get f a ≡ Some c → 0 < c
  pub below : (a : List ℕ) (c : ℕ) → get f a ≡ Some c → c < F.size

-- A polynomial over the field: the map with what makes it a polynomial.
pub record PolynomialOver (F : Field) : Type 0 where
  pub map : Polynomial
  pub is_polynomial : IsPolynomial F map

-- A term of a polynomial: eight exponents, and a coefficient of the field that is not zero.
pub record IsTerm (F : Field) (t : List ℕ × ℕ) : Type 0 where
  pub exponents : IsExponents t.0
  pub nonzero : 0 < t.1
  pub below : t.1 < F.size

-- The coefficient at an exponent list, 0 where the polynomial has no such term.
unfoldable pub coefficient : Polynomial → List ℕ → ℕ
coefficient f a = unwrap_or (get f a) 0

-- The exponent lists of the terms.
abbrev pub support : Polynomial → List (List ℕ)
support f = keys f

-- The polynomial with this coefficient at each exponent list of a list, and no other term.
unfoldable pub with_coefficients : (List ℕ → ℕ) → List (List ℕ) → Polynomial
with_coefficients c [] = empty
with_coefficients c (a ∷ more) = if c a == 0 then with_coefficients c more else insert (with_coefficients c more) a (c a)

-- A coefficient times a monomial.
unfoldable pub term : ℕ → List ℕ → Polynomial
term c a = with_coefficients (λ _. c) (a ∷ [])

-- The sum, by coefficients.
unfoldable pub sum : Field → Polynomial → Polynomial → Polynomial
sum F f g = with_coefficients (λ a. F.add (coefficient f a) (coefficient g a)) (support f ++ support g)

-- The polynomial with the opposite coefficients.
unfoldable pub negation : Field → Polynomial → Polynomial
negation F f = with_coefficients (λ a. F.neg (coefficient f a)) (support f)

-- The difference f - g.
unfoldable pub difference : Field → Polynomial → Polynomial → Polynomial
difference F f g = sum F f (negation F g)

-- The sum in the field of the values of a function at the members of a list.
unfoldable pub total_over : Field → (List ℕ → ℕ) → List (List ℕ) → ℕ
total_over F c [] = 0
total_over F c (a ∷ more) = F.add (c a) (total_over F c more)

-- The coefficient of the product at a: the sum over all b + c = a of the products of the coefficients at b and c.
unfoldable pub convolution : Field → Polynomial → Polynomial → List ℕ → ℕ
convolution F f g a =
    total_over F (λ b. if divides b a then F.mul (coefficient f b) (coefficient g (minus a b)) else 0) (support f)

-- The product, by convolution.
unfoldable pub product : Field → Polynomial → Polynomial → Polynomial
product F f g = with_coefficients (convolution F f g) (flat_map (λ b. map (plus b) (support g)) (support f))

-- The k-th power, by repeated product.
unfoldable pub power : Field → Polynomial → ℕ → Polynomial
power F f zero = term 1 origin
power F f (suc k) = product F f (power F f k)

-- A term is put in its place in a falling list of terms.
unfoldable pub place : (List ℕ → List ℕ) → List ℕ × ℕ → List (List ℕ × ℕ) → List (List ℕ × ℕ)
place key t [] = t ∷ []
place key t (u ∷ more) = if is_gt (compare_by key t.0 u.0) then t ∷ u ∷ more else u ∷ place key t more

-- The terms of a list, falling in the order of the key.
unfoldable pub sort_falling : (List ℕ → List ℕ) → List (List ℕ × ℕ) → List (List ℕ × ℕ)
sort_falling key [] = []
sort_falling key (t ∷ ts) = place key t (sort_falling key ts)

-- The terms of a polynomial, falling in the order of the key.
unfoldable pub terms_falling : (List ℕ → List ℕ) → Polynomial → List (List ℕ × ℕ)
terms_falling key f = sort_falling key (entries f)

-- Each term's exponent list is greater than the next one's.
abbrev pub IsFalling : (List ℕ → List ℕ) → List (List ℕ × ℕ) → Type 0
IsFalling key [] = Unit {0}
IsFalling key (t ∷ []) = Unit {0}
IsFalling key (t ∷ u ∷ more) = (compare_by key t.0 u.0 ≡ Greater) × IsFalling key (u ∷ more)

-- The degree: the greatest total of a term, and none for the zero polynomial.
unfoldable pub degree : Polynomial → Option ℕ
degree f = reduce max (map total (support f))

-- The lead in the order of the key: the exponents and the coefficient of the greatest term, and none for the zero
-- polynomial.
unfoldable pub lead : (List ℕ → List ℕ) → Polynomial → Option (List ℕ × ℕ)
lead key f = slice_get (terms_falling key f) 0
