-- Laws of monomial orders and of polynomials, which the law functions prove.
use Rattle.std.specs.Prelude.{◌≡◌, ℕ, ◌+◌, ◌^◌, List, All, Some}
use Rattle.std.specs.FinMap.{empty, from_entries}
use Rattle.fj_coeff.specs.Field as field
use Rattle.fj_coeff.specs.Field.{Field, IsField}
use Rattle.fj_theory.specs.Exponents.{IsExponents, origin, times}
use Rattle.fj_theory.specs.MonomialOrder.{IsMonomialOrder, lex_key, grlex_key, grevlex_key, elim_key}
use Rattle.fj_theory.specs.Polynomial.{IsPolynomial, PolynomialOver, IsTerm, IsFalling, coefficient, term, sum, negation, product, power, degree, terms_falling}
use Rattle.fj_theory.specs.Parts.{Part, IsParts}

-- Lex, Grlex, Grevlex and the elimination order are monomial orders.
pub record OrdersOfKeys : Type 0 where
  pub lex : IsMonomialOrder lex_key
  pub grlex : IsMonomialOrder grlex_key
  pub grevlex : IsMonomialOrder grevlex_key
  pub elimination : IsMonomialOrder elim_key

-- Two polynomials with the same coefficients are equal.
abbrev pub PolynomialsDetermined : Type 0
PolynomialsDetermined =
    (F : Field) (f g : PolynomialOver F) → ((a : List ℕ) → IsExponents a → coefficient f.map a ≡ coefficient g.map a) → f.map ≡ g.map

-- What the operations give of polynomials is a polynomial, and with them the polynomials are a commutative ring.
pub record IsRingOfPolynomials (F : Field) : Type 0 where
  pub sum_closed : (f g : PolynomialOver F) → IsPolynomial F (sum F f.map g.map)
  pub negation_closed : (f : PolynomialOver F) → IsPolynomial F (negation F f.map)
  pub product_closed : (f g : PolynomialOver F) → IsPolynomial F (product F f.map g.map)
  pub sum_assoc : (f g h : PolynomialOver F) → sum F (sum F f.map g.map) h.map ≡ sum F f.map (sum F g.map h.map)
  pub sum_comm : (f g : PolynomialOver F) → sum F f.map g.map ≡ sum F g.map f.map
  pub sum_empty : (f : PolynomialOver F) → sum F f.map empty ≡ f.map
  pub sum_negation : (f : PolynomialOver F) → sum F f.map (negation F f.map) ≡ empty
  pub product_assoc : (f g h : PolynomialOver F) → product F (product F f.map g.map) h.map ≡ product F f.map (product F g.map h.map)
  pub product_comm : (f g : PolynomialOver F) → product F f.map g.map ≡ product F g.map f.map
  pub product_one : (f : PolynomialOver F) → product F f.map (term 1 origin) ≡ f.map
  pub product_sum : (f g h : PolynomialOver F) → product F f.map (sum F g.map h.map) ≡ sum F (product F f.map g.map) (product F f.map h.map)

abbrev pub PolynomialsAreARing : Type 0
PolynomialsAreARing = (F : Field) → IsField F → IsRingOfPolynomials F

-- The degree of a product is the sum of the degrees.
abbrev pub DegreesAdd : Type 0
DegreesAdd =
    (F : Field) → IsField F → (f g : PolynomialOver F) (m n : ℕ) → degree f.map ≡ Some m → degree g.map ≡ Some n → degree (product F f.map g.map) ≡ Some (m + n)

-- A polynomial and its terms, falling in a monomial order, determine each other, and each falling list of terms comes so.
pub record TermsDetermine : Type 0 where
  pub polynomial : (key : List ℕ → List ℕ) → IsMonomialOrder key → (F : Field) (f : PolynomialOver F) → from_entries (terms_falling key f.map) ≡ f.map
  pub terms : (key : List ℕ → List ℕ) → IsMonomialOrder key → (F : Field) (ts : List (List ℕ × ℕ)) → All (IsTerm F) ts → IsFalling key ts → terms_falling key (from_entries ts) ≡ ts

-- In characteristic p the p^e-th power of a sum is the sum of the p^e-th powers.
abbrev pub PowersAdd : Type 0
PowersAdd =
    (F : Field) → IsField F → (e : ℕ) (f g : PolynomialOver F)
    → power F (sum F f.map g.map) (F.characteristic ^ e) ≡ sum F (power F f.map (F.characteristic ^ e)) (power F g.map (F.characteristic ^ e))

-- The coefficient of the p^e-th power at p^e times an exponent list is the p^e-th power of the coefficient.
abbrev pub PowersOfCoefficients : Type 0
PowersOfCoefficients =
    (F : Field) → IsField F → (e : ℕ) (f : PolynomialOver F) (a : List ℕ)
    → coefficient (power F f.map (F.characteristic ^ e)) (times (F.characteristic ^ e) a) ≡ field.power F (coefficient f.map a) (F.characteristic ^ e)

-- Each polynomial has a list of parts at e.
abbrev pub PartsExist : Type 0
PartsExist = (F : Field) → IsField F → (e : ℕ) (h : PolynomialOver F) → (parts : List Part) × IsParts F (F.characteristic ^ e) h.map parts
