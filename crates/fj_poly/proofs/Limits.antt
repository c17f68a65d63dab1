-- Products and powers of which no term passes the limit of the total degree.
use Rattle.std.proofs.Common.{◌≡◌, ℕ, zero, suc, ◌+◌, ◌*◌, ◌/◌, ◌%◌, ◌^◌, ◌<◌, ◌≤◌, List, Option, Some, None, refl, sym, ap, ◌∙◌, subst, arith, ⊎_elim}
use Rattle.std.specs.Option.{IsSomeAnd}
use Rattle.std.specs.FinMap.{empty}
use Rattle.std.proofs.Math.Nat.{mul-le-mul_right, div-add-mod, mul_comm}
use Rattle.std.proofs.lemmas.Bool.{cases_lt}
use Rattle.fj_coeff.specs.Field.{Field, IsField}
use Rattle.fj_theory.specs.Exponents.{IsExponents, total}
use Rattle.fj_theory.specs.Polynomial.{Polynomial, IsPolynomial, coefficient, degree, product, power, term}
use Rattle.fj_theory.proofs.Exponents.{IsExponents-origin, total_origin}
use Rattle.fj_theory.proofs.Field.{one_below}
use Rattle.fj_theory.proofs.Polynomial.{coefficient-empty, IsPolynomial-empty, IsPolynomial-term}
use Rattle.fj_theory.proofs.PolynomialRing.{IsPolynomial-power, power_zero, power_suc, power_add, power_power, product_comm, product_empty}
use Rattle.fj_theory.proofs.Degree.{degree-empty, degree-term, degree_bounds, degree-product, degree-power, empty_from_degree}
use Rattle.fj_poly.specs.Limit.{IsHigh}

-- A degree within the limit and a polynomial of which no term is high are the same.
pub degree_within : (f : Polynomial) {n : ℕ} → degree f ≡ Some n → (IsHigh f → ⊥) → n ≤ 2 ^ 40
degree_within f {n} d low =
    ⊎_elim (λ above. absurd (low (subst (λ o. IsSomeAnd o (λ k. 2 ^ 40 < k)) (sym d) above))) (λ le. le) (cases_lt (2 ^ 40) n)

pub high_degree : (f : Polynomial) {n : ℕ} → degree f ≡ Some n → IsHigh f → 2 ^ 40 < n
high_degree f {n} d high = subst (λ o. IsSomeAnd o (λ k. 2 ^ 40 < k)) d high

pub IsHigh-degree : (f : Polynomial) {n : ℕ} → degree f ≡ Some n → 2 ^ 40 < n → IsHigh f
IsHigh-degree f {n} d above = subst (λ o. IsSomeAnd o (λ k. 2 ^ 40 < k)) (sym d) above

pub low_degree : (f : Polynomial) {n : ℕ} → degree f ≡ Some n → n ≤ 2 ^ 40 → IsHigh f → ⊥
low_degree f d le high = let above = high_degree f d high in absurd (omega arith)

pub low_empty : {f : Polynomial} → f ≡ empty → IsHigh f → ⊥
low_empty {f} e high = let none : ⊥ = subst (λ o. IsSomeAnd o (λ k. 2 ^ 40 < k)) (ap degree e ∙ degree-empty) high in none

module _ {F : Field} (L : IsField F) where
  product_empty_left : {f g : Polynomial} → IsPolynomial F g → f ≡ empty → product F f g ≡ empty
  product_empty_left {f} {g} Q e = ap (λ h. product F h g) e ∙ product_comm L (IsPolynomial-empty F) Q ∙ product_empty L Q

  product_empty_right : {f g : Polynomial} → IsPolynomial F f → g ≡ empty → product F f g ≡ empty
  product_empty_right {f} P e = ap (product F f) e ∙ product_empty L P

  -- No term of a polynomial that is not high passes the limit.
  pub total_within : {f : Polynomial} → IsPolynomial F f → (IsHigh f → ⊥) → (a : List ℕ) → IsExponents a → 0 < coefficient f a → total a ≤ 2 ^ 40
  total_within {f} P low a A positive = by (degree f) refl
    where
      by : (o : Option ℕ) → degree f ≡ o → total a ≤ 2 ^ 40
      by None d = let none = ap (λ h. coefficient h a) (empty_from_degree L P d) ∙ coefficient-empty a in absurd (omega arith)
      by (Some n) d = omega (arith, degree_bounds L P d a A positive, degree_within f d low)

  -- Of a product that is not high no row is.
  pub low_row : {f g : Polynomial} → IsPolynomial F f → IsPolynomial F g → (IsHigh (product F f g) → ⊥) → (a : List ℕ) (c : ℕ) → IsExponents a → 0 < c → c < F.size
      → coefficient f a ≡ c → IsHigh (product F (term c a) g) → ⊥
  low_row {f} {g} P Q low a c A positive small at = by (degree f) (degree g) refl refl
    where
      T : IsPolynomial F (term c a)
      T = IsPolynomial-term c small A

      by : (o r : Option ℕ) → degree f ≡ o → degree g ≡ r → IsHigh (product F (term c a) g) → ⊥
      by None r d e = let none = sym at ∙ ap (λ h. coefficient h a) (empty_from_degree L P d) ∙ coefficient-empty a in absurd (omega arith)
      by (Some m) None d e = low_empty (product_empty_right T (empty_from_degree L Q e))
      by (Some m) (Some n) d e =
          let whole = degree_within _ (degree-product L P Q d e) low in
          let bound = degree_bounds L P d a A (subst (λ k. 0 < k) (sym at) positive) in
          low_degree _ (degree-product L T Q (degree-term F c positive small A) e) (omega arith)

  -- A polynomial without a degree is zero, and so is each product with it.
  pub low_product_none : {f g : Polynomial} → IsPolynomial F f → IsPolynomial F g → degree f ≡ None → IsHigh (product F f g) → ⊥
  low_product_none P Q d = low_empty (product_empty_left Q (empty_from_degree L P d))

  pub low_product_none_right : {f g : Polynomial} → IsPolynomial F f → IsPolynomial F g → degree g ≡ None → IsHigh (product F f g) → ⊥
  low_product_none_right P Q d = low_empty (product_empty_right P (empty_from_degree L Q d))

  pub low_power_none : {f : Polynomial} → IsPolynomial F f → degree f ≡ None → (k : ℕ) → IsHigh (power F f k) → ⊥
  low_power_none {f} P d zero =
      low_degree _ (ap degree (power_zero L P) ∙ degree-term F 1 (omega arith) (one_below L) IsExponents-origin ∙ ap Some total_origin) (omega arith)
  low_power_none {f} P d (suc k) = low_empty (power_suc L P k ∙ product_empty_left (IsPolynomial-power L P k) (empty_from_degree L P d))

  -- Of a power that is not high no lower power is.
  pub low_power : {f : Polynomial} → IsPolynomial F f → (j k : ℕ) → j ≤ k → (IsHigh (power F f k) → ⊥) → IsHigh (power F f j) → ⊥
  low_power {f} P j k le low = by (degree f) refl
    where
      by : (o : Option ℕ) → degree f ≡ o → IsHigh (power F f j) → ⊥
      by None d = low_power_none P d j
      by (Some n) d =
          let whole = degree_within _ (degree-power L P d k) low in
          let less : j * n ≤ k * n = mul-le-mul_right n le in
          low_degree _ (degree-power L P d j) (omega arith)

-- A number by its quotient and residue.
digits : (k p : ℕ) → 0 < p → k / p * p + k % p ≡ k
digits k p positive = omega (arith, div-add-mod k p, mul_comm (k / p) p)

pub quotient_below : (k p : ℕ) → 2 ≤ p → p ≤ k → k / p < k
quotient_below k p large le =
    let least : 2 * (k / p) ≤ p * (k / p) = mul-le-mul_right (k / p) large in
    let whole = div-add-mod k p in
    omega arith

module _ {F : Field} (L : IsField F) {f : Polynomial} (P : IsPolynomial F f) (k p : ℕ) (positive : 0 < p) where
  -- A power by the digits of its exponent.
  pub power_digits : product F (power F (power F f (k / p)) p) (power F f (k % p)) ≡ power F f k
  power_digits =
      ap (λ h. product F h (power F f (k % p))) (power_power L P (k / p) p) ∙ sym (power_add L P (k / p * p) (k % p)) ∙ ap (power F f) (digits k p positive)

  pub low_digits : (IsHigh (power F f k) → ⊥) → IsHigh (power F (power F f (k / p)) p) → ⊥
  low_digits low = subst (λ h. IsHigh h → ⊥) (sym (power_power L P (k / p) p)) (low_power L P (k / p * p) k (omega (arith, digits k p positive)) low)

  pub low_quotient : (IsHigh (power F f k) → ⊥) → IsHigh (power F f (k / p)) → ⊥
  low_quotient low = low_power L P (k / p) k (let one : 1 * (k / p) ≤ p * (k / p) = mul-le-mul_right (k / p) positive in omega (arith, div-add-mod k p)) low

  pub low_residue : (IsHigh (power F f k) → ⊥) → IsHigh (power F f (k % p)) → ⊥
  low_residue low = low_power L P (k % p) k (omega (arith, digits k p positive)) low
