-- One variable of a polynomial ring, and the coefficients of its powers.
use Rattle.std.specs.Prelude.{◌≡◌, ℕ, zero, suc, ◌+◌, ◌<◌}
use Rattle.fj_algebra.specs.Order.{Monomials, MonomialOrder, IsBelow}
use Rattle.fj_algebra.specs.Polynomial.{PolynomialRing, Supported}

-- The power of a monomial.
unfoldable pub monomial_power : {M : Type 0} → Monomials M → M → ℕ → M
monomial_power monomials a zero = monomials.one
monomial_power monomials a (suc n) = monomials.times a (monomial_power monomials a n)

-- A variable among the monomials: the exponent of each monomial at it, and the rest of the monomial without it.
pub record Variable {M : Type 0} (monomials : Monomials M) : Type 0 where
  pub variable : M
  pub exponent : M → ℕ
  pub rest : M → M
  pub exponent_times : (a b : M) → exponent (monomials.times a b) ≡ exponent a + exponent b
  pub exponent_variable : exponent variable ≡ 1
  pub exponent_rest : (a : M) → exponent (rest a) ≡ 0
  pub split : (a : M) → monomials.times (monomial_power monomials variable (exponent a)) (rest a) ≡ a

-- f lacks the variable.
abbrev pub Lacks : {K M A : Type 0} (P : PolynomialRing K M A) → Variable P.monomials → A → Type 0
Lacks P t f = Supported P (λ a. t.exponent a ≡ 0) f

-- g, which lacks the variable t, is the coefficient of t^k in f.
pub record IsPowerCoefficient {K M A : Type 0} (P : PolynomialRing K M A) (t : Variable P.monomials) (k : ℕ) (f g : A) : Type 0 where
  pub lacks : Lacks P t g
  pub is : (a : M) → t.exponent a ≡ 0 → P.coefficient g a ≡ P.coefficient f (P.monomials.times (monomial_power P.monomials t.variable k) a)

-- The variable is greater than every monomial without it: an elimination order for it (Cox, Little, O'Shea 2015, chapter 3, section 1).
pub record Eliminates {M : Type 0} {monomials : Monomials M} (order : MonomialOrder monomials) (t : Variable monomials) : Type 0 where
  pub greater : (a b : M) → t.exponent a < t.exponent b → IsBelow order a b

-- The second order compares the monomials without the variable as the first does.
pub record AgreeWithout {M : Type 0} {monomials : Monomials M} (t : Variable monomials) (first second : MonomialOrder monomials) : Type 0 where
  pub agree : (a b : M) → t.exponent a ≡ 0 → t.exponent b ≡ 0 → IsBelow first a b → IsBelow second a b
