-- Polynomials over a field by their coefficients, and their leads.
use Rattle.std.specs.Prelude.{◌≡◌, ◌≢◌, List, Contains}
use Rattle.fj_algebra.specs.Ring.{CommutativeRing}
use Rattle.fj_algebra.specs.Order.{Monomials, Divides, MonomialOrder, IsBelow}

-- A field in which it is decided whether an element is zero.
pub record Field (K : Type 0) : Type 0 where
  pub ring : CommutativeRing K
  pub inverse : K → K
  pub mul_inverse : (c : K) → c ≢ ring.zero → ring.mul c (inverse c) ≡ ring.one
  pub one_is_not_zero : ring.one ≢ ring.zero
  pub is_zero : (c : K) → Dec (c ≡ ring.zero)

-- A ring A of polynomials: known by their coefficients in the field K at the monomials M, only finitely many of them not
-- zero. A term is a coefficient times a monomial, and its multiples are known by their coefficients.
pub record PolynomialRing (K M A : Type 0) : Type 0 where
  pub field : Field K
  pub monomials : Monomials M
  pub ring : CommutativeRing A
  pub coefficient : A → M → K
  pub term : K → M → A
  pub support : A → List M
  pub equal : (f g : A) → ((a : M) → coefficient f a ≡ coefficient g a) → f ≡ g
  pub support_covers : (f : A) (a : M) → coefficient f a ≢ field.ring.zero → Contains (support f) a
  pub coefficient_add : (f g : A) (a : M) → coefficient (ring.add f g) a ≡ field.ring.add (coefficient f a) (coefficient g a)
  pub coefficient_same : (c : K) (a : M) → coefficient (term c a) a ≡ c
  pub coefficient_other : (c : K) (a b : M) → a ≢ b → coefficient (term c a) b ≡ field.ring.zero
  pub coefficient_multiple : (c : K) (a : M) (f : A) (b : M) → coefficient (ring.mul (term c a) f) (monomials.times a b) ≡ field.ring.mul c (coefficient f b)
  pub coefficient_no_multiple : (c : K) (a : M) (f : A) (b : M) → (Divides monomials a b → ⊥) → coefficient (ring.mul (term c a) f) b ≡ field.ring.zero

-- Polynomials with an order of the monomials.
pub record OrderedPolynomials (K M A : Type 0) : Type 0 where
  pub polynomials : PolynomialRing K M A
  pub open polynomials use *
  pub order : MonomialOrder polynomials.monomials

-- a is the lead of f: the greatest monomial at which f has a coefficient that is not zero.
pub record IsLead {K M A : Type 0} (P : OrderedPolynomials K M A) (f : A) (a : M) : Type 0 where
  pub nonzero : P.coefficient f a ≢ P.field.ring.zero
  pub top : (b : M) → IsBelow P.order a b → P.coefficient f b ≡ P.field.ring.zero

-- f is monic with lead a.
pub record IsMonic {K M A : Type 0} (P : OrderedPolynomials K M A) (f : A) (a : M) : Type 0 where
  pub monic : P.coefficient f a ≡ P.field.ring.one
  pub top : (b : M) → IsBelow P.order a b → P.coefficient f b ≡ P.field.ring.zero

-- Each monomial at which f has a coefficient that is not zero satisfies B.
pub record Supported {K M A : Type 0} (P : PolynomialRing K M A) (B : M → Type 0) (f : A) : Type 0 where
  pub within : (a : M) → P.coefficient f a ≢ P.field.ring.zero → B a

-- f divided by its coefficient at a.
abbrev pub made_monic : {K M A : Type 0} → OrderedPolynomials K M A → A → M → A
made_monic P f a = P.ring.mul (P.term (P.field.inverse (P.coefficient f a)) P.monomials.one) f
