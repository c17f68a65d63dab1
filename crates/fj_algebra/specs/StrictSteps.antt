-- Chains of ideals that are generated in bounded degree.
use Rattle.std.specs.Prelude.{◌≡◌, ℕ, zero, suc, ◌+◌, ◌<◌, ◌≤◌, List, [], ◌∷◌, ◌++◌, map, replicate, All, Contains}
use Rattle.fj_algebra.specs.Ideal.{Inside}
use Rattle.fj_algebra.specs.Order.{Monomials, MonomialOrder, IsBelow}
use Rattle.fj_algebra.specs.Polynomial.{PolynomialRing, OrderedPolynomials, Supported}
use Rattle.fj_algebra.specs.Buchberger.{CoversLeads}

-- The monomials of V are a face: products and divisors of them are in it, as with the monomials in some of the variables.
pub record IsFace {M : Type 0} (monomials : Monomials M) (V : M → Type 0) : Type 0 where
  pub decided : (a : M) → Dec (V a)
  pub product : (a b : M) → V a → V b → V (monomials.times a b)
  pub factor : (a b : M) → V (monomials.times a b) → V a

-- g is the part of f in V: the sum of its terms with monomials in V.
pub record IsRestriction {K M A : Type 0} (P : PolynomialRing K M A) (V : M → Type 0) (f g : A) : Type 0 where
  pub within : Supported P V g
  pub is : (a : M) → V a → P.coefficient g a ≡ P.coefficient f a

-- The order compares degrees first.
pub record IsDegreeOrder {M : Type 0} {monomials : Monomials M} (order : MonomialOrder monomials) (degree : M → ℕ) : Type 0 where
  pub lower : (a b : M) → degree a < degree b → IsBelow order a b

-- The monomial is in V and has degree at most D.
pub record IsBounded {M : Type 0} (V : M → Type 0) (degree : M → ℕ) (D : ℕ) (a : M) : Type 0 where
  pub inside : V a
  pub small : degree a ≤ D

-- The list generates in bounded degree, and the leads of the basis, members of its ideal, divide the leads of all members.
pub record IsBoundedIdeal {K M A : Type 0} (P : OrderedPolynomials K M A) (B : M → Type 0) (L G : List A) : Type 0 where
  pub bounded : All (Supported P.polynomials B) L
  pub inside : Inside P.ring G L
  pub covers : CoversLeads P L (Contains G)

-- A first entry 0.
abbrev pub prepend_zero : List ℕ → List ℕ
prepend_zero xs = 0 ∷ xs

-- One more at the first entry.
abbrev pub raise_first : List ℕ → List ℕ
raise_first [] = []
raise_first (x ∷ xs) = suc x ∷ xs

-- C(n + D, n), the number of monomials of degree at most D in n variables.
unfoldable pub monomial_count : ℕ → ℕ → ℕ
monomial_count zero D = 1
monomial_count (suc n) zero = 1
monomial_count (suc n) (suc D) = monomial_count n (suc D) + monomial_count (suc n) D

-- The lists of n naturals with sum at most D: those that begin with 0, and those that begin with one more.
unfoldable pub exponent_lists : ℕ → ℕ → List (List ℕ)
exponent_lists zero D = [] ∷ []
exponent_lists (suc n) zero = replicate (suc n) 0 ∷ []
exponent_lists (suc n) (suc D) = map prepend_zero (exponent_lists n (suc D)) ++ map raise_first (exponent_lists (suc n) D)
