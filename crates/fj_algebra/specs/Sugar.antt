-- Sugar degrees, which bound the degrees in a division.
use Rattle.std.specs.Prelude.{◌≡◌, ℕ, ◌+◌, ◌<◌, ◌≤◌, List, length, slice_index, slice_index_or}
use Rattle.fj_algebra.specs.Order.{Monomials}
use Rattle.fj_algebra.specs.Polynomial.{PolynomialRing, Supported}
use Rattle.fj_algebra.specs.Division.{DivisionState}

-- The degree of a product of monomials is the sum of their degrees.
pub record IsDegree {M : Type 0} (monomials : Monomials M) (degree : M → ℕ) : Type 0 where
  pub degree_times : (a b : M) → degree (monomials.times a b) ≡ degree a + degree b

-- Each monomial of f has degree at most s.
abbrev pub DegreeAtMost : {K M A : Type 0} → PolynomialRing K M A → (M → ℕ) → ℕ → A → Type 0
DegreeAtMost P degree s f = Supported P (λ a. degree a ≤ s) f

-- The sugar degree s of a division by members of given sugar degrees bounds its state (Giovini and others 1991, "One
-- sugar cube, please"): the dividend, the remainder, and each quotient times its member.
pub record IsWithinSugar {K M A : Type 0} (P : PolynomialRing K M A) (degree : M → ℕ) (sugars : List ℕ) (s : ℕ) (t : DivisionState A) : Type 0 where
  pub dividend : DegreeAtMost P degree s t.dividend
  pub remainder : DegreeAtMost P degree s t.remainder
  pub quotients : (k : ℕ) → k < length t.quotients → Supported P (λ a. degree a + slice_index sugars k ≤ s) (slice_index_or t.quotients k P.ring.zero)
