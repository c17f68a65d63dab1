-- Reduced Gröbner bases of ideals of polynomials (Cox, Little and O'Shea 2015, chapter 2, section 7).
use Rattle.std.specs.Prelude.{◌≡◌, ◌≢◌, ℕ, ◌<◌, IsTrue, false, List, map, All, Any}
use Rattle.std.specs.List.{AllPairs}
use Rattle.std.specs.FinMap.{empty}
use Rattle.fj_coeff.specs.Field.{Field}
use Rattle.fj_theory.specs.Exponents.{divides}
use Rattle.fj_theory.specs.MonomialOrder.{IsRising}
use Rattle.fj_theory.specs.Polynomial.{Polynomial, coefficient}
use Rattle.fj_theory.specs.Ideal.{Member, Inside}
use Rattle.fj_theory.specs.Lead.{lead_exponents, lead_coefficient}

-- The lead of a member of the list divides the monomial.
abbrev pub LeadDivides : (List ℕ → List ℕ) → List Polynomial → List ℕ → Type 0
LeadDivides key G a = Any (λ g. IsTrue (divides (lead_exponents key g) a)) G

-- No term of g is divided by the lead of h.
pub record IsFreeOf (key : List ℕ → List ℕ) (g h : Polynomial) : Type 0 where
  pub free : (a : List ℕ) → 0 < coefficient g a → divides (lead_exponents key h) a ≡ false

-- No term of one of g and h is divided by the lead of the other.
pub record AreReduced (key : List ℕ → List ℕ) (g h : Polynomial) : Type 0 where
  pub first : IsFreeOf key g h
  pub second : IsFreeOf key h g

-- G is the reduced Gröbner basis of the ideal (L) for the order of the key. Its members are monic and in (L), and their
-- leads rise; no term of a member is divided by the lead of another; the lead of each nonzero member of (L) is divided by
-- the lead of a member of G.
pub record IsReducedBasis (F : Field) (key : List ℕ → List ℕ) (L G : List Polynomial) : Type 0 where
  pub members : Inside F G L
  pub monic : All (λ g. lead_coefficient key g ≡ 1) G
  pub rising : IsRising key (map (lead_exponents key) G)
  pub reduced : AllPairs (AreReduced key) G
  pub covers : (h : Polynomial) → Member F L h → h ≢ empty → LeadDivides key G (lead_exponents key h)
