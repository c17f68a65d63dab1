-- Reduced Gröbner bases.
use Rattle.std.specs.Prelude.{◌≢◌, List, Contains}
use Rattle.std.specs.List.{AllPairs}
use Rattle.fj_algebra.specs.Ideal.{Inside}
use Rattle.fj_algebra.specs.Order.{Divides, IsBelow}
use Rattle.fj_algebra.specs.Polynomial.{OrderedPolynomials, IsLead}
use Rattle.fj_algebra.specs.Buchberger.{AllMonic, CoversLeads}

-- The lead of g is below the lead of h.
pub record LeadsRise {K M A : Type 0} (P : OrderedPolynomials K M A) (g h : A) : Type 0 where
  pub below : (a b : M) → IsLead P g a → IsLead P h b → IsBelow P.order a b

-- No monomial of g is divided by the lead of h.
pub record IsFreeOf {K M A : Type 0} (P : OrderedPolynomials K M A) (g h : A) : Type 0 where
  pub free : (a b : M) → P.coefficient g a ≢ P.field.ring.zero → IsLead P h b → Divides P.monomials b a → ⊥

-- No monomial of one of g and h is divided by the lead of the other.
pub record AreReduced {K M A : Type 0} (P : OrderedPolynomials K M A) (g h : A) : Type 0 where
  pub first : IsFreeOf P g h
  pub second : IsFreeOf P h g

-- G is the reduced Gröbner basis of the ideal (L) (Cox, Little, O'Shea 2015, chapter 2, section 7), its leads rising.
pub record IsReducedBasis {K M A : Type 0} (P : OrderedPolynomials K M A) (L G : List A) : Type 0 where
  pub members : Inside P.ring G L
  pub monic : AllMonic P (Contains G)
  pub rising : AllPairs (LeadsRise P) G
  pub reduced : AllPairs (AreReduced P) G
  pub covers : CoversLeads P L (Contains G)
