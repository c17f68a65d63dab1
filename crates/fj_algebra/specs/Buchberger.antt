-- Gröbner bases by Buchberger's criterion.
use Rattle.std.specs.Prelude.{◌≡◌, ◌≢◌, ◌⊎◌, ◌<◌, ℕ, List, length, Contains, slice_index_or}
use Rattle.fj_algebra.specs.Ring.{subtract}
use Rattle.fj_algebra.specs.Order.{Divides, IsBelow}
use Rattle.fj_algebra.specs.Polynomial.{OrderedPolynomials, IsLead, IsMonic}
use Rattle.fj_algebra.specs.Representation.{Representation}
use Rattle.fj_algebra.specs.Ideal.{Member}

-- Each member of S is monic.
pub record AllMonic {K M A : Type 0} (P : OrderedPolynomials K M A) (S : A → Type 0) : Type 0 where
  pub lead : (g : A) → S g → (a : M) × IsMonic P g a

-- The pair of g and h is settled by S: at each common multiple of their leads the difference of the two multiples with
-- this lead is represented by multiples of members of S with heights below it (an lcm representation, Cox, Little, O'Shea
-- 2015, chapter 2, section 9).
pub record Settled {K M A : Type 0} (P : OrderedPolynomials K M A) (S : A → Type 0) (g h : A) : Type 0 where
  pub below : (m n a b : M) → IsLead P g a → IsLead P h b → P.monomials.times m a ≡ P.monomials.times n b
      → Representation P S (λ e. IsBelow P.order e (P.monomials.times m a))
      (subtract P.ring (P.ring.mul (P.term P.field.ring.one m) g) (P.ring.mul (P.term P.field.ring.one n) h))

-- The pair of the members of the list at the places i and j is settled by the list.
pub record SettledAt {K M A : Type 0} (P : OrderedPolynomials K M A) (G : List A) (i j : ℕ) : Type 0 where
  pub pair : Settled P (Contains G) (slice_index_or G i P.ring.zero) (slice_index_or G j P.ring.zero)

-- Each pair of places of the list, the first before the second, is pending or settled.
pub record AllSettledBut {K M A : Type 0} (P : OrderedPolynomials K M A) (G : List A) (pending : ℕ → ℕ → Type 0) : Type 0 where
  pub each : (i j : ℕ) → i < j → j < length G → pending i j ⊎ SettledAt P G i j

-- The remainder r that a treated pair leaves is zero, or a constant times a monic member of S.
pub data TreatedRemainder {K M A : Type 0} (P : OrderedPolynomials K M A) (S : A → Type 0) (r : A) : Type 0 where
  vanishes : r ≡ P.ring.zero → TreatedRemainder P S r
  appended : (c : K) (k : A) (a : M) → S k → IsMonic P k a → r ≡ P.ring.mul (P.term c P.monomials.one) k → TreatedRemainder P S r

-- The monomial a is divided by the lead of a member of S.
pub record IsReducible {K M A : Type 0} (P : OrderedPolynomials K M A) (S : A → Type 0) (a : M) : Type 0 where
  pub divisor : A
  pub member : S divisor
  pub lead : M
  pub is_lead : IsLead P divisor lead
  pub divides : Divides P.monomials lead a

-- f has a lead that the lead of a member of S divides.
pub record LeadIsReducible {K M A : Type 0} (P : OrderedPolynomials K M A) (S : A → Type 0) (f : A) : Type 0 where
  pub lead : M
  pub is_lead : IsLead P f lead
  pub reducible : IsReducible P S lead

-- The lead of each nonzero member of the ideal (L) is divided by the lead of a member of S.
pub record CoversLeads {K M A : Type 0} (P : OrderedPolynomials K M A) (L : List A) (S : A → Type 0) : Type 0 where
  pub covers : (h : A) → Member P.ring L h → h ≢ P.ring.zero → LeadIsReducible P S h
