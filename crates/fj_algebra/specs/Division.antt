-- Division of polynomials by a list, step by step, and remainders.
use Rattle.std.specs.Prelude.{◌≡◌, ℕ, ◌<◌, ◌⊎◌, List, length, slice_index_or, slice_set, replicate, Contains}
use Rattle.fj_algebra.specs.Ring.{subtract}
use Rattle.fj_algebra.specs.Polynomial.{OrderedPolynomials, IsLead, Supported}
use Rattle.fj_algebra.specs.Ideal.{Member}
use Rattle.fj_algebra.specs.Buchberger.{IsReducible}

-- No monomial of f is divided by a lead of a member of S.
abbrev pub IsReduced : {K M A : Type 0} → OrderedPolynomials K M A → (A → Type 0) → A → Type 0
IsReduced P S f = Supported P.polynomials (λ a. IsReducible P S a → ⊥) f

-- r is a remainder of h by the list G: no monomial of r is divided by a lead of G, and h - r is in the ideal (G).
pub record IsRemainder {K M A : Type 0} (P : OrderedPolynomials K M A) (G : List A) (h r : A) : Type 0 where
  pub reduced : IsReduced P (Contains G) r
  pub difference : Member P.ring G (subtract P.ring h r)

-- The state of a division by a list: what is still to be divided, one quotient for each member of the list, and the remainder.
pub record DivisionState (A : Type 0) : Type 0 where
  pub dividend : A
  pub quotients : List A
  pub remainder : A

-- From s to t the multiple of a member of G that cancels the lead of the dividend is subtracted, and its factor is added to
-- the quotient of this member.
pub record Cancels {K M A : Type 0} (P : OrderedPolynomials K M A) (G : List A) (s t : DivisionState A) : Type 0 where
  pub place : ℕ
  pub divisor : A
  pub in_list : place < length G
  pub is_divisor : slice_index_or G place divisor ≡ divisor
  pub lead : M
  pub is_lead : IsLead P s.dividend lead
  pub divisor_lead : M
  pub is_divisor_lead : IsLead P divisor divisor_lead
  pub monomial : M
  pub height : P.monomials.times monomial divisor_lead ≡ lead
  pub scalar : K
  pub cancels : P.field.ring.mul scalar (P.coefficient divisor divisor_lead) ≡ P.coefficient s.dividend lead
  pub dividend : t.dividend ≡ subtract P.ring s.dividend (P.ring.mul (P.term scalar monomial) divisor)
  pub quotients : t.quotients ≡ slice_set s.quotients place (P.ring.add (slice_index_or s.quotients place P.ring.zero) (P.term scalar monomial))
  pub remainder : t.remainder ≡ s.remainder

-- From s to t the leading term of the dividend, which no lead of G divides, moves to the remainder.
pub record Moves {K M A : Type 0} (P : OrderedPolynomials K M A) (G : List A) (s t : DivisionState A) : Type 0 where
  pub lead : M
  pub is_lead : IsLead P s.dividend lead
  pub irreducible : IsReducible P (Contains G) lead → ⊥
  pub dividend : t.dividend ≡ subtract P.ring s.dividend (P.term (P.coefficient s.dividend lead) lead)
  pub quotients : t.quotients ≡ s.quotients
  pub remainder : t.remainder ≡ P.ring.add s.remainder (P.term (P.coefficient s.dividend lead) lead)

-- Steps of a division lead from s to t.
pub data DivisionRun {K M A : Type 0} (P : OrderedPolynomials K M A) (G : List A) (t : DivisionState A) : DivisionState A → Type 0 where
  done : {s : DivisionState A} → s ≡ t → DivisionRun P G t s
  step : {s u : DivisionState A} → Cancels P G s u ⊎ Moves P G s u → DivisionRun P G t u → DivisionRun P G t s

-- The division of h by G ends at t (Cox, Little, O'Shea 2015, chapter 2, section 3).
pub record IsDivision {K M A : Type 0} (P : OrderedPolynomials K M A) (G : List A) (h : A) (t : DivisionState A) : Type 0 where
  pub run : DivisionRun P G t (record { dividend = h; quotients = replicate (length G) P.ring.zero; remainder = P.ring.zero })
  pub finished : t.dividend ≡ P.ring.zero
