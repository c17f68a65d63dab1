-- Finishing a Gröbner basis: members whose leads others divide are left out, the rest are reduced in turn.
use Rattle.std.specs.Prelude.{◌≡◌, ◌≢◌, ℕ, ◌<◌, ◌⊎◌, List, [], ◌∷◌, ◌++◌, length, slice_index_or}
use Rattle.fj_algebra.specs.Order.{Divides}
use Rattle.fj_algebra.specs.Polynomial.{OrderedPolynomials, IsLead}
use Rattle.fj_algebra.specs.Division.{DivisionState, IsDivision}

-- The member of the list at place i is left out: the lead of the member at another place divides its lead, and it isn't
-- the first of those with one lead.
pub record IsLeftOut {K M A : Type 0} (P : OrderedPolynomials K M A) (G : List A) (i : ℕ) : Type 0 where
  pub other : ℕ
  pub in_list : other < length G
  pub lead : M
  pub is_lead : IsLead P (slice_index_or G i P.ring.zero) lead
  pub divisor : M
  pub is_divisor : IsLead P (slice_index_or G other P.ring.zero) divisor
  pub divides : Divides P.monomials divisor lead
  pub before : (divisor ≢ lead) ⊎ (other < i)

-- A member of the list that isn't left out and whose lead divides the monomial a.
pub record Kept {K M A : Type 0} (P : OrderedPolynomials K M A) (G : List A) (a : M) : Type 0 where
  pub place : ℕ
  pub in_list : place < length G
  pub kept : IsLeftOut P G place → ⊥
  pub lead : M
  pub is_lead : IsLead P (slice_index_or G place P.ring.zero) lead
  pub divides : Divides P.monomials lead a

-- r is the remainder at the end of a division of h by G.
pub record EndsIn {K M A : Type 0} (P : OrderedPolynomials K M A) (G : List A) (h r : A) : Type 0 where
  pub state : DivisionState A
  pub division : IsDivision P G h state
  pub remainder : state.remainder ≡ r

-- Each member of the list is replaced by its remainder by those before it, already replaced.
unfoldable pub ReplacedInTurn : {K M A : Type 0} → OrderedPolynomials K M A → List A → List A → List A → Type 0
ReplacedInTurn P before [] [] = Unit {0}
ReplacedInTurn P before [] (r ∷ rs) = ⊥
ReplacedInTurn P before (m ∷ ms) [] = ⊥
ReplacedInTurn P before (m ∷ ms) (r ∷ rs) = EndsIn P before m r × ReplacedInTurn P (before ++ (r ∷ [])) ms rs

-- The lead of g doesn't divide the lead of h.
pub record LeadsApart {K M A : Type 0} (P : OrderedPolynomials K M A) (g h : A) : Type 0 where
  pub apart : (a b : M) → IsLead P g a → IsLead P h b → Divides P.monomials a b → ⊥
