-- The state of a run as the code keeps it.
use Rattle.std.specs.Prelude.{◌≡◌, ◌≢◌, ℕ, ◌≤◌, List, [], map, length, slice_index_or, All, Contains, Option, MatchOption}
use Rattle.std.specs.FinMap.{empty}
use Rattle.fj_coeff.specs.Field.{Field}
use Rattle.fj_theory.specs.Polynomial.{Polynomial}
use Rattle.fj_theory.specs.Lead.{lead_coefficient, lead_exponents}
use Rattle.fj_theory.specs.Ideal.{ArePolynomials}
use Rattle.fj_groebner.specs.Division.{Sugared, Division, IsLowDivision, degree_limit}
use Rattle.fj_groebner.specs.Run as definition
use Rattle.fj_basis.specs.declared.pairs.Pair.{Pair}
use Rattle.fj_basis.specs.declared.members.Member.{Member}
use Rattle.fj_basis.specs.declared.run.Run.{Run}
use Rattle.fj_basis.specs.declared.history.History.{History}
use Rattle.fj_basis.specs.Place.{IsWithinLimit}
use Rattle.fj_basis.specs.Members.{AreInPlace, sugared, sugared_members}
use Rattle.fj_basis.specs.History.{HasRecordedMember, IsHistoryOf}
use Rattle.fj_basis.specs.Pending.{HasPair, PendingPairs}

-- The pair with the least common multiple of its leads.
pub record IsPairOf {O : Type 0} (key : List ℕ → List ℕ) (G : List Sugared) (p : Pair O) : Type 0 where
  pub lcm : IsWithinLimit (definition.pair_multiple key G (p.i, p.j)) p.lcm

-- The pairs of the list are the pending ones.
pub record ArePending {O : Type 0} (key : List ℕ → List ℕ) (s : definition.Run) (pairs : List (Pair O)) : Type 0 where
  pub sound : All (λ p. IsPairOf key s.members p × Contains s.pending (p.i, p.j)) pairs
  pub complete : (pair : ℕ × ℕ) → Contains s.pending pair → HasPair pairs pair.0 pair.1

-- The exponents of the leads.
abbrev pub leads_of : (List ℕ → List ℕ) → List Sugared → List (List ℕ)
leads_of key G = map (λ g. lead_exponents key g.polynomial) G

-- The leads and the pending pairs are those of the run.
pub record IsPendingOf {O : Type 0} (key : List ℕ → List ℕ) (s : definition.Run) (p : PendingPairs O) : Type 0 where
  pub leads : p.leads ≡ leads_of key s.members
  pub pairs : ArePending key s p.pairs

-- The run on the list L, after this number of turns.
pub record IsAfter {K O : Type 0} (F : Field) (key : List ℕ → List ℕ) (L : List Polynomial) (turns : ℕ) (s : Run K O) : Type 0 where
  pub given : ArePolynomials F L
  pub state : definition.Run
  pub run : definition.IsRun F key L turns state
  pub members : state.members ≡ sugared_members s.members.items
  pub leads : s.pending.leads ≡ leads_of key state.members
  pub pending : ArePending key state s.pending.pairs
  pub in_place : AreInPlace s.members.items
  pub history : IsHistoryOf F L (sugared_members s.members.items) s.history

-- The run on the list L, after this number of turns and one more whose removals are still to come.
pub record IsTurned {K O : Type 0} (F : Field) (key : List ℕ → List ℕ) (L : List Polynomial) (turns : ℕ) (s : Run K O) : Type 0 where
  pub given : ArePolynomials F L
  pub before : definition.Run
  pub run : definition.IsRun F key L turns before
  pub state : definition.Run
  pub turn : definition.IsTurn F key before state
  pub members : state.members ≡ sugared_members s.members.items
  pub pending : IsPendingOf key state s.pending
  pub in_place : AreInPlace s.members.items
  pub history : IsHistoryOf F L (sugared_members s.members.items) s.history

-- The division of the S-polynomial of the pair, and the member that a remainder that isn't zero gives.
pub record IsNextMember {K O : Type 0} (F : Field) (key : List ℕ → List ℕ) (members : List (Member K O)) (pair : ℕ × ℕ) (before after : History K O) (next : Option (Member K O)) : Type 0 where
  pub last : Division
  pub division : IsLowDivision F key (sugared_members members) (definition.s_polynomial F key (sugared_members members) pair) last
  pub found : MatchOption next ((last.remainder ≡ empty) × (after ≡ before)) (λ m.
      (last.remainder ≢ empty) × (sugared m ≡ definition.monic_member F key (record { polynomial = last.remainder; sugar = last.sugar }))
      × (m.place ≡ length members) × HasRecordedMember F (sugared_members members) (sugared m) before after)

-- The member that the polynomial at a place of L gives, if it is not zero: it is made monic by the constant.
pub record IsFirstMember {K O : Type 0} (F : Field) (key : List ℕ → List ℕ) (rank : K → ℕ) (L : List Polynomial) (j place : ℕ) (first : Option (Member K O × K)) : Type 0 where
  pub found : MatchOption first (slice_index_or L j empty ≡ empty) (λ m.
      (slice_index_or L j empty ≢ empty) × (sugared m.0 ≡ definition.monic_member F key (definition.given (slice_index_or L j empty))) × (m.0.sugar ≤ degree_limit)
      × (m.0.place ≡ place) × (rank m.1 ≡ F.inverse (lead_coefficient key (slice_index_or L j empty))))

-- Some run, after some turns.
pub record IsState {K O : Type 0} (F : Field) (key : List ℕ → List ℕ) (s : Run K O) : Type 0 where
  pub list : List Polynomial
  pub turns : ℕ
  pub after : IsAfter F key list turns s

-- In the next turn a sugar above the limit arises.
pub record IsHighNext {K O : Type 0} (F : Field) (key : List ℕ → List ℕ) (s : Run K O) : Type 0 where
  pub high : (L : List Polynomial) (turns : ℕ) (after : IsAfter F key L turns s) → definition.IsHighTurn F key after.state

-- The run on L is finished with these members within the budget, and no pair is pending.
pub record IsEnded {K O : Type 0} (F : Field) (key : List ℕ → List ℕ) (L : List Polynomial) (budget : ℕ) (s : Run K O) : Type 0 where
  pub turns : ℕ
  pub within : turns ≤ budget
  pub after : IsAfter F key L turns s
  pub none : s.pending.pairs ≡ []
