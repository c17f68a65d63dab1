-- Rows of cofactors over the given list, formed from how polynomials were made.
use Rattle.std.specs.Prelude.{◌≡◌, ℕ, ◌+◌, ◌<◌, ◌≤◌, Bool, true, false, List, length, slice_index_or, All}
use Rattle.fj_coeff.specs.Field.{Field}
use Rattle.fj_theory.specs.Polynomial.{Polynomial}
use Rattle.fj_groebner.specs.Division.{Sugared, degree_limit, member_at}
use Rattle.fj_basis.specs.declared.history.Summand.{Summand}
use Rattle.fj_basis.specs.declared.history.Source.{Source}
use Rattle.fj_basis.specs.declared.history.Source.TheVariants.{Given, Combined}
use Rattle.fj_basis.specs.declared.history.Making.{Making}
use Rattle.fj_basis.specs.Members.{IsRowWithin}
use Rattle.fj_basis.specs.History.{AreMade, IsMaking, IsSummand}

-- What holds of all that the source combines.
abbrev pub AllSummands : {K O : Type 0} → (Summand K O → Type 0) → Source K O → Type 0
AllSummands P (Given j) = Unit {0}
AllSummands P (Combined summands) = All P summands.items

-- The source combines only polynomials at places before n.
abbrev pub UsesBelow : {K O : Type 0} → ℕ → Source K O → Type 0
UsesBelow n source = AllSummands (λ s. s.place < n) source

-- Each polynomial is made of earlier ones.
pub record AreInOrder {K O : Type 0} (makings : List (Making K O)) : Type 0 where
  pub each : (k : ℕ) (d : Making K O) → k < length makings → UsesBelow k (slice_index_or makings k d).source

-- A place is marked.
abbrev pub IsMarked : List Bool → ℕ → Type 0
IsMarked marks k = slice_index_or marks k false ≡ true

-- What the source combines is marked.
abbrev pub AreMarked : {K O : Type 0} → List Bool → Source K O → Type 0
AreMarked marks source = AllSummands (λ s. IsMarked marks s.place) source

-- The places from `from` on are marked, and with a place all that its polynomial is made of.
pub record AreNeeded {K O : Type 0} (makings : List (Making K O)) (from : ℕ) (marks : List Bool) : Type 0 where
  pub long : length marks ≡ length makings
  pub asked : (k : ℕ) → from ≤ k → k < length makings → IsMarked marks k
  pub closed : (k : ℕ) (d : Making K O) → k < length makings → IsMarked marks k → AreMarked marks (slice_index_or makings k d).source

-- The row at the place of each summand gives the polynomial at this place as a combination of L.
abbrev pub HaveRows : {K O : Type 0} → Field → List Polynomial → List Sugared → List (List Polynomial) → List (Summand K O) → Type 0
HaveRows F L G rows summands = All (λ s. (s.place < length rows) × ((d : List Polynomial) → IsRowWithin F L (member_at G s.place) (slice_index_or rows s.place d))) summands

-- What is combined, with its rows.
pub record AreCombined {K O : Type 0} (F : Field) (L : List Polynomial) (G : List Sugared) (bound : ℕ) (rows : List (List Polynomial)) (summands : List (Summand K O)) : Type 0 where
  pub each : All (IsSummand F G bound) summands
  pub have_rows : HaveRows F L G rows summands
  pub low : bound ≤ degree_limit

-- There is such a list of polynomials.
pub record CanBeCombined {K O : Type 0} (F : Field) (L : List Polynomial) (rows : List (List Polynomial)) (summands : List (Summand K O)) : Type 0 where
  pub all : List Sugared
  pub bound : ℕ
  pub combined : AreCombined F L all bound rows summands

-- So g is made, and the rows of all that it is made of are formed.
pub record IsMadeWithRows {K O : Type 0} (F : Field) (L : List Polynomial) (G : List Sugared) (g : Sugared) (rows : List (List Polynomial)) (making : Making K O) : Type 0 where
  pub is : IsMaking F L G g making
  pub have_rows : AllSummands (λ s. (s.place < length rows) × ((d : List Polynomial) → IsRowWithin F L (member_at G s.place) (slice_index_or rows s.place d))) making.source

-- There are such polynomials.
pub record CanBeFormed {K O : Type 0} (F : Field) (L : List Polynomial) (rows : List (List Polynomial)) (making : Making K O) : Type 0 where
  pub all : List Sugared
  pub made : Sugared
  pub with_rows : IsMadeWithRows F L all made rows making

-- Some polynomials are made so.
pub record IsMade {K O : Type 0} (F : Field) (L : List Polynomial) (makings : List (Making K O)) : Type 0 where
  pub all : List Sugared
  pub made : AreMade F L all makings

-- The rows of the polynomials of G from a place on.
pub record AreRowsFrom (F : Field) (L : List Polynomial) (G : List Sugared) (from : ℕ) (rows : List (List Polynomial)) : Type 0 where
  pub long : length rows + from ≡ length G
  pub each : (k : ℕ) (d : List Polynomial) → k < length rows → IsRowWithin F L (member_at G (from + k)) (slice_index_or rows k d)
