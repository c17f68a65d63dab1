-- Pending pairs as the code keeps them, with an index by places.
use Rattle.std.specs.Prelude.{◌≡◌, ◌⊎◌, ◌↔◌, ℕ, ◌<◌, ◌≤◌, Bool, false, IsTrue, List, [], length, slice_index_or, All, Contains}
use Rattle.fj_theory.specs.Exponents.{least_common_multiple}
use Rattle.fj_basis.specs.declared.pairs.Pair.{Pair}
use Rattle.fj_basis.specs.Place.{IsWithinLimit}

-- The exponents of the leads, and the pending pairs of their places in the order in which a run takes them.
pub record PendingPairs (O : Type 0) : Type 0 where
  pub leads : List (List ℕ)
  pub pairs : List (Pair O)

-- The pair of the places i and j is in the list.
abbrev pub HasPair : {O : Type 0} → List (Pair O) → ℕ → ℕ → Type 0
HasPair {O} pairs i j = (p : Pair O) × Contains pairs p × (p.i ≡ i) × (p.j ≡ j)

-- The pair with the least common multiple of its leads.
abbrev pub IsPairOver : {O : Type 0} → List (List ℕ) → Pair O → Type 0
IsPairOver leads p = IsWithinLimit (least_common_multiple (slice_index_or leads p.i []) (slice_index_or leads p.j [])) p.lcm

-- Row j says for each place i before j whether the pair of i and j is in the list, whose pairs are of the leads.
pub record IsIndexed {O : Type 0} (leads : List (List ℕ)) (pairs : List (Pair O)) (rows : List (List Bool)) : Type 0 where
  pub enough : length leads ≤ length rows
  pub long : (j : ℕ) → j < length rows → length (slice_index_or rows j []) ≡ j
  pub within : All (λ p. (p.i < p.j) × (p.j < length leads)) pairs
  pub own : All (IsPairOver leads) pairs
  pub told : (i j : ℕ) → IsTrue (slice_index_or (slice_index_or rows j []) i false) ↔ HasPair pairs i j

-- The pairs of the place j with the first n places have come to be pending.
pub record HasPairsUpTo {O : Type 0} (leads : List (List ℕ)) (j n : ℕ) (before after : List (Pair O)) : Type 0 where
  pub kept : All (Contains after) before
  pub new : (i : ℕ) → i < n → HasPair after i j
  pub sound : All (λ p. Contains before p ⊎ (IsPairOver leads p × (p.i < j) × (p.j ≡ j))) after

-- Its pairs with all places before it.
abbrev pub HasPairsWith : {O : Type 0} → List (List ℕ) → ℕ → List (Pair O) → List (Pair O) → Type 0
HasPairsWith leads j before after = HasPairsUpTo leads j j before after
