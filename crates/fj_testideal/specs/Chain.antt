-- Chains of Frobenius roots, one digit of an exponent at a time. They are the project's own way to test ideals.
use Rattle.std.specs.Prelude.{ℕ, suc, ◌+◌, ◌-◌, ◌*◌, ◌^◌, ◌<◌, ◌≤◌, List, [], ◌∷◌, length, slice_index_or}
use Rattle.fj_coeff.specs.Field.{Field}
use Rattle.fj_theory.specs.Polynomial.{Polynomial, power}
use Rattle.fj_theory.specs.Ideal.{SameIdeal, multiples}
use Rattle.fj_theory.specs.Digits.{value_of, repeated_value}
use Rattle.fj_theory.specs.Root.{IsRoot}

-- N is the step of J with the digit d: the root at 1 of f^d J.
abbrev pub IsStep : Field → Polynomial → ℕ → List Polynomial → List Polynomial → Type 0
IsStep F f d J N = IsRoot F (F.characteristic ^ 1) (multiples F (power F f d) J) N

-- The ideal (N) comes from (J) by a step for each digit of the list, the last digit first.
abbrev pub FollowsDigits : Field → Polynomial → List ℕ → List Polynomial → List Polynomial → Type 0
FollowsDigits F f [] J N = SameIdeal F J N
FollowsDigits F f (d ∷ ds) J N = (K : List Polynomial) × FollowsDigits F f ds J K × IsStep F f d K N

-- The chain of a period: each ideal follows from the one before by the digits of the period. The first one is given, the list
-- has one for each period, and (last) is the last one.
abbrev pub IsChain : Field → Polynomial → List ℕ → List Polynomial → List (List Polynomial) → List Polynomial → Type 0
IsChain F f period first [] last = SameIdeal F first last
IsChain F f period first (next ∷ lists) last = FollowsDigits F f period first next × IsChain F f period next lists last

-- The chain of a period from the first ideal has come to (last), and the next ideal after it is the same.
pub record IsLimit (F : Field) (f : Polynomial) (period : List ℕ) (first last : List Polynomial) : Type 0 where
  pub lists : List (List Polynomial)
  pub chain : IsChain F f period first lists last
  pub next : List Polynomial
  pub follows : FollowsDigits F f period last next
  pub repeats : SameIdeal F last next

-- The list at a place of a chain that starts with the first list.
abbrev pub chain_at : List Polynomial → List (List Polynomial) → ℕ → List Polynomial
chain_at first lists i = slice_index_or (first ∷ lists) i first

-- The chain repeats: two neighbours among its ideals up to the one at a place are one ideal.
abbrev pub Repeats : Field → (ℕ → List Polynomial) → ℕ → Type 0
Repeats F chain last = (i : ℕ) × (i < last) × SameIdeal F (chain i) (chain (suc i))

-- T is where the rising chain of a period, from (f), is after k periods of b digits that write a: with
-- A = a (1 + p^b + .. + p^((k-1)b)), the root of f^(A+1) at k b.
abbrev pub IsRisingAfter : Field → Polynomial → List ℕ → ℕ → List Polynomial → Type 0
IsRisingAfter F f period k T =
    IsRoot F (F.characteristic ^ (k * length period))
    (power F f (repeated_value (F.characteristic ^ length period) (value_of F.characteristic period) k + 1) ∷ []) T

-- T is where the falling chain, from (1), is after k periods: the root of f^A at k b.
abbrev pub IsFallingAfter : Field → Polynomial → List ℕ → ℕ → List Polynomial → Type 0
IsFallingAfter F f period k T =
    IsRoot F (F.characteristic ^ (k * length period))
    (power F f (repeated_value (F.characteristic ^ length period) (value_of F.characteristic period) k) ∷ []) T

-- k is the least k >= 1 for which one list is where the chain is after k and after k - 1 periods.
pub record IsFirstRepeat (IsAfter : ℕ → List Polynomial → Type 0) (k : ℕ) : Type 0 where
  pub positive : 0 < k
  pub ideal : List Polynomial
  pub before : IsAfter (k - 1) ideal
  pub after : IsAfter k ideal
  pub least : (j : ℕ) (T : List Polynomial) → 0 < j → IsAfter (j - 1) T → IsAfter j T → k ≤ j

-- The number of periods of the rising chain, and of the falling one: the repeating period is counted too.
abbrev pub IsNumberOfRisingPeriods : Field → Polynomial → List ℕ → ℕ → Type 0
IsNumberOfRisingPeriods F f period k = IsFirstRepeat (IsRisingAfter F f period) k

abbrev pub IsNumberOfFallingPeriods : Field → Polynomial → List ℕ → ℕ → Type 0
IsNumberOfFallingPeriods F f period k = IsFirstRepeat (IsFallingAfter F f period) k
