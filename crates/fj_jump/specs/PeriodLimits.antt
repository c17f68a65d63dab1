-- The limits of a period's chains, and the lists on the way to them and on from them, over a field F. The digits come the highest
-- first, as those of `Digits`.
use Rattle.std.specs.Prelude.{◌≡◌, ◌⊎◌, ℕ, List, [], ◌∷◌}
use Rattle.std.specs.List.{insert}
use Rattle.fj_coeff.specs.Field.{Field}
use Rattle.fj_theory.specs.Exponents.{origin}
use Rattle.fj_theory.specs.Polynomial.{Polynomial, term}
use Rattle.fj_chain.specs.Lists.{ChainEndsWith, IsChainList, IsHighInChain, IsHighInStep, IsListOfStep, IsStepFor}

-- J is the limit of the period's chain from (f), which rises, and N that of the one from (1), which falls.
pub record AreLimitsOfPeriod (F : Field) (f : Polynomial) (period : List ℕ) (J N : List Polynomial) : Type 0 where
  pub rising : ChainEndsWith F f period (f ∷ []) J
  pub falling : ChainEndsWith F f period (term 1 origin ∷ []) N

-- The lists of the two chains of a period, and the products that are too high.
abbrev pub IsListOfChains : Field → Polynomial → List ℕ → List Polynomial → Type 0
IsListOfChains F f period L = IsChainList F f period f L ⊎ IsChainList F f period (term 1 origin) L

abbrev pub IsHighInChains : Field → Polynomial → List ℕ → List Polynomial → Type 0
IsHighInChains F f period L = IsHighInChain F f period f L ⊎ IsHighInChain F f period (term 1 origin) L

-- The lists of the steps for the digits from J, J among them, and the products that are too high.
abbrev pub IsListFrom : Field → Polynomial → List ℕ → List Polynomial → List Polynomial → Type 0
IsListFrom F f digits J L = (L ≡ J) ⊎ IsListOfStep F f (IsStepFor F f digits J) L

abbrev pub IsHighFrom : Field → Polynomial → List ℕ → List Polynomial → List Polynomial → Type 0
IsHighFrom F f digits J L = IsHighInStep F f (IsStepFor F f digits J) L

-- Those from J and those from N.
abbrev pub IsListFromBoth : Field → Polynomial → List ℕ → List Polynomial → List Polynomial → List Polynomial → Type 0
IsListFromBoth F f digits J N L = IsListFrom F f digits J L ⊎ IsListFrom F f digits N L

abbrev pub IsHighFromBoth : Field → Polynomial → List ℕ → List Polynomial → List Polynomial → List Polynomial → Type 0
IsHighFromBoth F f digits J N L = IsHighFrom F f digits J L ⊎ IsHighFrom F f digits N L

-- The list is as before, or has x at the place i, before what stood there.
abbrev pub IsSameOrHas : {X : Type 0} → List X → ℕ → X → List X → Type 0
IsSameOrHas before i x after = (after ≡ before) ⊎ (after ≡ insert before i x)
