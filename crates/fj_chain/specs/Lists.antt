-- The lists that the chains of a polynomial f run, and the products that they form, over a field F. The digits of a number come
-- the highest first, as those of `Digits`, and the last one is used first.
use Rattle.std.specs.Prelude.{◌≡◌, ◌⊎◌, ℕ, zero, suc, ◌<◌, List, [], ◌∷◌, ◌++◌}
use Rattle.fj_coeff.specs.Field.{Field}
use Rattle.fj_theory.specs.Exponents.{origin}
use Rattle.fj_theory.specs.Polynomial.{Polynomial, power, term}
use Rattle.fj_theory.specs.Ideal.{SameIdeal, multiples}
use Rattle.fj_theory.specs.Fraction.{Fraction, IsInUnitInterval, plus_whole}
use Rattle.fj_theory.specs.Digits.{Expansion, IsExpansion}
use Rattle.fj_ideal.specs.Lists.{AreLow, OfBasis}
use Rattle.fj_frobenius.specs.Lists.{IsHighMultiple, IsStepList}

-- N is the list of the step with the digit d from the ideal (L): the parts at 1 of f^d g, for the members g of its reduced
-- Grevlex basis, in order.
abbrev pub IsNextList : Field → Polynomial → ℕ → List Polynomial → List Polynomial → Type 0
IsNextList F f d L N = OfBasis F L (λ G. IsStepList F d f G N)

-- The lists of the steps for the digits lead from the list L to N.
abbrev pub LeadTo : Field → Polynomial → List ℕ → List Polynomial → List Polynomial → Type 0
LeadTo F f [] L N = N ≡ L
LeadTo F f (d ∷ ds) L N = (M : List Polynomial) × LeadTo F f ds L M × IsNextList F f d M N

-- The step with the digit d from the ideal (M) is one of those for the digits: the digits below d lead from L to M.
pub record IsStepFor (F : Field) (f : Polynomial) (digits : List ℕ) (L : List Polynomial) (d : ℕ) (M : List Polynomial) : Type 0 where
  pub higher : List ℕ
  pub lower : List ℕ
  pub place : digits ≡ higher ++ d ∷ lower
  pub reached : LeadTo F f lower L M

-- So many periods lead from L to N, none of them back to the ideal that it starts with.
abbrev pub PeriodsLeadTo : Field → Polynomial → List ℕ → List Polynomial → ℕ → List Polynomial → Type 0
PeriodsLeadTo F f period L zero N = N ≡ L
PeriodsLeadTo F f period L (suc k) N = (M : List Polynomial) × PeriodsLeadTo F f period L k M × LeadTo F f period M N × (SameIdeal F M N → ⊥)

-- The step with the digit d from the ideal (M) is one of the chain of the period from L. The chain ends with the first period
-- that leads back to the ideal that it starts with.
pub record IsStepOfChain (F : Field) (f : Polynomial) (period : List ℕ) (L : List Polynomial) (d : ℕ) (M : List Polynomial) : Type 0 where
  pub periods : ℕ
  pub start : List Polynomial
  pub before : PeriodsLeadTo F f period L periods start
  pub step : IsStepFor F f period start d M

-- The chain of the period from L ends with N, which is the last list of its last period.
pub record ChainEndsWith (F : Field) (f : Polynomial) (period : List ℕ) (L N : List Polynomial) : Type 0 where
  pub periods : ℕ
  pub start : List Polynomial
  pub before : PeriodsLeadTo F f period L periods start
  pub last : LeadTo F f period start N
  pub repeats : SameIdeal F start N

-- L is the list of a step of this kind, told by its digit and by the list of the ideal from which it goes.
pub record IsListOfStep (F : Field) (f : Polynomial) (IsStep : ℕ → List Polynomial → Type 0) (L : List Polynomial) : Type 0 where
  pub digit : ℕ
  pub from : List Polynomial
  pub step : IsStep digit from
  pub next : IsNextList F f digit from L

-- L is f with a polynomial g for which such a step forms f^d g, which has a term of a total degree above 2^40.
pub record IsHighInStep (F : Field) (f : Polynomial) (IsStep : ℕ → List Polynomial → Type 0) (L : List Polynomial) : Type 0 where
  pub digit : ℕ
  pub from : List Polynomial
  pub step : IsStep digit from
  pub high : OfBasis F from (λ G. IsHighMultiple F digit f G L)

-- The digit lists of f: [1], and the lists of the steps for the digits.
abbrev pub IsDigitList : Field → Polynomial → List ℕ → List Polynomial → Type 0
IsDigitList F f digits L = (L ≡ term 1 origin ∷ []) ⊎ IsListOfStep F f (IsStepFor F f digits (term 1 origin ∷ [])) L

abbrev pub IsHighInDigits : Field → Polynomial → List ℕ → List Polynomial → Type 0
IsHighInDigits F f digits L = IsHighInStep F f (IsStepFor F f digits (term 1 origin ∷ [])) L

-- The lists of the chain of a period from (h): [h], and the lists of its steps.
abbrev pub IsChainList : Field → Polynomial → List ℕ → Polynomial → List Polynomial → Type 0
IsChainList F f period h L = (L ≡ h ∷ []) ⊎ IsListOfStep F f (IsStepOfChain F f period (h ∷ [])) L

abbrev pub IsHighInChain : Field → Polynomial → List ℕ → Polynomial → List Polynomial → Type 0
IsHighInChain F f period h L = IsHighInStep F f (IsStepOfChain F f period (h ∷ [])) L

-- t is k + t' with t' in (0, 1], which has these digits in base p.
pub record IsWholeAndDigits (p : ℕ) (t : Fraction) (k : ℕ) (d : Expansion) : Type 0 where
  pub rest : Fraction
  pub unit : IsInUnitInterval rest
  pub sum : t ≡ plus_whole rest k
  pub expansion : IsExpansion p rest d

-- The step with the digit a from the ideal (M) is one of the chain of the period from L, or one for the digits before the
-- period, from where the chain ends.
abbrev pub IsStepOfLimit : Field → Polynomial → Expansion → List Polynomial → ℕ → List Polynomial → Type 0
IsStepOfLimit F f d L a M =
    IsStepOfChain F f d.period L a M ⊎ ((N : List Polynomial) × ChainEndsWith F f d.period L N × IsStepFor F f d.pre N a M)

-- The chain of the period from L, and then the digits before the period, lead to N.
pub record LimitLeadsTo (F : Field) (f : Polynomial) (d : Expansion) (L N : List Polynomial) : Type 0 where
  pub limit : List Polynomial
  pub ends : ChainEndsWith F f d.period L limit
  pub pre : LeadTo F f d.pre limit N

-- L lists the multiples f^k g of the members g of a basis.
pub record IsMultipleList (F : Field) (k : ℕ) (f : Polynomial) (G L : List Polynomial) : Type 0 where
  pub is : L ≡ multiples F (power F f k) G
  pub low : AreLow L

-- The lists of a limit at t > 0, from (h): with t = k + t', [h], the lists of the steps for the digits of t', and where k > 0
-- that of the multiples by f^k.
pub data IsLimitList (F : Field) (f : Polynomial) (t : Fraction) (h : Polynomial) (L : List Polynomial) : Type 0 where
  first_list : L ≡ h ∷ [] → IsLimitList F f t h L
  step_list : (k : ℕ) (d : Expansion) → IsWholeAndDigits F.characteristic t k d → IsListOfStep F f (IsStepOfLimit F f d (h ∷ [])) L → IsLimitList F f t h L
  whole_list : (k : ℕ) (d : Expansion) → IsWholeAndDigits F.characteristic t k d → 0 < k → (N : List Polynomial) → LimitLeadsTo F f d (h ∷ []) N
      → OfBasis F N (λ G. IsMultipleList F k f G L) → IsLimitList F f t h L

-- L is f with a polynomial g, of a product that is formed for a limit at t > 0 and has a term of a total degree above 2^40.
pub data IsHighInLimit (F : Field) (f : Polynomial) (t : Fraction) (h : Polynomial) (L : List Polynomial) : Type 0 where
  step_product : (k : ℕ) (d : Expansion) → IsWholeAndDigits F.characteristic t k d → IsHighInStep F f (IsStepOfLimit F f d (h ∷ [])) L → IsHighInLimit F f t h L
  whole_product : (k : ℕ) (d : Expansion) → IsWholeAndDigits F.characteristic t k d → 0 < k → (N : List Polynomial) → LimitLeadsTo F f d (h ∷ []) N
      → OfBasis F N (λ G. IsHighMultiple F k f G L) → IsHighInLimit F f t h L

-- L is N where k is zero, and else the list of its multiples by f^k.
abbrev pub IsWholeMultiple : Field → ℕ → Polynomial → List Polynomial → List Polynomial → Type 0
IsWholeMultiple F zero f N L = L ≡ N
IsWholeMultiple F (suc k) f N L = OfBasis F N (λ G. IsMultipleList F (suc k) f G L)

-- L is the last list of a limit at t > 0, from (h).
pub record IsLastLimitList (F : Field) (f : Polynomial) (t : Fraction) (h : Polynomial) (L : List Polynomial) : Type 0 where
  pub whole : ℕ
  pub digits : Expansion
  pub written : IsWholeAndDigits F.characteristic t whole digits
  pub reached : List Polynomial
  pub leads : LimitLeadsTo F f digits (h ∷ []) reached
  pub last : IsWholeMultiple F whole f reached L

-- The test lists of f and t: for t = 0 the list [1], and else the lists of the limit from (f).
pub data IsTestList (F : Field) (f : Polynomial) (t : Fraction) (L : List Polynomial) : Type 0 where
  at_zero : t.numerator ≡ 0 → L ≡ term 1 origin ∷ [] → IsTestList F f t L
  above_zero : 0 < t.numerator → IsLimitList F f t f L → IsTestList F f t L

pub record IsHighInTest (F : Field) (f : Polynomial) (t : Fraction) (L : List Polynomial) : Type 0 where
  pub above_zero : 0 < t.numerator
  pub high : IsHighInLimit F f t f L

-- L is the last one of the test lists.
pub data IsLastTestList (F : Field) (f : Polynomial) (t : Fraction) (L : List Polynomial) : Type 0 where
  last_at_zero : t.numerator ≡ 0 → L ≡ term 1 origin ∷ [] → IsLastTestList F f t L
  last_above_zero : 0 < t.numerator → IsLastLimitList F f t f L → IsLastTestList F f t L

-- The left lists of f and t: those of the limit from (1).
abbrev pub IsLeftList : Field → Polynomial → Fraction → List Polynomial → Type 0
IsLeftList F f t L = IsLimitList F f t (term 1 origin) L

abbrev pub IsHighInLeft : Field → Polynomial → Fraction → List Polynomial → Type 0
IsHighInLeft F f t L = IsHighInLimit F f t (term 1 origin) L

abbrev pub IsLastLeftList : Field → Polynomial → Fraction → List Polynomial → Type 0
IsLastLeftList F f t L = IsLastLimitList F f t (term 1 origin) L

-- The lists of a comparison of the two limits at t: the test lists, and the left lists.
abbrev pub IsJumpList : Field → Polynomial → Fraction → List Polynomial → Type 0
IsJumpList F f t L = IsTestList F f t L ⊎ IsLeftList F f t L

abbrev pub IsHighInJump : Field → Polynomial → Fraction → List Polynomial → Type 0
IsHighInJump F f t L = IsHighInTest F f t L ⊎ IsHighInLeft F f t L
