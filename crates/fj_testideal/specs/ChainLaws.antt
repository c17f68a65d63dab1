-- Laws of chains of roots, which the law functions prove. They say how test ideals and left limits are computed from digits.
use Rattle.std.specs.Prelude.{◌≡◌, ℕ, ◌-◌, ◌*◌, ◌^◌, ◌<◌, List, [], ◌∷◌, ◌++◌, All, Any, length}
use Rattle.fj_coeff.specs.Field.{Field, IsField}
use Rattle.fj_theory.specs.Exponents.{origin}
use Rattle.fj_theory.specs.Polynomial.{Polynomial, IsPolynomial, power, term}
use Rattle.fj_theory.specs.Ideal.{ArePolynomials, Inside, SameIdeal, multiples}
use Rattle.fj_theory.specs.Fraction.{Fraction, IsInUnitInterval}
use Rattle.fj_theory.specs.Digits.{value_of, Expansion, IsExpansion}
use Rattle.fj_theory.specs.Root.{IsRoot}
use Rattle.fj_testideal.specs.TestIdeal.{IsTestIdeal, IsLeftLimit}
use Rattle.fj_testideal.specs.Chain.{FollowsDigits, IsChain, IsLimit, chain_at, Repeats, IsRisingAfter, IsFallingAfter}

-- Steps, chains and limits depend on the first and the last ideal alone, and not on the lists that generate them.
pub record DependsOnIdeals (F : Field) (f : Polynomial) (ds : List ℕ) (J J' N N' : List Polynomial) : Type 0 where
  pub digits : FollowsDigits F f ds J N → FollowsDigits F f ds J' N'
  pub chain : (lists : List (List Polynomial)) → IsChain F f ds J lists N → IsChain F f ds J' lists N'
  pub limit : IsLimit F f ds J N → IsLimit F f ds J' N'

abbrev pub ChainsDependOnIdeals : Type 0
ChainsDependOnIdeals =
    (F : Field) → IsField F → (f : Polynomial) → IsPolynomial F f → (ds : List ℕ) (J J' N N' : List Polynomial) → ArePolynomials F J
    → SameIdeal F J J' → SameIdeal F N N' → DependsOnIdeals F f ds J J' N N'

-- The steps for b digits, the last one first, reach the root at b of f^a J, where a is the number that the digits write.
abbrev pub DigitsReachRoot : Type 0
DigitsReachRoot =
    (F : Field) → IsField F → (f : Polynomial) → IsPolynomial F f → (ds : List ℕ) (J N : List Polynomial) → ArePolynomials F J
    → FollowsDigits F f ds J N → IsRoot F (F.characteristic ^ length ds) (multiples F (power F f (value_of F.characteristic ds)) J) N

-- A chain goes on by one period. Where no two neighbours were one ideal, and the last ideal and the next one aren't, no two
-- neighbours of the longer chain are.
pub record GoesOn (F : Field) (f : Polynomial) (period : List ℕ) (first : List Polynomial) (lists : List (List Polynomial)) (last next : List Polynomial) : Type 0 where
  pub chain : IsChain F f period first lists last → FollowsDigits F f period last next → IsChain F f period first (lists ++ next ∷ []) next
  pub strict : IsChain F f period first lists last → (Repeats F (chain_at first lists) (length lists) → ⊥) → (SameIdeal F last next → ⊥)
      → Repeats F (chain_at first (lists ++ next ∷ [])) (length (lists ++ next ∷ [])) → ⊥

abbrev pub ChainsGoOn : Type 0
ChainsGoOn =
    (F : Field) → IsField F → (f : Polynomial) → IsPolynomial F f → (period : List ℕ) (first : List Polynomial) → ArePolynomials F first
    → (lists : List (List Polynomial)) (last next : List Polynomial) → ArePolynomials F next → GoesOn F f period first lists last next

-- After k periods the chain from (f) is at its root at k b, and the chain from (1) at its own.
pub record IsRootAfterPeriods (F : Field) (f : Polynomial) (period : List ℕ) (lists : List (List Polynomial)) (last : List Polynomial) : Type 0 where
  pub from_f : IsChain F f period (f ∷ []) lists last → IsRisingAfter F f period (length lists) last
  pub from_one : IsChain F f period (term 1 origin ∷ []) lists last → IsFallingAfter F f period (length lists) last

abbrev pub ChainsAreRoots : Type 0
ChainsAreRoots =
    (F : Field) → IsField F → (f : Polynomial) → IsPolynomial F f → (period : List ℕ) (lists : List (List Polynomial)) (last : List Polynomial)
    → IsRootAfterPeriods F f period lists last

-- The chain of a period from (f) rises, and the one from (1) falls.
pub record IsMonotone (F : Field) (f : Polynomial) (period : List ℕ) : Type 0 where
  pub rises : (lists : List (List Polynomial)) (last next : List Polynomial) → IsChain F f period (f ∷ []) lists last → FollowsDigits F f period last next → Inside F last next
  pub falls : (lists : List (List Polynomial)) (last next : List Polynomial) → IsChain F f period (term 1 origin ∷ []) lists last → FollowsDigits F f period last next → Inside F next last

abbrev pub ChainsAreMonotone : Type 0
ChainsAreMonotone =
    (F : Field) → IsField F → (f : Polynomial) → IsPolynomial F f → (period : List ℕ) → All (λ d. d < F.characteristic) period → IsMonotone F f period

-- A chain is constant from its first repeat on: where the list after J is the same ideal, so is every later one.
abbrev pub RepeatsStay : Type 0
RepeatsStay =
    (F : Field) → IsField F → (f : Polynomial) → IsPolynomial F f → (period : List ℕ) (J next : List Polynomial) → ArePolynomials F J
    → FollowsDigits F f period J next → SameIdeal F J next
    → (lists : List (List Polynomial)) (last : List Polynomial) → IsChain F f period J lists last → SameIdeal F J last

-- For t in (0, 1] with its digits, c of them before the period, which write N: where J is the limit of the period's chain from
-- (f), the root at c of f^N J is the test ideal at t; where J is the limit of the chain from (1), it is the left limit. The
-- digits before the period lead there.
pub record IsReachedByDigits (F : Field) (f : Polynomial) (t : Fraction) (d : Expansion) : Type 0 where
  pub root_is_test_ideal : (J T : List Polynomial) → IsLimit F f d.period (f ∷ []) J → IsRoot F (F.characteristic ^ length d.pre) (multiples F (power F f (value_of F.characteristic d.pre)) J) T → IsTestIdeal F f t T
  pub root_is_left_limit : (J T : List Polynomial) → IsLimit F f d.period (term 1 origin ∷ []) J → IsRoot F (F.characteristic ^ length d.pre) (multiples F (power F f (value_of F.characteristic d.pre)) J) T → IsLeftLimit F f t T
  pub test_ideal : (J T : List Polynomial) → IsLimit F f d.period (f ∷ []) J → FollowsDigits F f d.pre J T → IsTestIdeal F f t T
  pub left_limit : (J T : List Polynomial) → IsLimit F f d.period (term 1 origin ∷ []) J → FollowsDigits F f d.pre J T → IsLeftLimit F f t T

abbrev pub DigitsReachLimits : Type 0
DigitsReachLimits =
    (F : Field) → IsField F → (f : Polynomial) → IsPolynomial F f → (t : Fraction) → IsInUnitInterval t
    → (d : Expansion) → IsExpansion F.characteristic t d → IsReachedByDigits F f t d

-- Digits that are not all zero write a number above zero.
abbrev pub NonzeroDigitsWriteNonzero : Type 0
NonzeroDigitsWriteNonzero = (p : ℕ) → 0 < p → (ds : List ℕ) → Any (λ d. 0 < d) ds → 0 < value_of p ds

-- For b digits that write a > 0, and u = a/(p^b - 1): the limit of the chain is the test ideal at u where it starts at (f),
-- and the left limit where it starts at (1).
pub record IsReachedByPeriod (F : Field) (f : Polynomial) (period : List ℕ) (u : Fraction) : Type 0 where
  pub test_ideal : (J : List Polynomial) → IsLimit F f period (f ∷ []) J → IsTestIdeal F f u J
  pub left_limit : (J : List Polynomial) → IsLimit F f period (term 1 origin ∷ []) J → IsLeftLimit F f u J

abbrev pub PeriodsReachLimits : Type 0
PeriodsReachLimits =
    (F : Field) → IsField F → (f : Polynomial) → IsPolynomial F f → (period : List ℕ) → All (λ d. d < F.characteristic) period → 0 < value_of F.characteristic period
    → (u : Fraction) → u.numerator * (F.characteristic ^ length period - 1) ≡ value_of F.characteristic period * u.denominator → IsReachedByPeriod F f period u
