-- Laws of the number of periods of a chain, which the law functions prove.
use Rattle.std.specs.Prelude.{◌≡◌, ℕ, suc, ◌+◌, ◌^◌, ◌<◌, ◌≤◌, List, [], ◌∷◌, length, All, Some}
use Rattle.fj_coeff.specs.Field.{Field, IsField}
use Rattle.fj_algebra.specs.StrictSteps.{monomial_count}
use Rattle.fj_theory.specs.Exponents.{origin}
use Rattle.fj_theory.specs.Polynomial.{Polynomial, IsPolynomial, degree, term}
use Rattle.fj_theory.specs.Ideal.{ArePolynomials, Inside, SameIdeal}
use Rattle.fj_testideal.specs.Chain.{Repeats, FollowsDigits, IsChain, chain_at, IsNumberOfRisingPeriods, IsNumberOfFallingPeriods}
use Rattle.fj_testideal.specs.BoundedIdeal.{Variables, number_of, occurs_in, IsBoundedIdeal}

-- There is one number of periods of the rising chain, and one of the falling chain.
pub record IsOneNumber (F : Field) (f : Polynomial) (period : List ℕ) (k l : ℕ) : Type 0 where
  pub rising : IsNumberOfRisingPeriods F f period k → IsNumberOfRisingPeriods F f period l → k ≡ l
  pub falling : IsNumberOfFallingPeriods F f period k → IsNumberOfFallingPeriods F f period l → k ≡ l

abbrev pub NumberOfPeriodsIsUnique : Type 0
NumberOfPeriodsIsUnique = (F : Field) (f : Polynomial) (period : List ℕ) (k l : ℕ) → IsOneNumber F f period k l

-- A chain of k - 1 periods no two neighbours of which are one ideal, and whose next ideal is the last one again, has k as its
-- number of periods.
pub record TellsNumberOfPeriods (F : Field) (f : Polynomial) (period : List ℕ) (lists : List (List Polynomial)) (last next : List Polynomial) : Type 0 where
  pub from_f : IsChain F f period (f ∷ []) lists last → FollowsDigits F f period last next → SameIdeal F last next
      → (Repeats F (chain_at (f ∷ []) lists) (length lists) → ⊥) → IsNumberOfRisingPeriods F f period (length lists + 1)
  pub from_one : IsChain F f period (term 1 origin ∷ []) lists last → FollowsDigits F f period last next → SameIdeal F last next
      → (Repeats F (chain_at (term 1 origin ∷ []) lists) (length lists) → ⊥) → IsNumberOfFallingPeriods F f period (length lists + 1)

abbrev pub ChainsTellNumberOfPeriods : Type 0
ChainsTellNumberOfPeriods =
    (F : Field) → IsField F → (f : Polynomial) → IsPolynomial F f → (period : List ℕ) (lists : List (List Polynomial)) (last next : List Polynomial)
    → TellsNumberOfPeriods F f period lists last next

-- The first ideals of a chain, up to the one at a place: each is generated in bounded degree, and no two neighbours are one.
pub record IsStrictChain (F : Field) (vars : Variables) (bound : ℕ) (chain : ℕ → List Polynomial) (last : ℕ) : Type 0 where
  pub polynomials : (i : ℕ) → i ≤ last → ArePolynomials F (chain i)
  pub bounded : (i : ℕ) → i ≤ last → IsBoundedIdeal F vars bound (chain i)
  pub strict : Repeats F chain last → ⊥

-- A rising or falling chain of ideals that are generated in degree at most D in n variables, no two neighbours of which are one,
-- has at most C(n + D, n) steps.
pub record IsShort (F : Field) (vars : Variables) (bound : ℕ) (chain : ℕ → List Polynomial) (last : ℕ) : Type 0 where
  pub rising : ((i : ℕ) → i < last → Inside F (chain i) (chain (suc i))) → last ≤ monomial_count (number_of vars) bound
  pub falling : ((i : ℕ) → i < last → Inside F (chain (suc i)) (chain i)) → last ≤ monomial_count (number_of vars) bound

abbrev pub StrictChainsAreShort : Type 0
StrictChainsAreShort =
    (F : Field) → IsField F → (vars : Variables) (bound : ℕ) (chain : ℕ → List Polynomial) (last : ℕ) → IsStrictChain F vars bound chain last
    → IsShort F vars bound chain last

-- For digits below p, and n the number of variables that occur in f: a chain of a period no two neighbours of which are one
-- ideal has at most C(n + deg f, n) periods, and the number of periods is at most C(n + deg f, n) + 1.
pub record HasFewPeriods (F : Field) (f : Polynomial) (d : ℕ) (period : List ℕ) : Type 0 where
  pub from_f : (lists : List (List Polynomial)) (last : List Polynomial) → IsChain F f period (f ∷ []) lists last
      → (Repeats F (chain_at (f ∷ []) lists) (length lists) → ⊥) → length lists ≤ monomial_count (number_of (occurs_in f)) d
  pub from_one : (lists : List (List Polynomial)) (last : List Polynomial) → IsChain F f period (term 1 origin ∷ []) lists last
      → (Repeats F (chain_at (term 1 origin ∷ []) lists) (length lists) → ⊥) → length lists ≤ monomial_count (number_of (occurs_in f)) d
  pub rising : (k : ℕ) → IsNumberOfRisingPeriods F f period k → k ≤ monomial_count (number_of (occurs_in f)) d + 1
  pub falling : (k : ℕ) → IsNumberOfFallingPeriods F f period k → k ≤ monomial_count (number_of (occurs_in f)) d + 1

abbrev pub PeriodsAreFew : Type 0
PeriodsAreFew =
    (F : Field) → IsField F → (f : Polynomial) → IsPolynomial F f → (d : ℕ) → degree f ≡ Some d → (period : List ℕ) → All (λ a. a < F.characteristic) period
    → HasFewPeriods F f d period

-- C(n + D, n) rises in n and in D.
abbrev pub MonomialCountRises : Type 0
MonomialCountRises = (m n D E : ℕ) → m ≤ n → D ≤ E → monomial_count m D ≤ monomial_count n E

-- So for at most seven variables and degree at most 1,000 the number of periods fits 64 bits.
abbrev pub MonomialCountFits : Type 0
MonomialCountFits = (n D : ℕ) → n ≤ 7 → D ≤ 1000 → monomial_count n D + 1 < 2 ^ 64
