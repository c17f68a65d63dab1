-- Laws of chains of ideals that are generated in bounded degree, which the law functions prove.
use Rattle.std.specs.Prelude.{◌≡◌, ◌≢◌, ◌⊎◌, ℕ, zero, suc, ◌+◌, ◌*◌, ◌^◌, ◌<◌, ◌≤◌, List, [], ◌∷◌, length, All, AllPairs, Contains, Some}
use Rattle.fj_coeff.specs.Field.{Field, IsField}
use Rattle.fj_algebra.specs.StrictSteps.{monomial_count}
use Rattle.fj_theory.specs.Exponents.{origin, total}
use Rattle.fj_theory.specs.MonomialOrder.{grevlex_key}
use Rattle.fj_theory.specs.Polynomial.{Polynomial, IsPolynomial, coefficient, degree, product, power, term}
use Rattle.fj_theory.specs.Parts.{Part, IsParts}
use Rattle.fj_theory.specs.Ideal.{ArePolynomials, Inside, SameIdeal}
use Rattle.fj_theory.specs.Root.{IsRoot}
use Rattle.fj_groebner.specs.ReducedBasis.{IsReducedBasis}
use Rattle.fj_testideal.specs.Chain.{FollowsDigits, IsChain, chain_at, Repeats}
use Rattle.fj_testideal.specs.BoundedIdeal.{Variables, number_of, occurs_in, IsBoundedMonomial, IsBounded, IsBoundedIdeal, IsLeadIn, AreLeads}

-- Nested ideals, both generated in bounded degree, with the same leads of bounded degree are equal.
abbrev pub EqualByLeads : Type 0
EqualByLeads =
    (F : Field) → IsField F → (vars : Variables) (bound : ℕ) (L M : List Polynomial) → ArePolynomials F L → ArePolynomials F M
    → IsBoundedIdeal F vars bound L → IsBoundedIdeal F vars bound M → Inside F L M
    → ((a : List ℕ) → IsBoundedMonomial vars bound a → IsLeadIn F M a → IsLeadIn F L a) → SameIdeal F L M

-- There are C(n + D, n) monomials of degree at most D in n variables.
abbrev pub MonomialsCounted : Type 0
MonomialsCounted =
    (vars : Variables) (bound : ℕ) → (monomials : List (List ℕ)) × All (IsBoundedMonomial vars bound) monomials
    × ((a : List ℕ) → IsBoundedMonomial vars bound a → Contains monomials a) × AllPairs (λ a b. a ≢ b) monomials
    × (length monomials ≡ monomial_count (number_of vars) bound)

-- The product of the numbers from 1 to n.
unfoldable pub factorial : ℕ → ℕ
factorial zero = 1
factorial (suc n) = suc n * factorial n

-- C(n + D, n) n! D! = (n + D)!.
abbrev pub MonomialCountIsBinomial : Type 0
MonomialCountIsBinomial = (n D : ℕ) → monomial_count n D * (factorial n * factorial D) ≡ factorial (n + D)

-- A reduced basis tells the leads of members.
abbrev pub BasisTellsLeads : Type 0
BasisTellsLeads =
    (F : Field) → IsField F → (vars : Variables) (bound : ℕ) (L G : List Polynomial) → ArePolynomials F L → IsReducedBasis F grevlex_key L G
    → (leads : List (List ℕ)) × AreLeads F vars bound L leads

-- There are at most C(n + D, n) leads of degree at most D in n variables.
abbrev pub LeadsAreFew : Type 0
LeadsAreFew =
    (F : Field) (vars : Variables) (bound : ℕ) (L : List Polynomial) (leads : List (List ℕ)) → AreLeads F vars bound L leads
    → length leads ≤ monomial_count (number_of vars) bound

-- Of nested ideals, both generated in bounded degree, the larger has more leads, or they are equal.
abbrev pub StrictStepCounts : Type 0
StrictStepCounts =
    (F : Field) → IsField F → (vars : Variables) (bound : ℕ) (L M : List Polynomial) → ArePolynomials F L → ArePolynomials F M
    → IsBoundedIdeal F vars bound L → IsBoundedIdeal F vars bound M → Inside F L M
    → (leads more : List (List ℕ)) → AreLeads F vars bound L leads → AreLeads F vars bound M more
    → SameIdeal F L M ⊎ (length leads < length more)

-- The first ideals of a chain, up to the one at a place: each is generated in bounded degree, and its leads are known.
pub record IsBoundedChain (F : Field) (vars : Variables) (bound : ℕ) (chain : ℕ → List Polynomial) (last : ℕ) : Type 0 where
  pub leads : ℕ → List (List ℕ)
  pub polynomials : (i : ℕ) → i ≤ last → ArePolynomials F (chain i)
  pub bounded : (i : ℕ) → i ≤ last → IsBoundedIdeal F vars bound (chain i)
  pub are_leads : (i : ℕ) → i ≤ last → AreLeads F vars bound (chain i) (leads i)

-- A rising chain with more than C(n + D, n) steps repeats.
abbrev pub RisingChainRepeats : Type 0
RisingChainRepeats =
    (F : Field) → IsField F → (vars : Variables) (bound : ℕ) (chain : ℕ → List Polynomial) (last : ℕ) → IsBoundedChain F vars bound chain last
    → ((i : ℕ) → i < last → Inside F (chain i) (chain (suc i))) → monomial_count (number_of vars) bound < last → Repeats F chain last

-- A falling chain with more than C(n + D, n) steps repeats.
abbrev pub FallingChainRepeats : Type 0
FallingChainRepeats =
    (F : Field) → IsField F → (vars : Variables) (bound : ℕ) (chain : ℕ → List Polynomial) (last : ℕ) → IsBoundedChain F vars bound chain last
    → ((i : ℕ) → i < last → Inside F (chain (suc i)) (chain i)) → monomial_count (number_of vars) bound < last → Repeats F chain last

-- The parts at e of a polynomial in some variables of degree at most B have degree at most B/p^e in those variables.
abbrev pub PartsAreBounded : Type 0
PartsAreBounded =
    (F : Field) → IsField F → (vars : Variables) (e bound D : ℕ) (h : Polynomial) → IsBounded F vars bound h → bound ≤ F.characteristic ^ e * D
    → (parts : List Part) → IsParts F (F.characteristic ^ e) h parts
    → All (λ part. IsBounded F vars D part.polynomial
    × ((a : List ℕ) → 0 < coefficient part.polynomial a → F.characteristic ^ e * total a ≤ bound)) parts

-- The root at e of polynomials in some variables of degree at most p^e D is generated in degree at most D in those variables.
abbrev pub RootsAreBounded : Type 0
RootsAreBounded =
    (F : Field) → IsField F → (vars : Variables) (e D : ℕ) (L M : List Polynomial) → All (IsBounded F vars (F.characteristic ^ e * D)) L
    → IsRoot F (F.characteristic ^ e) L M → IsBoundedIdeal F vars D M

-- A product has at most the sum of the degrees, and no other variables than the factors have. So f^m has degree at most
-- m deg f, and no other variables than f has.
abbrev pub ProductsAreBounded : Type 0
ProductsAreBounded =
    (F : Field) → IsField F → (vars : Variables) (a b : ℕ) (f g : Polynomial) → IsBounded F vars a f → IsBounded F vars b g
    → IsBounded F vars (a + b) (product F f g)

abbrev pub PowersAreBounded : Type 0
PowersAreBounded =
    (F : Field) → IsField F → (f : Polynomial) → IsPolynomial F f → (m d : ℕ) → degree f ≡ Some d → IsBounded F (occurs_in f) (m * d) (power F f m)

-- So the root at e of f^m, m <= p^e, is generated in degree at most deg f in the variables of f.
abbrev pub RootsOfPowersAreBounded : Type 0
RootsOfPowersAreBounded =
    (F : Field) → IsField F → (e m d : ℕ) (f : Polynomial) (M : List Polynomial) → IsPolynomial F f → degree f ≡ Some d → m ≤ F.characteristic ^ e
    → IsRoot F (F.characteristic ^ e) (power F f m ∷ []) M → IsBoundedIdeal F (occurs_in f) d M

-- For digits below p: a further period of the chain from (f) gives the same ideal or one with more leads, and of the chain
-- from (1) the same or one with fewer. Leads are those of degree at most deg f in the variables of f.
pub record PeriodsMoveLeads (F : Field) (f : Polynomial) (d : ℕ) (period : List ℕ) : Type 0 where
  pub from_f : (lists : List (List Polynomial)) (last next : List Polynomial) → IsChain F f period (f ∷ []) lists last → FollowsDigits F f period last next
      → (leads more : List (List ℕ)) → AreLeads F (occurs_in f) d last leads → AreLeads F (occurs_in f) d next more
      → SameIdeal F last next ⊎ (length leads < length more)
  pub from_one : (lists : List (List Polynomial)) (last next : List Polynomial) → IsChain F f period (term 1 origin ∷ []) lists last → FollowsDigits F f period last next
      → (leads fewer : List (List ℕ)) → AreLeads F (occurs_in f) d last leads → AreLeads F (occurs_in f) d next fewer
      → SameIdeal F last next ⊎ (length fewer < length leads)

abbrev pub EachPeriodMovesLeads : Type 0
EachPeriodMovesLeads =
    (F : Field) → IsField F → (f : Polynomial) → IsPolynomial F f → (d : ℕ) → degree f ≡ Some d → (period : List ℕ) → All (λ a. a < F.characteristic) period
    → PeriodsMoveLeads F f d period

-- For digits below p: the chain of the period from (f) or (1) repeats within C(n + deg f, n) + 1 periods, n the number of
-- variables that occur in f, where the leads of its ideals are known.
pub record RepeatsFrom (F : Field) (f : Polynomial) (d : ℕ) (period : List ℕ) (first : List Polynomial) : Type 0 where
  pub repeats : (lists : List (List Polynomial)) (last : List Polynomial) → IsChain F f period first lists last → (leads : ℕ → List (List ℕ))
      → ((i : ℕ) → i ≤ length lists → AreLeads F (occurs_in f) d (chain_at first lists i) (leads i))
      → monomial_count (number_of (occurs_in f)) d < length lists → Repeats F (chain_at first lists) (length lists)

abbrev pub PeriodsRepeat : Type 0
PeriodsRepeat =
    (F : Field) → IsField F → (f : Polynomial) → IsPolynomial F f → (d : ℕ) → degree f ≡ Some d → (period : List ℕ) → All (λ a. a < F.characteristic) period
    → RepeatsFrom F f d period (f ∷ []) × RepeatsFrom F f d period (term 1 origin ∷ [])
