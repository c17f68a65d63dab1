-- Chains of lists are chains of ideals.
use Rattle.std.proofs.Common.{◌≡◌, ℕ, zero, suc, ◌+◌, ◌<◌, ◌≤◌, List, [], ◌∷◌, ◌++◌, length, length-append, All, Some, sym, subst, refl, arith}
use Rattle.fj_coeff.specs.Field.{Field, IsField}
use Rattle.fj_algebra.specs.StrictSteps.{monomial_count}
use Rattle.fj_theory.specs.Exponents.{origin}
use Rattle.fj_theory.specs.MonomialOrder.{IsMonomialOrder, grevlex_key}
use Rattle.fj_theory.specs.Polynomial.{Polynomial, IsPolynomial, degree, term}
use Rattle.fj_theory.specs.Ideal.{ArePolynomials, SameIdeal}
use Rattle.fj_theory.proofs.Keys.{grevlex_key-IsMonomialOrder}
use Rattle.fj_theory.proofs.Ideal.{ArePolynomials-multiples, SameIdeal-multiples, SameIdeal-refl, SameIdeal-sym}
use Rattle.fj_theory.proofs.IdealBridge.{ArePolynomials-single, IsPolynomial-one}
use Rattle.fj_theory.proofs.PolynomialRing.{IsPolynomial-power}
use Rattle.fj_theory.proofs.Root.{IsRoot-SameIdeal}
use Rattle.fj_groebner.proofs.ReducedBasis.{IsReducedBasis_polynomials, IsReducedBasis-SameIdeal}
use Rattle.fj_testideal.specs.BoundedIdeal.{number_of, occurs_in}
use Rattle.fj_testideal.specs.Chain.{FollowsDigits, IsChain, IsLimit, IsNumberOfFallingPeriods, IsNumberOfRisingPeriods, IsStep, Repeats, chain_at}
use Rattle.fj_testideal.proofs.Chain.{ArePolynomials-FollowsDigits, IsChain-push, IsLimit-same, Repeats-push}
use Rattle.fj_testideal.proofs.NumberOfPeriods.{few_periods, tells_number}
use Rattle.fj_root.proofs.Roots.{IsRoot-ArePartsOf}
use Rattle.fj_chain.specs.Lists.{ChainEndsWith, IsNextList, LeadTo, PeriodsLeadTo}

-- A chain of k periods without a repeat.
record HasStrictChain (F : Field) (f : Polynomial) (period : List ℕ) (first : List Polynomial) (k : ℕ) (last : List Polynomial) : Type 0 where
  pub lists : List (List Polynomial)
  pub count : length lists ≡ k
  pub chain : IsChain F f period first lists last
  pub strict : Repeats F (chain_at first lists) (length lists) → ⊥

module _ {F : Field} (L : IsField F) {f : Polynomial} (A : IsPolynomial F f) where
  abbrev grevlex : IsMonomialOrder grevlex_key
  grevlex = grevlex_key-IsMonomialOrder

  -- The list of a step generates the root.
  pub IsNextList-IsStep : (d : ℕ) {J N : List Polynomial} → ArePolynomials F J → IsNextList F f d J N → IsStep F f d J N
  IsNextList-IsStep d {J} P next =
      let H = IsPolynomial-power L A d in
      let Q = IsReducedBasis_polynomials grevlex L P next.reduced in
      IsRoot-SameIdeal L (ArePolynomials-multiples L H Q) (ArePolynomials-multiples L H P)
      (SameIdeal-multiples L H Q P (SameIdeal-sym (IsReducedBasis-SameIdeal grevlex L P next.reduced)))
      (IsRoot-ArePartsOf L 1 next.holds.parts)

  -- Lists that lead by digits lead so as ideals.
  pub LeadTo-FollowsDigits : (ds : List ℕ) {J : List Polynomial} (N : List Polynomial) → ArePolynomials F J → LeadTo F f ds J N → FollowsDigits F f ds J N
  LeadTo-FollowsDigits [] {J} N P e = subst (SameIdeal F J) (sym e) (SameIdeal-refl L P)
  LeadTo-FollowsDigits (d ∷ ds) N P lead =
      let follows = LeadTo-FollowsDigits ds lead.0 P lead.1 in
      (lead.0, follows, IsNextList-IsStep d (ArePolynomials-FollowsDigits L A ds P follows) lead.2)

  pub ArePolynomials-LeadTo : (ds : List ℕ) {J : List Polynomial} (N : List Polynomial) → ArePolynomials F J → LeadTo F f ds J N → ArePolynomials F N
  ArePolynomials-LeadTo ds N P lead = ArePolynomials-FollowsDigits L A ds P (LeadTo-FollowsDigits ds N P lead)

  module _ (period : List ℕ) {first : List Polynomial} (P : ArePolynomials F first) where
    pub ArePolynomials-periods : (k : ℕ) (N : List Polynomial) → PeriodsLeadTo F f period first k N → ArePolynomials F N
    ArePolynomials-periods zero N e = subst (ArePolynomials F) (sym e) P
    ArePolynomials-periods (suc k) N lead = ArePolynomials-LeadTo period N (ArePolynomials-periods k lead.0 lead.1) lead.2

    -- The ideals before each period make a chain without a repeat.
    strict_chain : (k : ℕ) (N : List Polynomial) → PeriodsLeadTo F f period first k N → HasStrictChain F f period first k N
    strict_chain zero N e = record {
      lists = [];
      count = refl;
      chain = subst (SameIdeal F first) (sym e) (SameIdeal-refl L P);
      strict = λ found. absurd (omega (arith, found.1));
    }
    strict_chain (suc k) N lead =
        let before = strict_chain k lead.0 lead.1 in
        let Q = ArePolynomials-periods k lead.0 lead.1 in
        let follows = LeadTo-FollowsDigits period N Q lead.2 in
        let sum = length-append before.lists (N ∷ []) in
        let count = before.count in
        record {
          lists = before.lists ++ N ∷ [];
          count = omega (arith, sum, count);
          chain = IsChain-push L A period before.lists first lead.0 N P before.chain follows;
          strict = Repeats-push L A period before.lists first lead.0 N P (ArePolynomials-LeadTo period N Q lead.2) before.chain before.strict lead.3;
        }

    module _ {N : List Polynomial} (end : ChainEndsWith F f period first N) where
      ending : ArePolynomials F end.start
      ending = ArePolynomials-periods end.periods end.start end.before

      -- The chain ends at its limit.
      pub chain_limit : IsLimit F f period first N
      chain_limit =
          let before = strict_chain end.periods end.start end.before in
          IsLimit-same L A period P (SameIdeal-refl L P) end.repeats
          (record { lists = before.lists; chain = before.chain; next = N; follows = LeadTo-FollowsDigits period N ending end.last; repeats = end.repeats })

      pub ArePolynomials-end : ArePolynomials F N
      ArePolynomials-end = ArePolynomials-LeadTo period N ending end.last

  own : ArePolynomials F (f ∷ [])
  own = ArePolynomials-single A

  unit : ArePolynomials F (term 1 origin ∷ [])
  unit = ArePolynomials-single (IsPolynomial-one L)

  module _ (period : List ℕ) where
    -- A chain that ends tells the number of periods.
    pub rising_number : {N : List Polynomial} (end : ChainEndsWith F f period (f ∷ []) N) → IsNumberOfRisingPeriods F f period (end.periods + 1)
    rising_number {N} end =
        let before = strict_chain period own end.periods end.start end.before in
        subst (λ k. IsNumberOfRisingPeriods F f period (k + 1)) before.count
        ((tells_number L A period before.lists end.start N).from_f before.chain (LeadTo-FollowsDigits period N (ending period own end) end.last) end.repeats before.strict)

    pub falling_number : {N : List Polynomial} (end : ChainEndsWith F f period (term 1 origin ∷ []) N) → IsNumberOfFallingPeriods F f period (end.periods + 1)
    falling_number {N} end =
        let before = strict_chain period unit end.periods end.start end.before in
        subst (λ k. IsNumberOfFallingPeriods F f period (k + 1)) before.count
        ((tells_number L A period before.lists end.start N).from_one before.chain (LeadTo-FollowsDigits period N (ending period unit end) end.last) end.repeats before.strict)

    module _ {d : ℕ} (of_degree : degree f ≡ Some d) (below : All (λ a. a < F.characteristic) period) (k : ℕ) (N : List Polynomial) where
      pub rising_few : PeriodsLeadTo F f period (f ∷ []) k N → k ≤ monomial_count (number_of (occurs_in f)) d
      rising_few lead =
          let before = strict_chain period own k N lead in
          subst (λ m. m ≤ monomial_count (number_of (occurs_in f)) d) before.count ((few_periods L A period of_degree below).from_f before.lists N before.chain before.strict)

      pub falling_few : PeriodsLeadTo F f period (term 1 origin ∷ []) k N → k ≤ monomial_count (number_of (occurs_in f)) d
      falling_few lead =
          let before = strict_chain period unit k N lead in
          subst (λ m. m ≤ monomial_count (number_of (occurs_in f)) d) before.count ((few_periods L A period of_degree below).from_one before.lists N before.chain before.strict)

    -- The same where the polynomial that the chain starts with is 1.
    pub falling_told : {h : Polynomial} → h ≡ term 1 origin → {N : List Polynomial} (end : ChainEndsWith F f period (h ∷ []) N) → {k : ℕ} → k ≡ end.periods + 1 → IsNumberOfFallingPeriods F f period k
    falling_told {h} is {N} end {k} number =
        subst (λ m. IsNumberOfFallingPeriods F f period m) (sym number)
        (falling_number {N = N} (record { periods = end.periods; start = end.start; before = subst (λ g. PeriodsLeadTo F f period (g ∷ []) end.periods end.start) is end.before; last = end.last; repeats = end.repeats }))

    pub falling_told_few : {h : Polynomial} → h ≡ term 1 origin → {d : ℕ} → degree f ≡ Some d → All (λ a. a < F.characteristic) period → {N : List Polynomial} (end : ChainEndsWith F f period (h ∷ []) N) → {k : ℕ} → k ≡ end.periods + 1
        → k ≤ monomial_count (number_of (occurs_in f)) d + 1
    falling_told_few {h} is of_degree below end number =
        let few = falling_few of_degree below end.periods end.start (subst (λ g. PeriodsLeadTo F f period (g ∷ []) end.periods end.start) is end.before) in
        omega (arith, few, number)
