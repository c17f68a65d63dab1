-- The number of periods of a chain: it is one number, a chain tells it, and it is small.
use Rattle.std.proofs.Common.{◌≡◌, inl, inr, ℕ, suc, ◌+◌, ◌-◌, ◌*◌, ◌^◌, ◌<◌, ◌≤◌, List, [], ◌∷◌, ◌++◌, length, take, length-append, All, Some, subst, arith}
use Rattle.std.proofs.lemmas.Bool.{cases_lt}
use Rattle.std.proofs.lemmas.List.{length-take-le}
use Rattle.fj_coeff.specs.Field.{Field, IsField}
use Rattle.fj_algebra.specs.StrictSteps.{monomial_count}
use Rattle.fj_theory.specs.Exponents.{origin}
use Rattle.fj_theory.specs.Polynomial.{Polynomial, IsPolynomial, degree, term}
use Rattle.fj_theory.specs.Ideal.{ArePolynomials, Inside, SameIdeal}
use Rattle.fj_theory.specs.Digits.{value_of, repeated_value}
use Rattle.fj_theory.proofs.Period.{repeated_last}
use Rattle.fj_theory.proofs.IdealBridge.{ArePolynomials-single, IsPolynomial-one}
use Rattle.fj_theory.proofs.Ideal.{SameIdeal-sym, SameIdeal-trans}
use Rattle.fj_theory.proofs.Root.{IsRoot-unique}
use Rattle.fj_testideal.specs.Chain.{Repeats, IsChain, chain_at, IsFirstRepeat, IsRisingAfter, IsFallingAfter}
use Rattle.fj_testideal.specs.BoundedIdeal.{number_of, occurs_in}
use Rattle.fj_testideal.specs.PeriodLaws.{TellsNumberOfPeriods, HasFewPeriods}
use Rattle.fj_testideal.proofs.PowerRoot.{IsPowerRoot, IsPowerRoot-SameIdeal, power_root, power_root-rises_across, power_root-falls_across}
use Rattle.fj_testideal.proofs.Chain.{value_of_below, IsChain-up_to, IsChain-push}
use Rattle.fj_testideal.proofs.ChainLimit.{chain_root_from_f, chain_root_from_one}
use Rattle.fj_testideal.proofs.BoundedParts.{power_root_bounded}
use Rattle.fj_testideal.proofs.BoundedPeriod.{written_below}
use Rattle.fj_testideal.proofs.StrictChain.{strict_chain-short}

pub first_repeat-unique : (IsIdeal : ℕ → List Polynomial → Type 0) (k l : ℕ) → IsFirstRepeat IsIdeal k → IsFirstRepeat IsIdeal l → k ≡ l
first_repeat-unique IsIdeal k l K M =
    let low = K.least l M.ideal M.positive M.before M.after in
    let high = M.least k K.ideal K.positive K.before K.after in
    omega (arith, low, high)

module _ {F : Field} (L : IsField F) (IsIdeal : ℕ → List Polynomial → Type 0)
    (polynomials : (k : ℕ) (S : List Polynomial) → IsIdeal k S → ArePolynomials F S)
    (unique : (k : ℕ) (S T : List Polynomial) → IsIdeal k S → IsIdeal k T → SameIdeal F S T)
    (chain : ℕ → List Polynomial) (n : ℕ) where
  -- A strict chain of ideals whose last one comes again tells the number.
  tells : ((i : ℕ) → i ≤ n → IsIdeal i (chain i)) → (last : List Polynomial) → IsIdeal n last → IsIdeal (suc n) last → (Repeats F chain n → ⊥) → IsFirstRepeat IsIdeal (n + 1)
  tells are last before after strict =
      let less : n ≡ n + 1 - 1 = omega arith in
      let more : suc n ≡ n + 1 = omega arith in
      record {
        positive = omega arith;
        ideal = last;
        before = subst (λ k. IsIdeal k last) less before;
        after = subst (λ k. IsIdeal k last) more after;
        least = λ j T some low high. elim (cases_lt j (n + 1)) [
          | inl early ↦
              let place : j ≡ suc (j - 1) = omega arith in
              let again : IsIdeal (suc (j - 1)) T = subst (λ k. IsIdeal k T) place high in
              let here = are (j - 1) (omega arith) in
              let next = are (suc (j - 1)) (omega arith) in
              let same = SameIdeal-trans L (polynomials (j - 1) (chain (j - 1)) here) (polynomials (j - 1) T low) (polynomials (suc (j - 1)) (chain (suc (j - 1))) next)
              (unique (j - 1) (chain (j - 1)) T here low) (unique (suc (j - 1)) T (chain (suc (j - 1))) again next) in
              absurd (strict (j - 1, omega arith, same))
          | inr late ↦ late
        ];
      }

  -- No two neighbours before the number of periods are one ideal.
  strict_before : (k : ℕ) → IsFirstRepeat IsIdeal k → ((i : ℕ) → IsIdeal i (chain i)) → ((i : ℕ) (S T : List Polynomial) → IsIdeal i S → ArePolynomials F T → SameIdeal F S T → IsIdeal i T)
      → Repeats F chain (k - 1) → ⊥
  strict_before k K are replaced found =
      let i = found.0 in
      let place : i ≡ suc i - 1 = omega arith in
      let next = chain (suc i) in
      let low : IsIdeal i next = replaced i (chain i) next (are i) (polynomials (suc i) next (are (suc i))) found.2 in
      let late = K.least (suc i) next (omega arith) (subst (λ k. IsIdeal k next) place low) (are (suc i)) in
      omega (arith, late, found.1)

module _ {F : Field} (L : IsField F) {f : Polynomial} (A : IsPolynomial F f) (period : List ℕ) where
  own : ArePolynomials F (f ∷ [])
  own = ArePolynomials-single A

  unit : ArePolynomials F (term 1 origin ∷ [])
  unit = ArePolynomials-single (IsPolynomial-one L)

  polynomials_rising : (k : ℕ) (S : List Polynomial) → IsRisingAfter F f period k S → ArePolynomials F S
  polynomials_rising k S R = R.polynomials

  polynomials_falling : (k : ℕ) (S : List Polynomial) → IsFallingAfter F f period k S → ArePolynomials F S
  polynomials_falling k S R = R.polynomials

  unique_rising : (k : ℕ) (S T : List Polynomial) → IsRisingAfter F f period k S → IsRisingAfter F f period k T → SameIdeal F S T
  unique_rising k S T Q R = IsRoot-unique Q R

  unique_falling : (k : ℕ) (S T : List Polynomial) → IsFallingAfter F f period k S → IsFallingAfter F f period k T → SameIdeal F S T
  unique_falling k S T Q R = IsRoot-unique Q R

  module _ (lists : List (List Polynomial)) (last : List Polynomial) where
    -- Each ideal of the chains is at its root.
    rising_at : IsChain F f period (f ∷ []) lists last → (i : ℕ) → i ≤ length lists → IsRisingAfter F f period i (chain_at (f ∷ []) lists i)
    rising_at chain i h =
        subst (λ k. IsRisingAfter F f period k (chain_at (f ∷ []) lists i)) (length-take-le i lists h)
        (chain_root_from_f L A period (take i lists) (IsChain-up_to L A period lists (f ∷ []) last (f ∷ []) own chain i h))

    falling_at : IsChain F f period (term 1 origin ∷ []) lists last → (i : ℕ) → i ≤ length lists → IsFallingAfter F f period i (chain_at (term 1 origin ∷ []) lists i)
    falling_at chain i h =
        subst (λ k. IsFallingAfter F f period k (chain_at (term 1 origin ∷ []) lists i)) (length-take-le i lists h)
        (chain_root_from_one L A period (take i lists) (IsChain-up_to L A period lists (term 1 origin ∷ []) last (term 1 origin ∷ []) unit chain i h))

  -- The length of a chain with one period more.
  longer : (lists : List (List Polynomial)) (next : List Polynomial) → length (lists ++ next ∷ []) ≡ suc (length lists)
  longer lists next = let sum = length-append lists (next ∷ []) in omega (arith, sum)

  pub tells_number : (lists : List (List Polynomial)) (last next : List Polynomial) → TellsNumberOfPeriods F f period lists last next
  tells_number lists last next = record {
    from_f = λ chain follows same strict.
        let before = chain_root_from_f L A period lists chain in
        let after = subst (λ k. IsRisingAfter F f period k next) (longer lists next)
        (chain_root_from_f L A period (lists ++ next ∷ []) (IsChain-push L A period lists (f ∷ []) last next own chain follows)) in
        tells L (IsRisingAfter F f period) polynomials_rising unique_rising (chain_at (f ∷ []) lists) (length lists) (rising_at lists last chain) last before
        (IsPowerRoot-SameIdeal L A (suc (length lists) * length period) _ after before.polynomials (SameIdeal-sym same)) strict;
    from_one = λ chain follows same strict.
        let before = chain_root_from_one L A period lists chain in
        let after = subst (λ k. IsFallingAfter F f period k next) (longer lists next)
        (chain_root_from_one L A period (lists ++ next ∷ []) (IsChain-push L A period lists (term 1 origin ∷ []) last next unit chain follows)) in
        tells L (IsFallingAfter F f period) polynomials_falling unique_falling (chain_at (term 1 origin ∷ []) lists) (length lists) (falling_at lists last chain) last before
        (IsPowerRoot-SameIdeal L A (suc (length lists) * length period) _ after before.polynomials (SameIdeal-sym same)) strict;
  }

  module _ {d : ℕ} (of_degree : degree f ≡ Some d) (below : All (λ a. a < F.characteristic) period) where
    rises : (k : ℕ) {S T : List Polynomial} → IsRisingAfter F f period k S → IsRisingAfter F f period (suc k) T → Inside F S T
    rises k {T = T} R S =
        let b = length period in
        let a = value_of F.characteristic period in
        let place : suc k * b ≡ k * b + b = omega arith in
        power_root-rises_across L A (k * b) b (repeated_value (F.characteristic ^ b) a k + 1) (repeated_value (F.characteristic ^ b) a (suc k) + 1) R
        (subst (λ e. IsPowerRoot F f e (repeated_value (F.characteristic ^ b) a (suc k) + 1) T) place S)
        (omega (arith, repeated_last (F.characteristic ^ b) a k, value_of_below F.characteristic period below))

    falls : (k : ℕ) {S T : List Polynomial} → IsFallingAfter F f period k S → IsFallingAfter F f period (suc k) T → Inside F T S
    falls k {T = T} R S =
        let b = length period in
        let a = value_of F.characteristic period in
        let place : suc k * b ≡ k * b + b = omega arith in
        power_root-falls_across L A (k * b) b (repeated_value (F.characteristic ^ b) a k) (repeated_value (F.characteristic ^ b) a (suc k)) R
        (subst (λ e. IsPowerRoot F f e (repeated_value (F.characteristic ^ b) a (suc k)) T) place S)
        (omega (arith, repeated_last (F.characteristic ^ b) a k))

    few_rising : (chain : ℕ → List Polynomial) (last : ℕ) → ((i : ℕ) → i ≤ last → IsRisingAfter F f period i (chain i)) → (Repeats F chain last → ⊥)
        → last ≤ monomial_count (number_of (occurs_in f)) d
    few_rising chain last are strict = (strict_chain-short L {vars = occurs_in f} {bound = d} {chain = chain} last (record {
      polynomials = λ i h. (are i h).polynomials;
      bounded = λ i h. power_root_bounded L (i * length period) _ d A of_degree (omega (arith, written_below L A of_degree period below i)) (are i h);
      strict = strict;
    })).rising (λ i h. rises i (are i (omega arith)) (are (suc i) h))

    few_falling : (chain : ℕ → List Polynomial) (last : ℕ) → ((i : ℕ) → i ≤ last → IsFallingAfter F f period i (chain i)) → (Repeats F chain last → ⊥)
        → last ≤ monomial_count (number_of (occurs_in f)) d
    few_falling chain last are strict = (strict_chain-short L {vars = occurs_in f} {bound = d} {chain = chain} last (record {
      polynomials = λ i h. (are i h).polynomials;
      bounded = λ i h. power_root_bounded L (i * length period) _ d A of_degree (omega (arith, written_below L A of_degree period below i)) (are i h);
      strict = strict;
    })).falling (λ i h. falls i (are i (omega arith)) (are (suc i) h))

    pub few_periods : HasFewPeriods F f d period
    few_periods = record {
      from_f = λ lists last chain strict. few_rising (chain_at (f ∷ []) lists) (length lists) (rising_at lists last chain) strict;
      from_one = λ lists last chain strict. few_falling (chain_at (term 1 origin ∷ []) lists) (length lists) (falling_at lists last chain) strict;
      rising = λ k K.
          let b = length period in
          let number : ℕ → ℕ = λ i. repeated_value (F.characteristic ^ b) (value_of F.characteristic period) i + 1 in
          let root : (i : ℕ) → (T : List Polynomial) × IsPowerRoot F f (i * b) (number i) T = λ i. power_root L A (i * b) (number i) in
          let few = few_rising (λ i. (root i).0) (k - 1) (λ i h. (root i).1)
          (strict_before L (IsRisingAfter F f period) polynomials_rising unique_rising (λ i. (root i).0) (k - 1) k K (λ i. (root i).1)
          (λ i S T R P E. IsPowerRoot-SameIdeal L A (i * b) (number i) R P E)) in
          omega (arith, few);
      falling = λ k K.
          let b = length period in
          let number : ℕ → ℕ = λ i. repeated_value (F.characteristic ^ b) (value_of F.characteristic period) i in
          let root : (i : ℕ) → (T : List Polynomial) × IsPowerRoot F f (i * b) (number i) T = λ i. power_root L A (i * b) (number i) in
          let few = few_falling (λ i. (root i).0) (k - 1) (λ i h. (root i).1)
          (strict_before L (IsFallingAfter F f period) polynomials_falling unique_falling (λ i. (root i).0) (k - 1) k K (λ i. (root i).1)
          (λ i S T R P E. IsPowerRoot-SameIdeal L A (i * b) (number i) R P E)) in
          omega (arith, few);
    }
