-- Chains of roots, one digit at a time: what they reach, that they rise or fall, and that a repeat is for good.
use Rattle.std.proofs.Common.{◌≡◌, ℕ, zero, suc, ◌+◌, ◌*◌, ◌^◌, ◌<◌, ◌≤◌, List, [], ◌∷◌, ◌++◌, length, length-append, take, get_or, All, Any, Contains, inl, inr, refl, sym, ap, ap₂, ◌∙◌, subst, arith}
use Rattle.std.proofs.Math.Nat.{pow-zero, pow-suc, one-le-pow, mul-le-mul_left}
use Rattle.std.proofs.Math.Seq.{get_or-append_seam}
use Rattle.std.proofs.lemmas.Bool.{cases_lt}
use Rattle.std.proofs.lemmas.List.{get_or_append_left}
use Rattle.std.proofs.lemmas.Nat.{pow-add}
use Rattle.std.proofs.lemmas.List.Elements.{All-head, All-tail, All-weaker}
use Rattle.fj_coeff.specs.Field.{Field, IsField}
use Rattle.fj_algebra.proofs.Lists.{Any-element}
use Rattle.fj_algebra.proofs.Pairs.{contains_cons, contains_nil}
use Rattle.fj_theory.specs.Exponents.{origin}
use Rattle.fj_theory.specs.Polynomial.{Polynomial, IsPolynomial, power, product, term}
use Rattle.fj_theory.specs.Ideal.{ArePolynomials, Member, Inside, SameIdeal, multiples}
use Rattle.fj_theory.specs.Root.{IsRoot}
use Rattle.fj_theory.specs.Digits.{value_of, repeated_value}
use Rattle.fj_theory.proofs.Digits.{product_positive, value_of-cons}
use Rattle.fj_theory.proofs.IdealBridge.{ArePolynomials-head, ArePolynomials-tail, IsPolynomial-one, Member_polynomial}
use Rattle.fj_theory.proofs.Ideal.{ArePolynomials-multiples, SameIdeal-sym, SameIdeal-trans, SameIdeal-refl, SameIdeal-multiples}
use Rattle.fj_theory.proofs.PolynomialRing.{IsPolynomial-power, product_comm, product_one, power_zero, power_first, power_add}
use Rattle.fj_theory.proofs.Root.{IsRoot-1, IsRoot-unique, IsRoot-SameIdeal, IsRoot-SameIdeal_root}
use Rattle.fj_theory.proofs.RootParts.{IsRoot-digit}
use Rattle.fj_testideal.specs.Chain.{FollowsDigits, IsChain, IsLimit, chain_at, Repeats}

-- N is the root of f^m S at e.
abbrev pub IsMultipleRoot : Field → Polynomial → List Polynomial → ℕ → ℕ → List Polynomial → Type 0
IsMultipleRoot F f S e m N = IsRoot F (F.characteristic ^ e) (multiples F (power F f m) S) N

-- A power of p^b.
pub power_of_power : (p b k : ℕ) → (p ^ b) ^ k ≡ p ^ (k * b)
power_of_power p b zero = let none : 0 * b ≡ 0 = omega arith in pow-zero (p ^ b) ∙ sym (ap (λ n. p ^ n) none ∙ pow-zero p)
power_of_power p b (suc k) =
    let place : k * b + b ≡ suc k * b = omega arith in
    pow-suc (p ^ b) k ∙ ap (λ n. n * p ^ b) (power_of_power p b k) ∙ sym (pow-add p (k * b) b) ∙ ap (λ n. p ^ n) place

-- What b digits write is below p^b.
pub value_of_below : (p : ℕ) (ds : List ℕ) → All (λ d. d < p) ds → value_of p ds < p ^ length ds
unfolding value_of
value_of_below p [] below = let one : p ^ 0 ≡ 1 = pow-zero p in omega arith
value_of_below p (d ∷ ds) below =
    let first : d < p = All-head (λ d. d < p) d ds below in
    let rest = value_of_below p ds (All-tail (λ d. d < p) d ds below) in
    let product : p ^ length ds * (d + 1) ≤ p ^ length ds * p = mul-le-mul_left (p ^ length ds) (omega arith) in
    omega (arith, value_of-cons p d ds, pow-suc p (length ds))

-- A nonzero digit gives a nonzero number.
nonzero_digit : (p : ℕ) → 0 < p → (ds : List ℕ) (d : ℕ) → Contains ds d → 0 < d → 0 < value_of p ds
nonzero_digit p positive [] d c some = absurd (contains_nil d c)
nonzero_digit p positive (e ∷ ds) d c some = elim (contains_cons e ds d c) [
  | inl same ↦ (let product = product_positive e (p ^ length ds) (omega (arith, same, some)) (one-le-pow (length ds) p positive) in omega (arith, product, value_of-cons p e ds))
  | inr later ↦ omega (arith, nonzero_digit p positive ds d later some, value_of-cons p e ds)
]

pub value_of-positive : (p : ℕ) → 0 < p → (ds : List ℕ) → Any (λ d. 0 < d) ds → 0 < value_of p ds
value_of-positive p positive ds some = let found = Any-element (λ d. 0 < d) ds some in nonzero_digit p positive ds found.0 found.1 found.2

module _ {F : Field} (L : IsField F) {f : Polynomial} (A : IsPolynomial F f) where
  multiples-one : (S : List Polynomial) → ArePolynomials F S → multiples F (term 1 origin) S ≡ S
  multiples-one [] P = refl
  multiples-one (g ∷ S) P =
      let G = ArePolynomials-head P in
      ap₂ ◌∷◌ (product_comm L (IsPolynomial-one L) G ∙ product_one L G) (multiples-one S (ArePolynomials-tail P))

  -- The root at 0 of f^0 S is (S).
  IsMultipleRoot-zero : {S : List Polynomial} → ArePolynomials F S → IsMultipleRoot F f S 0 0 S
  IsMultipleRoot-zero {S} P =
      subst (λ q. IsRoot F q (multiples F (power F f 0) S) S) (sym (pow-zero F.characteristic))
      (subst (λ M. IsRoot F 1 M S) (sym (ap (λ g. multiples F g S) (power_zero L A) ∙ multiples-one S P)) (IsRoot-1 L P))

  -- What generates an ideal inside an ideal of polynomials is a list of polynomials.
  pub ArePolynomials-Inside : {M N : List Polynomial} → ArePolynomials F M → Inside F N M → ArePolynomials F N
  ArePolynomials-Inside {M} {N} P I = record { each = All-weaker (Member F M) (IsPolynomial F) (λ g H. Member_polynomial L P H) N I.each }

  -- A root of multiples depends on the ideal alone.
  IsMultipleRoot-SameIdeal : {S N N' : List Polynomial} → ArePolynomials F S → (e m : ℕ) → IsMultipleRoot F f S e m N → SameIdeal F N N' → IsMultipleRoot F f S e m N'
  IsMultipleRoot-SameIdeal P e m R E =
      IsRoot-SameIdeal_root L e (ArePolynomials-multiples L (IsPolynomial-power L A m) P) R (ArePolynomials-Inside R.polynomials E.back) E

  -- The steps for the digits of a number a reach the root of f^a J.
  pub FollowsDigits-root : (ds : List ℕ) {J N : List Polynomial} → ArePolynomials F J → FollowsDigits F f ds J N
      → IsMultipleRoot F f J (length ds) (value_of F.characteristic ds) N
  unfolding value_of
  FollowsDigits-root [] {J} P same = IsMultipleRoot-SameIdeal P 0 0 (IsMultipleRoot-zero P) same
  FollowsDigits-root (d ∷ ds) {J} {N} P follows =
      let p = F.characteristic in
      let n = length ds in
      let whole : d * p ^ n + value_of p ds ≡ value_of p (d ∷ ds) = omega (arith, value_of-cons p d ds) in
      let place : 1 + n ≡ suc n = omega arith in
      subst (λ e. IsMultipleRoot F f J e (value_of p (d ∷ ds)) N) place
      (subst (λ m. IsMultipleRoot F f J (1 + n) m N) whole (IsRoot-digit L 1 n A (value_of p ds) d P (FollowsDigits-root ds P follows.1) follows.2))

  pub ArePolynomials-FollowsDigits : (ds : List ℕ) {J N : List Polynomial} → ArePolynomials F J → FollowsDigits F f ds J N → ArePolynomials F N
  ArePolynomials-FollowsDigits ds P follows = (FollowsDigits-root ds P follows).polynomials

  -- Steps with the same digits lead from equal ideals to equal ideals.
  pub FollowsDigits-SameIdeal : (ds : List ℕ) {J J' N N' : List Polynomial} → ArePolynomials F J → ArePolynomials F J' → SameIdeal F J J'
      → FollowsDigits F f ds J N → FollowsDigits F f ds J' N' → SameIdeal F N N'
  FollowsDigits-SameIdeal ds P P' E follows follows' =
      let B = IsPolynomial-power L A (value_of F.characteristic ds) in
      IsRoot-unique
      (IsRoot-SameIdeal L (ArePolynomials-multiples L B P) (ArePolynomials-multiples L B P') (SameIdeal-multiples L B P P' E) (FollowsDigits-root ds P follows))
      (FollowsDigits-root ds P' follows')

  -- Steps depend on the ideals alone.
  pub FollowsDigits-same : (ds : List ℕ) {J J' N N' : List Polynomial} → ArePolynomials F J → SameIdeal F J J' → SameIdeal F N N' → FollowsDigits F f ds J N → FollowsDigits F f ds J' N'
  FollowsDigits-same [] P E E' same =
      let Q = ArePolynomials-Inside P E.back in
      let R = ArePolynomials-Inside P same.back in
      SameIdeal-trans L Q P (ArePolynomials-Inside R E'.back) (SameIdeal-sym E) (SameIdeal-trans L P R (ArePolynomials-Inside R E'.back) same E')
  FollowsDigits-same (d ∷ ds) P E E' follows =
      let R = ArePolynomials-FollowsDigits ds P follows.1 in
      (follows.0, FollowsDigits-same ds P E (SameIdeal-refl L R) follows.1, IsRoot-SameIdeal_root L 1 (ArePolynomials-multiples L (IsPolynomial-power L A d) R) follows.2 (ArePolynomials-Inside follows.2.polynomials E'.back) E')

  module _ (ds : List ℕ) where
    pub ArePolynomials-IsChain : (lists : List (List Polynomial)) {first last : List Polynomial} → ArePolynomials F first → IsChain F f ds first lists last → ArePolynomials F last
    ArePolynomials-IsChain [] P same = ArePolynomials-Inside P same.back
    ArePolynomials-IsChain (next ∷ lists) P chain = ArePolynomials-IsChain lists (ArePolynomials-FollowsDigits ds P chain.0) chain.1

    pub IsChain-same : (lists : List (List Polynomial)) {J J' N N' : List Polynomial} → ArePolynomials F J → SameIdeal F J J' → SameIdeal F N N' → IsChain F f ds J lists N → IsChain F f ds J' lists N'
    IsChain-same [] P E E' same = FollowsDigits-same [] P E E' same
    IsChain-same (next ∷ lists) P E E' chain =
        let R = ArePolynomials-FollowsDigits ds P chain.0 in
        (FollowsDigits-same ds P E (SameIdeal-refl L R) chain.0, IsChain-same lists R (SameIdeal-refl L R) E' chain.1)

    pub IsLimit-same : {J J' N N' : List Polynomial} → ArePolynomials F J → SameIdeal F J J' → SameIdeal F N N' → IsLimit F f ds J N → IsLimit F f ds J' N'
    IsLimit-same P E E' limit =
        let Q = ArePolynomials-IsChain limit.lists P limit.chain in
        let R = ArePolynomials-FollowsDigits ds Q limit.follows in
        record {
          lists = limit.lists;
          chain = IsChain-same limit.lists P E E' limit.chain;
          next = limit.next;
          follows = FollowsDigits-same ds Q E' (SameIdeal-refl L R) limit.follows;
          repeats = SameIdeal-trans L (ArePolynomials-Inside Q E'.back) Q R (SameIdeal-sym E') limit.repeats;
        }

    -- A chain up to a place, the step from it, and a chain with one period more.
    pub IsChain-push : (lists : List (List Polynomial)) (first last next : List Polynomial) → ArePolynomials F first → IsChain F f ds first lists last → FollowsDigits F f ds last next
        → IsChain F f ds first (lists ++ next ∷ []) next
    IsChain-push [] first last next P same follows =
        let Q = ArePolynomials-Inside P same.back in
        let R = SameIdeal-refl L (ArePolynomials-FollowsDigits ds Q follows) in
        (FollowsDigits-same ds Q (SameIdeal-sym same) R follows, R)
    IsChain-push (second ∷ lists) first last next P chain follows = (chain.0, IsChain-push lists second last next (ArePolynomials-FollowsDigits ds P chain.0) chain.1 follows)

    -- The last ideal is at the last place.
    IsChain-last : (lists : List (List Polynomial)) (first last start : List Polynomial) → ArePolynomials F first → IsChain F f ds first lists last → SameIdeal F (get_or (first ∷ lists) (length lists) start) last
    IsChain-last [] first last start P same = same
    IsChain-last (second ∷ lists) first last start P chain = IsChain-last lists second last start (ArePolynomials-FollowsDigits ds P chain.0) chain.1

    pub IsChain-up_to : (lists : List (List Polynomial)) (first last start : List Polynomial) → ArePolynomials F first → IsChain F f ds first lists last → (i : ℕ) → i ≤ length lists
        → IsChain F f ds first (take i lists) (get_or (first ∷ lists) i start)
    IsChain-up_to lists first last start P chain zero h = SameIdeal-refl L P
    IsChain-up_to [] first last start P chain (suc i) h = absurd (omega arith)
    IsChain-up_to (second ∷ lists) first last start P chain (suc i) h = (chain.0, IsChain-up_to lists second last start (ArePolynomials-FollowsDigits ds P chain.0) chain.1 i (omega arith))

    pub IsChain-step : (lists : List (List Polynomial)) (first last start : List Polynomial) → IsChain F f ds first lists last → (i : ℕ) → i < length lists
        → FollowsDigits F f ds (get_or (first ∷ lists) i start) (get_or (first ∷ lists) (suc i) start)
    IsChain-step [] first last start chain i h = absurd (omega arith)
    IsChain-step (second ∷ lists) first last start chain zero h = chain.0
    IsChain-step (second ∷ lists) first last start chain (suc i) h = IsChain-step lists second last start chain.1 i (omega arith)

    -- A chain without a repeat goes on without one.
    pub Repeats-push : (lists : List (List Polynomial)) (first last next : List Polynomial) → ArePolynomials F first → ArePolynomials F next → IsChain F f ds first lists last
        → (Repeats F (chain_at first lists) (length lists) → ⊥) → (SameIdeal F last next → ⊥) → Repeats F (chain_at first (lists ++ next ∷ [])) (length (lists ++ next ∷ [])) → ⊥
    Repeats-push lists first last next P Q chain strict apart found = elim (cases_lt found.0 (length lists)) [
      | inl early ↦ strict (
        found.0,
        early,
        subst (λ M. SameIdeal F M (chain_at first lists (suc found.0))) (before found.0 (omega (arith, early)))
            (subst (λ M. SameIdeal F (chain_at first (lists ++ next ∷ []) found.0) M) (before (suc found.0) (omega (arith, early))) found.2),
      )
      | inr late ↦
          let sum : length (lists ++ next ∷ []) ≡ length lists + 1 = length-append lists (next ∷ []) in
          let less = found.1 in
          let place : found.0 ≡ length lists = omega (arith, sum, less, late) in
          let step : SameIdeal F (chain_at first (lists ++ next ∷ []) (length lists)) (chain_at first (lists ++ next ∷ []) (suc (length lists))) =
          subst (λ i. SameIdeal F (chain_at first (lists ++ next ∷ []) i) (chain_at first (lists ++ next ∷ []) (suc i))) place found.2 in
          let from : SameIdeal F (chain_at first lists (length lists)) (chain_at first (lists ++ next ∷ []) (suc (length lists))) =
          subst (λ M. SameIdeal F M (chain_at first (lists ++ next ∷ []) (suc (length lists)))) (before (length lists) (omega arith)) step in
          let to : SameIdeal F (chain_at first lists (length lists)) next =
          subst (SameIdeal F (chain_at first lists (length lists))) (get_or-append_seam (first ∷ lists) next [] first) from in
          let end = IsChain-last lists first last first P chain in
          let R = ArePolynomials-IsChain lists P chain in
          apart (SameIdeal-trans L R (ArePolynomials-Inside R end.forth) Q (SameIdeal-sym end) to)
    ]
      where
        before : (i : ℕ) → i < suc (length lists) → chain_at first (lists ++ next ∷ []) i ≡ chain_at first lists i
        before i h = get_or_append_left (first ∷ lists) (next ∷ []) first i h

    -- A chain is constant from a repeat on.
    repeats_stay_from : {J next : List Polynomial} → ArePolynomials F J → FollowsDigits F f ds J next → SameIdeal F J next
        → (lists : List (List Polynomial)) {first last : List Polynomial} → ArePolynomials F first → SameIdeal F J first → IsChain F f ds first lists last → SameIdeal F J last
    repeats_stay_from P follows E [] Q G same = SameIdeal-trans L P Q (ArePolynomials-Inside Q same.back) G same
    repeats_stay_from {J} {next} P follows E (second ∷ lists) Q G chain =
        let R = ArePolynomials-FollowsDigits ds Q chain.0 in
        repeats_stay_from P follows E lists R
        (SameIdeal-trans L P (ArePolynomials-FollowsDigits ds P follows) R E (FollowsDigits-SameIdeal ds P Q G follows chain.0)) chain.1

    pub repeats_stay : {J next : List Polynomial} → ArePolynomials F J → FollowsDigits F f ds J next → SameIdeal F J next
        → (lists : List (List Polynomial)) {last : List Polynomial} → IsChain F f ds J lists last → SameIdeal F J last
    repeats_stay P follows E lists chain = repeats_stay_from P follows E lists P (SameIdeal-refl L P) chain

  -- The chain of a period of b digits that write a, from S: after k periods it is at the root of f^(a(1 + .. + p^((k-1)b))) S
  -- at k b.
  module _ (ds : List ℕ) {S : List Polynomial} (P : ArePolynomials F S) where
    -- N is where the chain is after k periods.
    abbrev pub IsAfter : ℕ → List Polynomial → Type 0
    IsAfter k N = IsMultipleRoot F f S (k * length ds) (repeated_value (F.characteristic ^ length ds) (value_of F.characteristic ds) k) N

    pub IsAfter-zero : IsAfter 0 S
    unfolding repeated_value
    IsAfter-zero = let none : 0 * length ds ≡ 0 = omega arith in subst (λ e. IsMultipleRoot F f S e 0 S) (sym none) (IsMultipleRoot-zero P)

    pub IsAfter-next : (k : ℕ) {J N : List Polynomial} → IsAfter k J → FollowsDigits F f ds J N → IsAfter (suc k) N
    unfolding repeated_value
    IsAfter-next k {J} {N} R follows =
        let p = F.characteristic in
        let b = length ds in
        let a = value_of p ds in
        let place : b + k * b ≡ suc k * b = omega arith in
        let number : a * p ^ (k * b) + repeated_value (p ^ b) a k ≡ repeated_value (p ^ b) a (suc k) = omega (arith, ap (λ n. n * a) (power_of_power p b k)) in
        subst (λ e. IsMultipleRoot F f S e (repeated_value (p ^ b) a (suc k)) N) place
        (subst (λ m. IsMultipleRoot F f S (b + k * b) m N) number
        (IsRoot-digit L b (k * b) A (repeated_value (p ^ b) a k) a P R (FollowsDigits-root ds R.polynomials follows)))

    pub IsAfter-chain : (k : ℕ) (lists : List (List Polynomial)) {first last : List Polynomial} → IsAfter k first → IsChain F f ds first lists last → IsAfter (k + length lists) last
    IsAfter-chain k [] {last = last} R same = let place : k ≡ k + 0 = omega arith in subst (λ k. IsAfter k last) place (IsMultipleRoot-SameIdeal P (k * length ds) _ R same)
    IsAfter-chain k (second ∷ lists) {last = last} R chain =
        let place : suc k + length lists ≡ k + suc (length lists) = omega arith in
        subst (λ k. IsAfter k last) place (IsAfter-chain (suc k) lists (IsAfter-next k R chain.0) chain.1)

    -- Where the next list is the same ideal, the chain is there after every further period.
    pub IsAfter-stays : (k i : ℕ) {J N : List Polynomial} → IsAfter k J → FollowsDigits F f ds J N → SameIdeal F J N → IsAfter (i + k) J
    IsAfter-stays k zero {J} R follows E = let place : k ≡ 0 + k = omega arith in subst (λ k. IsAfter k J) place R
    IsAfter-stays k (suc i) {J} R follows E =
        let T = IsAfter-next (i + k) (IsAfter-stays k i R follows E) follows in
        let p = F.characteristic in
        let place : suc (i + k) ≡ suc i + k = omega arith in
        subst (λ k. IsAfter k J) place
        (IsRoot-SameIdeal_root L (suc (i + k) * length ds) (ArePolynomials-multiples L (IsPolynomial-power L A _) P) T R.polynomials (SameIdeal-sym E))

    pub IsAfter-start : (lists : List (List Polynomial)) {last : List Polynomial} → IsChain F f ds S lists last → IsAfter (length lists) last
    IsAfter-start lists {last} chain = let place : 0 + length lists ≡ length lists = omega arith in subst (λ k. IsAfter k last) place (IsAfter-chain 0 lists IsAfter-zero chain)

    -- A limit is reached after every large number of periods.
    pub IsAfter-limit : {J : List Polynomial} (limit : IsLimit F f ds S J) (i : ℕ) → IsAfter (i + length limit.lists) J
    IsAfter-limit limit i = IsAfter-stays (length limit.lists) i (IsAfter-start limit.lists limit.chain) limit.follows limit.repeats

  -- The lists f^m (f) and f^m (1).
  pub multiples-self : (m : ℕ) → multiples F (power F f m) (f ∷ []) ≡ power F f (m + 1) ∷ []
  multiples-self m = ap (λ g. g ∷ []) (ap (product F (power F f m)) (sym (power_first L A)) ∙ sym (power_add L A m 1))

  pub multiples-unit : (m : ℕ) → multiples F (power F f m) (term 1 origin ∷ []) ≡ power F f m ∷ []
  multiples-unit m = ap (λ g. g ∷ []) (product_one L (IsPolynomial-power L A m))
