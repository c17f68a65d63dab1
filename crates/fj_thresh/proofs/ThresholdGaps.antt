-- The gap in which the test ideals come to be inside (J), and what the left limit at its upper end tells of the threshold.
use Rattle.std.proofs.Common.{◌≡◌, inl, inr, ℕ, zero, suc, ◌+◌, ◌*◌, ◌^◌, ◌<◌, ◌≤◌, List, [], ◌∷◌, length, get_or, Contains, refl, sym, ap, ap₂, ◌∙◌, subst, arith}
use Rattle.std.specs.declared.cmp.Ordering.TheVariants.{Less}
use Rattle.std.specs.List.Sorted.{IsStrictlySortedBy}
use Rattle.std.proofs.lemmas.List.Elements.{All-contains, All-from_recursion, All-get_or}
use Rattle.std.proofs.Math.Nat.{one-dvd}
use Rattle.fj_algebra.proofs.Lists.{Any-element}
use Rattle.fj_algebra.proofs.Pairs.{contains_cons, contains_head, contains_nil, contains_tail}
use Rattle.fj_coeff.specs.Field.{Field, IsField}
use Rattle.fj_theory.specs.Candidates.{AreCandidates, Gap, IsCandidate, gaps, neighbours}
use Rattle.fj_theory.specs.Fraction.{Fraction, IsAtMost, SameValue, ceil_times, compare}
use Rattle.fj_theory.specs.Ideal.{ArePolynomials, Inside, Member}
use Rattle.fj_theory.specs.Polynomial.{Polynomial, IsPolynomial}
use Rattle.fj_theory.proofs.Candidates.{IsCandidate-one, IsInUnitInterval-from_candidate}
use Rattle.fj_theory.proofs.Field.{characteristic_large}
use Rattle.fj_theory.proofs.Fraction.{ceil_times-le, ceil_times-whole}
use Rattle.fj_theory.proofs.FrobeniusPower.{Member-frobenius_power}
use Rattle.fj_ratio.specs.FractionCode.{same_fraction}
use Rattle.fj_ratio.specs.Lowest.{IsLowestForm}
use Rattle.fj_ratio.proofs.LowestTerms.{same_lowest_form}
use Rattle.fj_testideal.specs.TestIdeal.{IsLeftLimit}
use Rattle.fj_testideal.specs.Threshold.{IsPowerInside, IsProper, IsThreshold}
use Rattle.fj_testideal.proofs.ConstantInside.{at_most_from_less}
use Rattle.fj_testideal.proofs.GapOrder.{upper_end}
use Rattle.fj_testideal.proofs.Threshold.{left_limit_inside, nu_is_one, power_inside-more}
use Rattle.fj_testideal.proofs.ThresholdGap.{has_threshold, only_gap, upper_positive}
use Rattle.fj_thresh.specs.Answer.{IsGapOfThreshold}
use Rattle.fj_thresh.specs.Ends.{AreEnds, ComesInside, IsInside, IsOutside, zero_fraction}

-- Zero in lowest terms.
pub zero_lowest : IsLowestForm 0 1 zero_fraction
zero_lowest = record { value = refl; lowest = (one-dvd 0, one-dvd 1, λ d h k. k) }

pub zero_only : (t : Fraction) → IsLowestForm 0 1 t → t ≡ zero_fraction
zero_only t form =
    let same = same_lowest_form 0 1 t zero_fraction (omega arith) form zero_lowest in
    same_fraction t zero_fraction (λ i. (same.0 i, same.1 i))

-- What is at a place of a list doesn't depend on what stands for its end.
pub at_place : (ts : List Fraction) (k : ℕ) (d t : Fraction) → k < length ts → t ≡ get_or ts k t → get_or ts k d ≡ t
at_place [] k d t short is = absurd (omega (arith, short))
at_place (u ∷ ts) zero d t short is = sym is
at_place (u ∷ ts) (suc k) d t short is = at_place ts k d t (omega (arith, short)) is

-- Neighbours among the ends.
pub gap_at : (s : Fraction) (ts : List Fraction) (k : ℕ) (d e : Fraction) → k < length ts → Contains (neighbours s ts) (record { lower = get_or (s ∷ ts) k d; upper = get_or (s ∷ ts) (suc k) e })
unfolding neighbours
gap_at s [] k d e short = absurd (omega (arith, short))
gap_at s (t ∷ ts) zero d e short = contains_head (record { lower = s; upper = t }) (neighbours t ts)
gap_at s (t ∷ ts) (suc k) d e short =
    contains_tail (record { lower = s; upper = t }) (neighbours t ts) (record { lower = get_or (t ∷ ts) k d; upper = get_or (t ∷ ts) (suc k) e }) (gap_at t ts k d e (omega (arith, short)))

-- The ends above 0 are candidates.
module _ {p E : ℕ} {ends : List Fraction} (N : AreEnds p E ends) where
  pub end_candidate : (k : ℕ) (d : Fraction) → 0 < k → k < length ends → IsCandidate p E (get_or ends k d)
  end_candidate zero d some short = absurd (omega (arith, some))
  end_candidate (suc k) d some short =
      let count = ap (length {A = Fraction}) N.is in
      subst (λ es. IsCandidate p E (get_or es (suc k) d)) (sym N.is) (All-get_or (IsCandidate p E) N.candidates k d (omega (arith, short, count)) N.are_candidates.sound)

  -- Two neighbours among the ends are a gap.
  pub ends_among : (k l : ℕ) (s t : Fraction) → l ≡ suc k → l < length ends → get_or ends k s ≡ s → get_or ends l t ≡ t → Contains (gaps N.candidates) (record { lower = s; upper = t })
  unfolding gaps
  ends_among k l s t next short at_s at_t =
      let ts = N.candidates in
      let count = ap (length {A = Fraction}) N.is in
      let lower : get_or (zero_fraction ∷ ts) k s ≡ s = sym (ap (λ es. get_or es k s) N.is) ∙ at_s in
      let upper : get_or (zero_fraction ∷ ts) (suc k) t ≡ t = sym (ap₂ (λ es m. get_or es m t) N.is next) ∙ at_t in
      subst (λ u. Contains (neighbours zero_fraction ts) (record { lower = u; upper = t })) lower
      (subst (λ u. Contains (neighbours zero_fraction ts) (record { lower = get_or (zero_fraction ∷ ts) k s; upper = u })) upper
      (gap_at zero_fraction ts k s t (omega (arith, short, count, next))))

-- A candidate is above 0, and at most 8.
pub candidate_bounds : (p E : ℕ) (t : Fraction) → 0 < p → IsCandidate p E t → (0 < t.numerator) × (t.numerator ≤ 8 * t.denominator)
candidate_bounds p E t positive candidate =
    let unit = IsInUnitInterval-from_candidate p E t positive candidate in
    let most = unit.at_most_one in
    (unit.above_zero, omega (arith, most))

-- The last member of a rising list is the greatest.
last_greatest : (ts : List Fraction) → IsStrictlySortedBy compare ts → (v : Fraction) → Contains ts v → (k : ℕ) (d : Fraction) → suc k ≡ length ts → IsAtMost v (get_or ts k d)
unfolding IsStrictlySortedBy
last_greatest [] rising v c k d last = absurd (contains_nil v c)
last_greatest (t ∷ ts) rising v c zero d last = elim (contains_cons t ts v c) [
  | inl e ↦ subst (λ u. IsAtMost u t) e (omega arith)
  | inr c ↦ let short = c.1 in absurd (omega (arith, last, short))
]
last_greatest (t ∷ ts) rising v c (suc k) d last = elim (contains_cons t ts v c) [
  | inl e ↦ subst (λ u. IsAtMost u (get_or ts k d)) e
      (at_most_from_less t (get_or ts k d) (All-get_or (λ u. compare t u ≡ Less) ts k d (omega (arith, last)) (All-from_recursion (λ u. compare t u ≡ Less) ts rising.0)))
  | inr h ↦ last_greatest ts rising.1 v h k d (omega (arith, last))
]

-- The upper end of a gap is a candidate.
pub gap_upper : {F : Field} {E : ℕ} {f : Polynomial} {J : List Polynomial} {gap : Gap} → ComesInside F E f J gap → IsCandidate F.characteristic E gap.upper
unfolding gaps
gap_upper {F} {E} {gap = gap} G = All-contains (IsCandidate F.characteristic E) G.candidates gap.upper G.are_candidates.sound (upper_end zero_fraction G.candidates gap G.among)

module _ {F : Field} (L : IsField F) {f : Polynomial} (A : IsPolynomial F f) {J : List Polynomial} (P : ArePolynomials F J) where
  -- The test ideal at 0 isn't inside a proper ideal.
  pub zero_outside : IsProper F J → IsOutside F f J zero_fraction
  zero_outside proper =
      let none : ceil_times zero_fraction (F.characteristic ^ 0) ≡ 0 = ceil_times-whole zero_fraction (F.characteristic ^ 0) 0 (omega arith) in
      (0, λ inside. (nu_is_one L A P).at_zero 0 proper (subst (IsPowerInside F f J 0) none inside))

  -- That at 1 is inside each ideal that has f.
  one_inside : (t : Fraction) → t.numerator ≡ t.denominator → Member F J f → IsInside F f J t
  one_inside t one H e =
      let q : ℕ = F.characteristic ^ e in
      let product : t.numerator * q ≡ t.denominator * q = ap (λ n. n * q) one in
      let whole : ceil_times t q ≡ q = ceil_times-whole t q q (omega (arith, product)) in
      subst (IsPowerInside F f J e) (sym whole) (Member-frobenius_power L e P H)

  module _ (E : ℕ) {ts : List Fraction} (C : AreCandidates F.characteristic E ts) where
    abbrev one : Fraction
    one = record { numerator = 1; denominator = 1; positive = zero_fraction.positive }

    one_there : 1 ≤ E → (v : Fraction) × Contains ts v × SameValue one v
    one_there some = Any-element (SameValue one) ts (C.complete one (IsCandidate-one F.characteristic E one (omega (arith, characteristic_large L)) some refl))

    pub candidates_some : 1 ≤ E → 0 < length ts
    candidates_some some = let found = (one_there some).1 in let short = found.1 in omega (arith, short)

    pub last_inside : 1 ≤ E → Member F J f → (k : ℕ) (d : Fraction) → suc k ≡ length ts → IsInside F f J (get_or ts k d)
    last_inside some H k d last e =
        let found = one_there some in
        let same = found.2 in
        power_inside-more L A P e (ceil_times-le found.0 (get_or ts k d) (F.characteristic ^ e) (last_greatest ts C.rising found.0 found.1 k d last))
        (one_inside found.0 (omega (arith, same)) H e)

  -- The ends at which the bisection starts, and at which it ends.
  module _ (E : ℕ) {ends : List Fraction} (N : AreEnds F.characteristic E ends) where
    count : length ends ≡ suc (length N.candidates)
    count = ap (length {A = Fraction}) N.is

    pub ends_some : 1 ≤ E → 1 < length ends
    ends_some some = omega (arith, count, candidates_some E N.are_candidates some)

    pub first_outside : IsProper F J → (d : Fraction) → IsOutside F f J (get_or ends 0 d)
    first_outside proper d = subst (λ es. IsOutside F f J (get_or es 0 d)) (sym N.is) (zero_outside proper)

    pub end_inside : 1 ≤ E → Member F J f → (k : ℕ) (d : Fraction) → k + 1 ≡ length ends → IsInside F f J (get_or ends k d)
    end_inside some H zero d last = let more = ends_some some in absurd (omega (arith, last, more))
    end_inside some H (suc k) d last = subst (λ es. IsInside F f J (get_or es (suc k) d)) (sym N.is) (last_inside E N.are_candidates some H k d (omega (arith, last, count)))

    pub come_inside : (k l : ℕ) (s t : Fraction) → l ≡ suc k → l < length ends → get_or ends k s ≡ s → get_or ends l t ≡ t
        → ((d : Fraction) → IsOutside F f J (get_or ends k d)) → ((d : Fraction) → IsInside F f J (get_or ends l d)) → ComesInside F E f J (record { lower = s; upper = t })
    come_inside k l s t next short at_s at_t out inside = record {
      candidates = N.candidates;
      are_candidates = N.are_candidates;
      among = ends_among N k l s t next short at_s at_t;
      outside = subst (IsOutside F f J) at_s (out s);
      inside = subst (IsInside F f J) at_t (inside t);
    }

  -- Where the left limit at the upper end is inside (J), the gap has the threshold inside. Where it isn't, the upper end is it.
  module _ (E : ℕ) (gap : Gap) (G : ComesInside F E f J gap) {S : List Polynomial} (I : IsLeftLimit F f gap.upper S) where
    above : 0 < gap.upper.numerator
    above = upper_positive L A P E G.are_candidates gap G.among

    pub gap_of_threshold : Inside F S J → IsGapOfThreshold F E f J gap
    gap_of_threshold inside =
        let has = has_threshold L A P E G.are_candidates gap G.among G.outside ((left_limit_inside L A P gap.upper above I).0 inside) in
        record {
          candidates = G.candidates;
          are_candidates = G.are_candidates;
          among = G.among;
          has_threshold = has;
          only = λ other c H. only_gap L A P E G.are_candidates other gap c G.among H has;
        }

    pub upper_is_threshold : (Inside F S J → ⊥) → IsThreshold F f J gap.upper
    upper_is_threshold out = record { above_zero = above; inside = G.inside; outside = λ e inside. out ((left_limit_inside L A P gap.upper above I).1 (e, inside)) }
