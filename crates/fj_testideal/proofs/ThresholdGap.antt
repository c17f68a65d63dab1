-- The gap of the candidates that has the threshold inside.
use Rattle.std.proofs.Common.{◌≡◌, ◌↔◌, ◌⊎◌, inl, inr, ℕ, ◌-◌, ◌*◌, ◌^◌, ◌<◌, ◌≤◌, List, [], ◌∷◌, All, Any, Contains, refl, sym, ap, subst, arith, lit<}
use Rattle.std.proofs.lemmas.List.Elements.{All-nil, All-cons, All-head, All-tail, All-contains}
use Rattle.fj_coeff.specs.Field.{Field, IsField}
use Rattle.fj_algebra.proofs.Lists.{Any-head, Any-tail, Any-element}
use Rattle.fj_algebra.proofs.Pairs.{contains_head, contains_tail, All-from_elements}
use Rattle.fj_theory.specs.Polynomial.{Polynomial, IsPolynomial}
use Rattle.fj_theory.specs.Ideal.{ArePolynomials, Member, Inside}
use Rattle.fj_theory.specs.Fraction.{IsAtMost, Fraction, SameValue, ceil_times}
use Rattle.fj_theory.specs.Candidates.{IsCandidate, AreCandidates, Gap, neighbours, gaps}
use Rattle.fj_theory.proofs.Fraction.{ceil_times-le, ceil_times-whole}
use Rattle.fj_theory.proofs.Candidates.{IsCandidate-one, IsInUnitInterval-from_candidate}
use Rattle.fj_theory.proofs.Field.{characteristic_large}
use Rattle.fj_theory.proofs.Ideal.{Inside-head}
use Rattle.fj_theory.proofs.FrobeniusPower.{Member-frobenius_power}
use Rattle.fj_testideal.proofs.TestIdeal.{test_ideal-zero}
use Rattle.fj_testideal.specs.TestIdeal.{IsTestIdeal, IsLeftLimit}
use Rattle.fj_testideal.specs.Threshold.{IsProper, IsPowerInside, IsThreshold, HasThresholdInside}
use Rattle.fj_testideal.specs.ThresholdLaws.{IsDecidedAt, HasOneGap}
use Rattle.fj_testideal.proofs.GapOrder.{upper_end, outside_gap, gaps_apart}
use Rattle.fj_testideal.proofs.Threshold.{power_inside_by_root, power_inside-more, test_ideal_inside, left_limit_inside, threshold_by_limits, ceiling_inside_above, threshold_is_one}

module _ {F : Field} (L : IsField F) {f : Polynomial} (A : IsPolynomial F f) {J : List Polynomial} (P : ArePolynomials F J) where
  -- Some f^ceil(t*p^e) isn't in (J^[q]); some f^(ceil(t*p^e) - 1) is.
  abbrev pub IsLow : Fraction → Type 0
  IsLow t = (e : ℕ) × (IsPowerInside F f J e (ceil_times t (F.characteristic ^ e)) → ⊥)

  abbrev pub IsHigh : Fraction → Type 0
  IsHigh t = (e : ℕ) × IsPowerInside F f J e (ceil_times t (F.characteristic ^ e) - 1)

  pub low_from_test_ideal : (t : Fraction) {T : List Polynomial} → IsTestIdeal F f t T → (Inside F T J → ⊥) → IsLow t
  low_from_test_ideal t K n = (K.start, λ inside. n ((power_inside_by_root L A P K.start _ (K.root K.start (omega arith))).0 inside))

  module _ (E : ℕ) {ts : List Fraction} (C : AreCandidates F.characteristic E ts) where
    positive : (t : Fraction) → Contains ts t → 0 < t.numerator
    positive t c = (IsInUnitInterval-from_candidate F.characteristic E t (omega (arith, characteristic_large L)) (All-contains (IsCandidate F.characteristic E) ts t C.sound c)).above_zero

    module _ (gap : Gap) (among : Contains (gaps ts) gap) where
      pub upper_positive : 0 < gap.upper.numerator
      unfolding gaps
      upper_positive = positive gap.upper (upper_end _ ts gap among)

      -- A gap whose lower end is low and whose upper end is high has the threshold inside.
      pub has_threshold : IsLow gap.lower → IsHigh gap.upper → HasThresholdInside F f J E gap
      unfolding gaps
      has_threshold low high = record { no_candidate = none; low = low.0; outside = low.1; high = high.0; inside = high.1 }
        where
          none : (u : Fraction) → IsCandidate F.characteristic E u → IsThreshold F f J u → ⊥
          none u candidate h =
              let found = Any-element (SameValue u) ts (C.complete u candidate) in
              let v = found.0 in
              let k = (threshold_is_one L A P).same u v found.2 h in
              at_member v k (in_gaps v found.1)
            where
              in_gaps : (v : Fraction) → Contains ts v → IsAtMost v gap.lower ⊎ IsAtMost gap.upper v
              in_gaps v c = outside_gap _ ts C.rising gap among v c

              at_member : (v : Fraction) → IsThreshold F f J v → IsAtMost v gap.lower ⊎ IsAtMost gap.upper v → ⊥
              at_member v k (inl under) = low.1 (power_inside-more L A P low.0 (ceil_times-le v gap.lower (F.characteristic ^ low.0) under) (k.inside low.0))
              at_member v k (inr over) =
                  let more = ceil_times-le gap.upper v (F.characteristic ^ high.0) over in
                  k.outside high.0 (power_inside-more L A P high.0 (omega (arith, more)) high.1)

      pub gap_by_limits : {S T : List Polynomial} → IsLeftLimit F f gap.upper S → IsTestIdeal F f gap.lower T
          → HasThresholdInside F f J E gap ↔ ((Inside F T J → ⊥) × Inside F S J)
      gap_by_limits I K = (
        λ h. (λ i. h.outside ((test_ideal_inside L A P gap.lower K).0 i h.low), (left_limit_inside L A P gap.upper upper_positive I).1 (h.high, h.inside)),
        λ h. has_threshold (low_from_test_ideal gap.lower K h.0) ((left_limit_inside L A P gap.upper upper_positive I).0 h.1),
      )

    -- No gap before another one with the threshold inside has it inside too.
    not_both : (g h : Gap) → Contains (gaps ts) g → IsAtMost g.upper h.lower → HasThresholdInside F f J E g → HasThresholdInside F f J E h → ⊥
    not_both g h c before G H = H.outside (ceiling_inside_above L A P h.lower g.upper (upper_positive g c) before G.high G.inside H.low)

    pub only_gap : (g h : Gap) → Contains (gaps ts) g → Contains (gaps ts) h → HasThresholdInside F f J E g → HasThresholdInside F f J E h → g ≡ h
    unfolding gaps
    only_gap g h c d G H = elim (gaps_apart _ ts C.rising g h c d) [
      | inl e ↦ e
      | inr (inl before) ↦ absurd (not_both g h c before G H)
      | inr (inr before) ↦ absurd (not_both h g d before H G)
    ]

  -- A gap whose lower end is low and whose upper end is high.
  record Found (gs : List Gap) : Type 0 where
    gap : Gap
    among : Contains gs gap
    low : IsLow gap.lower
    high : IsHigh gap.upper

  -- Going up the list: a member is the threshold, or a gap is found, or each member is low.
  walk : (s : Fraction) (ts : List Fraction) → IsLow s → All (IsDecidedAt F f J) ts → All (λ t. 0 < t.numerator) ts
      → Any (IsThreshold F f J) ts ⊎ (Found (neighbours s ts) ⊎ All IsLow ts)
  unfolding neighbours
  walk s [] low decided above = inr (inr (All-nil IsLow))
  walk s (t ∷ ts) low decided above =
      go (All-head (IsDecidedAt F f J) t ts decided) (All-head (λ t. 0 < t.numerator) t ts above)
      (λ low. walk t ts low (All-tail (IsDecidedAt F f J) t ts decided) (All-tail (λ t. 0 < t.numerator) t ts above))
    where
      further : IsLow t → Any (IsThreshold F f J) ts ⊎ (Found (neighbours t ts) ⊎ All IsLow ts)
          → Any (IsThreshold F f J) (t ∷ ts) ⊎ (Found (record { lower = s; upper = t } ∷ neighbours t ts) ⊎ All IsLow (t ∷ ts))
      further here (inl some) = inl (Any-tail (IsThreshold F f J) t ts some)
      further here (inr (inl found)) = inr (inl (record {
        gap = found.gap;
        among = contains_tail (record { lower = s; upper = t }) (neighbours t ts) found.gap found.among;
        low = found.low;
        high = found.high;
      }))
      further here (inr (inr all)) = inr (inr (All-cons IsLow t ts here all))

      at_test : (D : IsDecidedAt F f J t) → 0 < t.numerator → (Inside F D.left J → ⊥) → Dec (Inside F D.test J)
          → (IsLow t → Any (IsThreshold F f J) ts ⊎ (Found (neighbours t ts) ⊎ All IsLow ts))
          → Any (IsThreshold F f J) (t ∷ ts) ⊎ (Found (record { lower = s; upper = t } ∷ neighbours t ts) ⊎ All IsLow (t ∷ ts))
      at_test D positive n (yes i) later = inl (Any-head (IsThreshold F f J) t ts ((threshold_by_limits L A P t positive D.is_left_limit D.is_test_ideal).1 (i, n)))
      at_test D positive n (no m) later = let here = low_from_test_ideal t D.is_test_ideal m in further here (later here)

      at_left : (D : IsDecidedAt F f J t) → 0 < t.numerator → Dec (Inside F D.left J)
          → (IsLow t → Any (IsThreshold F f J) ts ⊎ (Found (neighbours t ts) ⊎ All IsLow ts))
          → Any (IsThreshold F f J) (t ∷ ts) ⊎ (Found (record { lower = s; upper = t } ∷ neighbours t ts) ⊎ All IsLow (t ∷ ts))
      at_left D positive (yes i) later = inr (inl (record {
        gap = record { lower = s; upper = t };
        among = contains_head (record { lower = s; upper = t }) (neighbours t ts);
        low = low;
        high = (left_limit_inside L A P t positive D.is_left_limit).0 i;
      }))
      at_left D positive (no n) later = at_test D positive n D.test_inside later

      go : (D : IsDecidedAt F f J t) → 0 < t.numerator → (IsLow t → Any (IsThreshold F f J) ts ⊎ (Found (neighbours t ts) ⊎ All IsLow ts))
          → Any (IsThreshold F f J) (t ∷ ts) ⊎ (Found (record { lower = s; upper = t } ∷ neighbours t ts) ⊎ All IsLow (t ∷ ts))
      go D positive later = at_left D positive D.left_inside later

  -- The walk from 0, at which the test ideal is (1).
  walk_from_zero : IsProper F J → (ts : List Fraction) → All (IsDecidedAt F f J) ts → All (λ t. 0 < t.numerator) ts
      → Any (IsThreshold F f J) ts ⊎ (Found (gaps ts) ⊎ All IsLow ts)
  unfolding gaps
  walk_from_zero proper ts decided above =
      let zero_fraction : Fraction = record { numerator = 0; denominator = 1; positive = lit< tt } in
      walk zero_fraction ts (low_from_test_ideal zero_fraction (test_ideal-zero L A zero_fraction refl) (λ i. proper (Inside-head i))) decided above

  module _ (proper : IsProper F J) (H : Member F J f) (E : ℕ) (some : 1 ≤ E) {ts : List Fraction} (C : AreCandidates F.characteristic E ts)
      (decided : All (IsDecidedAt F f J) ts) where
    -- 1 isn't low, since f is in (J).
    one_high : (t : Fraction) → t.numerator ≡ t.denominator → IsLow t → ⊥
    one_high t one low =
        let q : ℕ = F.characteristic ^ low.0 in
        let product : t.numerator * q ≡ t.denominator * q = ap (λ n. n * q) one in
        let whole : ceil_times t q ≡ q = ceil_times-whole t q q (omega (arith, product)) in
        low.1 (subst (IsPowerInside F f J low.0) (sym whole) (Member-frobenius_power L low.0 P H))

    -- Not each candidate is low.
    some_high : All IsLow ts → ⊥
    some_high all =
        let one : Fraction = record { numerator = 1; denominator = 1; positive = lit< tt } in
        let found = Any-element (SameValue one) ts (C.complete one (IsCandidate-one F.characteristic E one (omega (arith, characteristic_large L)) some refl)) in
        let same = found.2 in
        one_high found.0 (omega (arith, same)) (All-contains IsLow ts found.0 all found.1)

    one_gap : Found (gaps ts) → HasOneGap F f J E (gaps ts)
    one_gap found =
        let has = has_threshold E C found.gap found.among found.low found.high in
        record { gap = found.gap; among = found.among; has_threshold = has; only = λ other c G. only_gap E C other found.gap c found.among G has }

    pub at_or_between : Any (IsThreshold F f J) ts ⊎ HasOneGap F f J E (gaps ts)
    at_or_between = elim (walk_from_zero proper ts decided (All-from_elements (λ t. 0 < t.numerator) ts (positive E C))) [
      | inl at ↦ inl at
      | inr (inl found) ↦ inr (one_gap found)
      | inr (inr all) ↦ absurd (some_high all)
    ]

    -- Where no candidate is the threshold, one gap has it inside.
    pub in_one_gap : ((t : Fraction) → IsCandidate F.characteristic E t → IsThreshold F f J t → ⊥) → HasOneGap F f J E (gaps ts)
    in_one_gap none = elim at_or_between [
      | inl at ↦ (let found = Any-element (IsThreshold F f J) ts at in
          absurd (none found.0 (All-contains (IsCandidate F.characteristic E) ts found.0 C.sound found.1) found.2))
      | inr one ↦ one
    ]
