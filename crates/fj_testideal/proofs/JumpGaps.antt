-- Between neighbours in a complete list of jumps the test ideal is constant.
use Rattle.std.proofs.Common.{◌≡◌, ◌⊎◌, inl, inr, ℕ, ◌<◌, ◌≤◌, List, [], ◌∷◌, map, Any, Contains, refl, sym, ◌∙◌, subst, arith, lit<}
use Rattle.std.specs.declared.cmp.Ordering.TheVariants.{Less}
use Rattle.std.specs.List.{AllByRecursion}
use Rattle.std.specs.List.Sorted.{IsStrictlySortedBy}
use Rattle.std.proofs.lemmas.List.Elements.{All-contains, All-from_recursion, recursion_from_All}
use Rattle.fj_coeff.specs.Field.{Field, IsField}
use Rattle.fj_algebra.proofs.Lists.{Any-element}
use Rattle.fj_algebra.proofs.Pairs.{contains_cons, contains_head, contains_tail, contains_nil, contains_map, contains_map_back, All-from_elements}
use Rattle.fj_theory.specs.Polynomial.{Polynomial, IsPolynomial}
use Rattle.fj_theory.specs.Fraction.{IsAtMost, Fraction, SameValue, compare}
use Rattle.fj_theory.specs.Candidates.{IsCandidate, Gap, neighbours, gaps}
use Rattle.fj_theory.proofs.Fraction.{compare-IsTotalOrder, compare-less, less_from_compare}
use Rattle.fj_theory.proofs.Candidates.{IsInUnitInterval-from_candidate}
use Rattle.fj_theory.proofs.Field.{characteristic_large}
use Rattle.fj_theory.proofs.Ideal.{SameIdeal-trans}
use Rattle.fj_testideal.specs.Jump.{IsConstant, IsUnchangedAt}
use Rattle.fj_testideal.specs.JumpList.{Jump, IsListedJump, AreJumps, IsComplete}
use Rattle.fj_testideal.proofs.TestIdeal.{IsTestIdeal-unique, IsLeftLimit-unique}
use Rattle.fj_testideal.proofs.Jump.{ArePolynomials-IsTestIdeal, left_limit_from_constant, constant_from_equal}
use Rattle.fj_testideal.proofs.ConstantInside.{at_most_less, less_at_most, IsAtMost-trans, constant-smaller}
use Rattle.fj_testideal.proofs.GapOrder.{lower_end, upper_end, outside_gap, gap_rises}

abbrev zero_fraction : Fraction
zero_fraction = record { numerator = 0; denominator = 1; positive = lit< tt }

module _ {F : Field} (L : IsField F) {f : Polynomial} (A : IsPolynomial F f) where
  -- Two intervals on which tau is constant, and between which it doesn't change, are one.
  joined : (s u t : Fraction) → compare s u ≡ Less → compare u t ≡ Less → IsConstant F f s u → IsUnchangedAt F f u → IsConstant F f u t → IsConstant F f s t
  joined s u t below above C H D =
      let less = compare-IsTotalOrder.trans s u t below above in
      let I = left_limit_from_constant L A s u below C in
      let K = left_limit_from_constant L A u t above D in
      let P = ArePolynomials-IsTestIdeal C.at_start in
      let Q = ArePolynomials-IsTestIdeal H.is_test_ideal in
      let R = ArePolynomials-IsTestIdeal D.at_start in
      constant_from_equal L A s t less C.at_start K (SameIdeal-trans L P Q R (IsLeftLimit-unique I H.is_left_limit) (IsTestIdeal-unique H.is_test_ideal D.at_start))

  -- A rising list on whose gaps tau is constant, and which changes at no member strictly between s and t.
  record IsQuiet (s t u : Fraction) (ts : List Fraction) : Type 0 where
    rising : IsStrictlySortedBy compare (u ∷ ts)
    constant : (gap : Gap) → Contains (neighbours u ts) gap → IsConstant F f gap.lower gap.upper
    unchanged : (v : Fraction) → Contains (u ∷ ts) v → compare s v ≡ Less → compare v t ≡ Less → IsUnchangedAt F f v

  module _ (s t : Fraction) where
    first_less : (u : Fraction) (ts : List Fraction) → IsQuiet s t u ts → (v : Fraction) → Contains ts v → compare u v ≡ Less
    unfolding IsStrictlySortedBy
    first_less u ts Q v c = All-contains (λ w. compare u w ≡ Less) ts v (All-from_recursion (λ w. compare u w ≡ Less) ts Q.rising.0) c

    quiet_rest : (u v : Fraction) (ts : List Fraction) → IsQuiet s t u (v ∷ ts) → IsQuiet s t v ts
    unfolding neighbours IsStrictlySortedBy
    quiet_rest u v ts Q = record {
      rising = Q.rising.1;
      constant = λ gap c. Q.constant gap (contains_tail (record { lower = u; upper = v }) (neighbours v ts) gap c);
      unchanged = λ w c. Q.unchanged w (contains_tail u (v ∷ ts) w c);
    }

    -- From s on, tau is constant up to t.
    walk : (u : Fraction) (ts : List Fraction) → (s ≡ u) ⊎ ((compare s u ≡ Less) × IsConstant F f s u) → IsQuiet s t u ts → Contains ts t → IsConstant F f s t
    unfolding neighbours
    walk u [] at Q c = absurd (contains_nil t c)
    walk u (v ∷ ts) at Q c = go at (contains_cons v ts t c) (λ d h. walk v ts (inr h) (quiet_rest u v ts Q) d)
      where
        next : IsConstant F f u v
        next = Q.constant (record { lower = u; upper = v }) (contains_head (record { lower = u; upper = v }) (neighbours v ts))

        up : compare u v ≡ Less
        up = first_less u (v ∷ ts) Q v (contains_head v ts)

        to_next : (s ≡ u) ⊎ ((compare s u ≡ Less) × IsConstant F f s u) → (compare s v ≡ Less) × IsConstant F f s v
        to_next (inl e) = (subst (λ w. compare w v ≡ Less) (sym e) up, subst (λ w. IsConstant F f w v) (sym e) next)
        to_next (inr h) =
            (compare-IsTotalOrder.trans s u v h.0 up, joined s u v h.0 up h.1 (Q.unchanged u (contains_head u (v ∷ ts)) h.0 (first_less u (v ∷ ts) Q t c)) next)

        go : (s ≡ u) ⊎ ((compare s u ≡ Less) × IsConstant F f s u) → (v ≡ t) ⊎ Contains ts t
            → (Contains ts t → (compare s v ≡ Less) × IsConstant F f s v → IsConstant F f s t) → IsConstant F f s t
        go at (inl e) later = subst (IsConstant F f s) e (to_next at).1
        go at (inr d) later = later d (to_next at)

    not_less : (u v : Fraction) → compare u v ≡ Less → compare v u ≡ Less → ⊥
    not_less u v h k = omega (arith, less_from_compare u v h, less_from_compare v u k)

    -- Between two members of the list.
    between_members : (u : Fraction) (ts : List Fraction) → IsQuiet s t u ts → Contains (u ∷ ts) s → Contains (u ∷ ts) t → compare s t ≡ Less → IsConstant F f s t
    between_members u [] Q c d less = elim (contains_cons u [] s c) [
      | inr none ↦ absurd (contains_nil s none)
      | inl e ↦ elim (contains_cons u [] t d) [
        | inr none ↦ absurd (contains_nil t none)
        | inl g ↦ absurd (not_less s s (subst (λ w. compare s w ≡ Less) (sym g ∙ e) less) (subst (λ w. compare s w ≡ Less) (sym g ∙ e) less))
      ]
    ]
    between_members u (v ∷ ts) Q c d less = go (contains_cons u (v ∷ ts) s c) (contains_cons u (v ∷ ts) t d) (λ k m. between_members v ts (quiet_rest u v ts Q) k m less)
      where
        go : (u ≡ s) ⊎ Contains (v ∷ ts) s → (u ≡ t) ⊎ Contains (v ∷ ts) t → (Contains (v ∷ ts) s → Contains (v ∷ ts) t → IsConstant F f s t) → IsConstant F f s t
        go (inl e) (inl g) later = absurd (not_less s s (subst (λ w. compare s w ≡ Less) (sym g ∙ e) less) (subst (λ w. compare s w ≡ Less) (sym g ∙ e) less))
        go (inl e) (inr m) later = walk u (v ∷ ts) (inl (sym e)) Q m
        go (inr k) (inl g) later = absurd (not_less s t less (subst (λ w. compare w s ≡ Less) g (first_less u (v ∷ ts) Q s k)))
        go (inr k) (inr m) later = later k m

  module _ (E : ℕ) (some : 1 ≤ E) {jumps : List Jump} (are : AreJumps F f E jumps) (complete : IsComplete F f E) where
    positive : 0 < F.characteristic
    positive = omega (arith, characteristic_large L)

    candidate_of : (v : Fraction) → Contains (map (λ jump. jump.at) jumps) v → IsCandidate F.characteristic E v
    candidate_of v c =
        let found = contains_map_back (λ jump. jump.at) jumps v c in
        subst (IsCandidate F.characteristic E) found.2 (All-contains (IsListedJump F f E) jumps found.0 are.sound found.1).candidate

    above_zero : (v : Fraction) → IsCandidate F.characteristic E v → compare zero_fraction v ≡ Less
    above_zero v candidate = compare-less zero_fraction v (omega (arith, (IsInUnitInterval-from_candidate F.characteristic E v positive candidate).above_zero))

    all_above : (ts : List Fraction) → ((v : Fraction) → Contains ts v → IsCandidate F.characteristic E v) → AllByRecursion (λ v. compare zero_fraction v ≡ Less) ts
    all_above ts each = recursion_from_All (λ v. compare zero_fraction v ≡ Less) ts (All-from_elements (λ v. compare zero_fraction v ≡ Less) ts (λ v c. above_zero v (each v c)))

    own_candidate : (v : Fraction) → Contains complete.candidates v → IsCandidate F.characteristic E v
    own_candidate v c = All-contains (IsCandidate F.characteristic E) complete.candidates v complete.are_candidates.sound c

    from_zero : IsStrictlySortedBy compare (zero_fraction ∷ complete.candidates)
    unfolding IsStrictlySortedBy
    from_zero = (all_above complete.candidates own_candidate, complete.are_candidates.rising)

    -- The place of a candidate in the list.
    member_of : (v : Fraction) → IsCandidate F.characteristic E v → (w : Fraction) × Contains (zero_fraction ∷ complete.candidates) w × SameValue v w
    member_of v candidate =
        let found = Any-element (SameValue v) complete.candidates (complete.are_candidates.complete v candidate) in
        (found.0, contains_tail zero_fraction complete.candidates found.0 found.1, found.2)

    module _ (gap : Gap) (among : Contains (gaps (map (λ jump. jump.at) jumps)) gap) where
      rises : compare gap.lower gap.upper ≡ Less
      unfolding gaps
      rises = gap_rises zero_fraction (map (λ jump. jump.at) jumps) (all_above (map (λ jump. jump.at) jumps) candidate_of) are.rising gap among

      lower_member : (w : Fraction) × Contains (zero_fraction ∷ complete.candidates) w × SameValue gap.lower w
      unfolding gaps
      lower_member = elim (lower_end zero_fraction (map (λ jump. jump.at) jumps) gap among) [
        | inl e ↦ (zero_fraction, contains_head zero_fraction complete.candidates, subst (λ w. SameValue w zero_fraction) e refl)
        | inr c ↦ member_of gap.lower (candidate_of gap.lower c)
      ]

      upper_member : (w : Fraction) × Contains (zero_fraction ∷ complete.candidates) w × SameValue gap.upper w
      unfolding gaps
      upper_member = member_of gap.upper (candidate_of gap.upper (upper_end zero_fraction (map (λ jump. jump.at) jumps) gap among))

      -- A candidate strictly between the ends isn't listed.
      not_listed : (x : Fraction) → compare gap.lower x ≡ Less → compare x gap.upper ≡ Less → Any (λ jump. SameValue x jump.at) jumps → ⊥
      unfolding gaps
      not_listed x above below listed =
          let found = Any-element (λ jump. SameValue x jump.at) jumps listed in
          let same : SameValue x found.0.at = found.2 in
          elim (outside_gap zero_fraction (map (λ jump. jump.at) jumps) are.rising gap among found.0.at (contains_map (λ jump. jump.at) jumps found.0 found.1)) [
            | inl under ↦ not_both x gap.lower (IsAtMost-trans x found.0.at gap.lower (omega (arith, same)) under) above
            | inr over ↦ not_both gap.upper x (IsAtMost-trans gap.upper found.0.at x over (omega (arith, same))) below
          ]
        where
          not_both : (u v : Fraction) → IsAtMost u v → compare v u ≡ Less → ⊥
          not_both u v h k = omega (arith, h, less_from_compare v u k)

      pub constant_between : IsConstant F f gap.lower gap.upper
      unfolding gaps
      constant_between =
          let s = lower_member.0 in
          let t = upper_member.0 in
          let same_lower : SameValue gap.lower s = lower_member.2 in
          let same_upper : SameValue gap.upper t = upper_member.2 in
          let less = less_at_most s gap.upper t (at_most_less s gap.lower gap.upper (omega (arith, same_lower)) rises) (omega (arith, same_upper)) in
          let quiet : IsQuiet s t zero_fraction complete.candidates = record {
            rising = from_zero;
            constant = λ inner c. elim (complete.constant_or_open inner c) [ inl C ↦ C | inr listed ↦ absurd (contains_nil inner listed) ];
            unchanged = λ x c above below. elim (contains_cons zero_fraction complete.candidates x c) [
              | inl e ↦ absurd (less_than_zero s (subst (λ w. compare s w ≡ Less) (sym e) above))
              | inr d ↦ elim (are.listed_or_unchanged x (own_candidate x d)) [
                | inl listed ↦ absurd (not_listed x (at_most_less gap.lower s x (omega (arith, same_lower)) above) (less_at_most x t gap.upper below (omega (arith, same_upper))) listed)
                | inr same ↦ same
              ]
            ];
          } in
          constant-smaller L A s t less (between_members s t zero_fraction complete.candidates quiet lower_member.1 upper_member.1 less)
          gap.lower gap.upper (omega (arith, same_lower)) rises (omega (arith, same_upper))
        where
          less_than_zero : (v : Fraction) → compare v zero_fraction ≡ Less → ⊥
          less_than_zero v h = omega (arith, less_from_compare v zero_fraction h)
