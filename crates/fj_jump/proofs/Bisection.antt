-- What the ends of an interval of exponents tell of it, and what two halves tell of the whole.
use Rattle.std.proofs.Common.{◌≡◌, inl, inr, ◌<◌, List, [], ◌∷◌, ◌++◌, Contains, refl, sym, ap, ◌∙◌, subst, arith}
use Rattle.std.proofs.lemmas.List.{append_assoc, append-nil}
use Rattle.std.specs.declared.cmp.Ordering.TheVariants.{Less}
use Rattle.std.specs.List.{AllByRecursion}
use Rattle.std.specs.List.Sorted.{IsStrictlySortedBy}
use Rattle.std.proofs.lemmas.List.Elements.{All-contains, All-from_recursion, Contains-append_left, Contains-push, Contains-push_cases}
use Rattle.fj_coeff.specs.Field.{Field, IsField}
use Rattle.fj_algebra.proofs.Pairs.{contains_cons, contains_nil}
use Rattle.fj_theory.specs.Candidates.{Gap, neighbours}
use Rattle.fj_theory.specs.Fraction.{Fraction, IsAtMost, compare}
use Rattle.fj_theory.specs.Ideal.{SameIdeal}
use Rattle.fj_theory.specs.Polynomial.{Polynomial, IsPolynomial}
use Rattle.fj_ideal.specs.Ideal.{IsIdeal, WithBasis}
use Rattle.fj_testideal.specs.Jump.{IsConstant, IsUnchangedAt}
use Rattle.fj_testideal.specs.TestIdeal.{IsLeftLimit, IsTestIdeal}
use Rattle.fj_testideal.proofs.ConstantInside.{at_most_from_less, constant-smaller, left_limit-inside_constant, test_ideal-inside_constant}
use Rattle.fj_testideal.proofs.GapOrder.{gap_rises, lower_end, upper_end}
use Rattle.fj_testideal.proofs.Jump.{ArePolynomials-IsTestIdeal, change_from_open, constant_from_equal, equal_from_constant, jump_from_difference}
use Rattle.fj_testideal.proofs.TestIdeal.{IsLeftLimit-SameIdeal}
use Rattle.fj_chain.specs.Lists.{IsLastTestList}
use Rattle.fj_jump.specs.declared.rows.GapRow.{GapRow}
use Rattle.fj_jump.specs.declared.rows.JumpRow.{JumpRow}
use Rattle.fj_jump.specs.Search.{AreFoundBetween, AreRowsOfGaps, AreRowsOfJumps, HasRowWhereChanged, IsRowOfGap, IsRowOfJump, RiseBetween}
use Rattle.fj_jump.proofs.Chosen.{chosen_append, chosen_none}

-- The gaps of a list in two parts that share the exponent m.
neighbours_append : (s m : Fraction) (ts us : List Fraction) → neighbours s (ts ++ m ∷ us) ≡ neighbours s (ts ++ m ∷ []) ++ neighbours m us
unfolding neighbours
neighbours_append s m [] us = refl
neighbours_append s m (t ∷ ts) us = ap (λ gaps. record { lower = s; upper = t } ∷ gaps) (neighbours_append t m ts us)

above_left : (P : Fraction → Type 0) (ts us : List Fraction) → AllByRecursion P (ts ++ us) → AllByRecursion P ts
above_left P [] us h = tt
above_left P (t ∷ ts) us h = (h.0, above_left P ts us h.1)

-- Parts of a rising list rise.
rising_left : (ts us : List Fraction) → IsStrictlySortedBy compare (ts ++ us) → IsStrictlySortedBy compare ts
unfolding IsStrictlySortedBy
rising_left [] us h = tt
rising_left (t ∷ ts) us h = (above_left (λ u. compare t u ≡ Less) ts us h.0, rising_left ts us h.1)

rising_right : (ts us : List Fraction) → IsStrictlySortedBy compare (ts ++ us) → IsStrictlySortedBy compare us
unfolding IsStrictlySortedBy
rising_right [] us h = h
rising_right (t ∷ ts) us h = rising_right ts us h.1

module _ (s m t : Fraction) (below above : List Fraction) (rising : RiseBetween s (below ++ m ∷ above) t) where
  pub lower_rises : RiseBetween s below m
  lower_rises =
      let parted : (below ++ m ∷ above) ++ t ∷ [] ≡ (below ++ m ∷ []) ++ (above ++ t ∷ []) =
      append_assoc below (m ∷ above) (t ∷ []) ∙ sym (append_assoc below (m ∷ []) (above ++ t ∷ []))
      in
      rising_left (s ∷ (below ++ m ∷ [])) (above ++ t ∷ []) (subst (λ ts. IsStrictlySortedBy compare (s ∷ ts)) parted rising)

  pub upper_rises : RiseBetween m above t
  upper_rises = rising_right (s ∷ below) (m ∷ (above ++ t ∷ [])) (subst (λ ts. IsStrictlySortedBy compare (s ∷ ts)) (append_assoc below (m ∷ above) (t ∷ [])) rising)

module _ (s t : Fraction) (ts : List Fraction) (rising : RiseBetween s ts t) where
  above_first : (v : Fraction) → Contains (ts ++ t ∷ []) v → compare s v ≡ Less
  unfolding IsStrictlySortedBy
  above_first v c = All-contains (λ u. compare s u ≡ Less) (ts ++ t ∷ []) v (All-from_recursion (λ u. compare s u ≡ Less) (ts ++ t ∷ []) rising.0) c

  gap_is_rising : (gap : Gap) → Contains (neighbours s (ts ++ t ∷ [])) gap → compare gap.lower gap.upper ≡ Less
  unfolding IsStrictlySortedBy
  gap_is_rising gap c = gap_rises s (ts ++ t ∷ []) rising.0 rising.1 gap c

  pub ends_rise : compare s t ≡ Less
  ends_rise = above_first t (Contains-push ts t)

below_last : (t : Fraction) (ts : List Fraction) → IsStrictlySortedBy compare (ts ++ t ∷ []) → (v : Fraction) → Contains ts v → compare v t ≡ Less
unfolding IsStrictlySortedBy
below_last t [] rising v c = absurd (contains_nil v c)
below_last t (u ∷ ts) rising v c = elim (contains_cons u ts v c) [
  | inl e ↦ subst (λ w. compare w t ≡ Less) e (All-contains (λ w. compare u w ≡ Less) (ts ++ t ∷ []) t (All-from_recursion (λ w. compare u w ≡ Less) (ts ++ t ∷ []) rising.0) (Contains-push ts t))
  | inr d ↦ below_last t ts rising.1 v d
]

module _ {K : Type 0} {F : Field} (L : IsField F) {f : Polynomial} (A : IsPolynomial F f) where
  -- An interval is settled where the test ideal at its lower end is the left limit at its upper end: no exponent inside is an
  -- F-jumping number, and tau is constant on each gap.
  pub settled_by_ends : (s t : Fraction) (ts : List Fraction) {S T : List Polynomial} → RiseBetween s ts t → IsTestIdeal F f s S → IsLeftLimit F f t T → SameIdeal F S T
      → AreFoundBetween {K = K} F f s ts t [] []
  unfolding IsStrictlySortedBy
  settled_by_ends s t ts {S} {T} rising I J same = record {
    jumps_are = chosen_none (IsUnchangedAt F f) (IsRowOfJump F f) ts unchanged;
    gaps_are = chosen_none (λ gap. IsConstant F f gap.lower gap.upper) (IsRowOfGap F f) (neighbours s (ts ++ t ∷ [])) constant;
  }
    where
      less : compare s t ≡ Less
      less = ends_rise s t ts rising

      whole : IsConstant F f s t
      whole = constant_from_equal L A s t less I J same

      unchanged : (r : Fraction) → Contains ts r → IsUnchangedAt F f r
      unchanged r c =
          let above = above_first s t ts rising r (Contains-append_left ts (t ∷ []) r c) in
          let below = below_last t ts rising.1 r c in
          record {
            ideal = whole.ideal;
            is_test_ideal = test_ideal-inside_constant L A s t less whole r (at_most_from_less s r above) below;
            is_left_limit = left_limit-inside_constant L A s t less whole r above (at_most_from_less r t below);
          }

      from : (gap : Gap) → Contains (neighbours s (ts ++ t ∷ [])) gap → IsAtMost s gap.lower
      from gap c = elim (lower_end s (ts ++ t ∷ []) gap c) [
        | inl e ↦ subst (IsAtMost s) e (omega arith)
        | inr d ↦ at_most_from_less s gap.lower (above_first s t ts rising gap.lower d)
      ]

      to : (gap : Gap) → Contains (neighbours s (ts ++ t ∷ [])) gap → IsAtMost gap.upper t
      to gap c = elim (Contains-push_cases ts t gap.upper (upper_end s (ts ++ t ∷ []) gap c)) [
        | inl d ↦ at_most_from_less gap.upper t (below_last t ts rising.1 gap.upper d)
        | inr e ↦ subst (λ u. IsAtMost u t) e (omega arith)
      ]

      constant : (gap : Gap) → Contains (neighbours s (ts ++ t ∷ [])) gap → IsConstant F f gap.lower gap.upper
      constant gap c = constant-smaller L A s t less whole gap.lower gap.upper (from gap c) (gap_is_rising s t ts rising gap c) (to gap c)

  -- A gap between neighbours is open where they differ.
  pub open_by_ends : (s t : Fraction) {S T : List Polynomial} → RiseBetween s [] t → IsTestIdeal F f s S → IsLeftLimit F f t T → (SameIdeal F S T → ⊥)
      → AreFoundBetween {K = K} F f s [] t [] (record { from = s; to = t } ∷ [])
  unfolding neighbours
  open_by_ends s t {S} {T} rising I J differ =
      let less = ends_rise s t [] rising in
      let row : GapRow = record { from = s; to = t } in
      record {
        jumps_are = refl;
        gaps_are = inr (
          row,
          [],
          refl,
          record {
            is = refl;
            change = record { ideal = S; at_lower = I; change = change_from_open L A s t less I J (λ C. differ (equal_from_constant L A s t less I J C)) };
          },
          refl,
        );
      }

  -- An exponent is an F-jumping number where its test ideal isn't the left limit.
  pub rows_at : (t : Fraction) {S : List Polynomial} (T : WithBasis) (before after : List (JumpRow K)) → 0 < t.numerator → IsLeftLimit F f t S → IsTestIdeal F f t T.given
      → IsLastTestList F f t T.given → IsIdeal F T → HasRowWhereChanged F t S T before after
      → (more : List (JumpRow K)) × (after ≡ before ++ more) × AreRowsOfJumps F f (t ∷ []) more
  rows_at t {S} T before after above J I last ideal (inl h) = (
    [],
    h.1 ∙ sym (append-nil before),
    inl (record { ideal = T.given; is_test_ideal = I; is_left_limit = IsLeftLimit-SameIdeal L A t J (ArePolynomials-IsTestIdeal I) h.0 }, refl),
  )
  rows_at t {S} T before after above J I last ideal (inr h) =
      let row : JumpRow K = record { at = t; ideal = T } in (
        row ∷ [],
        h.1,
        inr (row, [], refl, record { at = refl; is_jump = jump_from_difference L A t above J I h.0; is_test_ideal = I; made = record { last = last; ideal = ideal } }, refl),
      )

  -- Both halves, and the exponent between them.
  pub halves_joined : (s m t : Fraction) (below above : List Fraction) (first middle second : List (JumpRow K)) (lower upper : List GapRow) → AreFoundBetween F f s below m first lower
      → AreRowsOfJumps F f (m ∷ []) middle → AreFoundBetween F f m above t second upper → AreFoundBetween F f s (below ++ m ∷ above) t ((first ++ middle) ++ second) (lower ++ upper)
  halves_joined s m t below above first middle second lower upper H M U = record {
    jumps_are =
        subst (λ ts. AreRowsOfJumps F f ts ((first ++ middle) ++ second)) (append_assoc below (m ∷ []) above)
        (chosen_append (IsUnchangedAt F f) (IsRowOfJump F f) (below ++ m ∷ []) above (first ++ middle) second
        (chosen_append (IsUnchangedAt F f) (IsRowOfJump F f) below (m ∷ []) first middle H.jumps_are M) U.jumps_are);
    gaps_are =
        subst (λ gaps. AreRowsOfGaps F f gaps (lower ++ upper)) (sym gaps_parted)
        (chosen_append (λ gap. IsConstant F f gap.lower gap.upper) (IsRowOfGap F f) (neighbours s (below ++ m ∷ [])) (neighbours m (above ++ t ∷ [])) lower upper H.gaps_are U.gaps_are);
  }
    where
      gaps_parted : neighbours s ((below ++ m ∷ above) ++ t ∷ []) ≡ neighbours s (below ++ m ∷ []) ++ neighbours m (above ++ t ∷ [])
      gaps_parted = ap (neighbours s) (append_assoc below (m ∷ above) (t ∷ [])) ∙ neighbours_append s m below (above ++ t ∷ [])
