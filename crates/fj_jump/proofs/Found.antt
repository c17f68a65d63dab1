-- What the rows of the whole interval from 0 to 1 tell: the F-jumping numbers of C_E, and its open gaps.
use Rattle.std.proofs.Common.{◌≡◌, ◌↔◌, ◌⊎◌, inl, inr, ℕ, ◌+◌, ◌-◌, ◌<◌, ◌≤◌, List, [], ◌∷◌, ◌++◌, length, take, get_or, map, All, Any, Contains, refl, sym, ap, ◌∙◌, subst, arith}
use Rattle.std.specs.declared.cmp.Ordering.TheVariants.{Less}
use Rattle.std.specs.List.{AllByRecursion}
use Rattle.std.specs.List.Sorted.{IsStrictlySortedBy}
use Rattle.std.proofs.lemmas.List.{length-append, map-id, take_all, take_more}
use Rattle.std.proofs.lemmas.List.Elements.{All-contains, All-map, recursion_from_All, Contains-append_left, Contains-push}
use Rattle.fj_coeff.specs.Field.{Field, IsField}
use Rattle.fj_algebra.proofs.Lists.{Any-element}
use Rattle.fj_algebra.proofs.Pairs.{All-from_elements, contains_map, contains_map_back, contains_nil}
use Rattle.fj_theory.specs.Candidates.{AreCandidates, Gap, IsCandidate, gaps, neighbours}
use Rattle.fj_theory.specs.Fraction.{Fraction, IsInUnitInterval, SameValue, compare}
use Rattle.fj_theory.specs.Polynomial.{Polynomial, IsPolynomial}
use Rattle.fj_theory.proofs.Candidates.{IsCandidate-one, IsInUnitInterval-from_candidate}
use Rattle.fj_theory.proofs.Field.{characteristic_large}
use Rattle.fj_theory.proofs.Fraction.{SameValue-sym, compare-less}
use Rattle.fj_ideal.specs.Ideal.{IsIdeal, WithBasis}
use Rattle.fj_testideal.specs.Jump.{IsConstant, IsJump, IsUnchangedAt}
use Rattle.fj_testideal.specs.JumpList.{AreJumps, AreOpenGaps, HasChange, IsListedJump, Jump}
use Rattle.fj_testideal.specs.TestIdeal.{IsLeftLimit, IsTestIdeal}
use Rattle.fj_testideal.proofs.CompleteList.{complete_list}
use Rattle.fj_testideal.proofs.TestIdeal.{IsLeftLimit-SameValue, IsTestIdeal-SameValue}
use Rattle.fj_chain.specs.Lists.{IsLastTestList}
use Rattle.fj_jump.specs.declared.rows.GapRow.{GapRow}
use Rattle.fj_jump.specs.declared.rows.JumpRow.{JumpRow}
use Rattle.fj_jump.specs.Rows.{gap_of, jump_of}
use Rattle.fj_jump.specs.Search.{AreFoundBetween, AreRowsOfGaps, AreRowsOfJumps, HasRowWhereChanged, IsMadeOfLastList, IsRowOfGap, IsRowOfJump, RiseBetween, zero_fraction}
use Rattle.fj_jump.proofs.Bisection.{rows_at}
use Rattle.fj_jump.proofs.Chosen.{chosen_append, chosen_from, chosen_rise, left_out_or_chosen}

-- A list is all but its last element, and this.
pub without_last : {X : Type 0} (xs : List X) (x : X) → 1 ≤ length xs → x ≡ get_or xs (length xs - 1) x → xs ≡ take (length xs - 1) xs ++ x ∷ []
without_last xs x some at =
    let n = length xs - 1 in
    let whole : n + 1 ≡ length xs = omega arith in
    sym (ap (λ k. take k xs) whole ∙ take_all (length xs) xs (omega arith)) ∙ take_more xs n x (omega arith) ∙ ap (λ y. take n xs ++ y ∷ []) (sym at)

pub length_of_all : {X : Type 0} (xs front : List X) (x : X) → xs ≡ front ++ x ∷ [] → length xs ≡ length front + 1
length_of_all xs front x parts = ap length parts ∙ length-append front (x ∷ []) ∙ omega arith

map_of_map : {X Y Z : Type 0} (g : Y → Z) (h : X → Y) (xs : List X) → map g (map h xs) ≡ map (λ x. g (h x)) xs
map_of_map g h [] = refl
map_of_map g h (x ∷ xs) = ap (λ zs. g (h x) ∷ zs) (map_of_map g h xs)

-- The lower ends of the gaps of a rising list rise.
lowers_above : (r s : Fraction) (ts : List Fraction) → compare r s ≡ Less → AllByRecursion (λ t. compare r t ≡ Less) ts
    → AllByRecursion (λ t. compare r t ≡ Less) (map (λ gap. gap.lower) (neighbours s ts))
unfolding neighbours
lowers_above r s [] less above = tt
lowers_above r s (t ∷ ts) less above = (less, lowers_above r t ts above.0 above.1)

lowers_rise : (s : Fraction) (ts : List Fraction) → AllByRecursion (λ t. compare s t ≡ Less) ts → IsStrictlySortedBy compare ts
    → IsStrictlySortedBy compare (map (λ gap. gap.lower) (neighbours s ts))
unfolding neighbours IsStrictlySortedBy
lowers_rise s [] above rising = tt
lowers_rise s (t ∷ ts) above rising = (lowers_above s t ts above.0 above.1, lowers_rise t ts rising.0 rising.1)

pub are_candidates : (p q E : ℕ) (own ts : List Fraction) → q ≡ p → ts ≡ own → AreCandidates q E own → AreCandidates p E ts
are_candidates p q E own ts prime same C = subst (λ us. AreCandidates p E us) (sym same) (subst (λ r. AreCandidates r E own) prime C)

-- The candidates, the last one apart, are exponents of the bisection.
module _ (p E : ℕ) (large : 1 < p) (ts : List Fraction) (C : AreCandidates p E ts) where
  pub unit_interval : (t : Fraction) → Contains ts t → IsInUnitInterval t
  unit_interval t c = IsInUnitInterval-from_candidate p E t (omega (arith, large)) (All-contains (IsCandidate p E) ts t C.sound c)

  pub some_candidate : 1 ≤ E → ts ≡ [] → ⊥
  some_candidate some none =
      let found = Any-element (SameValue zero_one) ts (C.complete zero_one (IsCandidate-one p E zero_one large some refl)) in
      contains_nil found.0 (subst (λ us. Contains us found.0) none found.1)
    where
      zero_one : Fraction
      zero_one = record { numerator = 1; denominator = 1; positive = omega arith }

  above_zero : AllByRecursion (λ t. compare zero_fraction t ≡ Less) ts
  above_zero =
      recursion_from_All (λ t. compare zero_fraction t ≡ Less) ts
      (All-from_elements (λ t. compare zero_fraction t ≡ Less) ts (λ t c. compare-less zero_fraction t (omega (arith, (unit_interval t c).above_zero))))

  pub gaps_rise : IsStrictlySortedBy compare (map (λ gap. gap.lower) (gaps ts))
  unfolding gaps
  gaps_rise = lowers_rise zero_fraction ts above_zero C.rising

  module _ (inner : List Fraction) (last : Fraction) (parts : ts ≡ inner ++ last ∷ []) where
    pub last_candidate : Contains ts last
    last_candidate = subst (λ us. Contains us last) (sym parts) (Contains-push inner last)

    pub inner_candidate : (t : Fraction) → Contains inner t → Contains ts t
    inner_candidate t c = subst (λ us. Contains us t) (sym parts) (Contains-append_left inner (last ∷ []) t c)

    pub inner_unit : All IsInUnitInterval inner
    inner_unit = All-from_elements IsInUnitInterval inner (λ t c. unit_interval t (inner_candidate t c))

    pub rise_from_zero : RiseBetween zero_fraction inner last
    unfolding IsStrictlySortedBy
    rise_from_zero = subst (λ us. IsStrictlySortedBy compare (zero_fraction ∷ us)) parts (above_zero, C.rising)

module _ {F : Field} (L : IsField F) (f : Polynomial) (E : ℕ) (ts : List Fraction) (C : AreCandidates F.characteristic E ts) where
  pub gaps_from_rows : (rows : List GapRow) → AreRowsOfGaps F f (gaps ts) rows → AreOpenGaps F f E (map gap_of rows)
  gaps_from_rows rows are = record {
    candidates = ts;
    are_candidates = C;
    among = All-map (Contains (gaps ts)) gap_of rows (All-from_elements (λ row. Contains (gaps ts) (gap_of row)) rows among);
    constant_or_open = told;
    changes = All-map (HasChange F f) gap_of rows (All-from_elements (λ row. HasChange F f (gap_of row)) rows change);
    rising =
        subst (IsStrictlySortedBy compare) (sym (map_of_map (λ (gap : Gap). gap.lower) gap_of rows))
        (chosen_rise (λ gap. IsConstant F f gap.lower gap.upper) (IsRowOfGap F f) compare (λ gap. gap.lower) (λ row. row.from) (λ gap row belongs. ap (λ (g : Gap). g.lower) belongs.is)
        (gaps ts) rows are (gaps_rise F.characteristic E (omega (arith, characteristic_large L)) ts C));
  }
    where
      found : (row : GapRow) → Contains rows row → (gap : Gap) × Contains (gaps ts) gap × IsRowOfGap F f gap row
      found row c = chosen_from (λ gap. IsConstant F f gap.lower gap.upper) (IsRowOfGap F f) (gaps ts) rows are row c

      among : (row : GapRow) → Contains rows row → Contains (gaps ts) (gap_of row)
      among row c = let at = found row c in subst (Contains (gaps ts)) (sym at.2.is) at.1

      change : (row : GapRow) → Contains rows row → HasChange F f (gap_of row)
      change row c = let at = found row c in subst (HasChange F f) (sym at.2.is) at.2.change

      told : (gap : Gap) → Contains (gaps ts) gap → IsConstant F f gap.lower gap.upper ⊎ Contains (map gap_of rows) gap
      told gap c = elim (left_out_or_chosen (λ g. IsConstant F f g.lower g.upper) (IsRowOfGap F f) (gaps ts) rows are gap c) [
        | inl constant ↦ inl constant
        | inr row ↦ inr (subst (Contains (map gap_of rows)) row.2.is (contains_map gap_of rows row.0 row.1))
      ]

module _ {K : Type 0} {F : Field} (L : IsField F) {f : Polynomial} (A : IsPolynomial F f) where
  -- The rows of all candidates: those below the last one, and its own.
  pub rows_of_all : (ts inner : List Fraction) (last : Fraction) → ts ≡ inner ++ last ∷ [] → {S : List Polynomial} (T : WithBasis) (first rows : List (JumpRow K)) (lower : List GapRow)
      → 0 < last.numerator → IsLeftLimit F f last S → IsTestIdeal F f last T.given → IsLastTestList F f last T.given → IsIdeal F T
      → AreFoundBetween F f zero_fraction inner last first lower → HasRowWhereChanged F last S T first rows → AreRowsOfJumps F f ts rows × AreRowsOfGaps F f (gaps ts) lower
  unfolding gaps
  rows_of_all ts inner last parts T first rows lower above J I made ideal H C =
      let more = rows_at L A last T first rows above J I made ideal C in (
        subst (λ us. AreRowsOfJumps F f us rows) (sym parts)
            (subst (λ js. AreRowsOfJumps F f (inner ++ last ∷ []) js) (sym more.1)
            (chosen_append (IsUnchangedAt F f) (IsRowOfJump F f) inner (last ∷ []) first more.0 H.jumps_are more.2)),
        subst (λ us. AreRowsOfGaps F f (neighbours zero_fraction us) lower) (sym parts) H.gaps_are,
      )

  module _ (E : ℕ) (ts : List Fraction) (C : AreCandidates F.characteristic E ts) where
    pub jumps_from_rows : (rows : List (JumpRow K)) → AreRowsOfJumps F f ts rows → AreJumps F f E (map jump_of rows)
    jumps_from_rows rows are = record {
      sound = All-map (IsListedJump F f E) jump_of rows (All-from_elements (λ row. IsListedJump F f E (jump_of row)) rows sound);
      listed_or_unchanged = told;
      rising =
          subst (IsStrictlySortedBy compare) (sym (map_of_map (λ (jump : Jump). jump.at) jump_of rows))
          (chosen_rise (IsUnchangedAt F f) (IsRowOfJump F f) compare (λ t. t) (λ row. row.at) (λ t row belongs. belongs.at) ts rows are
          (subst (IsStrictlySortedBy compare) (sym (map-id ts)) C.rising));
    }
      where
        sound : (row : JumpRow K) → Contains rows row → IsListedJump F f E (jump_of row)
        sound row c =
            let found = chosen_from (IsUnchangedAt F f) (IsRowOfJump F f) ts rows are row c in
            record {
              candidate = subst (IsCandidate F.characteristic E) (sym found.2.at) (All-contains (IsCandidate F.characteristic E) ts found.0 C.sound found.1);
              is_jump = found.2.is_jump;
              is_test_ideal = found.2.is_test_ideal;
            }

        told : (t : Fraction) → IsCandidate F.characteristic E t → Any (λ jump. SameValue t jump.at) (map jump_of rows) ⊎ IsUnchangedAt F f t
        told t candidate =
            let found = Any-element (SameValue t) ts (C.complete t candidate) in
            elim (left_out_or_chosen (IsUnchangedAt F f) (IsRowOfJump F f) ts rows are found.0 found.1) [
              | inl same ↦ inr (record {
                ideal = same.ideal;
                is_test_ideal = IsTestIdeal-SameValue found.0 t (SameValue-sym t found.0 found.2) same.is_test_ideal;
                is_left_limit = IsLeftLimit-SameValue found.0 t (SameValue-sym t found.0 found.2) same.is_left_limit;
              })
              | inr row ↦
                  let there = contains_map jump_of rows row.0 row.1 in
                  inl (there.0, jump_of row.0, there.1, there.2, subst (SameValue t) (sym row.2.at) found.2)
            ]

  pub made_of_last : (ts : List Fraction) (rows : List (JumpRow K)) → AreRowsOfJumps F f ts rows → All (IsMadeOfLastList F f) rows
  made_of_last ts rows are = All-from_elements (IsMadeOfLastList F f) rows (λ row c. (chosen_from (IsUnchangedAt F f) (IsRowOfJump F f) ts rows are row c).2.made)

  -- Where there is no gap among the rows, all F-jumping numbers are.
  pub all_jumps : (E : ℕ) → 1 ≤ E → (rows : List (JumpRow K)) (open_rows : List GapRow) → AreJumps F f E (map jump_of rows) → AreOpenGaps F f E (map gap_of open_rows) → open_rows ≡ []
      → (t : Fraction) → IsInUnitInterval t → IsJump F f t ↔ Any (λ row. SameValue t row.at) rows
  all_jumps E some rows open_rows are gaps_are none t unit =
      let complete = complete_list L A E some are (subst (λ gs. AreOpenGaps F f E (map gap_of gs)) none gaps_are) t unit in (
        λ jump. back (complete.0 jump),
        λ listed. complete.1 (forth listed),
      )
    where
      forth : Any (λ row. SameValue t row.at) rows → Any (λ jump. SameValue t jump.at) (map jump_of rows)
      forth listed =
          let found = Any-element (λ row. SameValue t row.at) rows listed in
          let there = contains_map jump_of rows found.0 found.1 in
          (there.0, jump_of found.0, there.1, there.2, found.2)

      back : Any (λ jump. SameValue t jump.at) (map jump_of rows) → Any (λ row. SameValue t row.at) rows
      back listed =
          let found = Any-element (λ jump. SameValue t jump.at) (map jump_of rows) listed in
          let row = contains_map_back jump_of rows found.0 found.1 in
          (row.1.0, row.0, row.1.1, row.1.2, subst (λ (jump : Jump). SameValue t jump.at) (sym row.2) found.2)
