-- The steps of the bisection as the code makes them.
use Rattle.std.proofs.Common.{◌≡◌, inl, inr, ℕ, zero, suc, ◌+◌, ◌<◌, ◌≤◌, List, [], ◌∷◌, ◌++◌, length, take, drop, get_or, Contains, All, Bool, IsTrue, ◌==◌, eqb-true, ◌↔◌, Result, Ok, Err, refl, sym, ap, ap₂, ◌∙◌, subst, arith, ◌-◌}
use Rattle.std.specs.Result.{IsErrAnd}
use Rattle.std.proofs.lemmas.List.{length-append, take-append-drop, take_all}
use Rattle.std.proofs.lemmas.List.Elements.{All-contains, All-tail, Contains-append_left, Contains-append_right}
use Rattle.fj_coeff.specs.Field.{Field, IsField}
use Rattle.fj_algebra.proofs.Lists.{All-append_left, All-append_right}
use Rattle.fj_algebra.proofs.Pairs.{contains_head, contains_tail}
use Rattle.fj_theory.specs.Fraction.{Fraction, IsInUnitInterval}
use Rattle.fj_theory.specs.Ideal.{SameIdeal}
use Rattle.fj_theory.specs.Polynomial.{Polynomial, IsPolynomial}
use Rattle.fj_theory.proofs.Ideal.{SameIdeal-trans}
use Rattle.fj_plain.specs.declared.order_name.OrderName.TheVariants.{Grevlex}
use Rattle.fj_basis.specs.declared.stop.Stop.{Stop}
use Rattle.fj_basis.specs.declared.stop.Stop.TheVariants.{Memory}
use Rattle.fj_ideal.specs.Ideal.{IsIdeal, WithBasis}
use Rattle.fj_ideal.specs.Lists.{RunFor}
use Rattle.fj_ideal.specs.Stop.{IsAnswered, IsCauseOf, IsWritten, StopsOnlyWith}
use Rattle.fj_ideal.proofs.Stops.{only_handed_on}
use Rattle.fj_testideal.specs.TestIdeal.{IsLeftLimit, IsTestIdeal}
use Rattle.fj_testideal.proofs.Jump.{ArePolynomials-IsTestIdeal}
use Rattle.fj_chain.specs.Lists.{IsHighInJump, IsJumpList, IsLastTestList}
use Rattle.fj_jump.specs.declared.rows.GapRow.{GapRow}
use Rattle.fj_jump.specs.declared.rows.JumpRow.{JumpRow}
use Rattle.fj_jump.specs.Lists.{IsHighAtOne, IsListAtOne}
use Rattle.fj_jump.specs.Search.{AreFoundBetween, HasRowWhereChanged, RiseBetween}
use Rattle.fj_jump.proofs.Bisection.{halves_joined, lower_rises, rows_at, upper_rises}

-- A list is what comes before its middle, its middle, and what comes after it.
pub middle_parts : {X : Type 0} (xs front back : List X) (n : ℕ) (x : X) → front ≡ take n xs → back ≡ drop n xs → 1 ≤ length back → x ≡ get_or back 0 x
    → xs ≡ front ++ x ∷ take (length back - 1) (drop 1 back)
middle_parts {X} xs front back n x before after some first = sym (take-append-drop n xs) ∙ ap (λ ys. ys ++ drop n xs) (sym before) ∙ ap (λ ys. front ++ ys) (sym after ∙ split back some first)
  where
    split : (ys : List X) → 1 ≤ length ys → x ≡ get_or ys 0 x → ys ≡ x ∷ take (length ys - 1) (drop 1 ys)
    split [] none e = absurd (omega (arith, none))
    split (y ∷ ys) more e = ap₂ ◌∷◌ (sym e) (sym (take_all (length (y ∷ ys) - 1) ys (omega arith)))

pub middle_length : {X : Type 0} (xs front back : List X) (x : X) → xs ≡ front ++ x ∷ back → length xs ≡ length front + 1 + length back
middle_length xs front back x parts = ap length parts ∙ length-append front (x ∷ back) ∙ omega arith

pub empty_list : {X : Type 0} (xs : List X) → length xs ≡ 0 → xs ≡ []
empty_list [] e = refl
empty_list (x ∷ xs) e = absurd (omega (arith, e))

module _ {K : Type 0} (F : Field) (f : Polynomial) (s : Fraction) (ts : List Fraction) (t : Fraction) where
  -- The same rows.
  pub found_as : {jumps rows : List (JumpRow K)} {gaps others : List GapRow} → jumps ≡ rows → gaps ≡ others → AreFoundBetween F f s ts t rows others → AreFoundBetween F f s ts t jumps gaps
  found_as {jumps} {rows} {gaps} {others} e h found =
      subst (λ js. AreFoundBetween F f s ts t js gaps) (sym e) (subst (λ gs. AreFoundBetween F f s ts t rows gs) (sym h) found)

module _ (F : Field) (f : Polynomial) (budget : ℕ) (IsExponent : Fraction → Type 0) where
  -- The limits at one of the exponents stop.
  pub stop_at : (t : Fraction) → IsExponent t → {T : Type 0} (s : Stop) (r : Result T Stop) → IsErrAnd r (λ y. y ≡ s)
      → IsCauseOf F (RunFor Grevlex (IsJumpList F f t)) (IsHighInJump F f t) budget s × IsWritten F s
      → StopsOnlyWith F (RunFor Grevlex (IsListAtOne F f IsExponent)) (IsHighAtOne F f IsExponent) budget r
  stop_at t exponent s r is cause =
      only_handed_on F budget (RunFor Grevlex (IsJumpList F f t)) (RunFor Grevlex (IsListAtOne F f IsExponent)) (IsHighInJump F f t) (IsHighAtOne F f IsExponent)
      (λ o N e. (e.0, record { at = t; exponent = exponent; list = e.1 })) (λ N e. record { at = t; exponent = exponent; high = e }) s r is cause

  -- A search of a part stops, with the same polynomial and budget.
  pub stop_within : (IsOfPart : Fraction → Type 0) → ((t : Fraction) → IsOfPart t → IsExponent t) → (g : Polynomial) (pairs : ℕ) → g ≡ f → pairs ≡ budget
      → {T : Type 0} (s : Stop) (r : Result T Stop) → IsErrAnd r (λ y. y ≡ s)
      → IsCauseOf F (RunFor Grevlex (IsListAtOne F g IsOfPart)) (IsHighAtOne F g IsOfPart) pairs s × IsWritten F s
      → StopsOnlyWith F (RunFor Grevlex (IsListAtOne F f IsExponent)) (IsHighAtOne F f IsExponent) budget r
  stop_within IsOfPart within g pairs same_f same_pairs s r is cause =
      only_handed_on F budget (RunFor Grevlex (IsListAtOne F f IsOfPart)) (RunFor Grevlex (IsListAtOne F f IsExponent)) (IsHighAtOne F f IsOfPart) (IsHighAtOne F f IsExponent)
      (λ o N e. (e.0, record { at = e.1.at; exponent = within e.1.at e.1.exponent; list = e.1.list })) (λ N e. record { at = e.at; exponent = within e.at e.exponent; high = e.high }) s r is
      (subst (λ (n : ℕ). IsCauseOf F (RunFor Grevlex (IsListAtOne F f IsOfPart)) (IsHighAtOne F f IsOfPart) n s × IsWritten F s) same_pairs
      (subst (λ (h : Polynomial). IsCauseOf F (RunFor Grevlex (IsListAtOne F h IsOfPart)) (IsHighAtOne F h IsOfPart) pairs s × IsWritten F s) same_f cause))

-- The rows of an exponent are as many as were added, and where there is none, the test ideal is the left limit.
pub added_none : {K : Type 0} (F : Field) (t : Fraction) (S : List Polynomial) (T : WithBasis) (before after : List (JumpRow K)) → HasRowWhereChanged F t S T before after
    → length after ≡ length before → SameIdeal F S T.given
added_none F t S T before after (inl h) same = h.0
added_none F t S T before after (inr h) same = absurd (let longer = ap length h.1 ∙ length-append before (record { at = t; ideal = T } ∷ []) in omega (arith, longer, same))

pub added_more : {K : Type 0} (F : Field) (t : Fraction) (S : List Polynomial) (T : WithBasis) (before after : List (JumpRow K)) → HasRowWhereChanged F t S T before after
    → length before ≤ length after
added_more F t S T before after (inl h) = (let same = ap length h.1 in omega (arith, same))
added_more F t S T before after (inr h) = (let longer = ap length h.1 ∙ length-append before (record { at = t; ideal = T } ∷ []) in omega (arith, longer))

module _ (s m t : Fraction) (ts below above : List Fraction) (parts : ts ≡ below ++ m ∷ above) where
  pub lower_part : RiseBetween s ts t → RiseBetween s below m
  lower_part rising = lower_rises s m t below above (subst (λ us. RiseBetween s us t) parts rising)

  pub upper_part : RiseBetween s ts t → RiseBetween m above t
  upper_part rising = upper_rises s m t below above (subst (λ us. RiseBetween s us t) parts rising)

  pub in_lower : (r : Fraction) → Contains below r → Contains ts r
  in_lower r c = subst (λ us. Contains us r) (sym parts) (Contains-append_left below (m ∷ above) r c)

  pub in_upper : (r : Fraction) → Contains above r → Contains ts r
  in_upper r c = subst (λ us. Contains us r) (sym parts) (Contains-append_right below (m ∷ above) r (contains_tail m above r c))

  pub in_middle : Contains ts m
  in_middle = subst (λ us. Contains us m) (sym parts) (Contains-append_right below (m ∷ above) m (contains_head m above))

  pub all_lower : All IsInUnitInterval ts → All IsInUnitInterval below
  all_lower each = All-append_left IsInUnitInterval below (m ∷ above) (subst (All IsInUnitInterval) parts each)

  pub all_upper : All IsInUnitInterval ts → All IsInUnitInterval above
  all_upper each = All-tail IsInUnitInterval m above (All-append_right IsInUnitInterval below (m ∷ above) (subst (All IsInUnitInterval) parts each))

  -- The rows of both halves and of the exponent between them, which is told by its limits.
  module _ {K : Type 0} {F : Field} (L : IsField F) {f : Polynomial} (A : IsPolynomial F f) {S : List Polynomial} (T : WithBasis) (J : IsLeftLimit F f m S) (I : IsTestIdeal F f m T.given) where
    pub found_in_halves : {first changed second : List (JumpRow K)} {lower upper : List GapRow} → All IsInUnitInterval ts → IsLastTestList F f m T.given → IsIdeal F T
        → AreFoundBetween F f s below m first lower → HasRowWhereChanged F m S T first changed → AreFoundBetween F f m above t second upper
        → AreFoundBetween F f s ts t (changed ++ second) (lower ++ upper)
    found_in_halves {first} {changed} {second} {lower} {upper} each last ideal H C G =
        let unit = All-contains IsInUnitInterval ts m each in_middle in
        let rows = rows_at L A m T first changed unit.above_zero J I last ideal C in
        subst (λ us. AreFoundBetween F f s us t (changed ++ second) (lower ++ upper)) (sym parts)
        (found_as F f s (below ++ m ∷ above) t (ap (λ js. js ++ second) rows.1) refl
        (halves_joined L A s m t below above first rows.0 second lower upper H rows.2 G))

    -- Where there is no row, the test ideal at s is the left limit at t.
    pub none_in_halves : {R U : List Polynomial} → IsTestIdeal F f s R → IsLeftLimit F f t U → (first changed second : List (JumpRow K)) (lower upper : List GapRow)
        → (length first + length lower ≡ 0 → SameIdeal F R S) → HasRowWhereChanged F m S T first changed → (length second + length upper ≡ 0 → SameIdeal F T.given U)
        → length (changed ++ second) + length (lower ++ upper) ≡ 0 → SameIdeal F R U
    none_in_halves at_s at_t first changed second lower upper low C high none =
        let jumps : length (changed ++ second) ≡ length changed + length second = length-append changed second in
        let gaps : length (lower ++ upper) ≡ length lower + length upper = length-append lower upper in
        let more = added_more F m S T first changed C in
        let P = ArePolynomials-IsTestIdeal at_s in
        let Q = (J.root J.start (omega arith)).polynomials in
        let V = ArePolynomials-IsTestIdeal I in
        let W = (at_t.root at_t.start (omega arith)).polynomials in
        SameIdeal-trans L P Q W (low (omega (arith, none, jumps, gaps, more)))
        (SameIdeal-trans L Q V W (added_none F m S T first changed C (omega (arith, none, jumps, gaps, more))) (high (omega (arith, none, jumps, gaps, more))))

-- The rows of both halves are among those of the whole.
pub halves_fit : {K : Type 0} (F : Field) (m : Fraction) (S : List Polynomial) (T : WithBasis) (first changed second : List (JumpRow K)) (lower upper : List GapRow)
    → HasRowWhereChanged F m S T first changed
    → (length first + length lower) + (length second + length upper) ≤ length (changed ++ second) + length (lower ++ upper)
halves_fit F m S T first changed second lower upper C =
    let jumps : length (changed ++ second) ≡ length changed + length second = length-append changed second in
    let gaps : length (lower ++ upper) ≡ length lower + length upper = length-append lower upper in
    let more = added_more F m S T first changed C in
    omega (arith, jumps, gaps, more)

-- What isn't none is some.
pub some_rows : {P : Type 0} (rows : ℕ) → (rows ≡ 0 → P) → (P → ⊥) → 0 < rows
some_rows zero none not = absurd (not (none refl))
some_rows (suc n) none not = omega arith

-- Want of memory is an answer.
pub memory_answered : {T : Type 0} (r : Result T Stop) → IsErrAnd r (λ y. y ≡ Memory) → IsAnswered r
memory_answered (Ok x) is = tt
memory_answered {T} (Err e) is = subst (λ (s : Stop). IsAnswered {T = T} (Err s)) (sym is) tt

pub none_told : {X : Type 0} (xs : List X) (b : Bool) → b ≡ (length xs == 0) → IsTrue b ↔ (xs ≡ [])
none_told [] b e = (λ told. refl, λ none. e)
none_told (x ∷ xs) b e = (λ told. absurd (let same : length (x ∷ xs) ≡ 0 = eqb-true (length (x ∷ xs)) 0 (sym e ∙ told) in omega (arith, same)), λ none. absurd (let same = ap length none in omega (arith, same)))
