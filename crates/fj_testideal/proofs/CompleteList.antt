-- A list of jumps without open gaps has all F-jumping numbers of (0, 1].
use Rattle.std.proofs.Common.{◌≡◌, ◌↔◌, ◌⊎◌, inl, inr, ⊎_elim, ℕ, ◌*◌, ◌<◌, ◌≤◌, List, [], Any, ap, arith, eq-zero-or-pos}
use Rattle.std.specs.declared.cmp.Ordering.TheVariants.{Less}
use Rattle.std.proofs.Math.Nat.{mul-lt-mul_of_pos_right, lt_of_mul-lt-mul_right}
use Rattle.std.proofs.lemmas.List.Elements.{All-contains}
use Rattle.fj_coeff.specs.Field.{Field, IsField}
use Rattle.fj_algebra.proofs.Lists.{Any-element}
use Rattle.fj_algebra.proofs.Pairs.{contains_nil}
use Rattle.fj_theory.specs.Polynomial.{Polynomial, IsPolynomial}
use Rattle.fj_theory.specs.Fraction.{Fraction, SameValue, IsInUnitInterval, compare}
use Rattle.fj_theory.specs.Candidates.{IsCandidate, Gap, IsInside, gaps}
use Rattle.fj_theory.proofs.Fraction.{SameValue-sym, compare-IsTotalOrder, less_from_compare, compare-less}
use Rattle.fj_theory.proofs.Digits.{product_positive}
use Rattle.fj_theory.proofs.Candidates.{IsCandidate-SameValue}
use Rattle.fj_theory.proofs.Gaps.{candidate_or_inside}
use Rattle.fj_theory.proofs.Field.{characteristic_large}
use Rattle.fj_testideal.specs.Jump.{IsJump, IsUnchangedAt}
use Rattle.fj_testideal.specs.JumpList.{Jump, IsListedJump, AreJumps, AreOpenGaps, IsComplete}
use Rattle.fj_theory.proofs.Ideal.{SameIdeal-refl}
use Rattle.fj_testideal.proofs.Jump.{ArePolynomials-IsTestIdeal, jump_differs}
use Rattle.fj_testideal.proofs.ConstantInside.{no_jump-inside_constant}
use Rattle.fj_testideal.proofs.TestIdeal.{IsTestIdeal-SameValue}

pub above_zero_same : (t u : Fraction) → SameValue t u → 0 < t.numerator → 0 < u.numerator
above_zero_same t u same above = ⊎_elim
    (λ none. let product : u.numerator * t.denominator ≡ 0 * t.denominator = ap (λ n. n * t.denominator) none in
    absurd (omega (arith, same, product, product_positive t.numerator u.denominator above u.positive)))
    (λ some. some) (eq-zero-or-pos u.numerator)

-- The order depends on the value alone.
less_same : (s t u : Fraction) → SameValue t u → compare s u ≡ Less → compare s t ≡ Less
less_same s t u same less =
    let scaled : (s.numerator * u.denominator) * t.denominator < (u.numerator * s.denominator) * t.denominator = mul-lt-mul_of_pos_right (less_from_compare s u less) t.positive in
    let product : (t.numerator * u.denominator) * s.denominator ≡ (u.numerator * t.denominator) * s.denominator = ap (λ n. n * s.denominator) same in
    let moved : (s.numerator * t.denominator) * u.denominator < (t.numerator * s.denominator) * u.denominator = omega arith in
    compare-less s t (lt_of_mul-lt-mul_right u.denominator moved)

module _ {F : Field} (L : IsField F) {f : Polynomial} (A : IsPolynomial F f) where
  -- Being a jumping number depends on the value alone.
  pub IsJump-SameValue : (t u : Fraction) → SameValue t u → IsJump F f t → IsJump F f u
  IsJump-SameValue t u same jump = record {
    above_zero = above_zero_same t u same jump.above_zero;
    ideal = jump.ideal;
    is_test_ideal = IsTestIdeal-SameValue t u same jump.is_test_ideal;
    is_new = λ s less I. jump.is_new s (less_same s t u same less) I;
  }

  -- Where the test ideal doesn't change is no jumping number.
  unchanged_is_no_jump : (t : Fraction) → IsUnchangedAt F f t → IsJump F f t → ⊥
  unchanged_is_no_jump t h jump =
      jump_differs L A t jump.above_zero h.is_left_limit h.is_test_ideal jump (SameIdeal-refl L (ArePolynomials-IsTestIdeal h.is_test_ideal))

  pub listed_is_jump : {E : ℕ} {jumps : List Jump} → AreJumps F f E jumps → (t : Fraction) → Any (λ jump. SameValue t jump.at) jumps → IsJump F f t
  listed_is_jump {E} {jumps} are t listed =
      let found = Any-element (λ jump. SameValue t jump.at) jumps listed in
      let jump = All-contains (IsListedJump F f E) jumps found.0 are.sound found.1 in
      IsJump-SameValue found.0.at t (SameValue-sym t found.0.at found.2) jump.is_jump

  pub jump_is_listed : {E : ℕ} {jumps : List Jump} → AreJumps F f E jumps → (t : Fraction) → IsCandidate F.characteristic E t → IsJump F f t → Any (λ jump. SameValue t jump.at) jumps
  jump_is_listed are t candidate jump = elim (are.listed_or_unchanged t candidate) [
    | inl listed ↦ listed
    | inr same ↦ absurd (unchanged_is_no_jump t same jump)
  ]

  pub listed_or_in_open_gap : (E : ℕ) → 1 ≤ E → {jumps : List Jump} → AreJumps F f E jumps → {open_gaps : List Gap} → AreOpenGaps F f E open_gaps
      → (t : Fraction) → IsInUnitInterval t → IsJump F f t → Any (λ jump. SameValue t jump.at) jumps ⊎ Any (IsInside t) open_gaps
  listed_or_in_open_gap E some {jumps} are {open_gaps} gaps_are t unit jump =
      go (candidate_or_inside F.characteristic E gaps_are.candidates t (omega (arith, characteristic_large L)) some gaps_are.are_candidates unit)
    where
      go : Any (SameValue t) gaps_are.candidates ⊎ Any (IsInside t) (gaps gaps_are.candidates) → Any (λ jump. SameValue t jump.at) jumps ⊎ Any (IsInside t) open_gaps
      go (inl at) =
          let found = Any-element (SameValue t) gaps_are.candidates at in
          let candidate = All-contains (IsCandidate F.characteristic E) gaps_are.candidates found.0 gaps_are.are_candidates.sound found.1 in
          inl (jump_is_listed are t (IsCandidate-SameValue F.characteristic E found.0 t (SameValue-sym t found.0 found.2) candidate) jump)
      go (inr inside) =
          let found = Any-element (IsInside t) (gaps gaps_are.candidates) inside in
          let rising = compare-IsTotalOrder.trans found.0.lower t found.0.upper found.2.above found.2.below in
          elim (gaps_are.constant_or_open found.0 found.1) [
            | inl C ↦ absurd (no_jump-inside_constant L A found.0.lower found.0.upper rising C t found.2.above found.2.below jump)
            | inr opened ↦ inr (opened.0, found.0, opened.1, opened.2, found.2)
          ]

  pub complete_list : (E : ℕ) → 1 ≤ E → {jumps : List Jump} → AreJumps F f E jumps → IsComplete F f E → (t : Fraction) → IsInUnitInterval t
      → IsJump F f t ↔ Any (λ jump. SameValue t jump.at) jumps
  complete_list E some {jumps} are complete t unit = (
    λ jump. elim (listed_or_in_open_gap E some are complete t unit jump) [
      | inl found ↦ found
      | inr inside ↦ (let found = Any-element (IsInside t) [] inside in absurd (contains_nil found.0 found.1))
    ],
    λ listed. listed_is_jump are t listed,
  )
