-- How often a bisection asks.
use Rattle.std.proofs.Common.{◌≡◌, ℕ, zero, suc, ◌+◌, ◌*◌, ◌/◌, ◌^◌, ◌<◌, ◌≤◌, List, [], ◌∷◌, length, Contains, Any, arith, inl, inr, sym, ap, subst}
use Rattle.std.proofs.Math.Nat.{mul-le-mul_right, pow-suc}
use Rattle.std.specs.declared.cmp.Ordering.TheVariants.{Less}
use Rattle.std.specs.List.Sorted.{IsStrictlySortedBy}
use Rattle.std.proofs.lemmas.List.Elements.{All-contains, All-from_recursion}
use Rattle.fj_algebra.proofs.Lists.{Any-element}
use Rattle.fj_algebra.proofs.Pairs.{contains_cons, contains_head, contains_tail, contains_nil}
use Rattle.fj_theory.specs.Candidates.{AreCandidates, IsCandidate}
use Rattle.fj_theory.specs.Fraction.{Fraction, SameValue, IsAtMost, compare}
use Rattle.fj_theory.proofs.Fraction.{less_from_compare}
use Rattle.fj_testideal.proofs.ConstantInside.{IsAtMost-trans, at_most_less, at_most_from_less}
use Rattle.fj_jump.specs.Count.{RisesByFew, RisesByFewAmong, RisesWithinLength}

-- The middle one is asked, and then both halves.
pub few_halves : (n first second rows fewer more before asked between after : ℕ) → first ≡ n / 2 → n ≡ first + 1 + second → asked ≤ before + 1
    → RisesByFewAmong first fewer asked between → RisesByFewAmong second more between after → fewer + more ≤ rows → 0 < rows → RisesByFewAmong n rows before after
few_halves n first second rows fewer more before asked between after half parts one h k fit some zero below = absurd (omega (arith, below))
few_halves n first second rows fewer more before asked between after half parts one h k fit some (suc d) below =
    let double : 2 ^ suc d ≡ 2 ^ d * 2 = pow-suc 2 d in
    let low = h d (omega arith) in
    let high = k d (omega arith) in
    let product : (fewer + more) * d ≤ rows * d = mul-le-mul_right d fit in
    omega arith

-- The first member of a rising list is at most each.
first_at_most : (y : Fraction) (ys : List Fraction) → IsStrictlySortedBy compare (y ∷ ys) → (v : Fraction) → Contains (y ∷ ys) v → IsAtMost y v
unfolding IsStrictlySortedBy
first_at_most y ys rising v c = elim (contains_cons y ys v c) [
  | inl e ↦ omega (arith, ap (λ (u : Fraction). u.numerator * y.denominator) e, ap (λ (u : Fraction). y.numerator * u.denominator) e)
  | inr d ↦ at_most_from_less y v (All-contains (λ u. compare y u ≡ Less) ys v (All-from_recursion (λ u. compare y u ≡ Less) ys rising.0) d)
]

-- A rising list whose members have the values of members of another rising list isn't longer.
pub not_longer : (xs ys : List Fraction) → IsStrictlySortedBy compare xs → IsStrictlySortedBy compare ys → ((x : Fraction) → Contains xs x → Any (SameValue x) ys)
    → length xs ≤ length ys
unfolding IsStrictlySortedBy
not_longer [] ys rising rise each = omega arith
not_longer (x ∷ xs) [] rising rise each = (let found = Any-element (SameValue x) [] (each x (contains_head x xs)) in absurd (contains_nil found.0 found.1))
not_longer (x ∷ xs) (y ∷ ys) rising rise each = omega (arith, not_longer xs ys rising.1 rise.1 later)
  where
    lowest : IsAtMost y x
    lowest =
        let found = Any-element (SameValue x) (y ∷ ys) (each x (contains_head x xs)) in
        let same : SameValue x found.0 = found.2 in
        IsAtMost-trans y found.0 x (first_at_most y ys rise found.0 found.1) (omega (arith, same))

    above : (z : Fraction) → Contains xs z → compare y z ≡ Less
    above z c = at_most_less y x z lowest (All-contains (λ u. compare x u ≡ Less) xs z (All-from_recursion (λ u. compare x u ≡ Less) xs rising.0) c)

    later : (z : Fraction) → Contains xs z → Any (SameValue z) ys
    later z c =
        let found = Any-element (SameValue z) (y ∷ ys) (each z (contains_tail x xs z c)) in
        elim (contains_cons y ys found.0 found.1) [
          | inl e ↦ absurd (let same : SameValue z y = subst (SameValue z) (sym e) found.2 in omega (arith, same, less_from_compare y z (above z c)))
          | inr d ↦ (d.0, found.0, d.1, d.2, found.2)
        ]

-- The length of C_E doesn't depend on the fractions that write it.
pub length_at_most : (p E : ℕ) (own candidates : List Fraction) → AreCandidates p E own → AreCandidates p E candidates → length own ≤ length candidates
length_at_most p E own candidates O C =
    not_longer own candidates O.rising C.rising (λ t c. C.complete t (All-contains (IsCandidate p E) own t O.sound c))

-- The last candidate is asked first, and then those below it.
pub search_few : (p E : ℕ) (own : List Fraction) (inner rows fewer before asked after : ℕ) → AreCandidates p E own → length own ≡ inner + 1 → asked ≤ before + 1
    → RisesByFewAmong inner fewer asked after → fewer ≤ rows → RisesByFew p E rows before after
search_few p E own inner rows fewer before asked after O long one h fit candidates C k digits =
    let bound = h k (omega (arith, digits.below, length_at_most p E own candidates O C)) in
    let product : fewer * k ≤ rows * k = mul-le-mul_right k fit in
    omega arith

pub search_within : (p E : ℕ) (own : List Fraction) (before after : ℕ) → AreCandidates p E own → before ≤ after → after ≤ before + length own → RisesWithinLength p E before after
search_within p E own before after O not_below few = record { not_below = not_below; at_most = λ candidates C. omega (arith, length_at_most p E own candidates O C) }
