-- Facts on the elements of a list that a loop has passed.
use Rattle.std.proofs.Common.{◌≡◌, ℕ, ◌+◌, ◌<◌, ◌≤◌, List, [], ◌∷◌, All, length, get_or, zip, slice_get, Some, below_more, subst, sym, ap, ◌∙◌, arith}
use Rattle.std.proofs.lemmas.Option.{slice_get-get_or, slice_get_within, get_or_from_slice_get, same_Some}
use Rattle.std.proofs.lemmas.Slice.Zip.{get_or-zip, length-zip}

-- P holds of each element before place n.
pub record EachBefore {X : Type 0} (P : X → Type 0) (xs : List X) (n : ℕ) : Type 0 where
  pub each : (k : ℕ) → k < n → (x : X) → slice_get xs k ≡ Some x → P x

module _ {X : Type 0} (P : X → Type 0) where
  pub EachBefore-zero : (xs : List X) → EachBefore P xs 0
  EachBefore-zero xs = record { each = λ k h. absurd (omega arith) }

  pub EachBefore-more : (xs : List X) (n : ℕ) (x : X) → slice_get xs n ≡ Some x → P x → EachBefore P xs n → EachBefore P xs (n + 1)
  EachBefore-more xs n x found here before =
      record { each = below_more (λ k. (y : X) → slice_get xs k ≡ Some y → P y) n before.each (λ y is. subst P (same_Some x y (sym found ∙ is)) here) }

  pub All-from_EachBefore : (xs : List X) (n : ℕ) → length xs ≤ n → EachBefore P xs n → All P xs
  All-from_EachBefore xs n short before k d h = before.each k (omega arith) (get_or xs k d) (slice_get-get_or xs k d h)

  pub All_at : (xs : List X) (n : ℕ) (x : X) → slice_get xs n ≡ Some x → All P xs → P x
  All_at xs n x found all = subst P (get_or_from_slice_get xs n x x found) (all n x (slice_get_within xs n x found))

-- The pairs of elements at one place.
pub slice_get_pair : {X Y : Type 0} (xs : List X) (ys : List Y) (n : ℕ) (x : X) (y : Y) → slice_get xs n ≡ Some x → slice_get ys n ≡ Some y → slice_get (zip xs ys) n ≡ Some (x, y)
slice_get_pair xs ys n x y at_x at_y =
    let in_x : n < length xs = slice_get_within xs n x at_x in
    let in_y : n < length ys = slice_get_within ys n y at_y in
    let in_both : n < length (zip xs ys) = let e = length-zip xs ys in omega arith in
    slice_get-get_or (zip xs ys) n (x, y) in_both
    ∙ ap Some (get_or-zip xs ys n (x, y) in_x in_y ∙ λ i. (get_or_from_slice_get xs n x x at_x i, get_or_from_slice_get ys n y y at_y i))

pub length_pairs : {X Y : Type 0} (xs : List X) (ys : List Y) → length (zip xs ys) ≤ length xs
length_pairs [] ys = omega arith
length_pairs (x ∷ xs) [] = omega arith
length_pairs (x ∷ xs) (y ∷ ys) = let rest = length_pairs xs ys in omega arith
