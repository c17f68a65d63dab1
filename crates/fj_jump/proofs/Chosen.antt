-- Rows that are chosen of a list: of two lists one after another, of none, and how they are ordered.
use Rattle.std.proofs.Common.{◌≡◌, ◌⊎◌, inl, inr, List, [], ◌∷◌, ◌++◌, map, Contains, refl, sym, ap, subst}
use Rattle.std.specs.declared.cmp.Ordering.{Ordering}
use Rattle.std.specs.declared.cmp.Ordering.TheVariants.{Less}
use Rattle.std.specs.List.{AllByRecursion}
use Rattle.std.specs.List.Sorted.{IsStrictlySortedBy}
use Rattle.fj_algebra.proofs.Pairs.{contains_cons, contains_head, contains_tail, contains_nil}
use Rattle.fj_jump.specs.Chosen.{AreChosen}

module _ {X Y : Type 0} (IsLeftOut : X → Type 0) (Belongs : X → Y → Type 0) where
  pub chosen_append : (xs more : List X) (ys others : List Y) → AreChosen IsLeftOut Belongs xs ys → AreChosen IsLeftOut Belongs more others
      → AreChosen IsLeftOut Belongs (xs ++ more) (ys ++ others)
  chosen_append [] more ys others h k = subst (λ zs. AreChosen IsLeftOut Belongs more (zs ++ others)) (sym h) k
  chosen_append (x ∷ xs) more ys others (inl h) k = inl (h.0, chosen_append xs more ys others h.1 k)
  chosen_append (x ∷ xs) more ys others (inr h) k =
      inr (h.0, h.1 ++ others, ap (λ zs. zs ++ others) h.2, h.3, chosen_append xs more h.1 others h.4 k)

  pub chosen_none : (xs : List X) → ((x : X) → Contains xs x → IsLeftOut x) → AreChosen IsLeftOut Belongs xs []
  chosen_none [] each = refl
  chosen_none (x ∷ xs) each = inl (each x (contains_head x xs), chosen_none xs (λ y c. each y (contains_tail x xs y c)))

  -- Each row belongs to a member of the list.
  pub chosen_from : (xs : List X) (ys : List Y) → AreChosen IsLeftOut Belongs xs ys → (y : Y) → Contains ys y → (x : X) × Contains xs x × Belongs x y
  chosen_from [] ys h y c = absurd (contains_nil y (subst (λ zs. Contains zs y) h c))
  chosen_from (x ∷ xs) ys (inl h) y c = let found = chosen_from xs ys h.1 y c in (found.0, contains_tail x xs found.0 found.1, found.2)
  chosen_from (x ∷ xs) ys (inr h) y c = elim (contains_cons h.0 h.1 y (subst (λ zs. Contains zs y) h.2 c)) [
    | inl e ↦ (x, contains_head x xs, subst (Belongs x) e h.3)
    | inr d ↦ (let found = chosen_from xs h.1 h.4 y d in (found.0, contains_tail x xs found.0 found.1, found.2))
  ]

  -- Each member of the list is left out, or a row belongs to it.
  pub left_out_or_chosen : (xs : List X) (ys : List Y) → AreChosen IsLeftOut Belongs xs ys → (x : X) → Contains xs x → IsLeftOut x ⊎ ((y : Y) × Contains ys y × Belongs x y)
  left_out_or_chosen [] ys h x c = absurd (contains_nil x c)
  left_out_or_chosen (z ∷ xs) ys (inl h) x c = elim (contains_cons z xs x c) [
    | inl e ↦ inl (subst IsLeftOut e h.0)
    | inr d ↦ left_out_or_chosen xs ys h.1 x d
  ]
  left_out_or_chosen (z ∷ xs) ys (inr h) x c = elim (contains_cons z xs x c) [
    | inl e ↦ inr (h.0, subst (λ zs. Contains zs h.0) (sym h.2) (contains_head h.0 h.1), subst (λ w. Belongs w h.0) e h.3)
    | inr d ↦ elim (left_out_or_chosen xs h.1 h.4 x d) [
      | inl l ↦ inl l
      | inr r ↦ inr (r.0, subst (λ zs. Contains zs r.0) (sym h.2) (contains_tail h.0 h.1 r.0 r.1), r.2)
    ]
  ]

  -- Rows with the keys of what they belong to rise where the list does.
  module _ {K : Type 0} (cmp : K → K → Ordering) (key : X → K) (row_key : Y → K) (same : (x : X) (y : Y) → Belongs x y → row_key y ≡ key x) where
    chosen_above : (k : K) (xs : List X) (ys : List Y) → AreChosen IsLeftOut Belongs xs ys → AllByRecursion (λ l. cmp k l ≡ Less) (map key xs)
        → AllByRecursion (λ l. cmp k l ≡ Less) (map row_key ys)
    chosen_above k [] ys h above = subst (λ zs. AllByRecursion (λ l. cmp k l ≡ Less) (map row_key zs)) (sym h) tt
    chosen_above k (x ∷ xs) ys (inl h) above = chosen_above k xs ys h.1 above.1
    chosen_above k (x ∷ xs) ys (inr h) above =
        subst (λ zs. AllByRecursion (λ l. cmp k l ≡ Less) (map row_key zs)) (sym h.2)
        (subst (λ l. cmp k l ≡ Less) (sym (same x h.0 h.3)) above.0, chosen_above k xs h.1 h.4 above.1)

    pub chosen_rise : (xs : List X) (ys : List Y) → AreChosen IsLeftOut Belongs xs ys → IsStrictlySortedBy cmp (map key xs) → IsStrictlySortedBy cmp (map row_key ys)
    unfolding IsStrictlySortedBy
    chosen_rise [] ys h rising = subst (λ zs. IsStrictlySortedBy cmp (map row_key zs)) (sym h) tt
    chosen_rise (x ∷ xs) ys (inl h) rising = chosen_rise xs ys h.1 rising.1
    chosen_rise (x ∷ xs) ys (inr h) rising =
        subst (λ zs. IsStrictlySortedBy cmp (map row_key zs)) (sym h.2) (
          subst (λ k. AllByRecursion (λ l. cmp k l ≡ Less) (map row_key h.1)) (sym (same x h.0 h.3)) (chosen_above (key x) xs h.1 h.4 rising.0),
          chosen_rise xs h.1 h.4 rising.1,
        )
