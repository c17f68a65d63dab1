-- What holds of each element of a list that is made of others.
use Rattle.std.proofs.Common.{suc, ◌⊎◌, inl, inr, List, [], ◌∷◌, ◌++◌, map, flat_map, length, All, Any, Contains, refl, suc-le-suc, zero-lt-suc}
use Rattle.std.proofs.lemmas.List.Elements.{All-nil, All-cons, All-head, All-tail, All-append}

module _ {X : Type 0} (P : X → Type 0) where
  pub All-map_back : {Y : Type 0} (f : Y → X) (ys : List Y) → All P (map f ys) → All (λ y. P (f y)) ys
  All-map_back f [] each = All-nil (λ y. P (f y))
  All-map_back f (y ∷ ys) each = All-cons (λ y. P (f y)) y ys (All-head P (f y) (map f ys) each) (All-map_back f ys (All-tail P (f y) (map f ys) each))

  pub All-append_left : (xs ys : List X) → All P (xs ++ ys) → All P xs
  All-append_left [] ys each = All-nil P
  All-append_left (x ∷ xs) ys each = All-cons P x xs (All-head P x (xs ++ ys) each) (All-append_left xs ys (All-tail P x (xs ++ ys) each))

  pub All-append_right : (xs ys : List X) → All P (xs ++ ys) → All P ys
  All-append_right [] ys each = each
  All-append_right (x ∷ xs) ys each = All-append_right xs ys (All-tail P x (xs ++ ys) each)

  pub All-flat_map : {Y : Type 0} (g : Y → List X) (ys : List Y) → All (λ y. All P (g y)) ys → All P (flat_map g ys)
  All-flat_map g [] each = All-nil P
  All-flat_map g (y ∷ ys) each = All-append P (g y) (flat_map g ys) (All-head (λ y. All P (g y)) y ys each) (All-flat_map g ys (All-tail (λ y. All P (g y)) y ys each))

  pub All-flat_map_back : {Y : Type 0} (g : Y → List X) (ys : List Y) → All P (flat_map g ys) → All (λ y. All P (g y)) ys
  All-flat_map_back g [] each = All-nil (λ y. All P (g y))
  All-flat_map_back g (y ∷ ys) each = All-cons (λ y. All P (g y)) y ys (All-append_left (g y) (flat_map g ys) each) (All-flat_map_back g ys (All-append_right (g y) (flat_map g ys) each))

  pub Any-head : (x : X) (xs : List X) → P x → Any P (x ∷ xs)
  Any-head x xs h = (0, x, zero-lt-suc (length xs), refl, h)

  pub Any-tail : (x : X) (xs : List X) → Any P xs → Any P (x ∷ xs)
  Any-tail x xs h = (suc h.0, h.1, suc-le-suc h.2, h.3, h.4)

  pub Any-element : (xs : List X) → Any P xs → (x : X) × Contains xs x × P x
  Any-element xs h = (h.1, (h.0, h.2, h.3), h.4)

-- What is decided of each element holds of all of them, or fails of one.
pub Any-or-All : {X : Type 0} (P : X → Type 0) → ((x : X) → Dec (P x)) → (xs : List X) → Any (λ x. ¬ P x) xs ⊎ All P xs
Any-or-All P decide [] = inr (All-nil P)
Any-or-All P decide (x ∷ xs) = elim (decide x) [
  | yes h ↦ elim (Any-or-All P decide xs) [ inl some ↦ inl (Any-tail (λ x. ¬ P x) x xs some) | inr each ↦ inr (All-cons P x xs h each) ]
  | no h ↦ inl (Any-head (λ x. ¬ P x) x xs h)
]
