-- Lists that a loop copies, an element at a time.
use Rattle.std.proofs.Common.{◌≡◌, ℕ, ◌+◌, List, [], ◌∷◌, ◌++◌, map, take, get_or, Some, slice_get, sym, ap, ap₂, ◌∙◌}
use Rattle.std.proofs.lemmas.List.{map_push, take_more}
use Rattle.std.proofs.lemmas.Option.{slice_get_within, get_or_from_slice_get}

-- one element more, seen by f, where f is the values' own view
pub viewed_more : {A B : Type 0} (f : A → B) (xs new : List A) (x : A) (i : ℕ) (ys : List B) → slice_get ys i ≡ Some (f x) → map f xs ≡ take i ys → new ≡ xs ++ x ∷ [] → map f new ≡ take (i + 1) ys
viewed_more f xs new x i ys at before is =
    let here : get_or ys i (f x) ≡ f x = get_or_from_slice_get ys i (f x) (f x) at in
    let more = take_more ys i (f x) (slice_get_within ys i (f x) at) in
    ap (map f) is ∙ map_push f _ _ ∙ ap₂ (λ us u. us ++ u ∷ []) before (sym here) ∙ sym more

-- one element more
pub copied_more : {A : Type 0} (xs new : List A) (x y : A) (i : ℕ) (ys : List A) → slice_get ys i ≡ Some y → xs ≡ take i ys → x ≡ y → new ≡ xs ++ x ∷ [] → new ≡ take (i + 1) ys
copied_more xs new x y i ys at before same is =
    let here : get_or ys i y ≡ y = get_or_from_slice_get ys i y y at in
    let more = take_more ys i y (slice_get_within ys i y at) in
    is ∙ ap₂ (λ us u. us ++ u ∷ []) before (same ∙ sym here) ∙ sym more
