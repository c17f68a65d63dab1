-- Lists and tables that are copied.
use Rattle.std.proofs.Common.{◌≡◌, ℕ, ◌+◌, ◌<◌, List, [], ◌∷◌, ◌++◌, length, map, take, All, get_or, sym, ap, ap₂, ◌∙◌, subst, add-one}
use Rattle.std.proofs.Math.Seq.{take-suc}
use Rattle.std.proofs.lemmas.List.{length-map}
use Rattle.std.proofs.lemmas.List.Elements.{All-map, All-nil, All-cons, All-append}
use Rattle.fj_algebra.proofs.Lists.{All-map_back}

-- One element more.
pub copied : {A : Type 0} (ys new : List A) (y : A) (xs : List A) (i : ℕ) (x : A) → i < length xs → x ≡ get_or xs i x → ys ≡ take i xs → y ≡ x → new ≡ ys ++ y ∷ [] → new ≡ take (i + 1) xs
copied ys new y xs i x l at before is e =
    e ∙ ap₂ (λ us u. us ++ u ∷ []) before (is ∙ at) ∙ sym (ap (λ n. take n xs) (add-one i) ∙ take-suc xs i x l)

-- What holds of all that is copied holds with one more.
pub copied_all : {A : Type 0} (P : A → Type 0) (ys new : List A) (y : A) → All P ys → P y → new ≡ ys ++ y ∷ [] → All P new
copied_all P ys new y all here e = subst (All P) (sym e) (All-append P ys (y ∷ []) all (All-cons P y [] here (All-nil P)))

-- Lists with the same views are as long.
pub length-same_views : {A B : Type 0} (f : A → B) (xs ys : List A) → map f xs ≡ map f ys → length xs ≡ length ys
length-same_views f xs ys e = sym (length-map xs f) ∙ ap length e ∙ length-map ys f

-- What holds of the views of one holds of those of the other.
pub All-same_views : {A B : Type 0} (P : B → Type 0) (f : A → B) (xs ys : List A) → map f xs ≡ map f ys → All (λ y. P (f y)) ys → All (λ x. P (f x)) xs
All-same_views P f xs ys e all = All-map_back P f xs (subst (All P) (sym e) (All-map P f ys all))
