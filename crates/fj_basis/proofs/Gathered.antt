-- Lists that a loop gathers, an element at a time.
use Rattle.std.proofs.Common.{◌≡◌, ℕ, ◌+◌, ◌<◌, List, [], ◌∷◌, ◌++◌, length, map, take, drop, All, get_or, sym, ap, ap₂, ◌∙◌, subst, arith, add-one}
use Rattle.std.proofs.Math.Seq.{take-suc}
use Rattle.std.proofs.lemmas.List.{append-nil, drop_all, map-append, take_all}
use Rattle.std.proofs.lemmas.List.Elements.{All-nil, All-cons, All-append}

-- One element more: its view is the value of the next element.
pub gathered : {A B C : Type 0} (f : B → C) (g : A → C) (ys new : List B) (y : B) (xs : List A) (i : ℕ) (x : A) → i < length xs → x ≡ get_or xs i x
    → map f ys ≡ map g (take i xs) → f y ≡ g x → new ≡ ys ++ y ∷ [] → map f new ≡ map g (take (i + 1) xs)
gathered f g ys new y xs i x l at before is e =
    ap (map f) e ∙ map-append f ys (y ∷ []) ∙ ap₂ (λ us u. us ++ u ∷ []) before (is ∙ ap g at)
    ∙ sym (ap (λ n. map g (take n xs)) (add-one i) ∙ ap (map g) (take-suc xs i x l) ∙ map-append g (take i xs) (get_or xs i x ∷ []))

-- The same of elements that are the values.
pub gathered_values : {A B : Type 0} (g : A → B) (ys new : List B) (y : B) (xs : List A) (i : ℕ) (x : A) → i < length xs → x ≡ get_or xs i x
    → ys ≡ map g (take i xs) → y ≡ g x → new ≡ ys ++ y ∷ [] → new ≡ map g (take (i + 1) xs)
gathered_values g ys new y xs i x l at before is e =
    e ∙ ap₂ (λ us u. us ++ u ∷ []) before (is ∙ ap g at)
    ∙ sym (ap (λ n. map g (take n xs)) (add-one i) ∙ ap (map g) (take-suc xs i x l) ∙ map-append g (take i xs) (get_or xs i x ∷ []))

-- The same of elements whose views are the elements.
pub gathered_views : {A B : Type 0} (f : B → A) (ys new : List B) (y : B) (xs : List A) (i : ℕ) (x : A) → i < length xs → x ≡ get_or xs i x
    → map f ys ≡ take i xs → f y ≡ x → new ≡ ys ++ y ∷ [] → map f new ≡ take (i + 1) xs
gathered_views f ys new y xs i x l at before is e =
    ap (map f) e ∙ map-append f ys (y ∷ []) ∙ ap₂ (λ us u. us ++ u ∷ []) before (is ∙ at)
    ∙ sym (ap (λ n. take n xs) (add-one i) ∙ take-suc xs i x l)

-- What holds of all that is gathered holds with one more.
pub gathered_all : {B : Type 0} (P : B → Type 0) (ys new : List B) (y : B) → All P ys → P y → new ≡ ys ++ y ∷ [] → All P new
gathered_all P ys new y all here e = subst (All P) (sym e) (All-append P ys (y ∷ []) all (All-cons P y [] here (All-nil P)))

-- A list all of whose elements are written is what was written.
pub whole-written : {A : Type 0} (n : ℕ) (new old : List A) → length new ≡ length old → n ≡ length old → take n (new ++ drop (length new) old) ≡ new
whole-written n new old long whole =
    ap (λ more. take n (new ++ more)) (drop_all (length new) old (omega (arith, long))) ∙ ap (take n) (append-nil new) ∙ take_all n new (omega (arith, long, whole))
