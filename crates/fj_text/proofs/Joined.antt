-- Pieces joined by a text, one more at a time, as loops print them.
use Rattle.std.proofs.Common.{◌≡◌, ℕ, zero, suc, ◌+◌, ◌<◌, ◌≤◌, true, false, Bool, cond, eqb, List, [], ◌∷◌, ◌++◌, length, map, take, drop, Some, refl, sym, ap, ◌∙◌, append_assoc, append-nil, add-one, arith, Result, Ok, Err, OnOk}
use Rattle.std.specs.List.{flat_map, slice_get}
use Rattle.std.proofs.lemmas.Bool.{ne_eqb}
use Rattle.std.proofs.lemmas.List.{map_push, take_all}
use Rattle.std.proofs.lemmas.List.Concat.{flat_map-append}
use Rattle.std.proofs.lemmas.Option.{same_Some}
use Rattle.fj_text.specs.Printed.{joined, or_zero}

-- The item at a place stands between those before it and those behind it.
drop_suc : {X : Type 0} (xs : List X) (i : ℕ) (x : X) → slice_get xs i ≡ Some x → drop i xs ≡ x ∷ drop (suc i) xs
drop_suc [] i x at = cc
drop_suc (y ∷ xs) zero x at = ap (λ z. z ∷ xs) (same_Some y x at)
drop_suc (y ∷ xs) (suc i) x at = drop_suc xs i x at

take_suc : {X : Type 0} (xs : List X) (i : ℕ) (x : X) → slice_get xs i ≡ Some x → take (suc i) xs ≡ take i xs ++ x ∷ []
take_suc [] i x at = cc
take_suc (y ∷ xs) zero x at = ap (λ z. z ∷ []) (same_Some y x at)
take_suc (y ∷ xs) (suc i) x at = ap (λ zs. y ∷ zs) (take_suc xs i x at)

pub drop_at : {X : Type 0} (xs : List X) (i : ℕ) (x : X) → slice_get xs i ≡ Some x → drop i xs ≡ x ∷ drop (i + 1) xs
drop_at xs i x at = rw add-one (drop_suc xs i x at)

pub take_at : {X : Type 0} (xs : List X) (i : ℕ) (x : X) → slice_get xs i ≡ Some x → take (i + 1) xs ≡ take i xs ++ x ∷ []
take_at xs i x at = rw add-one (take_suc xs i x at)

pub is_inside : {X : Type 0} (xs : List X) (i : ℕ) (x : X) → slice_get xs i ≡ Some x → i < length xs
is_inside [] i x at = cc
is_inside (y ∷ xs) zero x at = omega arith
is_inside (y ∷ xs) (suc i) x at = let h = is_inside xs i x at in omega arith

-- no piece stands there
abbrev pub is_none : List (List ℕ) → Bool
is_none [] = true
is_none (piece ∷ pieces) = false

-- One more piece.
pub joined-push : (between : List ℕ) (front : List (List ℕ)) (piece : List ℕ) → joined between (front ++ piece ∷ []) ≡ joined between front ++ (cond (is_none front) [] between ++ piece)
joined-push between [] piece = append-nil piece
joined-push between (x ∷ front) piece =
    ap (λ t. x ++ t) (flat_map-append (λ p. between ++ p) front (piece ∷ [])) ∙ ap (λ t. x ++ (flat_mapped ++ t)) (append-nil (between ++ piece)) ∙ sym (append_assoc x flat_mapped (between ++ piece))
  where
    flat_mapped : List ℕ
    flat_mapped = flat_map (λ p. between ++ p) front

first_piece : {X : Type 0} (f : X → List ℕ) (xs : List X) (i : ℕ) → i < length xs → is_none (map f (take i xs)) ≡ eqb i 0
first_piece f xs zero inside = refl
first_piece f [] (suc i) inside = absurd (omega arith)
first_piece f (x ∷ xs) (suc i) inside = sym (ne_eqb (suc i) 0 (λ e. absurd (omega arith)))

-- The pieces up to the item at a place, once those before it are there.
pub joined-next : {X : Type 0} (between : List ℕ) (f : X → List ℕ) (xs : List X) (i : ℕ) (x : X) → slice_get xs i ≡ Some x
    → joined between (map f (take (i + 1) xs)) ≡ joined between (map f (take i xs)) ++ (cond (eqb i 0) [] between ++ f x)
joined-next between f xs i x at =
    ap (λ ys. joined between (map f ys)) (take_at xs i x at) ∙ ap (joined between) (map_push f (take i xs) x) ∙ joined-push between (map f (take i xs)) (f x)
    ∙ ap (λ b. joined between (map f (take i xs)) ++ (cond b [] between ++ f x)) (first_piece f xs i (is_inside xs i x at))

-- The step of a loop that appends the text between two pieces, and then the piece of the item at a place.
pub piece_pushed : {X : Type 0} (between : List ℕ) (f : X → List ℕ) (xs : List X) (i : ℕ) (x : X) (old out middle new : List ℕ) → slice_get xs i ≡ Some x
    → out ≡ old ++ joined between (map f (take i xs)) → middle ≡ out ++ cond (eqb i 0) [] between → new ≡ middle ++ f x
    → new ≡ old ++ joined between (map f (take (i + 1) xs))
piece_pushed between f xs i x old out middle new at before parted pushed =
    let so_far = joined between (map f (take i xs)) in
    pushed ∙ ap (λ s. s ++ f x) (parted ∙ ap (λ s. s ++ cond (eqb i 0) [] between) before)
    ∙ append_assoc (old ++ so_far) (cond (eqb i 0) [] between) (f x) ∙ append_assoc old so_far (cond (eqb i 0) [] between ++ f x)
    ∙ ap (λ s. old ++ s) (sym (joined-next between f xs i x at))

-- All pieces, where there are some, and `0` where there is none.
pub pieces_end : {X : Type 0} (between : List ℕ) (f : X → List ℕ) (xs : List X) (i : ℕ) (old new : List ℕ) → eqb (length xs) 0 ≡ false → length xs ≤ i
    → new ≡ old ++ joined between (map f (take i xs)) → new ≡ old ++ joined between (or_zero (map f xs))
pieces_end between f [] i old new some all h = cc
pieces_end between f (x ∷ xs) i old new some all h = h ∙ ap (λ ys. old ++ joined between (map f ys)) (take_all i (x ∷ xs) all)

pub no_piece : {X : Type 0} (between : List ℕ) (f : X → List ℕ) (xs : List X) → length xs ≡ 0 → joined between (or_zero (map f xs)) ≡ 48 ∷ []
no_piece between f [] none = refl
no_piece between f (x ∷ xs) none = absurd (omega arith)

-- What follows where a call did not fail.
pub on_ok : {T E : Type 0} {P Q : Type 0} (r : Result T E) → (P → Q) → OnOk r P → OnOk r Q
on_ok (Ok x) f p = f p
on_ok (Err e) f p = tt
