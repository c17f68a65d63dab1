-- Two lists of which each pair at one place is related.
use Rattle.std.proofs.Common.{◌≡◌, List, [], ◌∷◌, ◌++◌, All, sym, subst}
use Rattle.std.specs.List.{AllZip}
use Rattle.std.proofs.lemmas.List.Elements.{All-cons, All-nil}

module _ {X Y : Type 0} (R : X → Y → Type 0) where
  AllZip-add : (xs : List X) (ys : List Y) (x : X) (y : Y) → AllZip R xs ys → R x y → AllZip R (xs ++ x ∷ []) (ys ++ y ∷ [])
  AllZip-add [] [] x y h r = (r, tt)
  AllZip-add [] (z ∷ ys) x y h r = absurd h
  AllZip-add (w ∷ xs) [] x y h r = absurd h
  AllZip-add (w ∷ xs) (z ∷ ys) x y h r = (h.0, AllZip-add xs ys x y h.1 r)

  -- One more pair at the end of both.
  pub AllZip-push : (xs : List X) (ys : List Y) {more : List X} {others : List Y} {x : X} {y : Y} → more ≡ xs ++ x ∷ [] → others ≡ ys ++ y ∷ [] → AllZip R xs ys → R x y → AllZip R more others
  AllZip-push xs ys {more} {others} {x} {y} e f h r = subst (λ l. AllZip R l others) (sym e) (subst (AllZip R (xs ++ x ∷ [])) (sym f) (AllZip-add xs ys x y h r))

  pub AllZip-weaker : (S : X → Y → Type 0) → ((x : X) (y : Y) → R x y → S x y) → (xs : List X) (ys : List Y) → AllZip R xs ys → AllZip S xs ys
  AllZip-weaker S f [] [] h = tt
  AllZip-weaker S f [] (z ∷ ys) h = absurd h
  AllZip-weaker S f (w ∷ xs) [] h = absurd h
  AllZip-weaker S f (w ∷ xs) (z ∷ ys) h = (f w z h.0, AllZip-weaker S f xs ys h.1)

  pub AllZip-first : (P : X → Type 0) → ((x : X) (y : Y) → R x y → P x) → (xs : List X) (ys : List Y) → AllZip R xs ys → All P xs
  AllZip-first P f [] ys h = All-nil P
  AllZip-first P f (w ∷ xs) [] h = absurd h
  AllZip-first P f (w ∷ xs) (z ∷ ys) h = All-cons P w xs (f w z h.0) (AllZip-first P f xs ys h.1)

  pub AllZip-second : (P : Y → Type 0) → ((x : X) (y : Y) → R x y → P y) → (xs : List X) (ys : List Y) → AllZip R xs ys → All P ys
  AllZip-second P f xs [] h = All-nil P
  AllZip-second P f [] (z ∷ ys) h = absurd h
  AllZip-second P f (w ∷ xs) (z ∷ ys) h = All-cons P z ys (f w z h.0) (AllZip-second P f xs ys h.1)
