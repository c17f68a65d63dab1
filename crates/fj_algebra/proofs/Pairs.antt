-- Pairs of elements of a list, and lists that a relation sorts.
use Rattle.std.proofs.Common.{map, ◌++◌, ap, Bool, true, false, cond, filter, ◌≡◌, zero, suc, List, [], ◌∷◌, get_or, Contains, All, ◌⊎◌, inl, inr, refl, sym, ap₂, ◌∙◌, subst, arith}
use Rattle.std.specs.List.{AllPairs}
use Rattle.std.proofs.lemmas.List.Kept.{AllPairs-cons}
use Rattle.std.proofs.lemmas.List.Elements.{All-append, All-map, Contains-get_or, All-contains, All-filter, All-contains_itself, filter_passes}

-- An element of a list is its head or in its tail.
pub contains_cons : {X : Type 0} (x : X) (xs : List X) (y : X) → Contains (x ∷ xs) y → (x ≡ y) ⊎ Contains xs y
contains_cons x xs y (zero, l, e) = inl e
contains_cons x xs y (suc k, l, e) = inr (k, omega arith, e)

pub contains_head : {X : Type 0} (x : X) (xs : List X) → Contains (x ∷ xs) x
contains_head x xs = (zero, omega arith, refl)

pub contains_tail : {X : Type 0} (x : X) (xs : List X) (y : X) → Contains xs y → Contains (x ∷ xs) y
contains_tail x xs y (k, l, e) = (suc k, omega arith, e)

pub contains_nil : {X : Type 0} (y : X) → Contains [] y → ⊥
contains_nil y (k, l, e) = omega arith

pub All-from_elements : {X : Type 0} (P : X → Type 0) (xs : List X) → ((x : X) → Contains xs x → P x) → All P xs
All-from_elements P xs h k d l = h (get_or xs k d) (Contains-get_or xs k d l)

pub AllPairs-head : {X : Type 0} (R : X → X → Type 0) (x : X) (xs : List X) → AllPairs R (x ∷ xs) → (y : X) → Contains xs y → R x y
AllPairs-head R x xs p y (k, l, e) = subst (R x) e (p zero (suc k) y (omega arith) (omega arith))

pub AllPairs-tail : {X : Type 0} (R : X → X → Type 0) (x : X) (xs : List X) → AllPairs R (x ∷ xs) → AllPairs R xs
AllPairs-tail R x xs p i j d h l = p (suc i) (suc j) d (omega arith) (omega arith)

pub AllPairs-weaker : {X : Type 0} (R S : X → X → Type 0) (xs : List X) → ((x y : X) → Contains xs x → Contains xs y → R x y → S x y) →
    AllPairs R xs → AllPairs S xs
AllPairs-weaker R S xs w p i j d l k = w (get_or xs i d) (get_or xs j d) (Contains-get_or xs i d (omega arith)) (Contains-get_or xs j d k) (p i j d l k)

-- Two elements of a list are one, or one stands before the other.
pub pair_of : {X : Type 0} (R : X → X → Type 0) (xs : List X) → AllPairs R xs → (x y : X) → Contains xs x → Contains xs y → (x ≡ y) ⊎ (R x y ⊎ R y x)
pair_of R [] p x y c d = absurd (contains_nil x c)
pair_of R (z ∷ xs) p x y c d = go (contains_cons z xs x c) (contains_cons z xs y d) (pair_of R xs (AllPairs-tail R z xs p) x y)
  where
    go : (z ≡ x) ⊎ Contains xs x → (z ≡ y) ⊎ Contains xs y → (Contains xs x → Contains xs y → (x ≡ y) ⊎ (R x y ⊎ R y x)) → (x ≡ y) ⊎ (R x y ⊎ R y x)
    go (inl e) (inl f) rest = inl (sym e ∙ f)
    go (inl e) (inr f) rest = inr (inl (subst (λ x. R x y) e (AllPairs-head R z xs p y f)))
    go (inr e) (inl f) rest = inr (inr (subst (λ y. R y x) f (AllPairs-head R z xs p x e)))
    go (inr e) (inr f) rest = rest e f

-- Two lists that a strict order sorts and that have the same elements are equal.
pub same_elements : {X : Type 0} (R : X → X → Type 0) → ((x : X) → R x x → ⊥) → ((x y : X) → R x y → R y x → ⊥) → (xs ys : List X) → AllPairs R xs →
    AllPairs R ys
    → ((x : X) → Contains xs x → Contains ys x) → ((y : X) → Contains ys y → Contains xs y) → xs ≡ ys
same_elements R irreflexive asymmetric [] [] p q f g = refl
same_elements R irreflexive asymmetric [] (y ∷ ys) p q f g = absurd (contains_nil y (g y (contains_head y ys)))
same_elements R irreflexive asymmetric (x ∷ xs) [] p q f g = absurd (contains_nil x (f x (contains_head x xs)))
same_elements {X} R irreflexive asymmetric (x ∷ xs) (y ∷ ys) p q f g =
    ap₂ ◌∷◌ heads (same_elements R irreflexive asymmetric xs ys (AllPairs-tail R x xs p) (AllPairs-tail R y ys q) down up)
  where
    heads : x ≡ y
    heads = go (contains_cons y ys x (f x (contains_head x xs))) (contains_cons x xs y (g y (contains_head y ys)))
      where
        go : (y ≡ x) ⊎ Contains ys x → (x ≡ y) ⊎ Contains xs y → x ≡ y
        go (inl e) h = sym e
        go (inr c) (inl e) = e
        go (inr c) (inr d) = absurd (asymmetric x y (AllPairs-head R x xs p y d) (AllPairs-head R y ys q x c))

    down : (z : X) → Contains xs z → Contains ys z
    down z c =
        elim (contains_cons y ys z (f z (contains_tail x xs z c)))
        [ inl e ↦ absurd (irreflexive z (subst (λ x. R x z) (heads ∙ e) (AllPairs-head R x xs p z c))) | inr d ↦ d ]

    up : (z : X) → Contains ys z → Contains xs z
    up z c =
        elim (contains_cons x xs z (g z (contains_tail y ys z c)))
        [ inl e ↦ absurd (irreflexive z (subst (λ y. R y z) (sym heads ∙ e) (AllPairs-head R y ys q z c))) | inr d ↦ d ]

-- A filter keeps the elements that pass.
pub filter_contains : {X : Type 0} (p : X → Bool) (xs : List X) (x : X) → Contains xs x → p x ≡ true → Contains (filter p xs) x
filter_contains p [] x c t = absurd (contains_nil x c)
filter_contains {X} p (y ∷ xs) x c t = go (p y) refl (contains_cons y xs x c) (λ d. filter_contains p xs x d t)
  where
    go : (b : Bool) → p y ≡ b → (y ≡ x) ⊎ Contains xs x → (Contains xs x → Contains (filter p xs) x) → Contains (cond b (y ∷ filter p xs) (filter p xs)) x
    go true e (inl h) rest = subst (Contains (y ∷ filter p xs)) h (contains_head y (filter p xs))
    go true e (inr d) rest = contains_tail y (filter p xs) x (rest d)
    go false e (inl h) rest = absurd (let f = ap p h in cc)
    go false e (inr d) rest = rest d

pub contains_filter : {X : Type 0} (p : X → Bool) (xs : List X) (x : X) → Contains (filter p xs) x → Contains xs x × (p x ≡ true)
contains_filter p xs x c = (
  All-contains (Contains xs) (filter p xs) x (All-filter p (Contains xs) xs (All-contains_itself xs)) c,
  All-contains (λ x. p x ≡ true) (filter p xs) x (filter_passes p xs) c,
)

pub contains_map : {X Y : Type 0} (f : X → Y) (xs : List X) (x : X) → Contains xs x → Contains (map f xs) (f x)
contains_map f [] x c = absurd (contains_nil x c)
contains_map f (y ∷ xs) x c =
    elim (contains_cons y xs x c) [
      | inl e ↦ subst (λ z. Contains (map f (y ∷ xs)) (f z)) e (contains_head (f y) (map f xs))
      | inr d ↦ contains_tail (f y) (map f xs) (f x) (contains_map f xs x d)
    ]

pub contains_map_back : {X Y : Type 0} (f : X → Y) (xs : List X) (y : Y) → Contains (map f xs) y → (x : X) × Contains xs x × (f x ≡ y)
contains_map_back f [] y c = absurd (contains_nil y c)
contains_map_back f (z ∷ xs) y c =
    elim (contains_cons (f z) (map f xs) y c)
    [ inl e ↦ (z, contains_head z xs, e) | inr d ↦ (let r = contains_map_back f xs y d in (r.0, contains_tail z xs r.0 r.1, r.2)) ]

pub AllPairs-append : {X : Type 0} (R : X → X → Type 0) (xs ys : List X) → AllPairs R xs → AllPairs R ys →
    ((x y : X) → Contains xs x → Contains ys y → R x y) → AllPairs R (xs ++ ys)
AllPairs-append R [] ys p q r = q
AllPairs-append R (x ∷ xs) ys p q r =
    AllPairs-cons R x (xs ++ ys)
    (All-append (R x) xs ys (All-from_elements (R x) xs (AllPairs-head R x xs p))
    (All-from_elements (R x) ys (λ y c. r x y (contains_head x xs) c)))
    (AllPairs-append R xs ys (AllPairs-tail R x xs p) q (λ z y c d. r z y (contains_tail x xs z c) d))

pub AllPairs-map : {X Y : Type 0} (R : X → X → Type 0) (S : Y → Y → Type 0) (f : X → Y) (xs : List X) →
    ((x y : X) → Contains xs x → Contains xs y → R x y → S (f x) (f y)) → AllPairs R xs → AllPairs S (map f xs)
AllPairs-map R S f [] w p = λ i j d l k. absurd (omega arith)
AllPairs-map R S f (x ∷ xs) w p =
    AllPairs-cons S (f x) (map f xs)
    (All-map (S (f x)) f xs
    (All-from_elements (λ y. S (f x) (f y)) xs (λ y c. w x y (contains_head x xs) (contains_tail x xs y c) (AllPairs-head R x xs p y c))))
    (AllPairs-map R S f xs (λ y z c d. w y z (contains_tail x xs y c) (contains_tail x xs z d)) (AllPairs-tail R x xs p))
