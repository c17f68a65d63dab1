-- Laws of sums over lists.
use Rattle.std.proofs.Common.{ℕ, zero, suc, ◌<◌, length, get_or, set, swap, IsPermutation, subst, ⊎_elim, arith, le_of_suc-le-suc, get_or-set_same, get_or-set_other, length-set, ◌≡◌, List, [], ◌∷◌, ◌++◌, map, flat_map, All, refl, sym, ap, ap₂, ◌∙◌}
use Rattle.std.proofs.lemmas.List.Elements.{All-head, All-tail}
use Rattle.std.proofs.lemmas.Bool.{cases_eq}
use Rattle.std.proofs.lemmas.List.Sorted.{IsPermutation-keeps}
use Rattle.fj_algebra.specs.Ring.{CommutativeRing, RingMap}
use Rattle.fj_algebra.specs.Sum.{sum_over}
use Rattle.fj_algebra.proofs.Ring.{add_cancel_right, zero_add, add_assoc, mul_add, mul_zero, add_mul, zero_mul, neg_sum, neg_zero, add_left_comm, sum_laws}

regroup : {A : Type 0} (R : CommutativeRing A) (a b s t : A) → R.add (R.add a b) (R.add s t) ≡ R.add (R.add a s) (R.add b t)
regroup R a b s t = simp sum_laws

ends : {A : Type 0} (R : CommutativeRing A) (a b s : A) → R.add (R.add a s) b ≡ R.add (R.add b s) a
ends R a b s = simp sum_laws

module _ {A X : Type 0} (R : CommutativeRing A) where
  open R use {zero as 𝟘, add as ◌⊕◌, neg as ⊖◌, mul as ◌⊗◌}

  infixl 60 ◌⊕◌
  infixl 70 ◌⊗◌
  infix 80 ⊖◌
  pub sum_over-append : (f : X → A) (xs ys : List X) → sum_over R f (xs ++ ys) ≡ sum_over R f xs ⊕ sum_over R f ys
  sum_over-append f [] ys = sym (zero_add R (sum_over R f ys))
  sum_over-append f (x ∷ xs) ys = ap (◌⊕◌ (f x)) (sum_over-append f xs ys) ∙ sym (add_assoc R (f x) (sum_over R f xs) (sum_over R f ys))

  pub sum_over-map : {Y : Type 0} (f : X → A) (g : Y → X) (ys : List Y) → sum_over R f (map g ys) ≡ sum_over R (λ y. f (g y)) ys
  sum_over-map f g [] = refl
  sum_over-map f g (y ∷ ys) = ap (◌⊕◌ (f (g y))) (sum_over-map f g ys)

  pub sum_over-flat_map : {Y : Type 0} (f : X → A) (g : Y → List X) (ys : List Y) → sum_over R f (flat_map g ys) ≡ sum_over R (λ y. sum_over R f (g y)) ys
  sum_over-flat_map f g [] = refl
  sum_over-flat_map f g (y ∷ ys) = sum_over-append f (g y) (flat_map g ys) ∙ ap (◌⊕◌ (sum_over R f (g y))) (sum_over-flat_map f g ys)

  pub sum_over-same : (f g : X → A) → ((x : X) → f x ≡ g x) → (xs : List X) → sum_over R f xs ≡ sum_over R g xs
  sum_over-same f g e [] = refl
  sum_over-same f g e (x ∷ xs) = ap (λ a. a ⊕ sum_over R f xs) (e x) ∙ ap (◌⊕◌ (g x)) (sum_over-same f g e xs)

  pub sum_over-same_each : (f g : X → A) (xs : List X) → All (λ x. f x ≡ g x) xs → sum_over R f xs ≡ sum_over R g xs
  sum_over-same_each f g [] e = refl
  sum_over-same_each f g (x ∷ xs) e = ap₂ ◌⊕◌ (All-head (λ x. f x ≡ g x) x xs e) (sum_over-same_each f g xs (All-tail (λ x. f x ≡ g x) x xs e))

  pub sum_over-zero : (xs : List X) → sum_over R (λ x. 𝟘) xs ≡ 𝟘
  sum_over-zero [] = refl
  sum_over-zero (x ∷ xs) = zero_add R (sum_over R (λ x. 𝟘) xs) ∙ sum_over-zero xs

  pub sum_over-add : (f g : X → A) (xs : List X) → sum_over R (λ x. f x ⊕ g x) xs ≡ sum_over R f xs ⊕ sum_over R g xs
  sum_over-add f g [] = sym (zero_add R 𝟘)
  sum_over-add f g (x ∷ xs) = ap (◌⊕◌ (f x ⊕ g x)) (sum_over-add f g xs) ∙ regroup R (f x) (g x) (sum_over R f xs) (sum_over R g xs)

  pub sum_over-neg : (f : X → A) (xs : List X) → sum_over R (λ x. ⊖ f x) xs ≡ ⊖ sum_over R f xs
  sum_over-neg f [] = sym (neg_zero R)
  sum_over-neg f (x ∷ xs) = ap (◌⊕◌ (⊖ f x)) (sum_over-neg f xs) ∙ sym (neg_sum R (f x) (sum_over R f xs))

  pub sum_over-mul : (c : A) (f : X → A) (xs : List X) → sum_over R (λ x. c ⊗ f x) xs ≡ c ⊗ sum_over R f xs
  sum_over-mul c f [] = sym (mul_zero R c)
  sum_over-mul c f (x ∷ xs) = ap (◌⊕◌ (c ⊗ f x)) (sum_over-mul c f xs) ∙ sym (mul_add R c (f x) (sum_over R f xs))

  pub sum_over-mul_right : (c : A) (f : X → A) (xs : List X) → sum_over R (λ x. f x ⊗ c) xs ≡ sum_over R f xs ⊗ c
  sum_over-mul_right c f [] = sym (zero_mul R c)
  sum_over-mul_right c f (x ∷ xs) = ap (◌⊕◌ (f x ⊗ c)) (sum_over-mul_right c f xs) ∙ sym (add_mul R (f x) (sum_over R f xs) c)

  -- The order of two sums can be exchanged.
  pub sum_over-exchange : {Y : Type 0} (f : X → Y → A) (xs : List X) (ys : List Y) → sum_over R (λ x. sum_over R (f x) ys) xs ≡ sum_over R (λ y. sum_over R (λ x. f x y) xs) ys
  sum_over-exchange f xs [] = sum_over-zero xs
  sum_over-exchange f xs (y ∷ ys) = sum_over-add (λ x. f x y) (λ x. sum_over R (f x) ys) xs ∙ ap (◌⊕◌ (sum_over R (λ x. f x y) xs)) (sum_over-exchange f xs ys)

  pub sum_over-middle : (f : X → A) (xs : List X) (x : X) (ys : List X) → sum_over R f (xs ++ x ∷ ys) ≡ f x ⊕ sum_over R f (xs ++ ys)
  sum_over-middle f [] x ys = refl
  sum_over-middle f (w ∷ xs) x ys = ap (◌⊕◌ (f w)) (sum_over-middle f xs x ys) ∙ add_left_comm R (f w) (f x) (sum_over R f (xs ++ ys))

-- Writing y at place i adds f y and takes away f of the element there.
sum_over-set : {A X : Type 0} (R : CommutativeRing A) (f : X → A) (xs : List X) (i : ℕ) (y d : X) → i < length xs → R.add (sum_over R f (set xs i y)) (f (get_or xs i d)) ≡ R.add (sum_over R f xs) (f y)
sum_over-set R f [] i y d h = absurd (omega arith)
sum_over-set R f (x ∷ xs) zero y d h = ends R (f y) (f x) (sum_over R f xs)
sum_over-set R f (x ∷ xs) (suc i) y d h = add_assoc R (f x) _ _ ∙ ap (R.add (f x)) (sum_over-set R f xs i y d (le_of_suc-le-suc h)) ∙ sym (add_assoc R (f x) _ _)

sum_over-swap : {A X : Type 0} (R : CommutativeRing A) (f : X → A) (xs : List X) (i j : ℕ) → i < length xs → j < length xs → sum_over R f (swap xs i j) ≡ sum_over R f xs
sum_over-swap R f [] i j p q = refl
sum_over-swap {X} R f (d ∷ l) i j p q =
    let xs : List X = d ∷ l in
    let x : X = get_or xs i d in
    let y : X = get_or xs j d in
    let ys : List X = set xs i y in
    let there : get_or ys j d ≡ y = ⊎_elim (λ e. ap (λ n. get_or ys n d) e ∙ get_or-set_same xs i y d p) (λ n. get_or-set_other xs i j y d n) (cases_eq j i) in
    let long : j < length ys = subst (λ n. j < n) (sym (length-set xs i y)) q in
    add_cancel_right R (f y) _ _ (ap (λ z. R.add (sum_over R f (set ys j x)) (f z)) (sym there) ∙ sum_over-set R f ys j x d long ∙ sum_over-set R f xs i y d p)

-- A sum does not depend on the order of the list.
pub sum_over-IsPermutation : {A X : Type 0} (R : CommutativeRing A) (f : X → A) (xs ys : List X) → IsPermutation xs ys → sum_over R f ys ≡ sum_over R f xs
sum_over-IsPermutation R f xs ys = IsPermutation-keeps xs (λ l. sum_over R f l ≡ sum_over R f xs) refl (λ l i j p q h. sum_over-swap R f l i j p q ∙ h) ys

pub sum_over-RingMap : {A B X : Type 0} {R : CommutativeRing A} {S : CommutativeRing B} {m : A → B} → RingMap R S m → (f : X → A) (xs : List X) → m (sum_over R f xs) ≡ sum_over S (λ x. m (f x)) xs
sum_over-RingMap M f [] = M.keeps_zero
sum_over-RingMap {R} {S} {m} M f (x ∷ xs) = M.keeps_add (f x) (sum_over R f xs) ∙ ap (S.add (m (f x))) (sum_over-RingMap M f xs)
