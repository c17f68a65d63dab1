-- A list of different elements that are all in another list is no longer than the other.
use Rattle.std.proofs.Common.{◌≡◌, ◌≢◌, ◌⊎◌, inl, inr, suc, ◌<◌, ◌≤◌, List, [], ◌∷◌, length, Contains, refl, sym, ap, ◌∙◌, subst, arith}
use Rattle.std.specs.List.{AllPairs}
use Rattle.fj_algebra.proofs.Pairs.{contains_cons, contains_head, contains_tail, contains_nil, AllPairs-head, AllPairs-tail}

-- What is left of a list without one of its elements.
record Without {X : Type 0} (x : X) (ys : List X) : Type 0 where
  rest : List X
  longer : length ys ≡ suc (length rest)
  others : (y : X) → Contains ys y → (x ≡ y) ⊎ Contains rest y

without : {X : Type 0} (x : X) (ys : List X) → Contains ys x → Without x ys
without x [] c = absurd (contains_nil x c)
without {X} x (z ∷ ys) c = go (contains_cons z ys x c) (without x ys)
  where
    go : (z ≡ x) ⊎ Contains ys x → (Contains ys x → Without x ys) → Without x (z ∷ ys)
    go (inl e) later = record {
      rest = ys;
      longer = refl;
      others = λ y d. elim (contains_cons z ys y d) [ inl f ↦ inl (sym e ∙ f) | inr h ↦ inr h ];
    }
    go (inr d) later =
        let left = later d in
        record {
          rest = z ∷ left.rest;
          longer = ap suc left.longer;
          others = λ y h. elim (contains_cons z ys y h) [
            | inl f ↦ inr (subst (Contains (z ∷ left.rest)) f (contains_head z left.rest))
            | inr k ↦ elim (left.others y k) [ inl e ↦ inl e | inr m ↦ inr (contains_tail z left.rest y m) ]
          ];
        }

pub at_most_as_many : {X : Type 0} (xs ys : List X) → AllPairs (λ x y. x ≢ y) xs → ((x : X) → Contains xs x → Contains ys x) → length xs ≤ length ys
at_most_as_many [] ys distinct in_ys = omega arith
at_most_as_many {X} (x ∷ xs) ys distinct in_ys =
    let left = without x ys (in_ys x (contains_head x xs)) in
    let fewer = at_most_as_many xs left.rest (AllPairs-tail (λ x y. x ≢ y) x xs distinct) (λ y c. elim (left.others y (in_ys y (contains_tail x xs y c))) [
      | inl e ↦ absurd (AllPairs-head (λ x y. x ≢ y) x xs distinct y c e)
      | inr d ↦ d
    ]) in
    let longer = left.longer in
    omega (arith, fewer, longer)

-- It is shorter where the other list has an element that it lacks.
pub fewer : {X : Type 0} (xs ys : List X) (y : X) → AllPairs (λ x y. x ≢ y) xs → ((x : X) → Contains xs x → Contains ys x) → Contains ys y
    → (Contains xs y → ⊥) → length xs < length ys
fewer [] [] y distinct in_ys c n = absurd (contains_nil y c)
fewer [] (z ∷ ys) y distinct in_ys c n = omega arith
fewer {X} (x ∷ xs) ys y distinct in_ys c n =
    let left = without x ys (in_ys x (contains_head x xs)) in
    let less = fewer xs left.rest y (AllPairs-tail (λ x y. x ≢ y) x xs distinct) (λ z d. elim (left.others z (in_ys z (contains_tail x xs z d))) [
      | inl e ↦ absurd (AllPairs-head (λ x y. x ≢ y) x xs distinct z d e)
      | inr h ↦ h
    ]) (elim (left.others y c) [
      | inl e ↦ absurd (n (subst (Contains (x ∷ xs)) e (contains_head x xs)))
      | inr d ↦ d
    ]) (λ d. n (contains_tail x xs y d)) in
    let longer = left.longer in
    omega (arith, less, longer)
