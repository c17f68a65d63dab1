-- Places of pairs, and leads without a common variable.
use Rattle.std.proofs.Common.{◌≡◌, ◌≢◌, ℕ, ◌+◌, ◌<◌, ◌≤◌, ◌==◌, ◌&&◌, ◌||◌, Bool, true, false, List, [], ◌∷◌, ◌++◌, length, drop, get_or, Some, None, Result, Ok, Err, Ordering, Less, Equal, Greater, nat_cmp, refl, sym, ap, ap₂, ◌∙◌, arith}
use Rattle.std.specs.Result.{IfOk, IsErr, result_ok}
use Rattle.std.specs.Cmp.Lexicographic.{slice_cmp}
use Rattle.std.specs.Ordering.{ordering_then}
use Rattle.std.proofs.lemmas.Bool.{ne_eqb}
use Rattle.std.proofs.lemmas.List.{drop_more, drop_all}
use Rattle.fj_mono.specs.Monomial.{Monomial}
use Rattle.fj_theory.specs.Exponents.{total}
use Rattle.fj_theory.specs.MonomialOrder.{IsMonomialOrder, compare_by}
use Rattle.fj_groebner.specs.Division.{degree_limit}
use Rattle.fj_groebner.specs.Run.{are_coprime}
use Rattle.fj_basis.specs.Place.{place_by, IsWithinLimit}

then_assoc : (a b c : Ordering) → ordering_then (ordering_then a b) c ≡ ordering_then a (ordering_then b c)
then_assoc Less b c = refl
then_assoc Equal b c = refl
then_assoc Greater b c = refl

-- Lists of one length decide before what follows them.
slice_cmp-append : (xs ys us vs : List ℕ) → length xs ≡ length ys → slice_cmp nat_cmp (xs ++ us) (ys ++ vs) ≡ ordering_then (slice_cmp nat_cmp xs ys) (slice_cmp nat_cmp us vs)
slice_cmp-append [] [] us vs e = refl
slice_cmp-append [] (y ∷ ys) us vs e = absurd (omega (arith, e))
slice_cmp-append (x ∷ xs) [] us vs e = absurd (omega (arith, e))
slice_cmp-append (x ∷ xs) (y ∷ ys) us vs e =
    ap (ordering_then (nat_cmp x y)) (slice_cmp-append xs ys us vs (omega (arith, e))) ∙ sym (then_assoc (nat_cmp x y) (slice_cmp nat_cmp xs ys) (slice_cmp nat_cmp us vs))

module _ {key : List ℕ → List ℕ} (O : IsMonomialOrder key) where
  pub place-both : (m n : Monomial) (us vs : List ℕ)
      → slice_cmp nat_cmp (place_by key (Some m) us) (place_by key (Some n) vs) ≡ ordering_then (compare_by key m.exponents n.exponents) (slice_cmp nat_cmp us vs)
  unfolding place_by
  place-both m n us vs =
      slice_cmp-append (key m.exponents) (key n.exponents) us vs (O.nine m.exponents (record { eight = m.eight }) ∙ sym (O.nine n.exponents (record { eight = n.eight })))

pub place-first : (key : List ℕ → List ℕ) (m : Monomial) (us vs : List ℕ) → slice_cmp nat_cmp (place_by key (Some m) us) (place_by key None vs) ≡ Less
unfolding place_by
place-first key m us vs = refl

pub place-second : (key : List ℕ → List ℕ) (n : Monomial) (us vs : List ℕ) → slice_cmp nat_cmp (place_by key None us) (place_by key (Some n) vs) ≡ Greater
unfolding place_by
place-second key n us vs = refl

pub place-neither : (key : List ℕ → List ℕ) (us vs : List ℕ) → slice_cmp nat_cmp (place_by key None us) (place_by key None vs) ≡ slice_cmp nat_cmp us vs
unfolding place_by
place-neither key us vs = refl

-- The multiple within the limit, from what `lcm` answers.
pub within_limit : {E : Type 0} (a : List ℕ) (r : Result Monomial E) → IfOk r (λ m. m.exponents ≡ a) → (IsErr r → degree_limit < total a) → IsWithinLimit a (result_ok r)
within_limit a (Ok m) value high = value
within_limit a (Err e) value high = high refl

-- Whether two monomials are coprime, from the front.
pub coprime-more : (a b : List ℕ) (i : ℕ) → i < length a → i < length b
    → are_coprime (drop i a) (drop i b) ≡ ((get_or a i 0 == 0 || get_or b i 0 == 0) && are_coprime (drop (i + 1) a) (drop (i + 1) b))
unfolding are_coprime
coprime-more a b i l m = ap₂ are_coprime (drop_more a i 0 l) (drop_more b i 0 m)

pub coprime-end : (a b : List ℕ) (i : ℕ) → length a ≤ i → true ≡ are_coprime (drop i a) (drop i b)
unfolding are_coprime
coprime-end a b i l = ap (λ x. are_coprime x (drop i b)) (sym (drop_all i a l))

some_left : (x : ℕ) → x ≢ 0 → (x == 0) ≡ false
some_left x n = ne_eqb x 0 n

pub coprime-none : (x y : ℕ) (t : Bool) → x ≢ 0 → y ≢ 0 → ((x == 0 || y == 0) && t) ≡ false
coprime-none x y t n m = ap₂ (λ u v. (u || v) && t) (some_left x n) (some_left y m)

pub coprime-first : (x y : ℕ) (t : Bool) → x ≡ 0 → ((x == 0 || y == 0) && t) ≡ t
coprime-first x y t e = ap (λ z. (z == 0 || y == 0) && t) e

pub coprime-second : (x y : ℕ) (t : Bool) → y ≡ 0 → ((x == 0 || y == 0) && t) ≡ t
coprime-second x y t e = ap (λ z. (x == 0 || z == 0) && t) e ∙ by (x == 0)
  where
    by : (u : Bool) → ((u || true) && t) ≡ t
    by true = refl
    by false = refl
