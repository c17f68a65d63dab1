-- The number of monomials of bounded degree.
use Rattle.std.proofs.Common.{All, ◌≡◌, ℕ, zero, suc, ◌+◌, ◌≤◌, List, [], ◌∷◌, map, replicate, length, Contains, sum, refl, sym, ap, ap₂, ◌∙◌, subst, arith, length-append}
use Rattle.std.proofs.lemmas.List.{length-map, length-replicate}
use Rattle.std.proofs.lemmas.List.Sums.{sum_by-cons}
use Rattle.std.proofs.lemmas.List.Elements.{Contains-append_left, Contains-append_right, All-nil, All-cons, All-append, All-map, All-weaker, All-contains}
use Rattle.std.specs.List.{AllPairs}
use Rattle.fj_algebra.specs.StrictSteps.{monomial_count, exponent_lists, prepend_zero, raise_first}
use Rattle.fj_algebra.proofs.Pairs.{contains_head, contains_map, contains_map_back, AllPairs-append, AllPairs-map}

-- There are as many as the count says.
pub length-exponent_lists : (n D : ℕ) → length (exponent_lists n D) ≡ monomial_count n D
unfolding exponent_lists monomial_count
length-exponent_lists zero D = refl
length-exponent_lists (suc n) zero = refl
length-exponent_lists (suc n) (suc D) =
    length-append (map prepend_zero (exponent_lists n (suc D))) (map raise_first (exponent_lists (suc n) D))
    ∙ ap₂ ◌+◌ (length-map (exponent_lists n (suc D)) prepend_zero ∙ length-exponent_lists n (suc D))
    (length-map (exponent_lists (suc n) D) raise_first ∙ length-exponent_lists (suc n) D)

sum-cons : (x : ℕ) (xs : List ℕ) → sum (x ∷ xs) ≡ x + sum xs
sum-cons x xs = sum_by-cons (λ x. x) x xs

all_zero : (xs : List ℕ) → sum xs ≤ 0 → xs ≡ replicate (length xs) 0
all_zero [] h = refl
all_zero (x ∷ xs) h = let total = sum-cons x xs in let first : x ≡ 0 = omega arith in let rest = all_zero xs (omega arith) in ap₂ ◌∷◌ first rest

-- Each list of n naturals with sum at most D is among them.
pub contains-exponent_lists : (n D : ℕ) (xs : List ℕ) → length xs ≡ n → sum xs ≤ D → Contains (exponent_lists n D) xs
unfolding exponent_lists
contains-exponent_lists zero D [] e h = contains_head [] []
contains-exponent_lists zero D (x ∷ xs) e h = absurd (omega arith)
contains-exponent_lists (suc n) zero xs e h =
    subst (Contains (replicate (suc n) 0 ∷ [])) (ap (λ n. replicate n 0) (sym e) ∙ sym (all_zero xs h)) (contains_head (replicate (suc n) 0) [])
contains-exponent_lists (suc n) (suc D) [] e h = absurd (omega arith)
contains-exponent_lists (suc n) (suc D) (zero ∷ xs) e h =
    Contains-append_left (map prepend_zero (exponent_lists n (suc D))) (map raise_first (exponent_lists (suc n) D)) (zero ∷ xs)
    (contains_map prepend_zero (exponent_lists n (suc D)) xs (contains-exponent_lists n (suc D) xs (omega arith) (omega (arith, sum-cons 0 xs))))
contains-exponent_lists (suc n) (suc D) (suc x ∷ xs) e h =
    Contains-append_right (map prepend_zero (exponent_lists n (suc D))) (map raise_first (exponent_lists (suc n) D)) (suc x ∷ xs)
    (contains_map raise_first (exponent_lists (suc n) D) (x ∷ xs)
    (contains-exponent_lists (suc n) D (x ∷ xs) e (omega (arith, sum-cons (suc x) xs, sum-cons x xs))))

-- Each of them has n entries with sum at most D.
pub bounded-exponent_lists : (n D : ℕ) → All (λ xs. (length xs ≡ n) × (sum xs ≤ D)) (exponent_lists n D)
unfolding exponent_lists
bounded-exponent_lists zero D = All-cons (λ xs. (length xs ≡ 0) × (sum xs ≤ D)) [] [] (refl, omega arith) (All-nil (λ xs. (length xs ≡ 0) × (sum xs ≤ D)))
bounded-exponent_lists (suc n) zero =
    All-cons (λ xs. (length xs ≡ suc n) × (sum xs ≤ 0)) (replicate (suc n) 0) [] (length-replicate (suc n) 0, zeros (suc n))
    (All-nil (λ xs. (length xs ≡ suc n) × (sum xs ≤ 0)))
  where
    zeros : (n : ℕ) → sum (replicate n 0) ≤ 0
    zeros zero = omega arith
    zeros (suc n) = omega (arith, sum-cons 0 (replicate n 0), zeros n)
bounded-exponent_lists (suc n) (suc D) =
    All-append (λ xs. (length xs ≡ suc n) × (sum xs ≤ suc D)) (map prepend_zero (exponent_lists n (suc D)))
    (map raise_first (exponent_lists (suc n) D))
    (All-map (λ xs. (length xs ≡ suc n) × (sum xs ≤ suc D)) prepend_zero (exponent_lists n (suc D))
    (All-weaker (λ xs. (length xs ≡ n) × (sum xs ≤ suc D)) (λ xs. (length (prepend_zero xs) ≡ suc n) × (sum (prepend_zero xs) ≤ suc D))
    (λ xs h. (ap suc h.0, omega (arith, sum-cons 0 xs, h.1))) (exponent_lists n (suc D)) (bounded-exponent_lists n (suc D))))
    (All-map (λ xs. (length xs ≡ suc n) × (sum xs ≤ suc D)) raise_first (exponent_lists (suc n) D)
    (All-weaker (λ xs. (length xs ≡ suc n) × (sum xs ≤ D)) (λ xs. (length (raise_first xs) ≡ suc n) × (sum (raise_first xs) ≤ suc D)) raised
    (exponent_lists (suc n) D) (bounded-exponent_lists (suc n) D)))
  where
    raised : (xs : List ℕ) → (length xs ≡ suc n) × (sum xs ≤ D) → (length (raise_first xs) ≡ suc n) × (sum (raise_first xs) ≤ suc D)
    raised [] h = absurd (omega (arith, h.0))
    raised (x ∷ xs) h = (h.0, omega (arith, sum-cons x xs, sum-cons (suc x) xs, h.1))

-- No two of them are equal.
pub distinct-exponent_lists : (n D : ℕ) → AllPairs (λ xs ys. xs ≡ ys → ⊥) (exponent_lists n D)
unfolding exponent_lists
distinct-exponent_lists zero D = λ i j d l k. absurd (omega arith)
distinct-exponent_lists (suc n) zero = λ i j d l k. absurd (omega arith)
distinct-exponent_lists (suc n) (suc D) =
    AllPairs-append (λ xs ys. xs ≡ ys → ⊥) (map prepend_zero (exponent_lists n (suc D))) (map raise_first (exponent_lists (suc n) D))
    (AllPairs-map (λ xs ys. xs ≡ ys → ⊥) (λ xs ys. xs ≡ ys → ⊥) prepend_zero (exponent_lists n (suc D)) (λ xs ys c d h e. h cc)
    (distinct-exponent_lists n (suc D)))
    (AllPairs-map (λ xs ys. xs ≡ ys → ⊥) (λ xs ys. xs ≡ ys → ⊥) raise_first (exponent_lists (suc n) D)
    (λ xs ys c d h e. h (lower xs ys e (filled xs c) (filled ys d))) (distinct-exponent_lists (suc n) D))
    (λ xs ys c d e. apart xs ys (contains_map_back prepend_zero (exponent_lists n (suc D)) xs c)
    (contains_map_back raise_first (exponent_lists (suc n) D) ys d) e)
  where
    filled : (xs : List ℕ) → Contains (exponent_lists (suc n) D) xs → length xs ≡ suc n
    filled xs c = (All-contains (λ xs. (length xs ≡ suc n) × (sum xs ≤ D)) (exponent_lists (suc n) D) xs (bounded-exponent_lists (suc n) D) c).0

    lower : (xs ys : List ℕ) → raise_first xs ≡ raise_first ys → length xs ≡ suc n → length ys ≡ suc n → xs ≡ ys
    lower [] ys e f g = absurd (omega (arith, f))
    lower (x ∷ xs) [] e f g = absurd (omega (arith, g))
    lower (x ∷ xs) (y ∷ ys) e f g = cc

    first_entry : List ℕ → ℕ
    first_entry [] = 0
    first_entry (x ∷ xs) = x

    apart : (xs ys : List ℕ) → (x : List ℕ) × Contains (exponent_lists n (suc D)) x × (prepend_zero x ≡ xs) →
        (y : List ℕ) × Contains (exponent_lists (suc n) D) y × (raise_first y ≡ ys) → xs ≡ ys → ⊥
    apart xs ys (x, c, e) (y, d, f) h = go y f (filled y d)
      where
        go : (y : List ℕ) → raise_first y ≡ ys → length y ≡ suc n → ⊥
        go [] f l = omega (arith, l)
        go (z ∷ y) f l = let first : 0 ≡ suc z = ap first_entry (e ∙ h ∙ sym f) in omega (arith, first)
