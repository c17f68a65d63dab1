-- The list of the monomials of bounded degree in a set of variables.
use Rattle.std.proofs.Common.{◌≡◌, ◌≢◌, ℕ, zero, suc, ◌+◌, ◌≤◌, Bool, true, false, cond, List, [], ◌∷◌, length, map, filter, get_or, sum, All, Contains, refl, sym, ap, ◌∙◌, subst, arith}
use Rattle.std.specs.List.{AllPairs}
use Rattle.std.proofs.lemmas.List.{length-map}
use Rattle.std.proofs.lemmas.List.Elements.{All-map, All-weaker, All-contains}
use Rattle.std.proofs.lemmas.List.Sums.{sum_by-cons}
use Rattle.fj_algebra.specs.StrictSteps.{monomial_count, exponent_lists}
use Rattle.fj_algebra.proofs.MonomialCount.{length-exponent_lists, contains-exponent_lists, bounded-exponent_lists, distinct-exponent_lists}
use Rattle.fj_algebra.proofs.Pairs.{contains_map, AllPairs-map}
use Rattle.fj_testideal.specs.BoundedIdeal.{Variables, number_of, IsBoundedMonomial}

-- How many of the k places from i on are in the set.
among : Variables → ℕ → ℕ → ℕ
among vars i zero = 0
among vars i (suc k) = cond (vars i) (suc (among vars (suc i) k)) (among vars (suc i) k)

-- the k places from i on
places : ℕ → ℕ → List ℕ
places i zero = []
places i (suc k) = i ∷ places (suc i) k

length-filter : (vars : Variables) (i k : ℕ) → length (filter vars (places i k)) ≡ among vars i k
unfolding among places
length-filter vars i zero = refl
length-filter vars i (suc k) = go (vars i) (length-filter vars (suc i) k)
  where
    go : (t : Bool) → length (filter vars (places (suc i) k)) ≡ among vars (suc i) k
        → length (cond t (i ∷ filter vars (places (suc i) k)) (filter vars (places (suc i) k))) ≡ cond t (suc (among vars (suc i) k)) (among vars (suc i) k)
    go true e = ap suc e
    go false e = e

among-number_of : (vars : Variables) → number_of vars ≡ among vars 0 8
unfolding number_of places
among-number_of vars = length-filter vars 0 8

-- Put the numbers of a list at the places of the set, and 0 at the others.
first : List ℕ → ℕ
first [] = 0
first (x ∷ xs) = x

later : List ℕ → List ℕ
later [] = []
later (x ∷ xs) = xs

spread : Variables → ℕ → ℕ → List ℕ → List ℕ
spread vars i zero xs = []
spread vars i (suc k) xs = cond (vars i) (first xs ∷ spread vars (suc i) k (later xs)) (0 ∷ spread vars (suc i) k xs)

-- The numbers of a list at the places of the set.
gather : Variables → ℕ → List ℕ → List ℕ
gather vars i [] = []
gather vars i (x ∷ a) = cond (vars i) (x ∷ gather vars (suc i) a) (gather vars (suc i) a)

sum-cons : (x : ℕ) (xs : List ℕ) → sum (x ∷ xs) ≡ x + sum xs
sum-cons x xs = sum_by-cons (λ x. x) x xs

length-spread : (vars : Variables) (i k : ℕ) (xs : List ℕ) → length (spread vars i k xs) ≡ k
unfolding spread
length-spread vars i zero xs = refl
length-spread vars i (suc k) xs = go (vars i) (length-spread vars (suc i) k (later xs)) (length-spread vars (suc i) k xs)
  where
    go : (t : Bool) → length (spread vars (suc i) k (later xs)) ≡ k → length (spread vars (suc i) k xs) ≡ k
        → length (cond t (first xs ∷ spread vars (suc i) k (later xs)) (0 ∷ spread vars (suc i) k xs)) ≡ suc k
    go true e f = ap suc e
    go false e f = ap suc f

sum-first_later : (xs : List ℕ) → sum xs ≡ first xs + sum (later xs)
unfolding first later
sum-first_later [] = refl
sum-first_later (x ∷ xs) = sum-cons x xs

sum-spread : (vars : Variables) (i k : ℕ) (xs : List ℕ) → sum (spread vars i k xs) ≤ sum xs
unfolding spread
sum-spread vars i zero xs = omega arith
sum-spread vars i (suc k) xs = go (vars i) (sum-spread vars (suc i) k (later xs)) (sum-spread vars (suc i) k xs)
  where
    go : (t : Bool) → sum (spread vars (suc i) k (later xs)) ≤ sum (later xs) → sum (spread vars (suc i) k xs) ≤ sum xs
        → sum (cond t (first xs ∷ spread vars (suc i) k (later xs)) (0 ∷ spread vars (suc i) k xs)) ≤ sum xs
    go true e f = omega (arith, e, sum-cons (first xs) (spread vars (suc i) k (later xs)), sum-first_later xs)
    go false e f = omega (arith, f, sum-cons 0 (spread vars (suc i) k xs))

-- The other places have 0.
spread_others : (vars : Variables) (i k : ℕ) (xs : List ℕ) (j : ℕ) → vars (i + j) ≡ false → get_or (spread vars i k xs) j 0 ≡ 0
unfolding spread
spread_others vars i zero xs j e = refl
spread_others vars i (suc k) xs zero e = go (vars i) (ap vars (omega arith) ∙ e)
  where
    go : (t : Bool) → t ≡ false → get_or (cond t (first xs ∷ spread vars (suc i) k (later xs)) (0 ∷ spread vars (suc i) k xs)) 0 0 ≡ 0
    go true e = absurd cc
    go false e = refl
spread_others vars i (suc k) xs (suc j) e = go (vars i) (λ ys. spread_others vars (suc i) k ys j (ap vars (omega arith) ∙ e))
  where
    go : (t : Bool) → ((ys : List ℕ) → get_or (spread vars (suc i) k ys) j 0 ≡ 0)
        → get_or (cond t (first xs ∷ spread vars (suc i) k (later xs)) (0 ∷ spread vars (suc i) k xs)) (suc j) 0 ≡ 0
    go true h = h (later xs)
    go false h = h xs

length-gather : (vars : Variables) (i : ℕ) (a : List ℕ) (k : ℕ) → length a ≡ k → length (gather vars i a) ≡ among vars i k
unfolding gather among
length-gather vars i [] zero e = refl
length-gather vars i [] (suc k) e = absurd (omega arith)
length-gather vars i (x ∷ a) zero e = absurd (omega arith)
length-gather vars i (x ∷ a) (suc k) e = go (vars i) (length-gather vars (suc i) a k (omega arith))
  where
    go : (t : Bool) → length (gather vars (suc i) a) ≡ among vars (suc i) k
        → length (cond t (x ∷ gather vars (suc i) a) (gather vars (suc i) a)) ≡ cond t (suc (among vars (suc i) k)) (among vars (suc i) k)
    go true e = ap suc e
    go false e = e

sum-gather : (vars : Variables) (i : ℕ) (a : List ℕ) → sum (gather vars i a) ≤ sum a
unfolding gather
sum-gather vars i [] = omega arith
sum-gather vars i (x ∷ a) = go (vars i) (sum-gather vars (suc i) a)
  where
    go : (t : Bool) → sum (gather vars (suc i) a) ≤ sum a → sum (cond t (x ∷ gather vars (suc i) a) (gather vars (suc i) a)) ≤ sum (x ∷ a)
    go true e = omega (arith, e, sum-cons x a, sum-cons x (gather vars (suc i) a))
    go false e = omega (arith, e, sum-cons x a)

-- A list with 0 at the other places is gathered and spread again.
spread-gather : (vars : Variables) (i k : ℕ) (a : List ℕ) → length a ≡ k → ((j : ℕ) → vars (i + j) ≡ false → get_or a j 0 ≡ 0)
    → spread vars i k (gather vars i a) ≡ a
unfolding spread gather first later
spread-gather vars i zero [] e others = refl
spread-gather vars i zero (x ∷ a) e others = absurd (omega arith)
spread-gather vars i (suc k) [] e others = absurd (omega arith)
spread-gather vars i (suc k) (x ∷ a) e others =
    go (vars i) (λ f. others 0 (ap vars (omega arith) ∙ f)) (spread-gather vars (suc i) k a (omega arith) (λ j f. others (suc j) (ap vars (omega arith) ∙ f)))
  where
    go : (t : Bool) → (t ≡ false → x ≡ 0) → spread vars (suc i) k (gather vars (suc i) a) ≡ a
        → cond t (first (cond t (x ∷ gather vars (suc i) a) (gather vars (suc i) a)) ∷ spread vars (suc i) k (later (cond t (x ∷ gather vars (suc i) a) (gather vars (suc i) a))))
        (0 ∷ spread vars (suc i) k (cond t (x ∷ gather vars (suc i) a) (gather vars (suc i) a))) ≡ x ∷ a
    go true z e = ap (λ b. x ∷ b) e
    go false z e = let none = z refl in cc

-- A list of as many numbers as the set has places is spread and gathered again.
gather-spread : (vars : Variables) (i k : ℕ) (xs : List ℕ) → length xs ≡ among vars i k → gather vars i (spread vars i k xs) ≡ xs
unfolding spread gather among first later
gather-spread vars i zero [] e = refl
gather-spread vars i zero (x ∷ xs) e = absurd (omega arith)
gather-spread vars i (suc k) xs e = go (vars i) refl xs e (gather-spread vars (suc i) k)
  where
    go : (t : Bool) → vars i ≡ t → (xs : List ℕ) → length xs ≡ cond t (suc (among vars (suc i) k)) (among vars (suc i) k)
        → ((ys : List ℕ) → length ys ≡ among vars (suc i) k → gather vars (suc i) (spread vars (suc i) k ys) ≡ ys)
        → gather vars i (cond t (first xs ∷ spread vars (suc i) k (later xs)) (0 ∷ spread vars (suc i) k xs)) ≡ xs
    go true e [] f rest = absurd (omega arith)
    go true e (x ∷ xs) f rest = ap (λ t. cond t (x ∷ gather vars (suc i) (spread vars (suc i) k xs)) (gather vars (suc i) (spread vars (suc i) k xs))) e ∙ ap (λ ys. x ∷ ys) (rest xs (omega arith))
    go false e xs f rest = ap (λ t. cond t (0 ∷ gather vars (suc i) (spread vars (suc i) k xs)) (gather vars (suc i) (spread vars (suc i) k xs))) e ∙ rest xs f

-- The monomials of bounded degree in the variables.
pub monomials_up_to : Variables → ℕ → List (List ℕ)
monomials_up_to vars bound = map (spread vars 0 8) (exponent_lists (number_of vars) bound)

module _ (vars : Variables) (bound : ℕ) where
  pub length-monomials_up_to : length (monomials_up_to vars bound) ≡ monomial_count (number_of vars) bound
  unfolding monomials_up_to
  length-monomials_up_to = length-map (exponent_lists (number_of vars) bound) (spread vars 0 8) ∙ length-exponent_lists (number_of vars) bound

  pub bounded-monomials_up_to : All (IsBoundedMonomial vars bound) (monomials_up_to vars bound)
  unfolding monomials_up_to
  bounded-monomials_up_to =
      All-map (IsBoundedMonomial vars bound) (spread vars 0 8) (exponent_lists (number_of vars) bound)
      (All-weaker (λ xs. (length xs ≡ number_of vars) × (sum xs ≤ bound)) (λ xs. IsBoundedMonomial vars bound (spread vars 0 8 xs)) (λ xs h. record {
        exponents = record { eight = length-spread vars 0 8 xs };
        others = λ i e. spread_others vars 0 8 xs i (ap vars (omega arith) ∙ e);
        degree = omega (arith, h.1, sum-spread vars 0 8 xs);
      }) (exponent_lists (number_of vars) bound) (bounded-exponent_lists (number_of vars) bound))

  pub contains-monomials_up_to : (a : List ℕ) → IsBoundedMonomial vars bound a → Contains (monomials_up_to vars bound) a
  unfolding monomials_up_to
  contains-monomials_up_to a h =
      subst (Contains (map (spread vars 0 8) (exponent_lists (number_of vars) bound)))
      (spread-gather vars 0 8 a h.exponents.eight (λ j e. h.others j (ap vars (omega arith) ∙ e)))
      (contains_map (spread vars 0 8) (exponent_lists (number_of vars) bound) (gather vars 0 a)
      (contains-exponent_lists (number_of vars) bound (gather vars 0 a) (length-gather vars 0 a 8 h.exponents.eight ∙ sym (among-number_of vars))
      (omega (arith, h.degree, sum-gather vars 0 a))))

  pub distinct-monomials_up_to : AllPairs (λ a b. a ≢ b) (monomials_up_to vars bound)
  unfolding monomials_up_to
  distinct-monomials_up_to =
      AllPairs-map (λ xs ys. xs ≡ ys → ⊥) (λ a b. a ≢ b) (spread vars 0 8) (exponent_lists (number_of vars) bound)
      (λ xs ys c d apart e. apart (sym (gather-spread vars 0 8 xs (filled xs c)) ∙ ap (gather vars 0) e ∙ gather-spread vars 0 8 ys (filled ys d)))
      (distinct-exponent_lists (number_of vars) bound)
    where
      filled : (xs : List ℕ) → Contains (exponent_lists (number_of vars) bound) xs → length xs ≡ among vars 0 8
      filled xs c = (All-contains (λ xs. (length xs ≡ number_of vars) × (sum xs ≤ bound)) (exponent_lists (number_of vars) bound) xs
          (bounded-exponent_lists (number_of vars) bound) c).0 ∙ among-number_of vars
