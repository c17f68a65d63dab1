-- Pending pairs as the keys of an ordered set.
use Rattle.std.proofs.Common.{◌≡◌, ◌⊎◌, inl, inr, ℕ, ◌+◌, ◌<◌, ◌≤◌, List, [], ◌∷◌, ◌++◌, get_or, reverse, Contains, Option, Some, None, Ordering, Less, Equal, Greater, nat_cmp, refl, sym, ap, ◌∙◌, subst, arith}
use Rattle.std.specs.BTreeSet.{insert_key}
use Rattle.std.specs.Cmp.Lexicographic.{slice_cmp}
use Rattle.std.specs.Ordering.{on, match_ordering}
use Rattle.std.proofs.lemmas.List.{reverse-append}
use Rattle.std.proofs.lemmas.List.Elements.{All-weaker}
use Rattle.std.proofs.lemmas.Map.Lookups.{exact_bytes}
use Rattle.std.proofs.lemmas.Map.Views.{All-insert_key}
use Rattle.fj_algebra.proofs.Pairs.{contains_cons, contains_head, contains_tail, contains_nil, All-from_elements}
use Rattle.std.proofs.lemmas.Bool.{cases_lt}
use Rattle.fj_mono.specs.Monomial.{Monomial}
use Rattle.fj_basis.specs.declared.pairs.Pair.{Pair}
use Rattle.fj_basis.specs.Place.{place, place_by}
use Rattle.fj_basis.specs.Pending.{HasPairsUpTo, IsPairOver}

module _ {K : Type 0} (cmp : K → K → Ordering) (k : K) where
  -- No key is lost.
  pub insert-kept : (xs : List K) (x : K) → Contains xs x → Contains (insert_key cmp xs k) x
  insert-kept [] x c = absurd (contains_nil x c)
  insert-kept (y ∷ xs) x c = by (cmp k y) (insert-kept xs x) c
    where
      by : (r : Ordering) → (Contains xs x → Contains (insert_key cmp xs k) x) → Contains (y ∷ xs) x → Contains (match_ordering r (k ∷ (y ∷ xs)) (y ∷ xs) (y ∷ insert_key cmp xs k)) x
      by Less rest c = contains_tail k (y ∷ xs) x c
      by Equal rest c = c
      by Greater rest c = elim (contains_cons y xs x c) [
        | inl e ↦ subst (Contains (y ∷ insert_key cmp xs k)) e (contains_head y (insert_key cmp xs k))
        | inr d ↦ contains_tail y (insert_key cmp xs k) x (rest d)
      ]

  -- The key, or one that is equal, is there.
  pub insert-new : (xs : List K) → (p : K) × Contains (insert_key cmp xs k) p × ((p ≡ k) ⊎ (cmp k p ≡ Equal))
  insert-new [] = (k, contains_head k [], inl refl)
  insert-new (y ∷ xs) = by (cmp k y) refl (insert-new xs)
    where
      by : (r : Ordering) → cmp k y ≡ r → (p : K) × Contains (insert_key cmp xs k) p × ((p ≡ k) ⊎ (cmp k p ≡ Equal))
          → (p : K) × Contains (match_ordering r (k ∷ (y ∷ xs)) (y ∷ xs) (y ∷ insert_key cmp xs k)) p × ((p ≡ k) ⊎ (cmp k p ≡ Equal))
      by Less e rest = (k, contains_head k (y ∷ xs), inl refl)
      by Equal e rest = (y, contains_head y xs, inr e)
      by Greater e rest = (rest.0, contains_tail y (insert_key cmp xs k) rest.0 rest.1, rest.2)

-- Two lists with the same two last elements.
last_two : (xs ys : List ℕ) (i j k l : ℕ) → xs ++ (j ∷ (i ∷ [])) ≡ ys ++ (l ∷ (k ∷ [])) → (i ≡ k) × (j ≡ l)
last_two xs ys i j k l e =
    let back = sym (reverse-append xs (j ∷ (i ∷ []))) ∙ ap reverse e ∙ reverse-append ys (l ∷ (k ∷ [])) in
    (ap (λ r. get_or r 0 0) back, ap (λ r. get_or r 1 0) back)

-- Pairs at one place are of the same members.
module _ {O : Type 0} (key : List ℕ → List ℕ) where
  place_ends : (p : Pair O) → (xs : List ℕ) × (place key p ≡ xs ++ (p.j ∷ (p.i ∷ [])))
  unfolding place place_by
  place_ends p = by p.lcm
    where
      by : (m : Option Monomial) → (xs : List ℕ) × (place_by key m (p.j ∷ (p.i ∷ [])) ≡ xs ++ (p.j ∷ (p.i ∷ [])))
      by (Some m) = (0 ∷ key m.exponents, refl)
      by None = (1 ∷ [], refl)

  pub tied-pairs : (p q : Pair O) → on (place key) (slice_cmp nat_cmp) p q ≡ Equal → (p.i ≡ q.i) × (p.j ≡ q.j)
  tied-pairs p q e =
      let u = place_ends p in
      let v = place_ends q in
      last_two u.0 v.0 p.i p.j q.i q.j (sym u.1 ∙ exact_bytes (place key p) (place key q) e ∙ v.1)

  -- None at first.
  pub pairs-none : (leads : List (List ℕ)) (j : ℕ) (before : List (Pair O)) → HasPairsUpTo leads j 0 before before
  pairs-none leads j before = record {
    kept = All-from_elements (Contains before) before (λ x c. c);
    new = λ i l. absurd (omega (arith, l));
    sound = All-from_elements (λ q. Contains before q ⊎ (IsPairOver leads q × (q.i < j) × (q.j ≡ j))) before (λ x c. inl c);
  }

  -- One more pair of the place j.
  pub insert-pair : (leads : List (List ℕ)) (j i : ℕ) (before now : List (Pair O)) (p : Pair O) → i < j → p.i ≡ i → p.j ≡ j → IsPairOver leads p
      → HasPairsUpTo leads j i before now → HasPairsUpTo leads j (i + 1) before (insert_key (on (place key) (slice_cmp nat_cmp)) now p)
  insert-pair leads j i before now p less is_i is_j own h = record {
    kept = All-weaker (Contains now) (Contains (insert_key (on (place key) (slice_cmp nat_cmp)) now p)) (λ x c. insert-kept (on (place key) (slice_cmp nat_cmp)) p now x c) before h.kept;
    new = λ x l. by x l (same_or_less x);
    sound = All-insert_key (on (place key) (slice_cmp nat_cmp)) p (λ q. Contains before q ⊎ (IsPairOver leads q × (q.i < j) × (q.j ≡ j))) now h.sound (inr (own, omega (arith, is_i, less), is_j));
  }
    where
      same_or_less : (x : ℕ) → (x < i) ⊎ (i ≤ x)
      same_or_less x = cases_lt x i

      by : (x : ℕ) → x < i + 1 → (x < i) ⊎ (i ≤ x) → (q : Pair O) × Contains (insert_key (on (place key) (slice_cmp nat_cmp)) now p) q × (q.i ≡ x) × (q.j ≡ j)
      by x l (inl m) = let old = h.new x m in (old.0, insert-kept (on (place key) (slice_cmp nat_cmp)) p now old.0 old.1, old.2, old.3)
      by x l (inr m) =
          let there = insert-new (on (place key) (slice_cmp nat_cmp)) p now in
          let same : x ≡ i = omega (arith, l, m) in
          elim there.2 [
            | inl e ↦ (there.0, there.1, ap (λ q. q.i) e ∙ is_i ∙ sym same, ap (λ q. q.j) e ∙ is_j)
            | inr e ↦ (let both = tied-pairs p there.0 e in (there.0, there.1, sym both.0 ∙ is_i ∙ sym same, sym both.1 ∙ is_j))
          ]
