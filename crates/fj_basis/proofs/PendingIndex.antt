-- The index of the pending pairs, as places and pairs come and go.
use Rattle.std.proofs.Common.{◌≡◌, ◌≢◌, ◌⊎◌, inl, inr, ℕ, ◌<◌, ◌≤◌, nat_le, Bool, true, false, cond, IsTrue, Less, List, [], ◌∷◌, ◌++◌, length, length-append, get_or, map, set, All, Contains, nat_cmp, refl, sym, ap, ap₂, ◌∙◌, subst, subst₂, arith, true≢false}
use Rattle.std.specs.BTreeSet.{insert_key}
use Rattle.std.specs.Cmp.Lexicographic.{slice_cmp}
use Rattle.std.proofs.lemmas.Bool.{cases_lt}
use Rattle.std.proofs.lemmas.List.{get_or-map, get_or-set_other, get_or_append_left, get_or_default, get_or_past, get_or_push, length-map, length-set, map-set}
use Rattle.std.proofs.lemmas.List.Elements.{All-contains, All-head, All-tail, All-weaker}
use Rattle.std.proofs.lemmas.Grind.{get_or-set_at}
use Rattle.std.proofs.lemmas.Map.Views.{All-insert_key}
use Rattle.fj_algebra.proofs.Pairs.{All-from_elements, contains_cons, contains_tail}
use Rattle.fj_theory.specs.Exponents.{least_common_multiple, total}
use Rattle.fj_groebner.specs.Division.{degree_limit}
use Rattle.fj_basis.specs.declared.pairs.Pair.{Pair}
use Rattle.fj_basis.specs.Pending.{HasPair, IsIndexed, IsPairOver}
use Rattle.fj_basis.specs.Place.{IsWithinLimit, place}
use Rattle.fj_basis.proofs.PendingPairs.{not_before, order_of_pairs, within-place}
use Rattle.fj_basis.proofs.PendingSets.{insert-kept, insert-new, tied-pairs}

-- The rows with another entry at the place i of row j.
abbrev pub mark : List (List Bool) → ℕ → ℕ → Bool → List (List Bool)
mark rows i j b = set rows j (set (get_or rows j []) i b)

-- The list at a place of those that other values hold.
pub row-at : {X A : Type 0} (f : X → List A) (xs : List X) (j : ℕ) (x : X) → j < length xs → x ≡ get_or xs j x → get_or (map f xs) j [] ≡ f x
row-at f xs j x l is = get_or-map f xs j x [] l ∙ ap f (sym is)

module _ {X : Type 0} (f : X → List Bool) (xs : List X) where
  pub bit-at : (i j : ℕ) (x : X) (b : Bool) → j < length xs → x ≡ get_or xs j x → i < length (f x) → b ≡ get_or (f x) i b → get_or (get_or (map f xs) j []) i false ≡ b
  bit-at i j x b l is m own = ap (λ row. get_or row i false) (row-at f xs j x l is) ∙ get_or_default (f x) i false b m ∙ sym own

  pub marked-rows : (i j : ℕ) (x y : X) (b : Bool) → j < length xs → x ≡ get_or xs j x → f y ≡ set (f x) i b → map f (set xs j y) ≡ mark (map f xs) i j b
  marked-rows i j x y b l is e = map-set f xs j y ∙ ap (set (map f xs) j) (e ∙ ap (λ row. set row i b) (sym (row-at f xs j x l is)))

-- Whether two pairs of numbers are one.
same : (x i y j : ℕ) → ((x ≡ i) × (y ≡ j)) ⊎ ((x ≡ i) → (y ≡ j) → ⊥)
same x i y j = grind arith

module _ (rows : List (List Bool)) where
  abbrev bit : ℕ → ℕ → Bool
  bit i j = get_or (get_or rows j []) i false

  -- The entry that is marked, and the others.
  marked-here : (i j : ℕ) (b : Bool) → j < length rows → i < length (get_or rows j []) → get_or (get_or (mark rows i j b) j []) i false ≡ b
  marked-here i j b l m = ap (λ row. get_or row i false) (get_or-set_at rows j j (set (get_or rows j []) i b) [] refl l) ∙ get_or-set_at (get_or rows j []) i i b false refl m

  marked-there : (i j : ℕ) (b : Bool) → j < length rows → (x y : ℕ) → ((x ≡ i) → (y ≡ j) → ⊥) → get_or (get_or (mark rows i j b) y []) x false ≡ bit x y
  marked-there i j b l x y n = go (same y j x x)
    where
      go : ((y ≡ j) × (x ≡ x)) ⊎ ((y ≡ j) → (x ≡ x) → ⊥) → get_or (get_or (mark rows i j b) y []) x false ≡ bit x y
      go (inr m) = ap (λ row. get_or row x false) (get_or-set_other rows j y (set (get_or rows j []) i b) [] (λ e. m e refl))
      go (inl e) =
          ap (λ row. get_or row x false) (get_or-set_at rows j y (set (get_or rows j []) i b) [] e.0 l)
          ∙ get_or-set_other (get_or rows j []) i x b false (λ h. n h e.0) ∙ ap (λ k. bit x k) (sym e.0)

  marked-long : (i j : ℕ) (b : Bool) → ((k : ℕ) → k < length rows → length (get_or rows k []) ≡ k) → j < length rows
      → (k : ℕ) → k < length (mark rows i j b) → length (get_or (mark rows i j b) k []) ≡ k
  marked-long i j b long l k m = go (same k j k k)
    where
      in_rows : k < length rows
      in_rows = omega (arith, m, length-set rows j (set (get_or rows j []) i b))

      go : ((k ≡ j) × (k ≡ k)) ⊎ ((k ≡ j) → (k ≡ k) → ⊥) → length (get_or (mark rows i j b) k []) ≡ k
      go (inr n) = ap length (get_or-set_other rows j k (set (get_or rows j []) i b) [] (λ e. n e refl)) ∙ long k in_rows
      go (inl e) =
          ap length (get_or-set_at rows j k (set (get_or rows j []) i b) [] e.0 l) ∙ length-set (get_or rows j []) i b ∙ long j l ∙ sym e.0

module _ {O : Type 0} {leads : List (List ℕ)} {pairs : List (Pair O)} {rows : List (List Bool)} (h : IsIndexed leads pairs rows) where
  places : (p : Pair O) → Contains pairs p → (p.i < p.j) × (p.j < length leads)
  places p c = All-contains (λ p. (p.i < p.j) × (p.j < length leads)) pairs p h.within c

  -- The entry of a place and a later one says whether their pair is there, in either order.
  pub told-later : (i j : ℕ) (b : Bool) → i < j → get_or (get_or rows j []) i false ≡ b
      → (IsTrue b → HasPair pairs i j ⊎ HasPair pairs j i) × (HasPair pairs i j ⊎ HasPair pairs j i → IsTrue b)
  told-later i j b l e = (
    λ t. inl ((h.told i j).0 (e ∙ t)),
    λ found. elim found [ inl c ↦ sym e ∙ (h.told i j).1 c | inr c ↦ absurd (behind c) ],
  )
    where
      behind : HasPair pairs j i → ⊥
      behind (p, c, d, u) = let both = (places p c).0 in omega (arith, both, d, u, l)

  pub told-earlier : (i j : ℕ) (b : Bool) → j < i → get_or (get_or rows i []) j false ≡ b
      → (IsTrue b → HasPair pairs i j ⊎ HasPair pairs j i) × (HasPair pairs i j ⊎ HasPair pairs j i → IsTrue b)
  told-earlier i j b l e =
      let other = told-later j i b l e in
      (λ t. elim (other.0 t) [ inl c ↦ inr c | inr c ↦ inl c ], λ found. other.1 (elim found [ inl c ↦ inr c | inr c ↦ inl c ]))

  -- The row of a place.
  pub row-long : {X : Type 0} (f : X → List Bool) (xs : List X) (j : ℕ) (x : X) → rows ≡ map f xs → j < length leads → x ≡ get_or xs j x → (j < length xs) × (length (f x) ≡ j)
  row-long f xs j x are l is =
      let n = h.enough in
      let in_rows : j < length rows = omega (arith, l, n) in
      let in_list : j < length xs = omega (arith, in_rows, ap length are ∙ length-map xs f) in
      (in_list, ap length (sym (ap (λ r. get_or r j []) are ∙ row-at f xs j x in_list is)) ∙ h.long j in_rows)

  -- One more row, of a place without pairs.
  pub indexed-row : (row : List Bool) → length row ≡ length rows → ((i : ℕ) → get_or row i false ≡ false) → IsIndexed leads pairs (rows ++ (row ∷ []))
  indexed-row row e none = record {
    enough = (let l = h.enough in omega (arith, l, length-append rows (row ∷ [])));
    long = λ j l. long j l (cases_lt j (length rows));
    within = h.within;
    own = h.own;
    told = λ i j. subst (λ b. (IsTrue b → HasPair pairs i j) × (HasPair pairs i j → IsTrue b)) (sym (entry i j (cases_lt j (length rows)))) (h.told i j);
  }
    where
      long : (j : ℕ) → j < length (rows ++ (row ∷ [])) → (j < length rows) ⊎ (length rows ≤ j) → length (get_or (rows ++ (row ∷ [])) j []) ≡ j
      long j l (inl m) = ap length (get_or_append_left rows (row ∷ []) [] j m) ∙ h.long j m
      long j l (inr m) =
          let last : j ≡ length rows = omega (arith, l, m, length-append rows (row ∷ [])) in
          ap length (get_or_push rows row [] j (sym last)) ∙ e ∙ sym last

      entry : (i j : ℕ) → (j < length rows) ⊎ (length rows ≤ j) → get_or (get_or (rows ++ (row ∷ [])) j []) i false ≡ get_or (get_or rows j []) i false
      entry i j (inl m) = ap (λ r. get_or r i false) (get_or_append_left rows (row ∷ []) [] j m)
      entry i j (inr m) = at (same j (length rows) i i)
        where
          past : get_or (get_or rows j []) i false ≡ false
          past = ap (λ r. get_or r i false) (get_or_past rows j [] m) ∙ get_or_past [] i false (omega arith)

          at : ((j ≡ length rows) × (i ≡ i)) ⊎ ((j ≡ length rows) → (i ≡ i) → ⊥) → get_or (get_or (rows ++ (row ∷ [])) j []) i false ≡ get_or (get_or rows j []) i false
          at (inl last) = ap (λ r. get_or r i false) (get_or_push rows row [] j (sym last.0)) ∙ none i ∙ sym past
          at (inr beyond) =
              let more : length rows < j = (let n : j ≢ length rows = (λ z. beyond z refl) in omega (arith, m, n)) in
              ap (λ r. get_or r i false) (get_or_past (rows ++ (row ∷ [])) j [] (omega (arith, more, length-append rows (row ∷ [])))) ∙ get_or_past [] i false (omega arith) ∙ sym past

  -- One more place, whose row is there.
  pub indexed-lead : (a : List ℕ) → length leads < length rows → IsIndexed (leads ++ (a ∷ [])) pairs rows
  indexed-lead a l = record {
    enough = omega (arith, l, length-append leads (a ∷ []));
    long = h.long;
    within = All-weaker (λ p. (p.i < p.j) × (p.j < length leads)) (λ p. (p.i < p.j) × (p.j < length (leads ++ (a ∷ []))))
        (λ p both. (both.0, (let m = both.1 in omega (arith, m, length-append leads (a ∷ []))))) pairs h.within;
    own = All-from_elements (IsPairOver (leads ++ (a ∷ []))) pairs (λ p c. known p (places p c) (All-contains (IsPairOver leads) pairs p h.own c));
    told = h.told;
  }
    where
      kept : (k : ℕ) → k < length leads → get_or (leads ++ (a ∷ [])) k [] ≡ get_or leads k []
      kept k m = get_or_append_left leads (a ∷ []) [] k m

      known : (p : Pair O) → (p.i < p.j) × (p.j < length leads) → IsPairOver leads p → IsPairOver (leads ++ (a ∷ [])) p
      known p both own = subst₂ (λ x y. IsWithinLimit (least_common_multiple x y) p.lcm) (sym (kept p.i (let u = both.0 in let v = both.1 in omega (arith, u, v)))) (sym (kept p.j both.1)) own

-- The pair of a place with the last one.
pub pair-over : {O : Type 0} (leads now : List (List ℕ)) (lead : List ℕ) (p : Pair O) (i : ℕ) (m : List ℕ) → now ≡ leads ++ (lead ∷ []) → p.i ≡ i → p.j ≡ length leads
    → get_or now i [] ≡ m → IsWithinLimit (least_common_multiple m lead) p.lcm → IsPairOver now p
pair-over leads now lead p i m grown first second at own =
    subst (λ a. IsWithinLimit a p.lcm)
    (ap₂ least_common_multiple (sym (ap (λ k. get_or now k []) first ∙ at)) (sym (ap (λ xs. get_or xs p.j []) grown ∙ get_or_push leads lead [] p.j (sym second)))) own

-- Pairs of the same places stand at one place.
same-place : {O : Type 0} (key : List ℕ → List ℕ) (leads : List (List ℕ)) (p q : Pair O) → IsPairOver leads p → IsPairOver leads q → p.i ≡ q.i → p.j ≡ q.j → place key p ≡ place key q
unfolding place
same-place {O} key leads p q own other e d = at p own ∙ ap₂ stands e d ∙ sym (at q other)
  where
    stands : ℕ → ℕ → List ℕ
    stands i j =
        let a = least_common_multiple (get_or leads i []) (get_or leads j []) in
        cond (nat_le (total a) degree_limit) (0 ∷ (key a ++ (j ∷ (i ∷ [])))) (1 ∷ (j ∷ (i ∷ [])))

    at : (r : Pair O) → IsPairOver leads r → place key r ≡ stands r.i r.j
    at r h = within-place key (least_common_multiple (get_or leads r.i []) (get_or leads r.j [])) (r.j ∷ (r.i ∷ [])) r.lcm h

module _ {O : Type 0} (key : List ℕ → List ℕ) {leads : List (List ℕ)} where
  -- A pair comes to be pending, and is marked.
  pub indexed-insert : {pairs : List (Pair O)} {rows : List (List Bool)} → IsIndexed leads pairs rows → (p : Pair O) → p.i < p.j → p.j < length leads → IsPairOver leads p
      → IsIndexed leads (insert_key (order_of_pairs key) pairs p) (mark rows p.i p.j true)
  indexed-insert {pairs} {rows} h p l m own = record {
    enough = (let n = h.enough in omega (arith, n, length-set rows p.j (set (get_or rows p.j []) p.i true)));
    long = marked-long rows p.i p.j true h.long in_rows;
    within = All-insert_key (order_of_pairs key) p (λ p. (p.i < p.j) × (p.j < length leads)) pairs h.within (l, m);
    own = All-insert_key (order_of_pairs key) p (IsPairOver leads) pairs h.own own;
    told = λ x y. told x y (same x p.i y p.j);
  }
    where
      in_rows : p.j < length rows
      in_rows = let n = h.enough in omega (arith, m, n)

      in_row : p.i < length (get_or rows p.j [])
      in_row = let n = h.long p.j in_rows in omega (arith, l, n)

      here : (x y : ℕ) → x ≡ p.i → y ≡ p.j → HasPair (insert_key (order_of_pairs key) pairs p) x y
      here x y e d =
          let there = insert-new (order_of_pairs key) p pairs in
          elim there.2 [
            | inl s ↦ (there.0, there.1, ap (λ q. q.i) s ∙ sym e, ap (λ q. q.j) s ∙ sym d)
            | inr s ↦ (let both = tied-pairs key p there.0 s in (there.0, there.1, sym both.0 ∙ sym e, sym both.1 ∙ sym d))
          ]

      older : (x y : ℕ) → ((x ≡ p.i) → (y ≡ p.j) → ⊥) → HasPair (insert_key (order_of_pairs key) pairs p) x y → HasPair pairs x y
      older x y n found =
          go (All-contains (λ q. Contains pairs q ⊎ (q ≡ p)) (insert_key (order_of_pairs key) pairs p) found.0
          (All-insert_key (order_of_pairs key) p (λ q. Contains pairs q ⊎ (q ≡ p)) pairs (All-from_elements (λ q. Contains pairs q ⊎ (q ≡ p)) pairs (λ q c. inl c)) (inr refl)) found.1)
        where
          go : Contains pairs found.0 ⊎ (found.0 ≡ p) → HasPair pairs x y
          go (inl c) = (found.0, c, found.2, found.3)
          go (inr e) = absurd (n (sym found.2 ∙ ap (λ q. q.i) e) (sym found.3 ∙ ap (λ q. q.j) e))

      told : (x y : ℕ) → ((x ≡ p.i) × (y ≡ p.j)) ⊎ ((x ≡ p.i) → (y ≡ p.j) → ⊥)
          → (IsTrue (get_or (get_or (mark rows p.i p.j true) y []) x false) → HasPair (insert_key (order_of_pairs key) pairs p) x y)
          × (HasPair (insert_key (order_of_pairs key) pairs p) x y → IsTrue (get_or (get_or (mark rows p.i p.j true) y []) x false))
      told x y (inl e) = (
        λ t. here x y e.0 e.1,
        λ found. ap₂ (λ i j. get_or (get_or (mark rows p.i p.j true) j []) i false) e.0 e.1 ∙ marked-here rows p.i p.j true in_rows in_row,
      )
      told x y (inr n) = (
        λ t. (let found = (h.told x y).0 (sym (marked-there rows p.i p.j true in_rows x y n) ∙ t) in (found.0, insert-kept (order_of_pairs key) p pairs found.0 found.1, found.2, found.3)),
        λ found. marked-there rows p.i p.j true in_rows x y n ∙ (h.told x y).1 (older x y n found),
      )

  -- The first pair is pending no longer, and its mark goes.
  pub indexed-take : {rest : List (Pair O)} {rows : List (List Bool)} (p : Pair O) → IsIndexed leads (p ∷ rest) rows → All (λ q. order_of_pairs key p q ≡ Less) rest
      → IsIndexed leads rest (mark rows p.i p.j false)
  indexed-take {rest} {rows} p h above = record {
    enough = (let n = h.enough in omega (arith, n, length-set rows p.j (set (get_or rows p.j []) p.i false)));
    long = marked-long rows p.i p.j false h.long in_rows;
    within = All-tail (λ p. (p.i < p.j) × (p.j < length leads)) p rest h.within;
    own = All-tail (IsPairOver leads) p rest h.own;
    told = λ x y. told x y (same x p.i y p.j);
  }
    where
      first : (p.i < p.j) × (p.j < length leads)
      first = All-head (λ p. (p.i < p.j) × (p.j < length leads)) p rest h.within

      in_rows : p.j < length rows
      in_rows = let n = h.enough in let m = first.1 in omega (arith, m, n)

      in_row : p.i < length (get_or rows p.j [])
      in_row = let n = h.long p.j in_rows in let l = first.0 in omega (arith, l, n)

      gone : (x y : ℕ) → x ≡ p.i → y ≡ p.j → HasPair rest x y → ⊥
      gone x y e d (q, c, i_is, j_is) =
          let same = same-place key leads p q (All-head (IsPairOver leads) p rest h.own) (All-contains (IsPairOver leads) rest q (All-tail (IsPairOver leads) p rest h.own) c)
          (sym (i_is ∙ e)) (sym (j_is ∙ d)) in
          not_before (place key p) (ap (slice_cmp nat_cmp (place key p)) same ∙ All-contains (λ q. order_of_pairs key p q ≡ Less) rest q above c)

      told : (x y : ℕ) → ((x ≡ p.i) × (y ≡ p.j)) ⊎ ((x ≡ p.i) → (y ≡ p.j) → ⊥)
          → (IsTrue (get_or (get_or (mark rows p.i p.j false) y []) x false) → HasPair rest x y) × (HasPair rest x y → IsTrue (get_or (get_or (mark rows p.i p.j false) y []) x false))
      told x y (inl e) = (
        λ t. absurd (true≢false (sym t ∙ ap₂ (λ i j. get_or (get_or (mark rows p.i p.j false) j []) i false) e.0 e.1 ∙ marked-here rows p.i p.j false in_rows in_row)),
        λ found. absurd (gone x y e.0 e.1 found),
      )
      told x y (inr n) = (
        λ t. in_rest ((h.told x y).0 (sym (marked-there rows p.i p.j false in_rows x y n) ∙ t)),
        λ found. marked-there rows p.i p.j false in_rows x y n ∙ (h.told x y).1 (found.0, contains_tail p rest found.0 found.1, found.2, found.3),
      )
        where
          in_rest : HasPair (p ∷ rest) x y → HasPair rest x y
          in_rest (q, c, i_is, j_is) = elim (contains_cons p rest q c) [
            | inl e ↦ absurd (n (sym i_is ∙ ap (λ r. r.i) (sym e)) (sym j_is ∙ ap (λ r. r.j) (sym e)))
            | inr d ↦ (q, d, i_is, j_is)
          ]
