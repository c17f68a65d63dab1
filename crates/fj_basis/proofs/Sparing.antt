-- Which pairs the chain criterion spares, by the leads and the index of the pending pairs.
use Rattle.std.proofs.Common.{◌≡◌, ◌≢◌, ◌⊎◌, inl, inr, ℕ, zero, suc, ◌<◌, max, Bool, false, IsTrue, Some, Less, Greater, List, [], ◌∷◌, ◌++◌, length, get_or, All, Contains, nat_cmp, refl, sym, ap, ap₂, ◌∙◌, subst, subst₂, arith, true≢false}
use Rattle.std.specs.FinMap.{empty}
use Rattle.std.specs.Prelude.{slice_get, unwrap_or}
use Rattle.std.specs.Cmp.Lexicographic.{slice_cmp}
use Rattle.std.specs.Ordering.{is_gt}
use Rattle.std.proofs.lemmas.List.{get_or-map, length-map}
use Rattle.std.proofs.lemmas.List.Elements.{All-contains}
use Rattle.fj_algebra.proofs.Pairs.{All-from_elements, contains_head, contains_nil}
use Rattle.fj_theory.specs.Exponents.{divides, least_common_multiple}
use Rattle.fj_theory.specs.Lead.{lead_exponents}
use Rattle.fj_theory.specs.Steps.{StepsTo}
use Rattle.fj_theory.proofs.Steps.{StepsTo-more}
use Rattle.fj_groebner.specs.Division.{Sugared, member_at}
use Rattle.fj_groebner.specs.Run as definition
use Rattle.fj_groebner.specs.Run.{AreRemovals, IsNext, IsRemoval, IsSpared, drop_pair, lead_of, pair_multiple, pair_place}
use Rattle.fj_groebner.proofs.Turns.{IsNext-unique}
use Rattle.fj_basis.specs.declared.pairs.Pair.{Pair}
use Rattle.fj_basis.specs.Pending.{HasPair, PendingPairs}
use Rattle.fj_basis.specs.Place.{place}
use Rattle.fj_basis.specs.State.{ArePending, IsPairOf, IsPendingOf}
use Rattle.fj_basis.proofs.PendingPairs.{ArePending-drop, IsNext-first, order_of_pairs, place-is}

-- The entries of a least common multiple.
pub multiple-entry : (a b : List ℕ) (k : ℕ) → length a ≡ length b → get_or (least_common_multiple a b) k 0 ≡ max (get_or a k 0) (get_or b k 0)
unfolding least_common_multiple
multiple-entry [] [] k e = omega arith
multiple-entry [] (y ∷ b) k e = absurd (omega (arith, e))
multiple-entry (x ∷ a) [] k e = absurd (omega (arith, e))
multiple-entry (x ∷ a) (y ∷ b) zero e = refl
multiple-entry (x ∷ a) (y ∷ b) (suc k) e = multiple-entry a b k (omega (arith, e))

module _ {O : Type 0} (key : List ℕ → List ℕ) (s : definition.Run) (p : PendingPairs O) (h : IsPendingOf key s p) where
  has-pending : (i j : ℕ) → HasPair p.pairs i j → Contains s.pending (i, j)
  has-pending i j (q, c, e, d) =
      let own = (All-contains (λ q. IsPairOf key s.members q × Contains s.pending (q.i, q.j)) p.pairs q h.pairs.sound c).1 in
      subst (λ x. Contains s.pending (x, j)) e (subst (λ y. Contains s.pending (q.i, y)) d own)

  pending-has : (i j : ℕ) → Contains s.pending (i, j) → HasPair p.pairs i j
  pending-has i j c = h.pairs.complete (i, j) c

  -- Whether the pair of two places is pending, in either order.
  either : (i j : ℕ) → definition.IsPending s i j → HasPair p.pairs i j ⊎ HasPair p.pairs j i
  either i j (inl c) = inl (pending-has i j c)
  either i j (inr c) = inr (pending-has j i c)

  either_back : (i j : ℕ) → HasPair p.pairs i j ⊎ HasPair p.pairs j i → definition.IsPending s i j
  either_back i j (inl c) = inl (has-pending i j c)
  either_back i j (inr c) = inr (has-pending j i c)

  pub places-long : length p.leads ≡ length s.members
  places-long = ap length h.leads ∙ length-map s.members (λ (g : Sugared). lead_exponents key g.polynomial)

  lead-at : (k : ℕ) → k < length p.leads → lead_of key s.members k ≡ get_or p.leads k []
  unfolding lead_of member_at
  lead-at k l =
      sym (ap (λ xs. get_or xs k []) h.leads
      ∙ get_or-map (λ (g : Sugared). lead_exponents key g.polynomial) s.members k (record { polynomial = empty; sugar = 0 }) [] (omega (arith, l, places-long)))

  multiple-at : (i j : ℕ) → i < length p.leads → j < length p.leads → pair_multiple key s.members (i, j) ≡ least_common_multiple (get_or p.leads i []) (get_or p.leads j [])
  unfolding pair_multiple
  multiple-at i j l m = ap₂ least_common_multiple (lead-at i l) (lead-at j m)

  -- The place k spares the pair (i, j).
  pub spared-by : (k i j : ℕ) → k < length p.leads → i < length p.leads → j < length p.leads → k ≢ i → k ≢ j → (HasPair p.pairs i k ⊎ HasPair p.pairs k i → ⊥)
      → (HasPair p.pairs j k ⊎ HasPair p.pairs k j → ⊥)
      → IsTrue (divides (get_or p.leads k []) (least_common_multiple (get_or p.leads i []) (get_or p.leads j []))) → (spared : IsSpared key s (i, j)) × (spared.place ≡ k)
  spared-by k i j l m n not_i not_j first second divisor = (
    record {
      place = k;
      is_place = omega (arith, l, places-long);
      not_first = not_i;
      not_second = not_j;
      lead_divides = subst₂ (λ a b. IsTrue (divides a b)) (sym (lead-at k l)) (sym (multiple-at i j m n)) divisor;
      first_done = λ c. first (either i k c);
      second_done = λ c. second (either j k c);
    },
    refl,
  )

  -- What it says that it does.
  module _ {k i j : ℕ} (l : k < length p.leads) (m : i < length p.leads) (n : j < length p.leads) (spared : (h : IsSpared key s (i, j)) × (h.place ≡ k)) where
    pub spared-divides : IsTrue (divides (get_or p.leads k []) (least_common_multiple (get_or p.leads i []) (get_or p.leads j [])))
    spared-divides =
        subst₂ (λ a b. IsTrue (divides a b)) (ap (lead_of key s.members) spared.1 ∙ lead-at k l) (multiple-at i j m n) spared.0.lead_divides

    pub spared-first : HasPair p.pairs i k ⊎ HasPair p.pairs k i → ⊥
    spared-first c = spared.0.first_done (subst (definition.IsPending s i) (sym spared.1) (either_back i k c))

    pub spared-second : HasPair p.pairs j k ⊎ HasPair p.pairs k j → ⊥
    spared-second c = spared.0.second_done (subst (definition.IsPending s j) (sym spared.1) (either_back j k c))

  -- The first pair, which no other stands before, is the next one.
  pub first-IsNext : (q : Pair O) (rest : List (Pair O)) → p.pairs ≡ q ∷ rest → All (λ o. is_gt (order_of_pairs key q o) ≡ false) p.pairs → IsNext key s (q.i, q.j)
  first-IsNext q rest is least = record {
    pending = has-pending q.i q.j (q, own, refl, refl);
    least = All-from_elements (λ other. slice_cmp nat_cmp (place_of (q.i, q.j)) (place_of other) ≢ Greater) s.pending (λ other c. behind other (pending-has other.0 other.1 c));
  }
    where
      place_of : ℕ × ℕ → List ℕ
      place_of pair = pair_place key s.members pair

      own : Contains p.pairs q
      own = subst (λ l. Contains l q) (sym is) (contains_head q rest)

      at : (o : Pair O) → Contains p.pairs o → place key o ≡ place_of (o.i, o.j)
      at o c = place-is key s.members o (All-contains (λ q. IsPairOf key s.members q × Contains s.pending (q.i, q.j)) p.pairs o h.pairs.sound c).0

      behind : (other : ℕ × ℕ) → HasPair p.pairs other.0 other.1 → slice_cmp nat_cmp (place_of (q.i, q.j)) (place_of other) ≢ Greater
      behind other (o, c, e, d) g =
          let same : order_of_pairs key q o ≡ Greater = ap₂ (slice_cmp nat_cmp) (at q own) (at o c ∙ ap₂ (λ i j. place_of (i, j)) e d) ∙ g in
          true≢false (sym (ap is_gt same) ∙ All-contains (λ o. is_gt (order_of_pairs key q o) ≡ false) p.pairs o least c)

  -- Whether the next pair is spared, from whether the first one is.
  pub next-spared : (q : Pair O) (rest : List (Pair O)) → p.pairs ≡ q ∷ rest → All (λ o. is_gt (order_of_pairs key q o) ≡ false) p.pairs → (b : Bool)
      → (IsTrue b → IsSpared key s (q.i, q.j)) × (IsSpared key s (q.i, q.j) → IsTrue b)
      → (IsTrue b → (pair : ℕ × ℕ) × IsNext key s pair × IsSpared key s pair) × (((pair : ℕ × ℕ) × IsNext key s pair × IsSpared key s pair) → IsTrue b)
  next-spared q rest is least b told =
      let first = first-IsNext q rest is least in
      (λ t. ((q.i, q.j), first, told.0 t), λ found. told.1 (subst (IsSpared key s) (IsNext-unique found.1 first) found.2))

  pub none-next : p.pairs ≡ [] → (pair : ℕ × ℕ) → IsNext key s pair → ⊥
  none-next e pair next = let found = pending-has pair.0 pair.1 next.pending in contains_nil found.0 (subst (λ l. Contains l found.0) e found.1)

-- The first element of a list.
pub first-splits : {X : Type 0} (xs : List X) (x : X) → slice_get xs 0 ≡ Some x → (rest : List X) × (xs ≡ x ∷ rest)
first-splits [] x e = absurd (cc)
first-splits {X} (y ∷ xs) x e = (xs, ap (λ o. (unwrap_or o x) ∷ xs) e)

pub none-first : {X : Type 0} (xs : List X) → (0 < length xs → ⊥) → xs ≡ []
none-first [] n = refl
none-first (x ∷ xs) n = absurd (n (omega arith))

-- Removals from the pending pairs s lead to t.
pub record AreRemovedTo {O : Type 0} (key : List ℕ → List ℕ) (s : definition.Run) (after : PendingPairs O) : Type 0 where
  pub states : List definition.Run
  pub last : definition.Run
  pub steps : StepsTo (IsRemoval key) s states last
  pub members : last.members ≡ s.members
  pub pending : IsPendingOf key last after

module _ {O : Type 0} (key : List ℕ → List ℕ) where
  pub removed-none : (s : definition.Run) (p : PendingPairs O) → IsPendingOf key s p → AreRemovedTo key s p
  removed-none s p h = record { states = []; last = s; steps = refl; members = refl; pending = h }

  -- The first pair is removed, which is the next one and is spared.
  pub removed-more : (s : definition.Run) (old new : PendingPairs O) (p : Pair O) → old.pairs ≡ p ∷ new.pairs → All (λ q. order_of_pairs key p q ≡ Less) new.pairs
      → new.leads ≡ old.leads
      → ((t : definition.Run) → IsPendingOf key t old → (pair : ℕ × ℕ) × IsNext key t pair × IsSpared key t pair)
      → AreRemovedTo key s old → AreRemovedTo key s new
  unfolding drop_pair
  removed-more s old new p is above same spared before =
      let t = before.last in
      let pending = subst (ArePending key t) is before.pending.pairs in
      let first = IsNext-first key t p new.pairs pending above in
      let found = spared t before.pending in
      let removal : IsRemoval key t (drop_pair t (p.i, p.j)) =
      record { pair = (p.i, p.j); next = first; spared = subst (IsSpared key t) (IsNext-unique found.1 first) found.2; removed = refl } in
      record {
        states = before.states ++ (drop_pair t (p.i, p.j) ∷ []);
        last = drop_pair t (p.i, p.j);
        steps = StepsTo-more (IsRemoval key) before.states s t (drop_pair t (p.i, p.j)) before.steps removal;
        members = before.members;
        pending = record { leads = same ∙ before.pending.leads; pairs = ArePending-drop key t p new.pairs pending above };
      }

  -- No next pair is spared.
  pub removed-all : (s : definition.Run) (p : PendingPairs O) → ((t : definition.Run) → IsPendingOf key t p → ((pair : ℕ × ℕ) × IsNext key t pair × IsSpared key t pair) → ⊥)
      → AreRemovedTo key s p → (t : definition.Run) × AreRemovals key s t × (t.members ≡ s.members) × IsPendingOf key t p
  removed-all s p none r = (
    r.last,
    record { states = r.states; steps = r.steps; ended = λ pair next spared. none r.last r.pending (pair, next, spared) },
    r.members,
    r.pending,
  )
