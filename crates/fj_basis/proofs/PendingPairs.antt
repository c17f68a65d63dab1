-- The pending pairs of a run, as its turns change them.
use Rattle.std.proofs.Common.{◌≡◌, ◌≢◌, ◌⊎◌, inl, inr, ℕ, ◌<◌, ◌≤◌, ◌==◌, ◌&&◌, nat_le, not, Bool, true, false, cond, Option, Some, None, Ordering, Less, Greater, List, [], ◌∷◌, ◌++◌, length, length-append, All, Contains, get_or, nat_cmp, refl, sym, ap, ap₂, ◌∙◌, subst, arith, true≢false, eq-eqb}
use Rattle.std.specs.List.{range_with_len}
use Rattle.std.specs.Cmp.Lexicographic.{slice_cmp, nat_list_cmp_total}
use Rattle.std.specs.FinMap.{empty}
use Rattle.std.specs.Ordering.{on, ordering_reverse}
use Rattle.std.proofs.lemmas.List.{get_or-map, get_or_append_left, length-map, map-append}
use Rattle.std.proofs.lemmas.List.Elements.{All-contains, All-weaker, Contains-append_left, Contains-append_right, Contains-append_cases}
use Rattle.std.proofs.lemmas.Bool.Decides.{nat_tests}
use Rattle.fj_algebra.proofs.Pairs.{All-from_elements, contains_cons, contains_filter, contains_head, contains_map, contains_map_back, contains_tail, filter_contains}
use Rattle.fj_mono.specs.Monomial.{Monomial}
use Rattle.fj_theory.specs.Exponents.{least_common_multiple, total}
use Rattle.fj_theory.specs.Lead.{lead_exponents}
use Rattle.fj_groebner.specs.Division.{Sugared, degree_limit, member_at}
use Rattle.fj_groebner.specs.Run as definition
use Rattle.fj_groebner.specs.Run.{IsNext, append_member, drop_pair, lead_of, pair_multiple, pair_place, pairs_with}
use Rattle.fj_groebner.proofs.Run.{in_range, of_range, same_pair}
use Rattle.fj_basis.specs.declared.pairs.Pair.{Pair}
use Rattle.fj_basis.specs.Place.{IsWithinLimit, place, place_by}
use Rattle.fj_basis.specs.Pending.{HasPairsWith, IsPairOver, PendingPairs}
use Rattle.fj_basis.specs.State.{ArePending, IsPairOf, IsPendingOf, leads_of}

in_pairs_with : (n x : ℕ) → x < n → Contains (pairs_with n) (x, n)
unfolding pairs_with
in_pairs_with n x l = contains_map (λ i. (i, n)) (range_with_len 0 n) x (in_range n x l)

of_pairs_with : (n : ℕ) (pair : ℕ × ℕ) → Contains (pairs_with n) pair → (pair.0 < n) × (pair.1 ≡ n)
unfolding pairs_with
of_pairs_with n pair c =
    let b = contains_map_back (λ i. (i, n)) (range_with_len 0 n) pair c in
    let l = of_range n b.0 b.1 in
    (subst (λ i. i < n) (ap (λ p. p.0) b.2) l, sym (ap (λ p. p.1) b.2))

-- Whether a pair is the pair (i, j).
same_places : (i j : ℕ) (other : ℕ × ℕ) → other.0 ≡ i → other.1 ≡ j → (other.0 == i && other.1 == j) ≡ true
same_places i j other e h = ap₂ ◌&&◌ (eq-eqb other.0 i e) (eq-eqb other.1 j h)

-- A list stands neither before nor behind itself.
pub not_before : (a : List ℕ) → slice_cmp nat_cmp a a ≡ Less → ⊥
not_before a e =
    let back : Less ≡ Greater = sym e ∙ nat_list_cmp_total.antisymm a a ∙ ap ordering_reverse e in
    absurd (cc)

not_behind : (a : List ℕ) → slice_cmp nat_cmp a a ≡ Greater → ⊥
not_behind a e =
    let back : Greater ≡ Less = sym e ∙ nat_list_cmp_total.antisymm a a ∙ ap ordering_reverse e in
    absurd (cc)

pub within-place : (key : List ℕ → List ℕ) (a rest : List ℕ) (o : Option Monomial) → IsWithinLimit a o → place_by key o rest ≡ cond (nat_le (total a) degree_limit) (0 ∷ (key a ++ rest)) (1 ∷ rest)
unfolding place_by
within-place key a rest (Some m) e =
    let bounded = m.bounded in
    let low : nat_le (total a) degree_limit ≡ true = (let same = ap total e in let l : total a ≤ degree_limit = omega (arith, same, bounded) in grind (arith, nat_tests, l)) in
    ap (λ b. 0 ∷ (key b ++ rest)) e ∙ sym (ap (λ t. cond t (0 ∷ (key a ++ rest)) (1 ∷ rest)) low)
within-place key a rest None high =
    let above : nat_le (total a) degree_limit ≡ false = grind (arith, nat_tests, high) in
    sym (ap (λ t. cond t (0 ∷ (key a ++ rest)) (1 ∷ rest)) above)

module _ {O : Type 0} (key : List ℕ → List ℕ) where
  abbrev pub order_of_pairs : Pair O → Pair O → Ordering
  order_of_pairs = on (place key) (slice_cmp nat_cmp)

  -- The place at which the code keeps a pair.
  pub place-is : (G : List Sugared) (p : Pair O) → IsPairOf key G p → place key p ≡ pair_place key G (p.i, p.j)
  unfolding place pair_place
  place-is G p own = within-place key (pair_multiple key G (p.i, p.j)) (p.j ∷ (p.i ∷ [])) p.lcm own.lcm

  module _ (s : definition.Run) (p : Pair O) (rest : List (Pair O)) (pending : ArePending key s (p ∷ rest)) (above : All (λ q. order_of_pairs p q ≡ Less) rest) where
    abbrev place_of : ℕ × ℕ → List ℕ
    place_of pair = pair_place key s.members pair

    abbrev from_first : ℕ → ℕ → Ordering
    from_first i j = slice_cmp nat_cmp (place_of (p.i, p.j)) (place_of (i, j))

    known : (q : Pair O) → Contains (p ∷ rest) q → IsPairOf key s.members q × Contains s.pending (q.i, q.j)
    known q c = All-contains (λ q. IsPairOf key s.members q × Contains s.pending (q.i, q.j)) (p ∷ rest) q pending.sound c

    later : (q : Pair O) → Contains rest q → slice_cmp nat_cmp (place_of (p.i, p.j)) (place_of (q.i, q.j)) ≡ Less
    later q c =
        sym (ap₂ (slice_cmp nat_cmp) (place-is s.members p (known p (contains_head p rest)).0) (place-is s.members q (known q (contains_tail p rest q c)).0))
        ∙ All-contains (λ q. order_of_pairs p q ≡ Less) rest q above c

    -- The first pair is the next one.
    pub IsNext-first : IsNext key s (p.i, p.j)
    IsNext-first = record {
      pending = (known p (contains_head p rest)).1;
      least = All-from_elements (λ other. slice_cmp nat_cmp (place_of (p.i, p.j)) (place_of other) ≢ Greater) s.pending
          (λ other c. let found = pending.complete other c in by other found.0 (contains_cons p rest found.0 found.1) found.2 found.3);
    }
      where
        by : (other : ℕ × ℕ) (q : Pair O) → (p ≡ q) ⊎ Contains rest q → q.i ≡ other.0 → q.j ≡ other.1 → slice_cmp nat_cmp (place_of (p.i, p.j)) (place_of other) ≢ Greater
        by other q (inl e) h k g = not_behind (place_of (p.i, p.j)) (ap₂ from_first (ap (λ r. r.i) e ∙ h) (ap (λ r. r.j) e ∙ k) ∙ g)
        by other q (inr c) h k g =
            let less = sym (ap₂ from_first h k) ∙ later q c in
            let both : Greater ≡ Less = sym g ∙ less in
            absurd (cc)

    -- The first pair is pending no longer.
    pub ArePending-drop : ArePending key (drop_pair s (p.i, p.j)) rest
    unfolding drop_pair
    ArePending-drop = record {
      sound = All-from_elements (λ q. IsPairOf key s.members q × Contains (drop_pair s (p.i, p.j)).pending (q.i, q.j)) rest
          (λ q c. ((known q (contains_tail p rest q c)).0, filter_contains test s.pending (q.i, q.j) (known q (contains_tail p rest q c)).1 (other q c (q.i == p.i && q.j == p.j) refl)));
      complete = λ pair c.
          let both = contains_filter test s.pending pair c in
          let found = pending.complete pair both.0 in
          (found.0, in_rest pair both.1 found.0 (contains_cons p rest found.0 found.1) found.2 found.3, found.2, found.3);
    }
      where
        test : ℕ × ℕ → Bool
        test pair = not (pair.0 == p.i && pair.1 == p.j)

        other : (q : Pair O) → Contains rest q → (t : Bool) → (q.i == p.i && q.j == p.j) ≡ t → not (q.i == p.i && q.j == p.j) ≡ true
        other q c false e = ap not e
        other q c true e =
            let same = same_pair q.i p.i q.j p.j e in
            absurd (not_before (place_of (p.i, p.j)) (sym (ap₂ from_first same.0 same.1) ∙ later q c))

        in_rest : (pair : ℕ × ℕ) → test pair ≡ true → (q : Pair O) → (p ≡ q) ⊎ Contains rest q → q.i ≡ pair.0 → q.j ≡ pair.1 → Contains rest q
        in_rest pair t q (inr c) h k = c
        in_rest pair t q (inl e) h k =
            absurd (true≢false (sym t ∙ ap not (same_places p.i p.j pair (sym h ∙ ap (λ r. r.i) (sym e)) (sym k ∙ ap (λ r. r.j) (sym e)))))

  -- A pair is of the members when more are appended.
  IsPairOf-more : (G : List Sugared) (g : Sugared) (p : Pair O) → p.i < length G → p.j < length G → IsPairOf key G p → IsPairOf key (G ++ (g ∷ [])) p
  unfolding pair_multiple lead_of member_at
  IsPairOf-more G g p l m own =
      let none : Sugared = record { polynomial = empty; sugar = 0 } in
      let same : (k : ℕ) → k < length G → get_or G k none ≡ get_or (G ++ (g ∷ [])) k none = (λ k n. sym (get_or_append_left G (g ∷ []) none k n)) in
      record {
        lcm = subst (λ a. IsWithinLimit a p.lcm)
            (ap₂ (λ (x y : Sugared). least_common_multiple (lead_exponents key x.polynomial) (lead_exponents key y.polynomial)) (same p.i l) (same p.j m)) own.lcm;
      }

  -- A pair over the leads of a list.
  pub IsPairOver-IsPairOf : (G : List Sugared) (leads : List (List ℕ)) (p : Pair O) → leads ≡ leads_of key G → p.i < length G → p.j < length G → IsPairOver leads p
      → IsPairOf key G p
  unfolding pair_multiple lead_of member_at
  IsPairOver-IsPairOf G leads p e l m own =
      let none : Sugared = record { polynomial = empty; sugar = 0 } in
      let at : (k : ℕ) → k < length G → get_or leads k [] ≡ lead_exponents key (get_or G k none).polynomial =
      (λ k h. ap (λ xs. get_or xs k []) e ∙ get_or-map (λ (g : Sugared). lead_exponents key g.polynomial) G k none [] h) in
      record { lcm = subst (λ a. IsWithinLimit a p.lcm) (ap₂ least_common_multiple (at p.i l) (at p.j m)) own }

  -- A member is appended with its pairs.
  pub IsPendingOf-append : (s : definition.Run) (g : Sugared) (before after : PendingPairs O) → ((i j : ℕ) → Contains s.pending (i, j) → (i < j) × (j < length s.members))
      → IsPendingOf key s before → after.leads ≡ before.leads ++ (lead_exponents key g.polynomial ∷ []) → HasPairsWith after.leads (length before.leads) before.pairs after.pairs
      → IsPendingOf key (append_member s g) after
  unfolding append_member
  IsPendingOf-append s g before after within old grown pairs = record {
    leads = leads;
    pairs = record {
      sound = All-weaker (λ q. Contains before.pairs q ⊎ (IsPairOver after.leads q × (q.i < length s.members) × (q.j ≡ length s.members)))
          (λ q. IsPairOf key (s.members ++ (g ∷ [])) q × Contains (s.pending ++ pairs_with (length s.members)) (q.i, q.j)) known after.pairs new.sound;
      complete = λ pair c. elim (Contains-append_cases s.pending (pairs_with (length s.members)) pair c) [
        | inl own ↦ (let found = old.pairs.complete pair own in (found.0, All-contains (Contains after.pairs) before.pairs found.0 new.kept found.1, found.2, found.3))
        | inr own ↦ (let places = of_pairs_with (length s.members) pair own in let found = new.new pair.0 places.0 in (found.0, found.1, found.2, found.3 ∙ sym places.1))
      ];
    };
  }
    where
      leads : after.leads ≡ leads_of key (s.members ++ (g ∷ []))
      leads =
          grown ∙ ap (λ xs. xs ++ (lead_exponents key g.polynomial ∷ [])) old.leads
          ∙ sym (map-append (λ (h : Sugared). lead_exponents key h.polynomial) s.members (g ∷ []))

      count : length before.leads ≡ length s.members
      count = ap length old.leads ∙ length-map s.members (λ (h : Sugared). lead_exponents key h.polynomial)

      new : HasPairsWith after.leads (length s.members) before.pairs after.pairs
      new = subst (λ n. HasPairsWith after.leads n before.pairs after.pairs) count pairs

      known : (q : Pair O) → Contains before.pairs q ⊎ (IsPairOver after.leads q × (q.i < length s.members) × (q.j ≡ length s.members))
          → IsPairOf key (s.members ++ (g ∷ [])) q × Contains (s.pending ++ pairs_with (length s.members)) (q.i, q.j)
      known q (inl c) =
          let both = All-contains (λ q. IsPairOf key s.members q × Contains s.pending (q.i, q.j)) before.pairs q old.pairs.sound c in
          let places = within q.i q.j both.1 in
          (IsPairOf-more s.members g q (omega (arith, places.0, places.1)) places.1 both.0, Contains-append_left s.pending (pairs_with (length s.members)) (q.i, q.j) both.1)
      known q (inr own) =
          let long = length-append s.members (g ∷ []) in (
            IsPairOver-IsPairOf (s.members ++ (g ∷ [])) after.leads q leads (omega (arith, own.1, long)) (omega (arith, own.2, long)) own.0,
            Contains-append_right s.pending (pairs_with (length s.members)) (q.i, q.j) (subst (λ n. Contains (pairs_with (length s.members)) (q.i, n)) (sym own.2) (in_pairs_with (length s.members) q.i own.1)),
          )
