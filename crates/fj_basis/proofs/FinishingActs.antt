-- The acts of finishing, as the code goes through them.
use Rattle.std.proofs.Common.{◌≡◌, ℕ, suc, ◌+◌, ◌<◌, ◌≤◌, ◌&&◌, ◌||◌, nat_lt, not, Bool, true, false, cond, is_gt, Ordering, Greater, List, [], ◌∷◌, ◌++◌, length, map, filter, take, drop, get_or, refl, sym, ap, ap₂, ◌∙◌, arith, add-one, Less, Equal, append_assoc}
use Rattle.std.specs.List.{range_with_len}
use Rattle.std.proofs.Math.Seq.{drop-cons, take-suc, take-append_seam, get_or-append_seam}
use Rattle.std.proofs.lemmas.List.{drop_all, take_all, length-append, length-take-le}
use Rattle.std.proofs.lemmas.List.FromFn.{length-range_with_len, get_or-range_with_len, length-map-range_with_len, take-map-range_with_len, get_or-map-range_with_len}
use Rattle.std.proofs.lemmas.List.Folds.{list_any_at, list_any_none}
use Rattle.fj_theory.specs.Exponents.{divides}
use Rattle.fj_theory.specs.MonomialOrder.{compare_by}
use Rattle.fj_theory.specs.Lead.{lead_exponents}
use Rattle.fj_groebner.specs.Division.{Sugared, member_at}
use Rattle.fj_groebner.specs.Run.{lead_of, is_left_out, kept_members, place_by_lead, sort_by_lead}

module _ (key : List ℕ → List ℕ) (G : List Sugared) (i : ℕ) where
  -- The lead of the member at j divides that at i, and j decides.
  abbrev pub leaves_out : ℕ → Bool
  leaves_out j = divides (lead_of key G j) (lead_of key G i) && (not (divides (lead_of key G i) (lead_of key G j)) || nat_lt j i)

  pub left_out-found : (j : ℕ) → j < length G → leaves_out j ≡ true → is_left_out key G i ≡ true
  unfolding is_left_out
  left_out-found j l e =
      list_any_at _ (range_with_len 0 (length G)) j 0 (omega (arith, l, length-range_with_len 0 (length G)))
      (ap leaves_out (get_or-range_with_len 0 (length G) j 0 l ∙ omega arith) ∙ e)

  pub left_out-none : ((j : ℕ) → j < length G → leaves_out j ≡ false) → is_left_out key G i ≡ false
  unfolding is_left_out
  left_out-none none =
      list_any_none _ (range_with_len 0 (length G))
      (λ k d l. let long = length-range_with_len 0 (length G) in
      let at = get_or-range_with_len 0 (length G) k d (omega (arith, l, long)) in
      none _ (omega (arith, at, l, long)))

-- A member's lead comes to stand before the first that isn't less.
place-after : (key : List ℕ → List ℕ) (g h : Sugared) (more : List Sugared) → compare_by key (lead_exponents key g.polynomial) (lead_exponents key h.polynomial) ≡ Greater
    → place_by_lead key g (h ∷ more) ≡ h ∷ place_by_lead key g more
unfolding place_by_lead
place-after key g h more e = ap (λ o. cond (is_gt o) (h ∷ place_by_lead key g more) (g ∷ (h ∷ more))) e

not_gt : (o : Ordering) → (o ≡ Greater → ⊥) → is_gt o ≡ false
not_gt Less n = refl
not_gt Equal n = refl
not_gt Greater n = absurd (n refl)

place-here : (key : List ℕ → List ℕ) (g h : Sugared) (more : List Sugared) → (compare_by key (lead_exponents key g.polynomial) (lead_exponents key h.polynomial) ≡ Greater → ⊥)
    → place_by_lead key g (h ∷ more) ≡ g ∷ (h ∷ more)
unfolding place_by_lead
place-here key g h more n =
    ap (λ t. cond t (h ∷ place_by_lead key g more) (g ∷ (h ∷ more))) (not_gt (compare_by key (lead_exponents key g.polynomial) (lead_exponents key h.polynomial)) n)

place-last : (key : List ℕ → List ℕ) (g : Sugared) → place_by_lead key g [] ≡ g ∷ []
unfolding place_by_lead
place-last key g = refl

module _ (key : List ℕ → List ℕ) (g : Sugared) (G : List Sugared) where
  -- The member isn't to stand among the first p.
  pub record IsBehind (p : ℕ) : Type 0 where
    pub inside : p ≤ length G
    pub is : place_by_lead key g G ≡ take p G ++ place_by_lead key g (drop p G)

  pub IsBehind-zero : IsBehind 0
  IsBehind-zero = record { inside = omega arith; is = refl }

  pub IsBehind-more : (p : ℕ) (d : Sugared) → p < length G → compare_by key (lead_exponents key g.polynomial) (lead_exponents key (get_or G p d).polynomial) ≡ Greater → IsBehind p → IsBehind (p + 1)
  IsBehind-more p d l e b = record {
    inside = omega arith;
    is = b.is ∙ ap (λ more. take p G ++ place_by_lead key g more) (drop-cons G p d l) ∙ ap (λ more. take p G ++ more) (place-after key g (get_or G p d) (drop (suc p) G) e)
        ∙ sym (append_assoc (take p G) (get_or G p d ∷ []) (place_by_lead key g (drop (suc p) G)))
        ∙ sym (ap (λ n. take n G ++ place_by_lead key g (drop n G)) (add-one p) ∙ ap (λ front. front ++ place_by_lead key g (drop (suc p) G)) (take-suc G p d l));
  }

  -- It is to stand behind them.
  pub IsBehind-end : (p : ℕ) → length G ≤ p → IsBehind p → place_by_lead key g G ≡ take p G ++ (g ∷ drop p G)
  IsBehind-end p l b = b.is ∙ ap (λ more. take p G ++ place_by_lead key g more) (drop_all p G l) ∙ ap (λ more. take p G ++ more) (place-last key g ∙ ap (λ more. g ∷ more) (sym (drop_all p G l)))

  pub IsBehind-stop : (p : ℕ) (d : Sugared) → p < length G → (compare_by key (lead_exponents key g.polynomial) (lead_exponents key (get_or G p d).polynomial) ≡ Greater → ⊥) → IsBehind p
      → place_by_lead key g G ≡ take p G ++ (g ∷ drop p G)
  IsBehind-stop p d l n b =
      b.is ∙ ap (λ more. take p G ++ place_by_lead key g more) (drop-cons G p d l) ∙ ap (λ more. take p G ++ more) (place-here key g (get_or G p d) (drop (suc p) G) n)
      ∙ ap (λ more. take p G ++ (g ∷ more)) (sym (drop-cons G p d l))

-- The values over a range, one more.
pub map-range-more : {X : Type 0} (f : ℕ → X) (n : ℕ) → map f (range_with_len 0 (n + 1)) ≡ map f (range_with_len 0 n) ++ (f n ∷ [])
map-range-more f n =
    let xs = map f (range_with_len 0 (n + 1)) in
    let long = length-map-range_with_len f 0 (n + 1) in
    sym (take_all (suc n) xs (omega (arith, long))) ∙ take-suc xs n (f n) (omega (arith, long))
    ∙ ap₂ (λ ys y. ys ++ (y ∷ [])) (take-map-range_with_len f 0 (n + 1) n (omega arith)) (get_or-map-range_with_len f 0 (n + 1) n n (f n) (omega arith) (omega arith))

module _ (key : List ℕ → List ℕ) (G : List Sugared) where
  -- The kept members from the place n on.
  pub kept_from : ℕ → List Sugared
  kept_from n = map (member_at G) (filter (λ i. not (is_left_out key G i)) (drop n (range_with_len 0 (length G))))

  pub kept_from-zero : kept_from 0 ≡ kept_members key G
  unfolding kept_from kept_members
  kept_from-zero = refl

  pub kept_from-end : (n : ℕ) → length G ≤ n → sort_by_lead key (kept_from n) ≡ []
  unfolding kept_from sort_by_lead
  kept_from-end n l =
      ap (λ is. sort_by_lead key (map (member_at G) (filter (λ i. not (is_left_out key G i)) is))) (drop_all n (range_with_len 0 (length G)) (omega (arith, l, length-range_with_len 0 (length G))))

  next : (n : ℕ) → n < length G → drop n (range_with_len 0 (length G)) ≡ n ∷ drop (n + 1) (range_with_len 0 (length G))
  next n l =
      drop-cons (range_with_len 0 (length G)) n 0 (omega (arith, l, length-range_with_len 0 (length G)))
      ∙ ap₂ ◌∷◌ (get_or-range_with_len 0 (length G) n 0 l ∙ omega arith) (ap (λ m. drop m (range_with_len 0 (length G))) (sym (add-one n)))

  -- One that is left out.
  pub kept_from-left : (n : ℕ) → n < length G → is_left_out key G n ≡ true → kept_from n ≡ kept_from (n + 1)
  unfolding kept_from
  kept_from-left n l e =
      ap (λ is. map (member_at G) (filter (λ i. not (is_left_out key G i)) is)) (next n l)
      ∙ ap (λ t. map (member_at G) (cond (not t) (n ∷ filter (λ i. not (is_left_out key G i)) (drop (n + 1) (range_with_len 0 (length G)))) (filter (λ i. not (is_left_out key G i)) (drop (n + 1) (range_with_len 0 (length G)))))) e

  -- One that is kept.
  pub kept_from-kept : (n : ℕ) → n < length G → is_left_out key G n ≡ false → sort_by_lead key (kept_from n) ≡ place_by_lead key (member_at G n) (sort_by_lead key (kept_from (n + 1)))
  unfolding kept_from sort_by_lead
  kept_from-kept n l e =
      ap (λ is. sort_by_lead key (map (member_at G) (filter (λ i. not (is_left_out key G i)) is))) (next n l)
      ∙ ap (λ t. sort_by_lead key (map (member_at G) (cond (not t) (n ∷ filter (λ i. not (is_left_out key G i)) (drop (n + 1) (range_with_len 0 (length G)))) (filter (λ i. not (is_left_out key G i)) (drop (n + 1) (range_with_len 0 (length G))))))) e

-- A last element leaves the front of a list.
pub popped : {X : Type 0} (whole old new : List X) (x : X) → old ≡ take (length old) whole → length old ≤ length whole → old ≡ new ++ (x ∷ [])
    → (new ≡ take (length new) whole) × (length new < length whole) × (x ≡ get_or whole (length new) x)
popped whole old new x front within is =
    let one : length old ≡ length new + 1 = ap length is ∙ length-append new (x ∷ []) in
    let shorter : length new < length whole = omega (arith, one, within) in
    let both : new ++ (x ∷ []) ≡ take (length new) whole ++ (get_or whole (length new) x ∷ []) =
    sym is ∙ front ∙ ap (λ n. take n whole) (one ∙ add-one (length new)) ∙ take-suc whole (length new) x shorter in
    let long : length (take (length new) whole) ≡ length new = length-take-le (length new) whole (omega (arith, shorter)) in (
      sym (take-append_seam new (x ∷ [])) ∙ ap (take (length new)) both ∙ ap (λ n. take n (take (length new) whole ++ (get_or whole (length new) x ∷ []))) (sym long)
          ∙ take-append_seam (take (length new) whole) (get_or whole (length new) x ∷ []),
      shorter,
      sym (get_or-append_seam new x [] x) ∙ ap (λ xs. get_or xs (length new) x) both
          ∙ ap (λ n. get_or (take (length new) whole ++ (get_or whole (length new) x ∷ [])) n x) (sym long)
          ∙ get_or-append_seam (take (length new) whole) (get_or whole (length new) x) [] x,
    )
