-- The members that finishing keeps, sorted by their leads.
use Rattle.std.proofs.Common.{◌≡◌, ◌⊎◌, inl, inr, ℕ, ◌<◌, Bool, true, false, cond, is_gt, List, [], ◌∷◌, All, Contains, Ordering, Less, Equal, Greater, refl, sym, ap, ◌∙◌, subst, arith, true≢false}
use Rattle.std.specs.List.{AllPairs, range_with_len}
use Rattle.std.proofs.lemmas.List.Elements.{All-nil, All-cons, All-head, All-tail, All-contains}
use Rattle.std.proofs.lemmas.List.Kept.{AllPairs-cons}
use Rattle.std.proofs.lemmas.List.FromFn.{length-range_with_len, get_or-range_with_len}
use Rattle.std.specs.Ordering.{ordering_reverse}
use Rattle.fj_algebra.proofs.Pairs.{contains_cons, contains_head, contains_tail, contains_nil, All-from_elements, AllPairs-head, AllPairs-tail}
use Rattle.fj_theory.specs.Exponents.{IsExponents, divides}
use Rattle.fj_theory.specs.MonomialOrder.{IsMonomialOrder, compare_by}
use Rattle.fj_theory.specs.Lead.{lead_exponents}
use Rattle.fj_groebner.specs.Division.{Sugared}
use Rattle.fj_groebner.specs.Run.{place_by_lead, sort_by_lead}
use Rattle.fj_theory.proofs.Exponents.{divides_refl}
use Rattle.fj_theory.proofs.MonomialOrder.{compare_by_total, compare_by_exact}

module _ (key : List ℕ → List ℕ) where
  All-place : (Q : Sugared → Type 0) (g : Sugared) (G : List Sugared) → Q g → All Q G → All Q (place_by_lead key g G)
  unfolding place_by_lead
  All-place Q g [] q all = All-cons Q g [] q all
  All-place Q g (h ∷ more) q all = go (is_gt (compare_by key (lead_exponents key g.polynomial) (lead_exponents key h.polynomial))) (All-place Q g more q (All-tail Q h more all))
    where
      go : (t : Bool) → All Q (place_by_lead key g more) → All Q (cond t (h ∷ place_by_lead key g more) (g ∷ (h ∷ more)))
      go true rest = All-cons Q h (place_by_lead key g more) (All-head Q h more all) rest
      go false rest = All-cons Q g (h ∷ more) q all

  -- What holds of each member holds after sorting.
  pub All-sort_by_lead : (Q : Sugared → Type 0) (G : List Sugared) → All Q G → All Q (sort_by_lead key G)
  unfolding sort_by_lead
  All-sort_by_lead Q [] all = all
  All-sort_by_lead Q (g ∷ G) all = All-place Q g (sort_by_lead key G) (All-head Q g G all) (All-sort_by_lead Q G (All-tail Q g G all))

  place_has : (g : Sugared) (G : List Sugared) (w : Sugared) → (g ≡ w) ⊎ Contains G w → Contains (place_by_lead key g G) w
  unfolding place_by_lead
  place_has g [] w (inl e) = subst (Contains (g ∷ [])) e (contains_head g [])
  place_has g [] w (inr c) = absurd (contains_nil w c)
  place_has g (h ∷ more) w c = go (is_gt (compare_by key (lead_exponents key g.polynomial) (lead_exponents key h.polynomial))) (place_has g more w) c
    where
      go : (t : Bool) → ((g ≡ w) ⊎ Contains more w → Contains (place_by_lead key g more) w) → (g ≡ w) ⊎ Contains (h ∷ more) w
          → Contains (cond t (h ∷ place_by_lead key g more) (g ∷ (h ∷ more))) w
      go true rest (inl e) = contains_tail h (place_by_lead key g more) w (rest (inl e))
      go true rest (inr c) = elim (contains_cons h more w c) [
        | inl e ↦ subst (Contains (h ∷ place_by_lead key g more)) e (contains_head h (place_by_lead key g more))
        | inr d ↦ contains_tail h (place_by_lead key g more) w (rest (inr d))
      ]
      go false rest (inl e) = subst (Contains (g ∷ (h ∷ more))) e (contains_head g (h ∷ more))
      go false rest (inr c) = contains_tail g (h ∷ more) w c

  -- No member is lost.
  pub sort_by_lead-has : (G : List Sugared) (w : Sugared) → Contains G w → Contains (sort_by_lead key G) w
  unfolding sort_by_lead
  sort_by_lead-has [] w c = c
  sort_by_lead-has (g ∷ G) w c = elim (contains_cons g G w c) [
    | inl e ↦ place_has g (sort_by_lead key G) w (inl e)
    | inr d ↦ place_has g (sort_by_lead key G) w (inr (sort_by_lead-has G w d))
  ]

  -- Neither lead divides the other.
  abbrev pub Apart : Sugared → Sugared → Type 0
  Apart g h = (divides (lead_exponents key g.polynomial) (lead_exponents key h.polynomial) ≡ false)
      × (divides (lead_exponents key h.polynomial) (lead_exponents key g.polynomial) ≡ false)

  -- The leads rise, and neither divides the other.
  abbrev pub Rises : Sugared → Sugared → Type 0
  Rises g h = (compare_by key (lead_exponents key g.polynomial) (lead_exponents key h.polynomial) ≡ Less) × Apart g h

  abbrev pub HasExponents : Sugared → Type 0
  HasExponents g = IsExponents (lead_exponents key g.polynomial)

module _ {key : List ℕ → List ℕ} (K : IsMonomialOrder key) where
  reversed : (o r : Ordering) → o ≡ ordering_reverse r → r ≡ Greater → o ≡ Less
  reversed o r e h = e ∙ ap ordering_reverse h

  not_equal : (g h : Sugared) → HasExponents key g → HasExponents key h → Apart key g h
      → compare_by key (lead_exponents key g.polynomial) (lead_exponents key h.polynomial) ≡ Equal → ⊥
  not_equal g h a b r e =
      let same = compare_by_exact K a b e in
      true≢false (sym (divides_refl (lead_exponents key g.polynomial)) ∙ ap (divides (lead_exponents key g.polynomial)) same ∙ r.0)

  place_rises : (g : Sugared) (G : List Sugared) → HasExponents key g → All (HasExponents key) G → All (Apart key g) G → AllPairs (Rises key) G
      → AllPairs (Rises key) (place_by_lead key g G)
  unfolding place_by_lead
  place_rises g [] a all apart rises = AllPairs-cons (Rises key) g [] (All-nil (Rises key g)) rises
  place_rises g (h ∷ more) a all apart rises =
      go (compare_by key (lead_exponents key g.polynomial) (lead_exponents key h.polynomial)) refl
      (place_rises g more a (All-tail (HasExponents key) h more all) (All-tail (Apart key g) h more apart) (AllPairs-tail (Rises key) h more rises))
    where
      b : HasExponents key h
      b = All-head (HasExponents key) h more all

      r : Apart key g h
      r = All-head (Apart key g) h more apart

      later : All (Rises key h) more
      later = All-from_elements (Rises key h) more (λ x c. AllPairs-head (Rises key) h more rises x c)

      go : (o : Ordering) → compare_by key (lead_exponents key g.polynomial) (lead_exponents key h.polynomial) ≡ o → AllPairs (Rises key) (place_by_lead key g more)
          → AllPairs (Rises key) (cond (is_gt o) (h ∷ place_by_lead key g more) (g ∷ (h ∷ more)))
      go Greater e rest =
          AllPairs-cons (Rises key) h (place_by_lead key g more)
          (All-place key (Rises key h) g more (reversed _ _ ((compare_by_total key).antisymm (lead_exponents key h.polynomial) (lead_exponents key g.polynomial)) e, (r.1, r.0)) later) rest
      go Equal e rest = absurd (not_equal g h a b r e)
      go Less e rest =
          AllPairs-cons (Rises key) g (h ∷ more)
          (All-cons (Rises key g) h more (e, r)
          (All-from_elements (Rises key g) more (λ x c. (
            (compare_by_total key).trans _ _ _ e (All-contains (Rises key h) more x later c).0,
            All-contains (Apart key g) more x (All-tail (Apart key g) h more apart) c,
          )))) rises

  -- Members of which no lead divides another are sorted with rising leads.
  pub sort_by_lead-Rises : (G : List Sugared) → All (HasExponents key) G → AllPairs (Apart key) G → AllPairs (Rises key) (sort_by_lead key G)
  unfolding sort_by_lead
  sort_by_lead-Rises [] all apart = λ i j d l k. absurd (omega arith)
  sort_by_lead-Rises (g ∷ G) all apart =
      place_rises g (sort_by_lead key G) (All-head (HasExponents key) g G all) (All-sort_by_lead key (HasExponents key) G (All-tail (HasExponents key) g G all))
      (All-sort_by_lead key (Apart key g) G (All-from_elements (Apart key g) G (λ x c. AllPairs-head (Apart key) g G apart x c)))
      (sort_by_lead-Rises G (All-tail (HasExponents key) g G all) (AllPairs-tail (Apart key) g G apart))

-- The numbers of a range rise.
pub range_rises : (n : ℕ) → AllPairs (λ i j. i < j) (range_with_len 0 n)
range_rises n i j d l k =
    let m = length-range_with_len 0 n in
    let a = get_or-range_with_len 0 n i d (omega (arith, l, k, m)) in
    let b = get_or-range_with_len 0 n j d (omega (arith, k, m)) in
    omega (arith, a, b, l)
