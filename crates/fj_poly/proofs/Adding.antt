-- A term added to a falling list of terms: put in, changed, or taken out.
use Rattle.std.proofs.Common.{◌≡◌, ℕ, zero, suc, ◌+◌, ◌<◌, ◌≤◌, List, [], ◌∷◌, ◌++◌, length, take, drop, get_or, set, map, All, Option, Result, Ok, Err, Some, min, ◌-◌, slice_get, sym, ap, ap₂, ◌∙◌, subst, arith}
use Rattle.std.specs.List.{insert, remove}
use Rattle.std.specs.List.Sorted.{IsBinarySearchResult, IsSearchInRange}
use Rattle.std.specs.Option.{option_map}
use Rattle.std.specs.Ordering.{ordering_index}
use Rattle.std.specs.declared.cmp.Ordering.TheVariants.{Less, Equal, Greater}
use Rattle.std.proofs.lemmas.List.{length-map, length-take, length-drop, get_or-map, get_or-take, get_or-drop, take-append-drop, take-map, drop-map, drop_more, map-append, map-set, take-set, drop-set}
use Rattle.std.proofs.lemmas.Option.{same_Some, slice_get-get_or}
use Rattle.std.proofs.lemmas.List.Elements.{All-head}
use Rattle.fj_coeff.specs.Field.{Field, IsField}
use Rattle.fj_theory.specs.Exponents.{IsExponents}
use Rattle.fj_theory.specs.MonomialOrder.{IsMonomialOrder, compare_by}
use Rattle.fj_theory.specs.Polynomial.{Polynomial, IsPolynomial, IsFalling, sum, term}
use Rattle.fj_theory.proofs.MonomialOrder.{compare_by_exact}
use Rattle.fj_theory.proofs.Polynomial.{IsPolynomial-term}
use Rattle.fj_theory.proofs.PolynomialRing.{sum_comm, sum_assoc, sum_empty}
use Rattle.fj_poly.specs.Place.{IsPlace}
use Rattle.fj_poly.specs.declared.poly.Term.{Term}
use Rattle.fj_poly.specs.Terms.{AreTerms, entry, entries}
use Rattle.fj_poly.proofs.Falling.{above_from_below, falling-back, falling-exponents, falling-tail, falling-without, terms-append, terms-back, terms-front}
use Rattle.fj_poly.proofs.Polynomials.{each_term, polynomial_of, polynomial_of-term, IsPolynomial-polynomial_of, sum-append, sum-first, sum-terms, term-zero}
use Rattle.fj_poly.proofs.View.{places_rise}

-- A term between those above it and those below it.
falling-between : (key : List ℕ → List ℕ) (front : List (List ℕ × ℕ)) (s : List ℕ × ℕ) (back : List (List ℕ × ℕ)) → IsFalling key (front ++ back)
    → All (λ t. compare_by key t.0 s.0 ≡ Greater) front → All (λ t. compare_by key s.0 t.0 ≡ Greater) back → IsFalling key (front ++ s ∷ back)
falling-between key [] s [] h above below = tt
falling-between key [] s (b ∷ back) h above below = (All-head (λ t. compare_by key s.0 t.0 ≡ Greater) b back below, h)
falling-between key (r ∷ []) s back h above below = (All-head (λ t. compare_by key t.0 s.0 ≡ Greater) r [] above, falling-between key [] s back (falling-tail key r back h) (λ k d l. absurd (omega arith)) below)
falling-between key (r ∷ t ∷ front) s back h above below = (h.0, falling-between key (t ∷ front) s back h.1 (λ k d l. above (suc k) d (omega arith)) below)

-- What a list is once a term was added to its polynomial.
pub record Added (F : Field) (key : List ℕ → List ℕ) (f : Polynomial) (m : List ℕ) (c : ℕ) (ts : List (List ℕ × ℕ)) : Type 0 where
  pub falls : IsFalling key ts
  pub terms : AreTerms F ts
  pub value : polynomial_of ts ≡ sum F f (term c m)

module _ {F : Field} (L : IsField F) (key : List ℕ → List ℕ) where
  -- The terms of a list apart from one, and that one.
  without : (front : List (List ℕ × ℕ)) (s : List ℕ × ℕ) (back : List (List ℕ × ℕ)) → IsFalling key (front ++ s ∷ back) → AreTerms F (front ++ s ∷ back)
      → polynomial_of (front ++ s ∷ back) ≡ sum F (polynomial_of (front ++ back)) (term s.1 s.0)
  without front s back falls terms =
      let own = terms-back F front (s ∷ back) terms in
      let all = terms-append F front back (terms-front F front (s ∷ back) terms) own.1 in
      let A : IsPolynomial F (polynomial_of front) = IsPolynomial-polynomial_of front (terms-front F front (s ∷ back) terms) in
      let B : IsPolynomial F (polynomial_of back) = IsPolynomial-polynomial_of back own.1 in
      let T : IsPolynomial F (term s.1 s.0) = IsPolynomial-term s.1 own.0.2 (record { eight = own.0.0 }) in
      sum-append L key front (s ∷ back) falls terms
      ∙ ap (sum F (polynomial_of front)) (sum-first L key s back (falling-back key front (s ∷ back) falls) own ∙ ap (λ p. sum F p (polynomial_of back)) (polynomial_of-term L s.0 s.1 own.0.1) ∙ sum_comm L T B)
      ∙ sym (sum_assoc L A B T)
      ∙ ap (λ p. sum F p (term s.1 s.0)) (sym (sum-append L key front back (falling-without key front s back falls) all))

  module _ (front back : List (List ℕ × ℕ)) where
    -- A new term.
    put_between : (s : List ℕ × ℕ) → IsFalling key (front ++ back) → AreTerms F (front ++ back) → All (λ t. compare_by key t.0 s.0 ≡ Greater) front
        → All (λ t. compare_by key s.0 t.0 ≡ Greater) back → length s.0 ≡ 8 → 0 < s.1 → s.1 < F.size → Added F key (polynomial_of (front ++ back)) s.0 s.1 (front ++ s ∷ back)
    put_between s falls terms above below eight positive small =
        let between = falling-between key front s back falls above below in
        let all = terms-append F front (s ∷ back) (terms-front F front back terms) ((eight, positive, small), terms-back F front back terms) in
        record { falls = between; terms = all; value = without front s back between all }

    module _ (s : List ℕ × ℕ) (c : ℕ) (small : c < F.size) (falls : IsFalling key (front ++ s ∷ back)) (terms : AreTerms F (front ++ s ∷ back)) where
      own : AreTerms F (s ∷ back)
      own = terms-back F front (s ∷ back) terms

      others : AreTerms F (front ++ back)
      others = terms-append F front back (terms-front F front (s ∷ back) terms) own.1

      at : IsExponents s.0
      at = record { eight = own.0.0 }

      both : sum F (polynomial_of (front ++ back)) (term (F.add s.1 c) s.0) ≡ sum F (polynomial_of (front ++ s ∷ back)) (term c s.0)
      both =
          ap (sum F (polynomial_of (front ++ back))) (sym (sum-terms L s.0 s.1 c at own.0.2 small))
          ∙ sym (sum_assoc L (IsPolynomial-polynomial_of (front ++ back) others) (IsPolynomial-term s.1 own.0.2 at) (IsPolynomial-term c small at))
          ∙ ap (λ p. sum F p (term c s.0)) (sym (without front s back falls terms))

      -- A term with another coefficient.
      changed_between : 0 < F.add s.1 c → Added F key (polynomial_of (front ++ s ∷ back)) s.0 c (front ++ (s.0, F.add s.1 c) ∷ back)
      changed_between positive =
          let after = falling-exponents key front s.0 s.1 (F.add s.1 c) back falls in
          let all = terms-append F front ((s.0, F.add s.1 c) ∷ back) (terms-front F front (s ∷ back) terms) ((own.0.0, positive, L.add_below s.1 c own.0.2 small), own.1) in
          record { falls = after; terms = all; value = without front (s.0, F.add s.1 c) back after all ∙ both }

      -- A term that cancels.
      cancelled_between : F.add s.1 c ≡ 0 → Added F key (polynomial_of (front ++ s ∷ back)) s.0 c (front ++ back)
      cancelled_between none = record {
        falls = falling-without key front s back falls;
        terms = others;
        value = sym (ap (sum F (polynomial_of (front ++ back))) (ap (λ k. term k s.0) none ∙ term-zero s.0) ∙ sum_empty L (IsPolynomial-polynomial_of (front ++ back) others)) ∙ both;
      }

  module _ (ts : List (List ℕ × ℕ)) (falls : IsFalling key ts) (terms : AreTerms F ts) (i : ℕ) where
    -- The same at a place of a list.
    pub put_in : (s : List ℕ × ℕ) → All (λ t. compare_by key t.0 s.0 ≡ Greater) (take i ts) → All (λ t. compare_by key s.0 t.0 ≡ Greater) (drop i ts) → length s.0 ≡ 8 → 0 < s.1
        → s.1 < F.size → Added F key (polynomial_of ts) s.0 s.1 (insert ts i s)
    put_in s above below eight positive small =
        let whole = take-append-drop i ts in
        subst (λ us. Added F key (polynomial_of us) s.0 s.1 (insert ts i s)) whole
        (put_between (take i ts) (drop i ts) s (subst (IsFalling key) (sym whole) falls) (subst (AreTerms F) (sym whole) terms) above below eight positive small)

    module _ (c : ℕ) (small : c < F.size) (l : i < length ts) (d : List ℕ × ℕ) where
      whole : take i ts ++ get_or ts i d ∷ drop (i + 1) ts ≡ ts
      whole = ap (λ us. take i ts ++ us) (sym (drop_more ts i d l)) ∙ take-append-drop i ts

      pub changed_at : 0 < F.add (get_or ts i d).1 c → Added F key (polynomial_of ts) (get_or ts i d).0 c (set ts i ((get_or ts i d).0, F.add (get_or ts i d).1 c))
      changed_at positive =
          let t : List ℕ × ℕ = ((get_or ts i d).0, F.add (get_or ts i d).1 c) in
          let after : take i ts ++ t ∷ drop (i + 1) ts ≡ set ts i t = ap₂ (λ a b. a ++ b) (sym (take-set ts i t)) (sym (drop-set ts i t l)) ∙ take-append-drop i (set ts i t) in
          subst (λ us. Added F key (polynomial_of us) (get_or ts i d).0 c (set ts i t)) whole
          (subst (Added F key (polynomial_of (take i ts ++ get_or ts i d ∷ drop (i + 1) ts)) (get_or ts i d).0 c) after
          (changed_between (take i ts) (drop (i + 1) ts) (get_or ts i d) c small (subst (IsFalling key) (sym whole) falls) (subst (AreTerms F) (sym whole) terms) positive))

      pub cancelled_at : F.add (get_or ts i d).1 c ≡ 0 → Added F key (polynomial_of ts) (get_or ts i d).0 c (remove ts i)
      cancelled_at none =
          let next : i + 1 ≡ suc i = omega arith in
          let after : take i ts ++ drop (i + 1) ts ≡ remove ts i = ap (λ n. take i ts ++ drop n ts) next in
          subst (λ us. Added F key (polynomial_of us) (get_or ts i d).0 c (remove ts i)) whole
          (subst (Added F key (polynomial_of (take i ts ++ get_or ts i d ∷ drop (i + 1) ts)) (get_or ts i d).0 c) after
          (cancelled_between (take i ts) (drop (i + 1) ts) (get_or ts i d) c small (subst (IsFalling key) (sym whole) falls) (subst (AreTerms F) (sym whole) terms) none))

-- A list with an element put in, and with one left out.
pub map-insert : {A B : Type 0} (f : A → B) (xs : List A) (i : ℕ) (x : A) → map f (insert xs i x) ≡ insert (map f xs) i (f x)
map-insert f xs i x = map-append f (take i xs) (x ∷ drop i xs) ∙ ap₂ (λ a b. a ++ f x ∷ b) (sym (take-map f i xs)) (sym (drop-map f i xs))

pub map-remove : {A B : Type 0} (f : A → B) (xs : List A) (i : ℕ) → map f (remove xs i) ≡ remove (map f xs) i
map-remove f xs i = map-append f (take i xs) (drop (suc i) xs) ∙ ap₂ (λ a b. a ++ b) (sym (take-map f i xs)) (sym (drop-map f (suc i) xs))

-- The exponents at a place.
abbrev pub exponents_at : List (List ℕ × ℕ) → ℕ → Option (List ℕ)
exponents_at ts i = option_map (λ t. t.0) (slice_get ts i)

pub place_within : (ts : List (List ℕ × ℕ)) (i : ℕ) (m : List ℕ) → exponents_at ts i ≡ Some m → i < length ts
place_within [] i m e = absurd cc
place_within (t ∷ ts) zero m e = omega arith
place_within (t ∷ ts) (suc i) m e = let rest = place_within ts i m e in omega (arith, rest)

-- A term among the terms of a list, whose coefficient is changed.
module _ {K : Type 0} {F : Field} (L : IsField F) (key : List ℕ → List ℕ) (rank : K → ℕ) (items : List (Term K)) (i : ℕ) (t : Term K) (l : i < length items) (is : t ≡ get_or items i t)
    (falls : IsFalling key (entries rank items)) (terms : AreTerms F (entries rank items)) where
  within : i < length (entries rank items)
  within = omega (arith, length-map items (entry rank), l)

  at_place : get_or (entries rank items) i (entry rank t) ≡ entry rank t
  at_place = get_or-map (entry rank) items i t (entry rank t) l ∙ ap (entry rank) (sym is)

  pub own_exponents : (m : List ℕ) → exponents_at (entries rank items) i ≡ Some m → t.monomial.exponents ≡ m
  own_exponents m e =
      let found : exponents_at (entries rank items) i ≡ Some t.monomial.exponents = ap (option_map (λ u. u.0)) (slice_get-get_or (entries rank items) i (entry rank t) within) ∙ ap (λ u. Some u.0) at_place in
      same_Some _ _ (sym found ∙ e)

  module _ (c d : K) (small : rank c < F.size) (total : rank d ≡ F.add (rank t.coefficient) (rank c)) where
    pub changed_items : 0 < rank d → Added F key (polynomial_of (entries rank items)) t.monomial.exponents (rank c) (entries rank (set items i (record { coefficient = d; monomial = t.monomial })))
    changed_items positive =
        let after : entries rank (set items i (record { coefficient = d; monomial = t.monomial })) ≡ set (entries rank items) i (t.monomial.exponents, F.add (rank t.coefficient) (rank c)) =
        map-set (entry rank) items i (record { coefficient = d; monomial = t.monomial }) ∙ ap (λ k. set (entries rank items) i (t.monomial.exponents, k)) total in
        subst (Added F key (polynomial_of (entries rank items)) t.monomial.exponents (rank c)) (sym after)
        (subst (λ u. Added F key (polynomial_of (entries rank items)) u.0 (rank c) (set (entries rank items) i (u.0, F.add u.1 (rank c)))) at_place
        (changed_at L key (entries rank items) falls terms i (rank c) small within (entry rank t) (subst (λ u. 0 < F.add u.1 (rank c)) (sym at_place) (subst (λ k. 0 < k) total positive))))

    pub cancelled_items : rank d ≡ 0 → Added F key (polynomial_of (entries rank items)) t.monomial.exponents (rank c) (entries rank (remove items i))
    cancelled_items none =
        subst (Added F key (polynomial_of (entries rank items)) t.monomial.exponents (rank c)) (sym (map-remove (entry rank) items i))
        (subst (λ u. Added F key (polynomial_of (entries rank items)) u.0 (rank c) (remove (entries rank items) i)) at_place
        (cancelled_at L key (entries rank items) falls terms i (rank c) small within (entry rank t) (ap (λ u. F.add u.1 (rank c)) at_place ∙ sym total ∙ none)))

-- What a search by halving finds in a falling list.
module _ {A : Type 0} {key : List ℕ → List ℕ} (O : IsMonomialOrder key) (F : Field) (f : A → List ℕ × ℕ) where
  module _ (x : A) (xs : List A) (falls : IsFalling key (map f (x ∷ xs))) (terms : AreTerms F (map f (x ∷ xs))) {m : List ℕ} (M : IsExponents m) where
    seen : (k : ℕ) (d : List ℕ × ℕ) → k < length (x ∷ xs) → get_or (map f (x ∷ xs)) k d ≡ f (get_or (x ∷ xs) k x)
    seen k d l = get_or-map f (x ∷ xs) k x d l

    as_long : length (map f (x ∷ xs)) ≡ length (x ∷ xs)
    as_long = length-map (x ∷ xs) f

    found : (i : ℕ) → i < length (x ∷ xs) → compare_by key m (f (get_or (x ∷ xs) i x)).0 ≡ Equal → exponents_at (map f (x ∷ xs)) i ≡ Some m
    found i l tied =
        let own : IsExponents (f (get_or (x ∷ xs) i x)).0 = subst (λ t. IsExponents t.0) (seen i (f x) l) (each_term {F = F} (map f (x ∷ xs)) terms i (f x) (omega (arith, as_long, l))).exponents in
        ap (option_map (λ t. t.0)) (slice_get-get_or (map f (x ∷ xs)) i (f x) (omega (arith, as_long, l))) ∙ ap (λ t. Some t.0) (seen i (f x) l)
        ∙ ap (λ a. Some a) (sym (compare_by_exact O M own tied))

    rising : (i j : ℕ) (d : A) → i ≤ j → j < length (x ∷ xs) → ordering_index (compare_by key m (f (get_or (x ∷ xs) i d)).0) ≤ ordering_index (compare_by key m (f (get_or (x ∷ xs) j d)).0)
    rising i j d le l =
        let first = ap (λ t. ordering_index (compare_by key m t.0)) (get_or-map f (x ∷ xs) i d (f d) (omega (arith, le, l))) in
        let second = ap (λ t. ordering_index (compare_by key m t.0)) (get_or-map f (x ∷ xs) j d (f d) l) in
        omega (arith, first, second, places_rise O F (map f (x ∷ xs)) falls terms M i j (f d) le (omega (arith, as_long, l)))

    module _ (i : ℕ) (l : i ≤ length (x ∷ xs)) where
      above : ((k : ℕ) (d : A) → 0 ≤ k → k < i → compare_by key m (f (get_or (x ∷ xs) k d)).0 ≡ Less) → All (λ t. compare_by key t.0 m ≡ Greater) (take i (map f (x ∷ xs)))
      above less k d h =
          let front = length-take i (map f (x ∷ xs)) in
          let low : k < i = omega (arith, front, h) in
          let inside : k < length (x ∷ xs) = omega (arith, low, l) in
          subst (λ t. compare_by key t.0 m ≡ Greater) (sym (get_or-take i (map f (x ∷ xs)) k d low ∙ seen k d inside)) (above_from_below key m _ (less k x (omega arith) low))

      below : ((k : ℕ) (d : A) → i ≤ k → k < length (x ∷ xs) → compare_by key m (f (get_or (x ∷ xs) k d)).0 ≡ Greater) → All (λ t. compare_by key m t.0 ≡ Greater) (drop i (map f (x ∷ xs)))
      below greater k d h =
          let back = length-drop i (map f (x ∷ xs)) in
          let inside : i + k < length (x ∷ xs) = omega (arith, back, h, as_long, l) in
          subst (λ t. compare_by key m t.0 ≡ Greater) (sym (get_or-drop i (map f (x ∷ xs)) k d ∙ seen (i + k) d inside)) (greater (i + k) x (omega arith) inside)

  pub IsPlace-searched : (xs : List A) → IsFalling key (map f xs) → AreTerms F (map f xs) → {m : List ℕ} → IsExponents m → (r : Result ℕ ℕ) → IsSearchInRange r (length xs)
      → IsBinarySearchResult (λ x. compare_by key m (f x).0) xs r → IsPlace key m (map f xs) r
  IsPlace-searched [] falls terms {m} M (Ok i) range h = absurd (omega arith)
  IsPlace-searched [] falls terms {m} M (Err i) range h = (range, λ k d l. absurd (nothing (length-take i []) l), λ k d l. absurd (nothing_left (length-drop i []) l))
    where
      nothing : {k n : ℕ} → n ≡ min i 0 → k < n → ⊥
      nothing e l = omega (arith, e, l)

      nothing_left : {k n : ℕ} → n ≡ 0 - i → k < n → ⊥
      nothing_left e l = omega (arith, e, l)
  IsPlace-searched (x ∷ xs) falls terms {m} M (Ok i) range h = found x xs falls terms M i range (h x)
  IsPlace-searched (x ∷ xs) falls terms {m} M (Err i) range h =
      let sides = h (rising x xs falls terms M) in
      (omega (arith, as_long x xs falls terms M, range), above x xs falls terms M i range sides.0, below x xs falls terms M i range sides.1)
