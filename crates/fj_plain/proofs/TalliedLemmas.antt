-- The polynomial that a map from exponents to ranks holds: its coefficients, and what one more term makes of it.
use Rattle.std.proofs.Common.{◌≡◌, ℕ, ◌+◌, ◌%◌, ◌<◌, Bool, true, false, cond, if◌then◌else◌, ◌&&◌, ◌==◌, nat_lt, is_lt, ◌≤◌, List, [], ◌∷◌, ◌++◌, map, get_or, All, Option, Some, None, unwrap_or, nat_cmp, Contains, refl, sym, ap, ap₂, ◌∙◌, subst, arith, T}
use Rattle.std.specs.List.{list_any, AllByRecursion}
use Rattle.std.specs.List.Sorted.{IsStrictlySortedBy}
use Rattle.std.specs.Map.{lookup, keys_of, values_of}
use Rattle.std.specs.BTreeMap.{BTreeMap, IsOrdered, is_at, values}
use Rattle.std.specs.Cmp.Lexicographic.{slice_cmp}
use Rattle.std.specs.FinMap.{get, insert, empty, entries, find, is_sorted, get-empty, get-insert, get-entries, from_sorted, entries-from_sorted, get-from_sorted, same_map}
use Rattle.std.specs.FinMap.Entries.{below_all}
use Rattle.std.specs.declared.cmp.Ordering.{Ordering}
use Rattle.std.specs.declared.cmp.Ordering.TheVariants.{Less}
use Rattle.std.specs.Cmp.{IsTotalOrder}
use Rattle.std.proofs.Math.Nat.{mod-eq_of_lt}
use Rattle.std.proofs.lemmas.Bool.{eqb-false, or_parts, ltb-true, ltb-false}
use Rattle.std.proofs.lemmas.Cmp.{nat_list_cmp_total, eq_by_cmp_equiv}
use Rattle.std.proofs.lemmas.Option.{none-some, same_Some, slice_get-get_or}
use Rattle.std.proofs.lemmas.List.Elements.{All-nil, All-cons, All-head, All-tail, All-map, All-weaker}
use Rattle.std.proofs.lemmas.Map.Keys.{sorted_head, sorted_tail}
use Rattle.std.proofs.lemmas.Map.Entries.{btree_map_get_place}
use Rattle.std.proofs.lemmas.Map.Lookups.{exact_bytes}
use Rattle.fj_coeff.specs.Field.{IsField, primes}
use Rattle.fj_coeff.specs.PrimeField.{prime_field}
use Rattle.fj_coeff.specs.PrimeFieldLaws.{IsField-prime_field}
use Rattle.fj_theory.specs.Polynomial.{Polynomial, IsPolynomial, coefficient, with_coefficients, support, sum, term}
use Rattle.fj_theory.proofs.Field.{zero_below}
use Rattle.fj_theory.proofs.FormalSum.{same, same_true}
use Rattle.fj_theory.proofs.Polynomial.{coefficient_below, coefficient-with_coefficients, coefficient-empty, get-coefficient, coefficient-term, coefficient-sum}
use Rattle.fj_theory.proofs.Terms.{find_none, find_All}
use Rattle.fj_theory.proofs.Product.{All_above, below_not_same}
use Rattle.fj_plain.specs.Tallied.{rank_at, rank_by, tallied, nonzero_entries}

-- No entry is zero.
pub record IsNonzero (f : Polynomial) : Type 0 where
  pub positive : (a : List ℕ) (c : ℕ) → get f a ≡ Some c → 0 < c

module _ (c : List ℕ → ℕ) where
  IsNonzero-with_coefficients : (L : List (List ℕ)) → IsNonzero (with_coefficients c L)
  unfolding with_coefficients
  IsNonzero-with_coefficients [] = record { positive = λ a d e. absurd (none-some d (sym (get-empty (slice_cmp nat_cmp) a) ∙ e)) }
  IsNonzero-with_coefficients (b ∷ L) = by (c b == 0) refl (IsNonzero-with_coefficients L)
    where
      found : (a : List ℕ) (d : ℕ) (t : Bool) → (c b == 0) ≡ false → IsNonzero (with_coefficients c L) → cond t (Some (c b)) (get (with_coefficients c L) a) ≡ Some d → 0 < d
      found a d true e rest s =
          let n = eqb-false (c b) 0 e in
          let v : c b ≡ d = same_Some (c b) d s in
          omega arith
      found a d false e rest s = rest.positive a d s

      by : (r : Bool) → (c b == 0) ≡ r → IsNonzero (with_coefficients c L) → IsNonzero (cond r (with_coefficients c L) (insert (with_coefficients c L) b (c b)))
      by true e rest = rest
      by false e rest = record { positive = λ a d s. found a d (same a b) e rest (sym (get-insert nat_list_cmp_total (with_coefficients c L) b (c b) a) ∙ s) }

-- Maps without zeros that have the same coefficients are equal.
module _ {f g : Polynomial} (P : IsNonzero f) (Q : IsNonzero g) (each : (a : List ℕ) → coefficient f a ≡ coefficient g a) where
  some_same : (a : List ℕ) (o r : Option ℕ) → get f a ≡ o → get g a ≡ r → unwrap_or o 0 ≡ unwrap_or r 0 → o ≡ r
  some_same a None None e d s = refl
  some_same a None (Some c) e d s = let h = Q.positive a c d in absurd (omega arith)
  some_same a (Some c) None e d s = let h = P.positive a c e in absurd (omega arith)
  some_same a (Some c) (Some b) e d s = ap Some s

  nonzero_equal : f ≡ g
  unfolding coefficient
  nonzero_equal = same_map nat_list_cmp_total exact_bytes f g (λ a. some_same a (get f a) (get g a) refl refl (each a))

-- The coefficients of what a map holds are its ranks.
lookup_outside : (a : List ℕ) (es : List (List ℕ × ℕ)) → list_any (same a) (map (λ e. e.0) es) ≡ false → lookup (is_at (slice_cmp nat_cmp a)) es ≡ None
lookup_outside a [] h = refl
lookup_outside a (e ∷ es) h =
    let parts = or_parts (same a e.0) _ h in
    ap (λ t. cond t (Some e.1) (lookup (is_at (slice_cmp nat_cmp a)) es)) parts.0 ∙ lookup_outside a es parts.1

pub coefficient-tallied : (ranks : List (List ℕ × ℕ)) (a : List ℕ) → coefficient (tallied ranks) a ≡ rank_at ranks a
coefficient-tallied ranks a = coefficient-with_coefficients (rank_at ranks) a (keys_of ranks) ∙ by (list_any (same a) (keys_of ranks)) refl
  where
    by : (t : Bool) → list_any (same a) (keys_of ranks) ≡ t → cond t (rank_at ranks a) 0 ≡ rank_at ranks a
    by true e = refl
    by false e = sym (ap (λ o. unwrap_or o 0) (lookup_outside a ranks e))

-- What a map holds where it has these ranks.
pub tallied-from_ranks : (ranks : List (List ℕ × ℕ)) {f : Polynomial} → IsNonzero f → ((a : List ℕ) → rank_at ranks a ≡ coefficient f a) → tallied ranks ≡ f
tallied-from_ranks ranks {f} P each = nonzero_equal (IsNonzero-with_coefficients (rank_at ranks) (keys_of ranks)) P (λ a. coefficient-tallied ranks a ∙ each a)

-- A term is added by adding its rank at its exponents.
pub tallied-add_rank : (p : ℕ) (old new : List (List ℕ × ℕ)) (exps : List ℕ) (rank : ℕ) → Contains primes p → IsPolynomial (prime_field p) (tallied old)
    → ((a : List ℕ) → rank_at new a ≡ (if same exps a then (rank_at old exps + rank) % p else rank_at old a))
    → tallied new ≡ sum (prime_field p) (tallied old) (term rank exps)
unfolding sum
tallied-add_rank p old new exps rank prime P added =
    tallied-from_ranks new (IsNonzero-with_coefficients _ (support (tallied old) ++ support (term rank exps)))
    (λ a. added a ∙ by a (same exps a) refl ∙ sym (coefficient-sum L (tallied old) (term rank exps) a ∙ ap₂ (λ x y. (x + y) % p) (coefficient-tallied old a) (coefficient-term rank exps a ∙ ap (λ t. cond t rank 0) ((eq_by_cmp_equiv nat_list_cmp_total).symm a exps))))
  where
    L : IsField (prime_field p)
    L = IsField-prime_field p prime

    by : (a : List ℕ) (t : Bool) → same exps a ≡ t → cond t ((rank_at old exps + rank) % p) (rank_at old a) ≡ (rank_at old a + cond t rank 0) % p
    by a true e = ap (λ b. (rank_at old b + rank) % p) (same_true exps a e)
    by a false e =
        let small : rank_at old a < p = subst (λ r. r < p) (coefficient-tallied old a) (coefficient_below P (zero_below L) a) in
        sym (ap (λ n. n % p) (omega arith) ∙ mod-eq_of_lt small)

-- The ranks are below p.
pub rank_at_below : (p : ℕ) (ranks : List (List ℕ × ℕ)) (a : List ℕ) → Contains primes p → IsPolynomial (prime_field p) (tallied ranks) → rank_at ranks a < p
rank_at_below p ranks a prime P = subst (λ r. r < p) (coefficient-tallied ranks a) (coefficient_below P (zero_below (IsField-prime_field p prime)) a)

-- Entries whose ranks are zero hold zero, and only they.
pub tallied-zeros : (ranks : List (List ℕ × ℕ)) → ((a : List ℕ) → rank_at ranks a ≡ 0) → tallied ranks ≡ empty
tallied-zeros ranks zero =
    tallied-from_ranks ranks (record { positive = λ a d e. absurd (none-some d (sym (get-empty (slice_cmp nat_cmp) a) ∙ e)) }) (λ a. zero a ∙ sym (coefficient-empty a))

pub zeros_from_tallied : (ranks : List (List ℕ × ℕ)) → tallied ranks ≡ empty → (a : List ℕ) → rank_at ranks a ≡ 0
zeros_from_tallied ranks none a = sym (coefficient-tallied ranks a) ∙ ap (λ f. coefficient f a) none ∙ coefficient-empty a

pub lookup_zero : {K : Type 0} (test : K → Bool) (es : List (K × ℕ)) → All (λ c. c ≡ 0) (values_of es) → unwrap_or (lookup test es) 0 ≡ 0
lookup_zero test [] all = refl
lookup_zero test (e ∷ es) all = by (test e.0) (lookup_zero test es (All-tail (λ c. c ≡ 0) e.1 (values_of es) all))
  where
    by : (t : Bool) → unwrap_or (lookup test es) 0 ≡ 0 → unwrap_or (cond t (Some e.1) (lookup test es)) 0 ≡ 0
    by true rest = All-head (λ c. c ≡ 0) e.1 (values_of es) all
    by false rest = rest

pub zeros_from_lookups : {K : Type 0} {cmp : K → K → Ordering} → IsTotalOrder cmp → (ranks : BTreeMap K ℕ) → IsOrdered cmp ranks → ((k : K) → rank_by cmp ranks k ≡ 0) → All (λ c. c ≡ 0) (values ranks)
zeros_from_lookups total ranks ordered zero =
    All-map (λ c. c ≡ 0) (λ e. e.1) ranks.entries
    (λ k d h.
    let e = get_or ranks.entries k d in
    sym (ap (λ o. unwrap_or o 0) (btree_map_get_place total ranks k e.0 e.1 ordered (slice_get-get_or ranks.entries k d h))) ∙ zero e.0)

-- What holds of the exponents that have a rank holds of the entries.
entry_rank : (ranks : BTreeMap (List ℕ) ℕ) → IsOrdered (slice_cmp nat_cmp) ranks → All (λ t. rank_at ranks.entries t.0 ≡ t.1) ranks.entries
entry_rank ranks ordered k d h =
    let e : List ℕ × ℕ = get_or ranks.entries k d in
    ap (λ o. unwrap_or o 0) (btree_map_get_place nat_list_cmp_total ranks k e.0 e.1 ordered (slice_get-get_or ranks.entries k d h))

pub entries_from_ranks : (P : List ℕ → Type 0) (ranks : BTreeMap (List ℕ) ℕ) → IsOrdered (slice_cmp nat_cmp) ranks → ((a : List ℕ) → 0 < rank_at ranks.entries a → P a) → All (λ t. 0 < t.1 → P t.0) ranks.entries
entries_from_ranks P ranks ordered each k d h positive =
    let e : List ℕ × ℕ = get_or ranks.entries k d in
    each e.0 (subst (λ c. 0 < c) (sym (entry_rank ranks ordered k d h)) positive)

-- Entries with the same ranks hold the same polynomial.
pub tallied_same : (es fs : List (List ℕ × ℕ)) → ((a : List ℕ) → rank_at es a ≡ rank_at fs a) → tallied es ≡ tallied fs
tallied_same es fs each = tallied-from_ranks es (IsNonzero-with_coefficients (rank_at fs) (keys_of fs)) (λ a. each a ∙ sym (coefficient-tallied fs a))

-- What holds of the exponents of the terms holds of those that have a rank.
pub ranks_from_terms : (P : List ℕ → Type 0) (ranks : List (List ℕ × ℕ)) → All (λ t. P t.0) (entries (tallied ranks)) → (a : List ℕ) → 0 < rank_at ranks a → P a
ranks_from_terms P ranks all a positive =
    let found = get-coefficient (tallied ranks) a (subst (λ c. 0 < c) (sym (coefficient-tallied ranks a)) positive) in
    find_All (λ t. P t.0) (entries (tallied ranks)) a (coefficient (tallied ranks) a) all (sym (get-entries (tallied ranks) a) ∙ found)

-- The entries that aren't zero are in order, and have the ranks of the map.
T_both : (a b : Bool) → T a → T b → T (a && b)
T_both true b p q = q
T_both false b p q = p

below_nonzero : (x : List ℕ) (es : List (List ℕ × ℕ)) → AllByRecursion (λ y. slice_cmp nat_cmp x y ≡ Less) (map (λ e. e.0) es) → T (below_all (slice_cmp nat_cmp) x (nonzero_entries es))
below_nonzero x [] all = tt
below_nonzero x (e ∷ es) all = by (nat_lt 0 e.1) (below_nonzero x es all.1)
  where
    by : (b : Bool) → T (below_all (slice_cmp nat_cmp) x (nonzero_entries es)) → T (below_all (slice_cmp nat_cmp) x (cond b (e ∷ nonzero_entries es) (nonzero_entries es)))
    by true rest = T_both _ _ (subst (λ r. T (is_lt r)) (sym all.0) tt) rest
    by false rest = rest

is_sorted-nonzero : (es : List (List ℕ × ℕ)) → IsStrictlySortedBy (slice_cmp nat_cmp) (map (λ e. e.0) es) → T (is_sorted (slice_cmp nat_cmp) (nonzero_entries es))
is_sorted-nonzero [] sorted = tt
is_sorted-nonzero (e ∷ es) sorted =
    by (nat_lt 0 e.1) (below_nonzero e.0 es (sorted_head (slice_cmp nat_cmp) e.0 (map (λ d. d.0) es) sorted)) (is_sorted-nonzero es (sorted_tail (slice_cmp nat_cmp) e.0 (map (λ d. d.0) es) sorted))
  where
    by : (b : Bool) → T (below_all (slice_cmp nat_cmp) e.0 (nonzero_entries es)) → T (is_sorted (slice_cmp nat_cmp) (nonzero_entries es)) → T (is_sorted (slice_cmp nat_cmp) (cond b (e ∷ nonzero_entries es) (nonzero_entries es)))
    by true below rest = T_both _ _ below rest
    by false below rest = rest

find_nonzero : (a : List ℕ) (es : List (List ℕ × ℕ)) → IsStrictlySortedBy (slice_cmp nat_cmp) (map (λ e. e.0) es) → unwrap_or (find (slice_cmp nat_cmp) a (nonzero_entries es)) 0 ≡ unwrap_or (lookup (is_at (slice_cmp nat_cmp a)) es) 0
find_nonzero a [] sorted = refl
find_nonzero a (e ∷ es) sorted =
    by (nat_lt 0 e.1) (same a e.0) refl refl (find_nonzero a es (sorted_tail (slice_cmp nat_cmp) e.0 (map (λ d. d.0) es) sorted))
  where
    none : same a e.0 ≡ true → find (slice_cmp nat_cmp) a (nonzero_entries es) ≡ None
    none here =
        find_none a (nonzero_entries es) (subst (λ b. All (λ u. same b u.0 ≡ false) (nonzero_entries es)) (sym (same_true a e.0 here))
        (All-weaker (λ u. slice_cmp nat_cmp e.0 u.0 ≡ Less) (λ u. same e.0 u.0 ≡ false) (λ u l. below_not_same e.0 u.0 l) (nonzero_entries es)
        (All_above e.0 (nonzero_entries es) (below_nonzero e.0 es (sorted_head (slice_cmp nat_cmp) e.0 (map (λ d. d.0) es) sorted)))))

    by : (b t : Bool) → nat_lt 0 e.1 ≡ b → same a e.0 ≡ t → unwrap_or (find (slice_cmp nat_cmp) a (nonzero_entries es)) 0 ≡ unwrap_or (lookup (is_at (slice_cmp nat_cmp a)) es) 0
        → unwrap_or (find (slice_cmp nat_cmp) a (cond b (e ∷ nonzero_entries es) (nonzero_entries es))) 0 ≡ unwrap_or (cond t (Some e.1) (lookup (is_at (slice_cmp nat_cmp a)) es)) 0
    by true true h here rest = ap (λ t. unwrap_or (cond t (Some e.1) (find (slice_cmp nat_cmp) a (nonzero_entries es))) 0) here
    by true false h here rest = ap (λ t. unwrap_or (cond t (Some e.1) (find (slice_cmp nat_cmp) a (nonzero_entries es))) 0) here ∙ rest
    by false true h here rest =
        let zero : e.1 ≤ 0 = ltb-false 0 e.1 h in
        ap (λ o. unwrap_or o 0) (none here) ∙ omega arith
    by false false h here rest = rest

nonzero_positive : (es : List (List ℕ × ℕ)) → All (λ t. 0 < t.1) (nonzero_entries es)
nonzero_positive [] = All-nil (λ t. 0 < t.1)
nonzero_positive (e ∷ es) = by (nat_lt 0 e.1) refl (nonzero_positive es)
  where
    by : (b : Bool) → nat_lt 0 e.1 ≡ b → All (λ t. 0 < t.1) (nonzero_entries es) → All (λ t. 0 < t.1) (cond b (e ∷ nonzero_entries es) (nonzero_entries es))
    by true h rest = All-cons (λ t. 0 < t.1) e (nonzero_entries es) (ltb-true 0 e.1 h) rest
    by false h rest = rest

-- The terms of what a map holds are its entries that aren't zero.
pub rising_terms-tallied : (ranks : BTreeMap (List ℕ) ℕ) → IsOrdered (slice_cmp nat_cmp) ranks → entries (tallied ranks.entries) ≡ nonzero_entries ranks.entries
unfolding coefficient
rising_terms-tallied ranks ordered =
    let es : List (List ℕ × ℕ) = nonzero_entries ranks.entries in
    let sorted : T (is_sorted (slice_cmp nat_cmp) es) = is_sorted-nonzero ranks.entries ordered in
    let made : Polynomial = from_sorted es in
    let found : (a : List ℕ) → get made a ≡ find (slice_cmp nat_cmp) a es = λ a. get-from_sorted (slice_cmp nat_cmp) es a sorted in
    let P : IsNonzero made = record { positive = λ a c e. find_All (λ t. 0 < t.1) es a c (nonzero_positive ranks.entries) (sym (found a) ∙ e) } in
    ap entries (tallied-from_ranks ranks.entries P (λ a. sym (ap (λ o. unwrap_or o 0) (found a) ∙ find_nonzero a ranks.entries ordered))) ∙ entries-from_sorted (slice_cmp nat_cmp) es sorted
