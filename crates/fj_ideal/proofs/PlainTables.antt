-- Sums and products of plain polynomials over a prime field, and products of tables of them.
use Rattle.std.proofs.Common.{◌≡◌, ◌≢◌, ℕ, Some, slice_get, suc, ◌+◌, ◌<◌, ◌≤◌, ◌^◌, true≢false, T, List, [], ◌∷◌, ◌++◌, length, map, take, drop, get_or, replicate, set, All, AllPairs, nat_cmp, sym, ap, ap₂, ◌∙◌, subst, arith, add-one}
use Rattle.std.specs.Cmp.Lexicographic.{slice_cmp}
use Rattle.std.specs.FinMap.{empty, entries, from_entries, is_sorted, entries_sorted}
use Rattle.std.proofs.Math.Seq.{drop-cons}
use Rattle.std.proofs.lemmas.List.{drop_all, get_or-map, length-map, map_push, map-set, take_more}
use Rattle.std.proofs.lemmas.Option.{slice_get_within, get_or_from_slice_get}
use Rattle.std.proofs.lemmas.List.Elements.{All-weaker}
use Rattle.std.proofs.lemmas.List.Kept.{AllPairs-cons}
use Rattle.fj_algebra.proofs.Lists.{All-map_back}
use Rattle.fj_coeff.specs.Field.{Field, IsField}
use Rattle.fj_coeff.specs.PrimeField.{prime_field}
use Rattle.fj_theory.specs.Exponents.{IsExponents, plus, total}
use Rattle.fj_theory.specs.Plain.{PlainPolynomial, IsPlain, HasRanksBelow, polynomial, rising_terms, plain_sum, plain_product}
use Rattle.fj_theory.specs.Polynomial.{Polynomial, IsPolynomial, product, sum, support}
use Rattle.fj_theory.proofs.Exponents.{total-plus}
use Rattle.fj_theory.proofs.FormalSum.{same, same_itself}
use Rattle.fj_theory.proofs.Plain.{AllWithin, within-from_entries, within-product, within-sum}
use Rattle.fj_theory.proofs.Polynomial.{IsPolynomial-sum}
use Rattle.fj_theory.proofs.Product.{All_above, T_left, T_right, below_not_same, entries_get, IsPolynomial-product}
use Rattle.fj_theory.proofs.Terms.{IsPolynomial-from_entries, from_entries-entries}
use Rattle.fj_groebner.specs.Rows.{add_multiple, add_multiples, product_of_rows}
use Rattle.fj_plain.specs.declared.term.PlainTerm.{PlainTerm}
use Rattle.fj_plain.specs.Terms as plain
use Rattle.fj_plain.proofs.Entries.{All-entries_back}
use Rattle.fj_basis.proofs.PrimeField.{product_is, sum_is}
use Rattle.fj_basis.proofs.Rows.{added, added-more, length-added}

-- The entries of a map differ in their exponents.
distinct-sorted : (es : List (List ℕ × ℕ)) → T (is_sorted (slice_cmp nat_cmp) es) → AllPairs (λ s t. s.0 ≢ t.0) es
distinct-sorted [] h = λ i j d l m. absurd (omega (arith, m))
distinct-sorted (e ∷ es) h =
    AllPairs-cons (λ s t. s.0 ≢ t.0) e es
    (λ k d l is. true≢false (sym (same_itself e.0) ∙ ap (same e.0) is ∙ below_not_same e.0 (get_or es k d).0 (All_above e.0 es (T_left _ _ h) k d l)))
    (distinct-sorted es (T_right _ _ h))

-- Totals of at most 2^41, as of plain polynomials.
abbrev AreBounded : Polynomial → Type 0
AreBounded h = AllWithin (λ a. total a ≤ 2 ^ 41) h

-- The terms of a polynomial whose totals are bounded are those of a plain polynomial.
IsPlain-rising_terms : {F : Field} (h : Polynomial) → IsPolynomial F h → AreBounded h → IsPlain (rising_terms h)
IsPlain-rising_terms h P low = record {
  exponents = λ k d l. P.exponents _ _ (entries_get h k d l);
  bounded = All-map_back (λ a. total a ≤ 2 ^ 41) (λ (t : List ℕ × ℕ). t.0) (entries h) low;
  nonzero = λ k d l. P.nonzero _ _ (entries_get h k d l);
  distinct = distinct-sorted (entries h) (entries_sorted h);
}

-- Eight exponents with a total of at most 2^40.
record HasLowTotal (a : List ℕ) : Type 0 where
  eight : IsExponents a
  low : total a ≤ 2 ^ 40

-- The polynomials of plain ones: their exponents are bounded, and so are those of sums, and of products of low ones.
bounded_plain : (f : PlainPolynomial) → AreBounded (polynomial f)
bounded_plain f = within-from_entries (λ a. total a ≤ 2 ^ 41) f.terms f.plain.bounded

low_plain : (f : PlainPolynomial) → All (λ t. total t.0 ≤ 2 ^ 40) f.terms → AllWithin HasLowTotal (polynomial f)
low_plain f low = within-from_entries HasLowTotal f.terms (λ k d l. record { eight = f.plain.exponents k d l; low = low k d l })

bounded_product : (F : Field) (f g : Polynomial) → AllWithin HasLowTotal f → AllWithin HasLowTotal g → AreBounded (product F f g)
bounded_product F f g A B =
    within-product (λ a. total a ≤ 2 ^ 41) F f g
    (All-weaker HasLowTotal (λ b. All (λ c. total (plus b c) ≤ 2 ^ 41) (support g))
    (λ b M. All-weaker HasLowTotal (λ c. total (plus b c) ≤ 2 ^ 41) (λ c N. let e = total-plus b c (M.eight.eight ∙ sym N.eight.eight) in let x = M.low in let y = N.low in omega arith) (support g) B)
    (support f) A)

module _ {F : Field} (L : IsField F) (e : F.size ≡ F.characteristic) (p : ℕ) (is : p ≡ F.characteristic) where
  IsPolynomial-plain : (f : PlainPolynomial) → HasRanksBelow F.size f → IsPolynomial F (polynomial f)
  IsPolynomial-plain f R = IsPolynomial-from_entries {F = F} f.terms (λ k d l. record { exponents = f.plain.exponents k d l; nonzero = f.plain.nonzero k d l; below = R.below k d l })

  -- A list with the terms of a polynomial is that of a plain polynomial with ranks below p.
  pub plain_terms : (h : Polynomial) → IsPolynomial F h → AreBounded h → (ts : List PlainTerm) → plain.entries ts ≡ rising_terms h → IsPlain (plain.entries ts) × All (λ t. t.rank < p) ts
  plain_terms h P low ts same = (
    subst IsPlain (sym same) (IsPlain-rising_terms {F = F} h P low),
    All-entries_back (λ t. t.1 < p) ts (subst (All (λ t. t.1 < p)) (sym same) (λ k d l. let small = P.below _ _ (entries_get h k d l) in omega (arith, small, e, is))),
  )

  pub polynomial_of_terms : (h : Polynomial) (f : PlainPolynomial) (ts : List PlainTerm) → f.terms ≡ plain.entries ts → plain.entries ts ≡ rising_terms h → polynomial f ≡ h
  polynomial_of_terms h f ts there same = ap from_entries (there ∙ same) ∙ from_entries-entries h

  -- The product of two of them.
  module _ (f y : PlainPolynomial) (R : HasRanksBelow F.size f) (S : HasRanksBelow F.size y) where
    pub product_terms : plain_product p f y ≡ rising_terms (product F (polynomial f) (polynomial y))
    product_terms = ap rising_terms (ap (λ n. product (prime_field n) (polynomial f) (polynomial y)) is ∙ sym (product_is L e (IsPolynomial-plain f R) (IsPolynomial-plain y S)))

    pub sum_terms : plain_sum p f y ≡ rising_terms (sum F (polynomial f) (polynomial y))
    sum_terms = ap rising_terms (ap (λ n. sum (prime_field n) (polynomial f) (polynomial y)) is ∙ sym (sum_is L e (IsPolynomial-plain f R) (IsPolynomial-plain y S)))

    pub plain_of_product : All (λ t. total t.0 ≤ 2 ^ 40) f.terms → All (λ t. total t.0 ≤ 2 ^ 40) y.terms → (ts : List PlainTerm) → plain.entries ts ≡ plain_product p f y
        → IsPlain (plain.entries ts) × All (λ t. t.rank < p) ts
    plain_of_product low lows ts there =
        plain_terms (product F (polynomial f) (polynomial y)) (IsPolynomial-product L (IsPolynomial-plain f R) (IsPolynomial-plain y S))
        (bounded_product F (polynomial f) (polynomial y) (low_plain f low) (low_plain y lows)) ts (there ∙ product_terms)

    pub plain_of_sum : (ts : List PlainTerm) → plain.entries ts ≡ plain_sum p f y → IsPlain (plain.entries ts) × All (λ t. t.rank < p) ts
    plain_of_sum ts there =
        plain_terms (sum F (polynomial f) (polynomial y)) (IsPolynomial-sum L (IsPolynomial-plain f R) (IsPolynomial-plain y S))
        (within-sum (λ a. total a ≤ 2 ^ 41) F (polynomial f) (polynomial y) (bounded_plain f) (bounded_plain y)) ts (there ∙ sum_terms)

    pub polynomial_of_product : (h : PlainPolynomial) (ts : List PlainTerm) → h.terms ≡ plain.entries ts → plain.entries ts ≡ plain_product p f y → polynomial h ≡ product F (polynomial f) (polynomial y)
    polynomial_of_product h ts there same = polynomial_of_terms _ h ts there (same ∙ product_terms)

    pub polynomial_of_sum : (h : PlainPolynomial) (ts : List PlainTerm) → h.terms ≡ plain.entries ts → plain.entries ts ≡ plain_sum p f y → polynomial h ≡ sum F (polynomial f) (polynomial y)
    polynomial_of_sum h ts there same = polynomial_of_terms _ h ts there (same ∙ sum_terms)

-- What holds of all holds of one that is got.
pub all_at : {X : Type 0} (P : X → Type 0) (xs : List X) (i : ℕ) (x : X) → slice_get xs i ≡ Some x → All P xs → P x
all_at P xs i x found all = subst P (get_or_from_slice_get xs i x x found) (all i x (slice_get_within xs i x found))

-- Its view is that of the list.
pub view_at : {X Y : Type 0} (f : X → Y) (xs : List X) (i : ℕ) (x : X) → slice_get xs i ≡ Some x → f x ≡ get_or (map f xs) i (f x)
view_at f xs i x found = sym (get_or-map f xs i x (f x) (slice_get_within xs i x found) ∙ ap f (get_or_from_slice_get xs i x x found))

-- Rows that are seen with a width have it.
pub lengths-views : (rows : List (List PlainPolynomial)) (table : List (List Polynomial)) → map (map polynomial) rows ≡ table → (n : ℕ) → All (λ row. length row ≡ n) table → (m : ℕ) → m ≡ n → All (λ row. length row ≡ m) rows
lengths-views rows table e n all m same k d l =
    sym (length-map (get_or rows k d) polynomial) ∙ All-map_back (λ row. length row ≡ n) (map polynomial) rows (subst (All (λ row. length row ≡ n)) (sym e) all) k d l ∙ sym same

-- One row more of a product of tables.
pub product_of_rows-more : (F : Field) (n : ℕ) (rows : List (List Polynomial)) (xs : List (List PlainPolynomial)) (i : ℕ) (x : List PlainPolynomial) (table new : List (List PlainPolynomial)) (y : List PlainPolynomial)
    → slice_get xs i ≡ Some x → map (map polynomial) table ≡ product_of_rows F n (map (map polynomial) (take i xs)) rows → map polynomial y ≡ add_multiples F (map polynomial x) rows (replicate n empty)
    → new ≡ table ++ y ∷ [] → map (map polynomial) new ≡ product_of_rows F n (map (map polynomial) (take (i + 1) xs)) rows
product_of_rows-more F n rows xs i x table new y found before is e =
    let front : take (i + 1) xs ≡ take i xs ++ x ∷ [] = take_more xs i x (slice_get_within xs i x found) ∙ ap (λ w. take i xs ++ w ∷ []) (get_or_from_slice_get xs i x x found) in
    ap (map (map polynomial)) e ∙ map_push (map polynomial) table y ∙ ap₂ (λ us u. us ++ u ∷ []) before is
    ∙ sym (ap (λ us. product_of_rows F n (map (map polynomial) us) rows) front ∙ ap (λ us. product_of_rows F n us rows) (map_push (map polynomial) (take i xs) x)
    ∙ map_push (λ fs. add_multiples F fs rows (replicate n empty)) (map (map polynomial) (take i xs)) (map polynomial x))

-- A row as long as the one before multiples were added to its first entries.
pub length-added_views : (F : Field) (f : Polynomial) (n : ℕ) (now old : List PlainPolynomial) (ys : List Polynomial) → map polynomial now ≡ added F f n (map polynomial old) ys → length now ≡ length old
length-added_views F f n now old ys is = sym (length-map now polynomial) ∙ ap length is ∙ length-added F f n (map polynomial old) ys ∙ length-map old polynomial

-- One entry more.
pub added_views-more : (F : Field) (f : Polynomial) (n : ℕ) (old other now : List PlainPolynomial) (x y value : PlainPolynomial) → n < length old → length other ≡ length old
    → map polynomial now ≡ added F f n (map polynomial old) (map polynomial other) → slice_get other n ≡ Some y
    → polynomial value ≡ sum F (polynomial (get_or now n x)) (product F f (polynomial y)) → map polynomial (set now n value) ≡ added F f (n + 1) (map polynomial old) (map polynomial other)
added_views-more F f n old other now x y value l long is found sums =
    let within = length-added_views F f n now old (map polynomial other) is in
    let here = get_or-map polynomial now n x (polynomial x) (omega (arith, l, within)) in
    let a = length-map old polynomial in
    let b = length-map other polynomial in
    added-more F f n (map polynomial old) (map polynomial other) (map polynomial now) (map polynomial (set now n value)) (polynomial x) (polynomial y) (polynomial value)
    (omega (arith, l, a)) (omega (arith, long, a, b)) is (sums ∙ ap₂ (λ g h. sum F g (product F f h)) (sym here) (view_at polynomial other n y found)) (map-set polynomial now n value)

-- The multiples from place k on, one of them added.
pub add_multiples-step : (F : Field) (fs : List Polynomial) (rows : List (List Polynomial)) (first : List Polynomial) (k : ℕ) (f : Polynomial) (row : List Polynomial) → k < length fs → k < length rows
    → f ≡ get_or fs k f → row ≡ get_or rows k row → add_multiples F (drop k fs) (drop k rows) first ≡ add_multiples F (drop (k + 1) fs) (drop (k + 1) rows) (add_multiple F f first row)
unfolding add_multiples
add_multiples-step F fs rows first k f row l m here there =
    ap₂ (λ gs ts. add_multiples F gs ts first) (drop-cons fs k f l) (drop-cons rows k row m)
    ∙ ap₂ (λ g t. add_multiples F (drop (suc k) fs) (drop (suc k) rows) (add_multiple F g first t)) (sym here) (sym there)
    ∙ ap (λ n. add_multiples F (drop n fs) (drop n rows) (add_multiple F f first row)) (sym (add-one k))

pub add_multiples-end : (F : Field) (fs : List Polynomial) (rows : List (List Polynomial)) (first : List Polynomial) (k : ℕ) → length fs ≤ k → add_multiples F (drop k fs) (drop k rows) first ≡ first
unfolding add_multiples
add_multiples-end F fs rows first k past = ap (λ gs. add_multiples F gs (drop k rows) first) (drop_all k fs past)
