-- Lists of terms in no known order: their polynomial does not depend on the order, and sorted they fall.
use Rattle.std.proofs.Common.{◌≡◌, ◌≢◌, ℕ, suc, ◌+◌, ◌<◌, ◌≤◌, ◌^◌, Bool, true, false, cond, List, [], ◌∷◌, length, get_or, map, All, AllPairs, Option, Some, None, Ordering, Less, Equal, Greater, nat_cmp, refl, sym, ap, ap₂, ◌∙◌, subst, arith}
use Rattle.std.specs.FinMap.{get-from_entries, find, same_map}
use Rattle.std.specs.List.Sorted.{IsPermutation, IsSortedBy}
use Rattle.std.specs.Ordering.{is_lt}
use Rattle.std.specs.Cmp.Lexicographic.{slice_cmp}
use Rattle.std.proofs.lemmas.Cmp.{nat_list_cmp_total}
use Rattle.std.proofs.lemmas.Option.{none-some}
use Rattle.std.proofs.lemmas.List.{length-map, get_or-map}
use Rattle.std.proofs.lemmas.Bool.{true≢false}
use Rattle.std.proofs.lemmas.List.Elements.{All-nil, All-cons, All-tail, All-map}
use Rattle.std.proofs.lemmas.List.Sorted.{IsPermutation-sym, IsPermutation-map, All-permutation}
use Rattle.std.proofs.lemmas.Map.Lookups.{exact_bytes}
use Rattle.std.proofs.lemmas.Map.Keys.{IsDistinct-IsPermutation, IsDistinct-from_apart, apart_from_distinct}
use Rattle.fj_coeff.specs.Field.{Field}
use Rattle.fj_theory.specs.Exponents.{IsExponents, total}
use Rattle.fj_theory.specs.MonomialOrder.{IsMonomialOrder, compare_by}
use Rattle.fj_theory.specs.Plain.{PlainPolynomial, IsPlain, HasRanksBelow, polynomial}
use Rattle.fj_theory.specs.Polynomial.{IsFalling, IsTerm}
use Rattle.fj_theory.proofs.MonomialOrder.{compare_by_exact}
use Rattle.fj_theory.proofs.FormalSum.{same, same_true, same_itself, same_false}
use Rattle.fj_theory.proofs.Terms.{find_All}
use Rattle.fj_poly.specs.declared.poly.Term.{Term}
use Rattle.fj_poly.specs.Terms.{AreTerms, entry, entries}
use Rattle.fj_poly.proofs.Polynomials.{polynomial_of, each_term}
use Rattle.fj_poly.proofs.Falling.{above_itself, falling-places}
use Rattle.fj_poly.proofs.Changed.{terms_from_each}

same_flips : (a b : List ℕ) → same a b ≡ same b a
same_flips a b = by (same a b) refl
  where
    by : (r : Bool) → same a b ≡ r → r ≡ same b a
    by true e = sym (same_itself a) ∙ ap (λ c. same c a) (same_true a b e)
    by false e = sym (same_false b a (λ h. true≢false (sym (ap (same a) h ∙ same_itself a) ∙ e)))

-- No two terms have the same exponents.
abbrev pub Differ : List (List ℕ × ℕ) → Type 0
Differ ts = AllPairs (λ s t. s.0 ≢ t.0) ts

-- Terms that differ do so in any order.
pub Differ-permutation : (ts us : List (List ℕ × ℕ)) → IsPermutation ts us → Differ ts → Differ us
Differ-permutation ts us moved differ i j d l m e =
    let both = IsDistinct-IsPermutation (λ s t. same s.0 t.0) (λ s t. same_flips s.0 t.0) ts us moved (IsDistinct-from_apart (λ s t. same s.0 t.0) ts (λ i j d l m. same_false _ _ (differ i j d l m))) in
    true≢false (sym (ap (same (get_or us i d).0) (sym e) ∙ same_itself (get_or us i d).0) ∙ apart_from_distinct (λ s t. same s.0 t.0) us i j d both l m)

look : List (List ℕ × ℕ) → List ℕ → Option ℕ
look ts a = find (slice_cmp nat_cmp) a ts

-- Each term is found.
found_own : (ts : List (List ℕ × ℕ)) → Differ ts → All (λ t. look ts t.0 ≡ Some t.1) ts
unfolding look
found_own [] differ = All-nil (λ t. look [] t.0 ≡ Some t.1)
found_own (t ∷ ts) differ =
    All-cons (λ u. look (t ∷ ts) u.0 ≡ Some u.1) t ts (ap (λ s. cond s (Some t.1) (look ts t.0)) (same_itself t.0))
    (λ k d l.
    ap (λ s. cond s (Some t.1) (look ts (get_or ts k d).0)) (same_false (get_or ts k d).0 t.0 (λ e. differ 0 (suc k) d (omega arith) (omega arith) (sym e)))
    ∙ found_own ts (λ i j d l m. differ (suc i) (suc j) d (omega arith) (omega arith)) k d l)

-- The polynomial of a list of terms that differ does not depend on their order.
pub polynomial_of-permutation : (ts us : List (List ℕ × ℕ)) → IsPermutation ts us → Differ ts → polynomial_of us ≡ polynomial_of ts
unfolding look
polynomial_of-permutation ts us moved differ =
    same_map nat_list_cmp_total exact_bytes _ _ (λ a. get-from_entries nat_list_cmp_total us a ∙ sym (by a (look ts a) refl (look us a) refl) ∙ sym (get-from_entries nat_list_cmp_total ts a))
  where
    there : All (λ t. look us t.0 ≡ Some t.1) ts
    there = All-permutation (λ t. look us t.0 ≡ Some t.1) us ts (IsPermutation-sym ts us moved) (found_own us (Differ-permutation ts us moved differ))

    back : All (λ t. look ts t.0 ≡ Some t.1) us
    back = All-permutation (λ t. look ts t.0 ≡ Some t.1) ts us moved (found_own ts differ)

    by : (a : List ℕ) (r : Option ℕ) → look ts a ≡ r → (s : Option ℕ) → look us a ≡ s → look ts a ≡ look us a
    by a (Some c) e s f = e ∙ sym (find_All (λ t. look us t.0 ≡ Some t.1) ts a c there e)
    by a None e (Some c) f = absurd (none-some c (sym e ∙ find_All (λ t. look ts t.0 ≡ Some t.1) us a c back f))
    by a None e None f = e ∙ sym f

not_less : (r : Ordering) → is_lt r ≡ false → r ≢ Equal → r ≡ Greater
not_less Less e apart = absurd (true≢false e)
not_less Equal e apart = absurd (apart refl)
not_less Greater e apart = refl

-- Sorted terms that differ fall.
pub falling_from_sorted : {key : List ℕ → List ℕ} (O : IsMonomialOrder key) (ts : List (List ℕ × ℕ)) → All (λ t. IsExponents t.0) ts → Differ ts
    → IsSortedBy (λ s t. is_lt (compare_by key t.0 s.0)) ts → IsFalling key ts
falling_from_sorted O [] exponents differ sorted = tt
falling_from_sorted O (t ∷ []) exponents differ sorted = tt
falling_from_sorted {key} O (t ∷ u ∷ ts) exponents differ sorted = (
  not_less (compare_by key t.0 u.0) (sorted 0 t (omega arith) (omega arith))
      (λ e. differ 0 1 t (omega arith) (omega arith) (compare_by_exact O (exponents 0 t (omega arith)) (exponents 1 t (omega arith)) e)),
  falling_from_sorted O (u ∷ ts) (All-tail (λ t. IsExponents t.0) t (u ∷ ts) exponents) (λ i j d l m. differ (suc i) (suc j) d (omega arith) (omega arith))
      (λ k d l m.
      let next : suc (k + 1) ≡ suc k + 1 = omega arith in
      ap (λ n. is_lt (compare_by key (get_or (u ∷ ts) k d).0 (get_or (t ∷ u ∷ ts) n d).0)) next ∙ sorted (suc k) d (omega arith) (omega arith)),
)

-- A list is sorted as its terms are.
sorted_terms : {A : Type 0} (key : List ℕ → List ℕ) (f : A → List ℕ × ℕ) (xs : List A) → IsSortedBy (λ x y. is_lt (compare_by key (f y).0 (f x).0)) xs
    → IsSortedBy (λ s t. is_lt (compare_by key t.0 s.0)) (map f xs)
sorted_terms key f [] sorted k d l m = absurd (omega arith)
sorted_terms {A} key f (x ∷ xs) sorted k d l m =
    let within : k + 1 < length (x ∷ xs) = omega (arith, length-map (x ∷ xs) f) in
    ap₂ (λ (s t : List ℕ × ℕ). is_lt (compare_by key s.0 t.0)) (get_or-map f (x ∷ xs) k x d (omega arith)) (get_or-map f (x ∷ xs) (k + 1) x d within) ∙ sorted k x l within

-- Terms of a plain polynomial in another order, falling in that of the key.
pub record Read (F : Field) (key : List ℕ → List ℕ) (f : PlainPolynomial) (us : List (List ℕ × ℕ)) : Type 0 where
  pub falls : IsFalling key us
  pub terms : AreTerms F us
  pub value : polynomial_of us ≡ polynomial f

pub read_back : {A : Type 0} {F : Field} {key : List ℕ → List ℕ} (O : IsMonomialOrder key) (f : PlainPolynomial) → HasRanksBelow F.size f → (g : A → List ℕ × ℕ) (xs ys : List A) → map g xs ≡ f.terms → IsPermutation xs ys
    → IsSortedBy (λ x y. is_lt (compare_by key (g y).0 (g x).0)) ys → Read F key f (map g ys)
read_back {A} {F} {key} O f ranks g xs ys own moved sorted =
    let us = map g ys in
    let shuffled : IsPermutation f.terms us = subst (λ ts. IsPermutation ts us) own (IsPermutation-map g xs ys moved) in
    let each : All (IsTerm F) us = All-permutation (IsTerm F) f.terms us shuffled (λ k d h. record { exponents = f.plain.exponents k d h; nonzero = f.plain.nonzero k d h; below = ranks.below k d h }) in
    record {
      falls = falling_from_sorted O us (λ k d h. (each k d h).exponents) (Differ-permutation f.terms us shuffled f.plain.distinct) (sorted_terms key g ys sorted);
      terms = terms_from_each us each;
      value = polynomial_of-permutation f.terms us shuffled f.plain.distinct;
    }

-- A falling list of terms with totals of at most 2^40 is that of a plain polynomial.
pub IsPlain-falling : (F : Field) (key : List ℕ → List ℕ) (ts : List (List ℕ × ℕ)) → IsFalling key ts → AreTerms F ts → All (λ t. total t.0 ≤ 2 ^ 40) ts → IsPlain ts
IsPlain-falling F key ts falls terms bounded =
    let each : All (IsTerm F) ts = each_term {F = F} ts terms in
    record {
      exponents = λ k d h. (each k d h).exponents;
      bounded = λ k d h. let low = bounded k d h in omega arith;
      nonzero = λ k d h. (each k d h).nonzero;
      distinct = λ i j d l m e. above_itself key _ _ e (falling-places key ts falls i j d l m);
    }

-- The totals of the terms of the code are at most 2^40.
pub bounded_entries : {K : Type 0} (rank : K → ℕ) (ts : List (Term K)) → All (λ t. total t.0 ≤ 2 ^ 40) (entries rank ts)
bounded_entries rank ts = All-map (λ t. total t.0 ≤ 2 ^ 40) (entry rank) ts (λ k d l. (get_or ts k d).monomial.bounded)
