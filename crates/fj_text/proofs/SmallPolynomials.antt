-- Polynomials that are small enough to be read, and how they are formed.
use Rattle.std.proofs.Common.{◌≡◌, ℕ, zero, suc, ◌+◌, ◌*◌, ◌<◌, ◌≤◌, Bool, true, false, cond, ltb, List, [], ◌∷◌, ◌++◌, length, All, Option, Some, None, unwrap_or, nat_cmp, refl, sym, ap, ◌∙◌, arith, inl, inr}
use Rattle.std.specs.Cmp.Lexicographic.{slice_cmp}
use Rattle.std.specs.FinMap.{find, from_entries, get-from_entries, contains_key, len, len-empty, len-insert}
use Rattle.std.specs.Option.{option_and_then}
use Rattle.std.proofs.lemmas.Bool.{cases_Bool, le-ltb, true≢false}
use Rattle.std.proofs.lemmas.Cmp.{nat_list_cmp_total}
use Rattle.std.proofs.lemmas.List.Elements.{All-nil, All-cons, All-head, All-tail, All-append}
use Rattle.fj_coeff.specs.Field.{Field, IsField}
use Rattle.fj_theory.specs.Exponents.{IsExponents, plus, times, total}
use Rattle.fj_theory.specs.Polynomial.{Polynomial, IsPolynomial, IsTerm, coefficient, degree, product, sum, term}
use Rattle.fj_theory.proofs.Degree.{degree_attained}
use Rattle.fj_theory.proofs.Exponents.{IsExponents-plus, IsExponents-times, plus_comm, times_one, times_suc, total-times}
use Rattle.fj_theory.proofs.Field.{one_below, zero_below}
use Rattle.fj_theory.proofs.FormalSum.{same, same_true, same_false, same_itself}
use Rattle.fj_theory.proofs.Monomial.{from_entries-cons, product_terms}
use Rattle.fj_theory.proofs.Polynomial.{IsPolynomial-sum, IsPolynomial-term, coefficient-empty, coefficient-sum, coefficient-term, coefficient_below, get-coefficient, polynomial_equal}
use Rattle.fj_theory.proofs.PolynomialRing.{sum_empty}
use Rattle.fj_theory.proofs.Terms.{Apart, IsPolynomial-from_entries, coefficient-from_entries, coefficient-from_entries_push, find_All, find_none}
use Rattle.fj_text.specs.Expression.{is_large, within, power_within}

len_below : (ts : List (List ℕ × ℕ)) → len (from_entries {R = slice_cmp nat_cmp} ts) ≤ length ts
len_below [] = let none = len-empty (slice_cmp nat_cmp) ℕ in omega arith
len_below (t ∷ ts) =
    let before = len_below ts in
    let one = len-insert nat_list_cmp_total (from_entries ts) t.0 t.1 in
    elim (cases_Bool (contains_key (from_entries ts) t.0)) [
      | inl known ↦ let e = one ∙ ap (λ b. cond b (len (from_entries {R = slice_cmp nat_cmp} ts)) (len (from_entries {R = slice_cmp nat_cmp} ts) + 1)) known in omega arith
      | inr new ↦ let e = one ∙ ap (λ b. cond b (len (from_entries {R = slice_cmp nat_cmp} ts)) (len (from_entries {R = slice_cmp nat_cmp} ts) + 1)) new in omega arith
    ]

-- Terms of which no total is above 1,000.
abbrev pub AreLow : List (List ℕ × ℕ) → Type 0
AreLow ts = All (λ t. total t.0 ≤ 1000) ts

pub within_small : (f : Polynomial) → is_large f ≡ false → within f ≡ Some f
within_small f small = rw small refl

module _ {F : Field} (L : IsField F) where
  degree_low : (ts : List (List ℕ × ℕ)) → All (IsTerm F) ts → AreLow ts → (o : Option ℕ) → degree (from_entries ts) ≡ o → unwrap_or o 0 ≤ 1000
  degree_low ts all low None e = omega arith
  degree_low ts all low (Some n) e =
      let top = degree_attained L (IsPolynomial-from_entries ts all) e in
      let found : find (slice_cmp nat_cmp) top.0 ts ≡ Some (coefficient (from_entries ts) top.0) = sym (get-from_entries nat_list_cmp_total ts top.0) ∙ get-coefficient (from_entries ts) top.0 top.2 in
      let h : total top.0 ≤ 1000 = find_All (λ t. total t.0 ≤ 1000) ts top.0 _ low found in
      omega (arith, h, top.3)

  -- A polynomial with at most 1,000 terms, none of degree above 1,000.
  pub not_large : (ts : List (List ℕ × ℕ)) → All (IsTerm F) ts → length ts ≤ 1000 → AreLow ts → is_large (from_entries ts) ≡ false
  unfolding is_large
  not_large ts all few low =
      let terms : ltb 1000 (len (from_entries {R = slice_cmp nat_cmp} ts)) ≡ false = le-ltb _ _ (omega (arith, len_below ts)) in
      let degrees : ltb 1000 (unwrap_or (degree (from_entries ts)) 0) ≡ false = le-ltb _ _ (degree_low ts all low (degree (from_entries ts)) refl) in
      rw (terms, degrees) refl

  -- One term.
  pub single : (t : List ℕ × ℕ) → IsTerm F t → from_entries (t ∷ []) ≡ term t.1 t.0
  single t T = from_entries-cons L t [] T (All-nil (IsTerm F)) (coefficient-empty t.0) ∙ sum_empty L (IsPolynomial-term t.1 T.below T.exponents)

  pub term_within : (c : ℕ) (a : List ℕ) → 0 < c → c < F.size → IsExponents a → total a ≤ 1000 → within (term c a) ≡ Some (term c a)
  term_within c a nonzero below A low =
      let T : IsTerm F (a, c) = record { exponents = A; nonzero = nonzero; below = below } in
      within_small (term c a)
      (ap is_large (sym (single (a, c) T)) ∙ not_large ((a, c) ∷ []) (All-cons (IsTerm F) (a, c) [] T (All-nil (IsTerm F))) (omega arith) (All-cons (λ t. total t.0 ≤ 1000) (a, c) [] low (All-nil (λ t. total t.0 ≤ 1000))))

  -- A term times a monomial.
  pub product_within : (c : ℕ) (a b : List ℕ) → 0 < c → c < F.size → IsExponents a → IsExponents b → IsExponents (plus a b) → total (plus a b) ≤ 1000
      → within (product F (term c a) (term 1 b)) ≡ Some (term c (plus a b))
  product_within c a b nonzero below A B C low =
      ap within (product_terms L c 1 below (one_below L) A B ∙ ap (λ d. term d (plus a b)) (L.mul_one c below)) ∙ term_within c (plus a b) nonzero below C low

  -- A power of a monomial.
  pub power_within_small : (k : ℕ) (v : List ℕ) → IsExponents v → suc k * total v ≤ 1000 → power_within F (term 1 v) (suc k) ≡ Some (term 1 (times (suc k) v))
  unfolding power_within
  power_within_small zero v V low = ap (λ w. Some (term 1 w)) (sym (times_one v))
  power_within_small (suc k) v V low =
      let less : suc k * total v ≤ 1000 = omega arith in
      let next : plus (times (suc k) v) v ≡ times (suc (suc k)) v = plus_comm (times (suc k) v) v ∙ sym (times_suc (suc k) v) in
      let small : total (plus (times (suc k) v) v) ≤ 1000 = omega (arith, ap total next ∙ total-times (suc (suc k)) v) in
      ap (option_and_then (λ g. within (product F g (term 1 v)))) (power_within_small k v V less)
      ∙ product_within 1 (times (suc k) v) v (omega arith) (one_below L) (IsExponents-times (suc k) V) V (IsExponents-plus (IsExponents-times (suc k) V) V) small
      ∙ ap (λ w. Some (term 1 w)) next

  -- One more term, of other exponents.
  pub sum_push : (ts : List (List ℕ × ℕ)) (t : List ℕ × ℕ) → All (IsTerm F) ts → IsTerm F t → All (λ u. same t.0 u.0 ≡ false) ts
      → sum F (from_entries ts) (term t.1 t.0) ≡ from_entries (ts ++ t ∷ [])
  sum_push ts t all T fresh =
      let P = IsPolynomial-from_entries ts all in
      let whole = All-append (IsTerm F) ts (t ∷ []) all (All-cons (IsTerm F) t [] T (All-nil (IsTerm F))) in
      let none = find_none t.0 ts fresh in
      polynomial_equal (IsPolynomial-sum L P (IsPolynomial-term t.1 T.below T.exponents)) (IsPolynomial-from_entries (ts ++ t ∷ []) whole)
      (λ a A. coefficient-sum L (from_entries ts) (term t.1 t.0) a ∙ ap (F.add (coefficient (from_entries ts) a)) (coefficient-term t.1 t.0 a) ∙ by P none a (same a t.0) refl
      ∙ sym (coefficient-from_entries_push ts t a none))
    where
      by : IsPolynomial F (from_entries ts) → find (slice_cmp nat_cmp) t.0 ts ≡ None → (a : List ℕ) (s : Bool) → same a t.0 ≡ s
          → F.add (coefficient (from_entries ts) a) (cond s t.1 0) ≡ cond s t.1 (coefficient (from_entries ts) a)
      by P none a true e =
          let zero_there : coefficient (from_entries ts) a ≡ 0 = ap (coefficient (from_entries ts)) (same_true a t.0 e) ∙ coefficient-from_entries ts t.0 ∙ ap (λ o. unwrap_or o 0) none in
          ap (λ c. F.add c t.1) zero_there ∙ L.add_comm 0 t.1 (zero_below L) T.below ∙ L.add_zero t.1 T.below
      by P none a false e = L.add_zero _ (coefficient_below P (zero_below L) a)

-- In a list of terms apart from each other, a term is apart from those before it.
pub at_seam : {X : Type 0} (P : X → Type 0) (xs : List X) (y : X) (ys : List X) → All P (xs ++ y ∷ ys) → P y
at_seam P [] y ys all = All-head P y ys all
at_seam P (x ∷ xs) y ys all = at_seam P xs y ys (All-tail P x (xs ++ y ∷ ys) all)

pub same_back : (a b : List ℕ) → same a b ≡ false → same b a ≡ false
same_back a b h = same_false b a (λ e. true≢false (sym (ap (same a) e ∙ same_itself a) ∙ h))

pub fresh_behind : (xs : List (List ℕ × ℕ)) (t : List ℕ × ℕ) (ts : List (List ℕ × ℕ)) → Apart (xs ++ t ∷ ts) → All (λ u. same t.0 u.0 ≡ false) xs
fresh_behind [] t ts apart = All-nil _
fresh_behind (x ∷ xs) t ts apart =
    All-cons (λ u. same t.0 u.0 ≡ false) x xs (same_back x.0 t.0 (at_seam (λ u. same x.0 u.0 ≡ false) xs t ts apart.0)) (fresh_behind xs t ts apart.1)
