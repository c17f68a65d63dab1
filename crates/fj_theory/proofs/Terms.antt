-- Polynomials as falling lists of terms.
use Rattle.std.proofs.Common.{◌≡◌, ℕ, suc, Bool, true, false, cond, if◌then◌else◌, List, [], ◌∷◌, length, get_or, All, Option, Some, None, unwrap_or, nat_cmp, is_gt, Ordering, Less, Equal, Greater, refl, sym, ap, ◌∙◌, subst, arith, T, ◌<◌, ◌++◌, ◌≢◌}
use Rattle.std.specs.Cmp.Lexicographic.{slice_cmp}
use Rattle.std.specs.Ordering.{ordering_reverse}
use Rattle.std.specs.FinMap.Entries.{find-append}
use Rattle.std.specs.FinMap.{empty, get, entries, entries_sorted, find, is_sorted, from_entries, get-entries, get-from_entries, len, len-entries, same_map}
use Rattle.std.proofs.lemmas.Bool.{true≢false}
use Rattle.std.proofs.lemmas.Cmp.{nat_list_cmp_total, tied_itself}
use Rattle.std.proofs.lemmas.Option.{none-some, same_Some}
use Rattle.std.proofs.lemmas.Map.Lookups.{exact_bytes}
use Rattle.std.proofs.lemmas.List.Elements.{All-nil, All-cons, All-head, All-tail, All-weaker}
use Rattle.fj_coeff.specs.Field.{Field}
use Rattle.fj_theory.specs.Exponents.{IsExponents}
use Rattle.fj_theory.specs.MonomialOrder.{compare_by, IsMonomialOrder}
use Rattle.fj_theory.specs.Polynomial.{Polynomial, IsPolynomial, IsTerm, coefficient, place, sort_falling, terms_falling, IsFalling}
use Rattle.fj_theory.proofs.Polynomial.{coefficient-empty}
use Rattle.fj_theory.proofs.MonomialOrder.{compare_by_total, compare_by_exact}
use Rattle.fj_theory.proofs.FormalSum.{same, same_true, same_itself, same_false}
use Rattle.fj_theory.proofs.Product.{T_left, T_right, All_above, below_not_same, entries_get}

abbrev pub Terms : Type 0
Terms = List (List ℕ × ℕ)

-- The coefficient that a list of terms has at an exponent list.
abbrev pub look : List ℕ → Terms → Option ℕ
look q ts = find (slice_cmp nat_cmp) q ts

pub coefficient-from_entries : (ts : List (List ℕ × ℕ)) (a : List ℕ) → coefficient (from_entries ts) a ≡ unwrap_or (find (slice_cmp nat_cmp) a ts) 0
unfolding coefficient
coefficient-from_entries ts a = ap (λ o. unwrap_or o 0) (get-from_entries nat_list_cmp_total ts a)

pub coefficient-from_entries_cons : (t : List ℕ × ℕ) (ts : List (List ℕ × ℕ)) (a : List ℕ)
    → coefficient (from_entries (t ∷ ts)) a ≡ cond (same a t.0) t.1 (coefficient (from_entries ts) a)
coefficient-from_entries_cons t ts a = coefficient-from_entries (t ∷ ts) a ∙ by (same a t.0)
    ∙ ap (cond (same a t.0) t.1) (sym (coefficient-from_entries ts a))
  where
    by : (s : Bool) → unwrap_or (cond s (Some t.1) (look a ts)) 0 ≡ cond s t.1 (unwrap_or (look a ts) 0)
    by true = refl
    by false = refl

-- The exponent lists of the terms are exponents.
abbrev AllExponents : Terms → Type 0
AllExponents ts = All (λ t. IsExponents t.0) ts

pub find_none : (q : List ℕ) (ts : Terms) → All (λ u. same q u.0 ≡ false) ts → look q ts ≡ None
find_none q [] all = refl
find_none q (u ∷ ts) all = ap (λ s. cond s (Some u.1) (look q ts)) (All-head (λ v. same q v.0 ≡ false) u ts all)
    ∙ find_none q ts (All-tail (λ v. same q v.0 ≡ false) u ts all)

look_head : (t : List ℕ × ℕ) (ts : Terms) → look t.0 (t ∷ ts) ≡ Some t.1
look_head t ts = ap (λ s. cond s (Some t.1) (look t.0 ts)) (same_itself t.0)

module _ (key : List ℕ → List ℕ) where
  -- Each term is greater than all later ones.
  abbrev pub Falls : Terms → Type 0
  Falls [] = Unit {0}
  Falls (t ∷ ts) = All (λ u. compare_by key t.0 u.0 ≡ Greater) ts × Falls ts

  greater_trans : (a b c : List ℕ) → compare_by key a b ≡ Greater → compare_by key b c ≡ Greater → compare_by key a c ≡ Greater
  greater_trans a b c g h =
      let O = compare_by_total key in
      O.antisymm a c ∙ ap ordering_reverse (O.trans c b a (O.antisymm c b ∙ ap ordering_reverse h) (O.antisymm b a ∙ ap ordering_reverse g))

  pub Falls-from_IsFalling : (ts : Terms) → IsFalling key ts → Falls ts
  Falls-from_IsFalling [] h = tt
  Falls-from_IsFalling (t ∷ []) h = (All-nil (λ u. compare_by key t.0 u.0 ≡ Greater), tt)
  Falls-from_IsFalling (t ∷ u ∷ ts) h =
      let rest = Falls-from_IsFalling (u ∷ ts) h.1 in
      (All-cons (λ v. compare_by key t.0 v.0 ≡ Greater) u ts h.0 (All-weaker (λ v. compare_by key u.0 v.0 ≡ Greater) (λ v. compare_by key t.0 v.0 ≡ Greater) (λ v g. greater_trans t.0 u.0 v.0 h.0 g) ts rest.0), rest)

  pub IsFalling-from_Falls : (ts : Terms) → Falls ts → IsFalling key ts
  IsFalling-from_Falls [] h = tt
  IsFalling-from_Falls (t ∷ []) h = tt
  IsFalling-from_Falls (t ∷ u ∷ ts) h = (All-head (λ v. compare_by key t.0 v.0 ≡ Greater) u ts h.0, IsFalling-from_Falls (u ∷ ts) h.1)

  pub greater_apart : (a b : List ℕ) → compare_by key a b ≡ Greater → same a b ≡ false
  greater_apart a b g = same_false a b (λ e. grind (arith, tied_itself (compare_by_total key) b, subst (λ c. compare_by key c b ≡ Greater) e g))

  greater_apart_back : (a b : List ℕ) → compare_by key a b ≡ Greater → same b a ≡ false
  greater_apart_back a b g = same_false b a (λ e. grind (arith, tied_itself (compare_by_total key) a, subst (λ c. compare_by key a c ≡ Greater) e g))

  -- A falling list has its own coefficients.
  look_in : (ts : Terms) → Falls ts → All (λ t. look t.0 ts ≡ Some t.1) ts
  look_in [] h = All-nil (λ t. look t.0 [] ≡ Some t.1)
  look_in (t ∷ ts) h =
      let rest = look_in ts h.1 in
      All-cons (λ u. look u.0 (t ∷ ts) ≡ Some u.1) t ts (look_head t ts)
      (λ k d l. ap (λ s. cond s (Some t.1) (look (get_or ts k d).0 ts)) (greater_apart_back t.0 (get_or ts k d).0 (h.0 k d l)) ∙ rest k d l)

  look_beyond : (q : List ℕ) (ts : Terms) → All (λ u. compare_by key q u.0 ≡ Greater) ts → look q ts ≡ None
  look_beyond q ts all = find_none q ts (All-weaker (λ u. compare_by key q u.0 ≡ Greater) (λ u. same q u.0 ≡ false) (λ u g. greater_apart q u.0 g) ts all)

-- What holds of each term holds of what is found.
pub find_All : (P : List ℕ × ℕ → Type 0) (ts : List (List ℕ × ℕ)) (q : List ℕ) (c : ℕ) → All P ts → find (slice_cmp nat_cmp) q ts ≡ Some c → P (q, c)
find_All P [] q c all e = absurd (none-some c e)
find_All P (t ∷ ts) q c all e = by (same q t.0) refl (find_All P ts q c (All-tail P t ts all)) e
  where
    by : (s : Bool) → same q t.0 ≡ s → (look q ts ≡ Some c → P (q, c)) → cond s (Some t.1) (look q ts) ≡ Some c → P (q, c)
    by true s later f =
        let pair : ◌≡◌ {A = List ℕ × ℕ} (q, c) t = λ i. (same_true q t.0 s i, sym (same_Some t.1 c f) i) in
        subst P (sym pair) (All-head P t ts all)
    by false s later f = later f

-- No two terms have the same exponent list.
abbrev pub Apart : Terms → Type 0
Apart [] = Unit {0}
Apart (t ∷ ts) = All (λ u. same t.0 u.0 ≡ false) ts × Apart ts

pub Apart-from_sorted : (ts : Terms) → T (is_sorted (slice_cmp nat_cmp) ts) → Apart ts
Apart-from_sorted [] h = tt
Apart-from_sorted (t ∷ ts) h =
    (All-weaker (λ u. slice_cmp nat_cmp t.0 u.0 ≡ Less) (λ u. same t.0 u.0 ≡ false) (λ u l. below_not_same t.0 u.0 l) ts (All_above t.0 ts (T_left _ _ h)), Apart-from_sorted ts (T_right _ _ h))

swapped : (s t : Bool) (x y z : Option ℕ) → (s ≡ true → t ≡ true → ⊥) → cond s x (cond t y z) ≡ cond t y (cond s x z)
swapped true true x y z apart = absurd (apart refl refl)
swapped true false x y z apart = refl
swapped false t x y z apart = refl

module _ (key : List ℕ → List ℕ) where
  All_place : (P : List ℕ × ℕ → Type 0) (t : List ℕ × ℕ) (us : Terms) → P t → All P us → All P (place key t us)
  unfolding place
  All_place P t [] p all = All-cons P t [] p all
  All_place P t (u ∷ us) p all = by (is_gt (compare_by key t.0 u.0)) (All_place P t us p (All-tail P u us all))
    where
      by : (g : Bool) → All P (place key t us) → All P (if g then t ∷ u ∷ us else u ∷ place key t us)
      by true rest = All-cons P t (u ∷ us) p all
      by false rest = All-cons P u (place key t us) (All-head P u us all) rest

  length_place : (t : List ℕ × ℕ) (us : Terms) → length (place key t us) ≡ suc (length us)
  unfolding place
  length_place t [] = refl
  length_place t (u ∷ us) = by (is_gt (compare_by key t.0 u.0)) (length_place t us)
    where
      by : (g : Bool) → length (place key t us) ≡ suc (length us) → length (if g then t ∷ u ∷ us else u ∷ place key t us) ≡ suc (suc (length us))
      by true rest = refl
      by false rest = ap suc rest

  look_place : (q : List ℕ) (t : List ℕ × ℕ) (us : Terms) → All (λ u. same t.0 u.0 ≡ false) us → look q (place key t us) ≡ look q (t ∷ us)
  unfolding place
  look_place q t [] all = refl
  look_place q t (u ∷ us) all = by (is_gt (compare_by key t.0 u.0)) (look_place q t us (All-tail (λ v. same t.0 v.0 ≡ false) u us all))
    where
      apart : same q u.0 ≡ true → same q t.0 ≡ true → ⊥
      apart a b = true≢false (sym (same_itself t.0) ∙ ap (same t.0) (sym (same_true q t.0 b) ∙ same_true q u.0 a) ∙ All-head (λ v. same t.0 v.0 ≡ false) u us all)

      by : (g : Bool) → look q (place key t us) ≡ look q (t ∷ us) → look q (if g then t ∷ u ∷ us else u ∷ place key t us) ≡ look q (t ∷ u ∷ us)
      by true rest = refl
      by false rest = ap (cond (same q u.0) (Some u.1)) rest ∙ swapped (same q u.0) (same q t.0) (Some u.1) (Some t.1) (look q us) apart

  All_sort : (P : List ℕ × ℕ → Type 0) (ts : Terms) → All P ts → All P (sort_falling key ts)
  unfolding sort_falling
  All_sort P [] all = all
  All_sort P (t ∷ ts) all = All_place P t (sort_falling key ts) (All-head P t ts all) (All_sort P ts (All-tail P t ts all))

  length_sort : (ts : Terms) → length (sort_falling key ts) ≡ length ts
  unfolding sort_falling
  length_sort [] = refl
  length_sort (t ∷ ts) = length_place t (sort_falling key ts) ∙ ap suc (length_sort ts)

  look_sort : (q : List ℕ) (ts : Terms) → Apart ts → look q (sort_falling key ts) ≡ look q ts
  unfolding sort_falling
  look_sort q [] h = refl
  look_sort q (t ∷ ts) h = look_place q t (sort_falling key ts) (All_sort (λ u. same t.0 u.0 ≡ false) ts h.0)
      ∙ ap (cond (same q t.0) (Some t.1)) (look_sort q ts h.1)

module _ {key : List ℕ → List ℕ} (O : IsMonomialOrder key) where
  greater_from_not : (a b : List ℕ) → IsExponents a → IsExponents b → same a b ≡ false → is_gt (compare_by key a b) ≡ false
      → compare_by key b a ≡ Greater
  greater_from_not a b A B apart g = by (compare_by key a b) refl g
    where
      by : (r : Ordering) → compare_by key a b ≡ r → is_gt r ≡ false → compare_by key b a ≡ Greater
      by Less e h = (compare_by_total key).antisymm b a ∙ ap ordering_reverse e
      by Equal e h = absurd (true≢false (sym (same_itself a) ∙ ap (same a) (compare_by_exact O A B e) ∙ apart))
      by Greater e h = absurd (true≢false h)

  greater_from : (r : Ordering) → is_gt r ≡ true → r ≡ Greater
  greater_from Less h = absurd (true≢false (sym h))
  greater_from Equal h = absurd (true≢false (sym h))
  greater_from Greater h = refl

  Falls_place : (t : List ℕ × ℕ) (us : Terms) → IsExponents t.0 → AllExponents us → All (λ u. same t.0 u.0 ≡ false) us → Falls key us
      → Falls key (place key t us)
  unfolding place
  Falls_place t [] A all apart h = (All-nil (λ u. compare_by key t.0 u.0 ≡ Greater), tt)
  Falls_place t (u ∷ us) A all apart h =
      by (is_gt (compare_by key t.0 u.0)) refl (Falls_place t us A (All-tail (λ v. IsExponents v.0) u us all) (All-tail (λ v. same t.0 v.0 ≡ false) u us apart) h.1)
    where
      by : (g : Bool) → is_gt (compare_by key t.0 u.0) ≡ g → Falls key (place key t us) → Falls key (if g then t ∷ u ∷ us else u ∷ place key t us)
      by true e rest =
          let g = greater_from _ e in
          (All-cons (λ v. compare_by key t.0 v.0 ≡ Greater) u us g (All-weaker (λ v. compare_by key u.0 v.0 ≡ Greater) (λ v. compare_by key t.0 v.0 ≡ Greater) (λ v l. greater_trans key t.0 u.0 v.0 g l) us h.0), h)
      by false e rest = (
        All_place key (λ v. compare_by key u.0 v.0 ≡ Greater) t us
            (greater_from_not t.0 u.0 A (All-head (λ v. IsExponents v.0) u us all) (All-head (λ v. same t.0 v.0 ≡ false) u us apart) e) h.0,
        rest,
      )

  Falls_sort : (ts : Terms) → AllExponents ts → Apart ts → Falls key (sort_falling key ts)
  unfolding sort_falling
  Falls_sort [] all h = tt
  Falls_sort (t ∷ ts) all h =
      let later = All-tail (λ v. IsExponents v.0) t ts all in
      Falls_place t (sort_falling key ts) (All-head (λ v. IsExponents v.0) t ts all) (All_sort key (λ v. IsExponents v.0) ts later) (All_sort key (λ u. same t.0 u.0 ≡ false) ts h.0) (Falls_sort ts later h.1)

  -- A falling list is determined by its coefficients.
  falling_unique : (ts us : Terms) → AllExponents ts → AllExponents us → Falls key ts → Falls key us → ((q : List ℕ) → look q ts ≡ look q us)
      → ts ≡ us
  falling_unique [] [] A B g h e = refl
  falling_unique [] (u ∷ us) A B g h e = absurd (none-some u.1 (e u.0 ∙ look_head u us))
  falling_unique (t ∷ ts) [] A B g h e = absurd (none-some t.1 (sym (e t.0) ∙ look_head t ts))
  falling_unique (t ∷ ts) (u ∷ us) A B g h e =
      by (compare_by key t.0 u.0) refl (λ f. falling_unique ts us (All-tail (λ v. IsExponents v.0) t ts A) (All-tail (λ v. IsExponents v.0) u us B) g.1 h.1 f)
    where
      missed : (t u : List ℕ × ℕ) (ts us : Terms) → compare_by key t.0 u.0 ≡ Greater → All (λ v. compare_by key u.0 v.0 ≡ Greater) us
          → look t.0 (t ∷ ts) ≡ look t.0 (u ∷ us) → ⊥
      missed t u ts us l above e =
          none-some t.1 (sym (look_beyond key t.0 (u ∷ us)
          (All-cons (λ v. compare_by key t.0 v.0 ≡ Greater) u us l (All-weaker (λ v. compare_by key u.0 v.0 ≡ Greater) (λ v. compare_by key t.0 v.0 ≡ Greater) (λ v m. greater_trans key t.0 u.0 v.0 l m) us above)))
          ∙ sym e ∙ look_head t ts)

      tails : t.0 ≡ u.0 → (q : List ℕ) → look q ts ≡ look q us
      tails k q = split (same q t.0) refl (e q ∙ ap (λ a. cond (same q a) (Some u.1) (look q us)) (sym k))
        where
          split : (s : Bool) → same q t.0 ≡ s → cond s (Some t.1) (look q ts) ≡ cond (same q t.0) (Some u.1) (look q us) → look q ts ≡ look q us
          split true s f =
              let at = same_true q t.0 s in
              ap (λ a. look a ts) at ∙ look_beyond key t.0 ts g.0 ∙ sym (ap (λ a. look a us) (at ∙ k) ∙ look_beyond key u.0 us h.0)
          split false s f = f ∙ ap (λ b. cond b (Some u.1) (look q us)) s

      by : (r : Ordering) → compare_by key t.0 u.0 ≡ r → (((q : List ℕ) → look q ts ≡ look q us) → ts ≡ us) → t ∷ ts ≡ u ∷ us
      by Greater r rest = absurd (missed t u ts us r h.0 (e t.0))
      by Less r rest = absurd (missed u t us ts ((compare_by_total key).antisymm u.0 t.0 ∙ ap ordering_reverse r) g.0 (sym (e u.0)))
      by Equal r rest =
          let k = compare_by_exact O (All-head (λ v. IsExponents v.0) t ts A) (All-head (λ v. IsExponents v.0) u us B) r in
          let v : t.1 ≡ u.1 = same_Some t.1 u.1 (sym (look_head t ts) ∙ e t.0 ∙ ap (λ a. look a (u ∷ us)) k ∙ look_head u us) in
          let all : ts ≡ us = rest (tails k) in
          λ i. (k i, v i) ∷ all i

  -- The terms of a polynomial in the order of the key.
  module _ {F : Field} {f : Polynomial} (P : IsPolynomial F f) where
    entries_exponents : AllExponents (entries f)
    entries_exponents k d h = P.exponents _ _ (entries_get f k d h)

    pub terms_falling-IsFalling : IsFalling key (terms_falling key f)
    unfolding terms_falling
    terms_falling-IsFalling = IsFalling-from_Falls key _ (Falls_sort (entries f) entries_exponents (Apart-from_sorted (entries f) (entries_sorted f)))

    pub terms_falling-exponents : All (λ t. IsExponents t.0) (terms_falling key f)
    unfolding terms_falling
    terms_falling-exponents = All_sort key (λ t. IsExponents t.0) (entries f) entries_exponents

    pub find-terms_falling : (q : List ℕ) → find (slice_cmp nat_cmp) q (terms_falling key f) ≡ get f q
    unfolding terms_falling
    find-terms_falling q = look_sort key q (entries f) (Apart-from_sorted (entries f) (entries_sorted f)) ∙ sym (get-entries f q)

    -- The members are the polynomial's entries.
    pub terms_falling-get : All (λ t. get f t.0 ≡ Some t.1) (terms_falling key f)
    unfolding terms_falling
    terms_falling-get = All_sort key (λ t. get f t.0 ≡ Some t.1) (entries f) (entries_get f)

    pub length-terms_falling : length (terms_falling key f) ≡ len f
    unfolding terms_falling
    length-terms_falling = length_sort key (entries f) ∙ sym (len-entries f)

    pub from_entries-terms_falling : from_entries (terms_falling key f) ≡ f
    from_entries-terms_falling = same_map nat_list_cmp_total exact_bytes _ f (λ q. get-from_entries nat_list_cmp_total (terms_falling key f) q ∙ find-terms_falling q)

  -- A list of terms that falls is what its polynomial has as its terms.
  pub terms_falling-from_entries : (ts : List (List ℕ × ℕ)) → All (λ t. IsExponents t.0) ts → IsFalling key ts
      → terms_falling key (from_entries ts) ≡ ts
  unfolding terms_falling
  terms_falling-from_entries ts all h =
      let f : Polynomial = from_entries ts in
      let own : AllExponents (entries f) =
      λ k d l. find_All (λ t. IsExponents t.0) ts _ _ all (sym (get-from_entries nat_list_cmp_total ts _) ∙ entries_get f k d l) in
      let apart = Apart-from_sorted (entries f) (entries_sorted f) in
      falling_unique (sort_falling key (entries f)) ts (All_sort key (λ t. IsExponents t.0) (entries f) own) all (Falls_sort (entries f) own apart) (Falls-from_IsFalling key ts h)
      (λ q. look_sort key q (entries f) apart ∙ sym (get-entries f q) ∙ get-from_entries nat_list_cmp_total ts q)

  -- The polynomial of a falling list has the terms' coefficients.
  pub falling_coefficients : (ts : List (List ℕ × ℕ)) → IsFalling key ts → All (λ t. coefficient (from_entries ts) t.0 ≡ t.1) ts
  falling_coefficients ts h k d l =
      coefficient-from_entries ts (get_or ts k d).0 ∙ ap (λ o. unwrap_or o 0) (look_in key ts (Falls-from_IsFalling key ts h) k d l)

pub IsPolynomial-from_entries : {F : Field} (ts : List (List ℕ × ℕ)) → All (IsTerm F) ts → IsPolynomial F (from_entries ts)
IsPolynomial-from_entries {F} ts all =
    let at : (a : List ℕ) (c : ℕ) → get (from_entries ts) a ≡ Some c → IsTerm F (a, c) = λ a c e. find_All (IsTerm F) ts a c all (sym (get-from_entries nat_list_cmp_total ts a) ∙ e) in
    record { exponents = λ a c e. (at a c e).exponents; nonzero = λ a c e. (at a c e).nonzero; below = λ a c e. (at a c e).below }

pub IsTerm-entries : {F : Field} {f : Polynomial} → IsPolynomial F f → All (IsTerm F) (entries f)
IsTerm-entries {f} P k d h =
    let e = entries_get f k d h in
    record { exponents = P.exponents _ _ e; nonzero = P.nonzero _ _ e; below = P.below _ _ e }

pub IsTerm-terms_falling : {F : Field} {f : Polynomial} (key : List ℕ → List ℕ) → IsPolynomial F f → All (IsTerm F) (terms_falling key f)
unfolding terms_falling
IsTerm-terms_falling {F} {f} key P = All_sort key (IsTerm F) (entries f) (IsTerm-entries P)

-- The map of its own entries is the map.
pub from_entries-entries : (f : Polynomial) → from_entries (entries f) ≡ f
from_entries-entries f = same_map nat_list_cmp_total exact_bytes _ f (λ q. get-from_entries nat_list_cmp_total (entries f) q ∙ sym (get-entries f q))

module _ (key : List ℕ → List ℕ) where
  Falls-last : (ts : Terms) (t : List ℕ × ℕ) → Falls key (ts ++ t ∷ []) → All (λ u. compare_by key u.0 t.0 ≡ Greater) ts
  Falls-last [] t h = All-nil (λ u. compare_by key u.0 t.0 ≡ Greater)
  Falls-last (u ∷ ts) t h =
      All-cons (λ v. compare_by key v.0 t.0 ≡ Greater) u ts (last (λ v. compare_by key u.0 v.0 ≡ Greater) ts t h.0) (Falls-last ts t h.1)
    where
      last : (P : List ℕ × ℕ → Type 0) (ts : Terms) (t : List ℕ × ℕ) → All P (ts ++ t ∷ []) → P t
      last P [] t all = All-head P t [] all
      last P (u ∷ ts) t all = last P ts t (All-tail P u (ts ++ t ∷ []) all)

  -- The last term of a falling list is below all others.
  pub IsFalling-last : (ts : List (List ℕ × ℕ)) (t : List ℕ × ℕ) → IsFalling key (ts ++ t ∷ []) → All (λ u. compare_by key u.0 t.0 ≡ Greater) ts
  IsFalling-last ts t h = Falls-last ts t (Falls-from_IsFalling key (ts ++ t ∷ []) h)

-- A list that has a term is not the zero polynomial.
pub from_entries_nonzero : (t : List ℕ × ℕ) (ts : List (List ℕ × ℕ)) → 0 < t.1 → from_entries {R = slice_cmp nat_cmp} (t ∷ ts) ≢ empty
from_entries_nonzero t ts h e =
    let c = sym (coefficient-from_entries_cons t ts t.0 ∙ ap (λ s. cond s t.1 (coefficient (from_entries ts) t.0)) (same_itself t.0))
    ∙ ap (λ f. coefficient f t.0) e ∙ coefficient-empty t.0 in
    absurd (omega arith)

-- A term whose exponents are new, at the end of a list.
pub coefficient-from_entries_push : (ts : List (List ℕ × ℕ)) (t : List ℕ × ℕ) (a : List ℕ) → find (slice_cmp nat_cmp) t.0 ts ≡ None
    → coefficient (from_entries (ts ++ t ∷ [])) a ≡ cond (same a t.0) t.1 (coefficient (from_entries ts) a)
coefficient-from_entries_push ts t a new =
    coefficient-from_entries (ts ++ t ∷ []) a ∙ ap (λ o. unwrap_or o 0) (find-append (slice_cmp nat_cmp) nat_list_cmp_total ts t.0 t.1 a new)
    ∙ by (same a t.0)
    ∙ ap (cond (same a t.0) t.1) (sym (coefficient-from_entries ts a))
  where
    by : (s : Bool) → unwrap_or (cond s (Some t.1) (look a ts)) 0 ≡ cond s t.1 (unwrap_or (look a ts) 0)
    by true = refl
    by false = refl
