-- Polynomials as finite maps: a polynomial is determined by its coefficients, and the coefficients of what the operations give.
use Rattle.std.proofs.Common.{◌≡◌, ℕ, ◌<◌, Bool, true, false, cond, not, ◌&&◌, ◌||◌, ◌==◌, List, [], ◌∷◌, ◌++◌, All, Option, Some, None, unwrap_or, is_some, nat_cmp, refl, sym, ap, ap₂, ◌∙◌, subst, arith, eqb-true}
use Rattle.std.specs.List.{list_any}
use Rattle.std.specs.Cmp.Lexicographic.{slice_cmp}
use Rattle.std.specs.FinMap.{get, insert, empty, get-empty, get-insert, same_map, contains_key-keys}
use Rattle.std.proofs.lemmas.Bool.{true≢false, eqb-false, or_parts, true_from_ne_false}
use Rattle.std.proofs.lemmas.Cmp.{nat_list_cmp_total, eq_by_cmp_equiv}
use Rattle.std.proofs.lemmas.Option.{none-some, same_Some}
use Rattle.std.proofs.lemmas.Map.Lookups.{exact_bytes}
use Rattle.std.proofs.lemmas.Map.Made.{All-is_member, is_member-Decides}
use Rattle.std.proofs.lemmas.List.Folds.{list_any-append}
use Rattle.std.proofs.lemmas.List.Elements.{All-nil, All-cons, All-append, All-weaker, All-contains}
use Rattle.fj_coeff.specs.Field.{Field, IsField}
use Rattle.fj_theory.specs.Exponents.{IsExponents}
use Rattle.fj_theory.specs.Polynomial.{Polynomial, IsPolynomial, coefficient, support, with_coefficients, term, sum}
use Rattle.fj_theory.proofs.Field.{zero_below}
use Rattle.fj_theory.proofs.FormalSum.{same, same_true, same_itself, same-Decides}

-- A polynomial is determined by its coefficients at exponent lists.
module _ {F : Field} {f g : Polynomial} (P : IsPolynomial F f) (Q : IsPolynomial F g) (each : (a : List ℕ) → IsExponents a → coefficient f a ≡ coefficient g a) where
  some_same : (a : List ℕ) (o r : Option ℕ) → get f a ≡ o → get g a ≡ r → o ≡ r
  unfolding coefficient
  some_same a None None e d = refl
  some_same a None (Some c) e d =
      let s : 0 ≡ c = ap (λ o. unwrap_or o 0) (sym e) ∙ each a (Q.exponents a c d) ∙ ap (λ o. unwrap_or o 0) d in
      absurd (omega (arith, Q.nonzero a c d))
  some_same a (Some c) None e d =
      let s : c ≡ 0 = ap (λ o. unwrap_or o 0) (sym e) ∙ each a (P.exponents a c e) ∙ ap (λ o. unwrap_or o 0) d in
      absurd (omega (arith, P.nonzero a c e))
  some_same a (Some c) (Some b) e d = ap Some (ap (λ o. unwrap_or o 0) (sym e) ∙ each a (P.exponents a c e) ∙ ap (λ o. unwrap_or o 0) d)

  pub polynomial_equal : f ≡ g
  polynomial_equal = same_map nat_list_cmp_total exact_bytes f g (λ a. some_same a (get f a) (get g a) refl refl)

-- What is found at an exponent list.
pub coefficient-get : (f : Polynomial) (a : List ℕ) → coefficient f a ≡ unwrap_or (get f a) 0
unfolding coefficient
coefficient-get f a = refl

pub coefficient-Some : (f : Polynomial) (a : List ℕ) (c : ℕ) → get f a ≡ Some c → coefficient f a ≡ c
unfolding coefficient
coefficient-Some f a c e = ap (λ o. unwrap_or o 0) e

pub coefficient-None : (f : Polynomial) (a : List ℕ) → get f a ≡ None → coefficient f a ≡ 0
unfolding coefficient
coefficient-None f a e = ap (λ o. unwrap_or o 0) e

pub coefficient-empty : (a : List ℕ) → coefficient empty a ≡ 0
coefficient-empty a = coefficient-None empty a (get-empty (slice_cmp nat_cmp) a)

-- A coefficient that is not zero is an entry.
pub get-coefficient : (f : Polynomial) (a : List ℕ) → 0 < coefficient f a → get f a ≡ Some (coefficient f a)
unfolding coefficient
get-coefficient f a h = by (get f a) h
  where
    by : (o : Option ℕ) → 0 < unwrap_or o 0 → o ≡ Some (unwrap_or o 0)
    by None h = absurd (omega arith)
    by (Some c) h = refl

pub coefficient_outside : (f : Polynomial) (a : List ℕ) → list_any (same a) (support f) ≡ false → coefficient f a ≡ 0
coefficient_outside f a h = by (get f a) refl (contains_key-keys f a ∙ h)
  where
    by : (o : Option ℕ) → get f a ≡ o → is_some o ≡ false → coefficient f a ≡ 0
    by None e h = coefficient-None f a e
    by (Some c) e h = absurd (true≢false h)

pub support_found : (f : Polynomial) (a : List ℕ) → list_any (same a) (support f) ≡ true → get f a ≡ Some (coefficient f a)
unfolding coefficient
support_found f a h = by (get f a) (contains_key-keys f a ∙ h)
  where
    by : (o : Option ℕ) → is_some o ≡ true → o ≡ Some (unwrap_or o 0)
    by None h = absurd (true≢false (sym h))
    by (Some c) h = refl

pub support_listed : (f : Polynomial) (a : List ℕ) → 0 < coefficient f a → list_any (same a) (support f) ≡ true
support_listed f a h = true_from_ne_false _ (λ e. let z = coefficient_outside f a e in absurd (omega arith))

-- What holds of each element of a list holds of what is the same as one.
pub All_same : (P : List ℕ → Type 0) (L : List (List ℕ)) (a : List ℕ) → All P L → list_any (same a) L ≡ true → P a
All_same P L a all h = All-contains P L a all ((is_member-Decides same-Decides L a).0 h)

module _ {F : Field} {f : Polynomial} (P : IsPolynomial F f) where
  pub support_exponents : All IsExponents (support f)
  support_exponents =
      All-weaker (λ a. list_any (same a) (support f) ≡ true) IsExponents (λ a h. P.exponents a (coefficient f a) (support_found f a h)) (support f)
      (All-is_member (eq_by_cmp_equiv nat_list_cmp_total) (support f))

  pub coefficient_below : 0 < F.size → (a : List ℕ) → coefficient f a < F.size
  coefficient_below h a = by (get f a) refl
    where
      by : (o : Option ℕ) → get f a ≡ o → coefficient f a < F.size
      by None e = subst (λ c. c < F.size) (sym (coefficient-None f a e)) h
      by (Some c) e = subst (λ c. c < F.size) (sym (coefficient-Some f a c e)) (P.below a c e)

nothing : (t r : Bool) (x : Option ℕ) → r ≡ true → cond (t && not r) x None ≡ None
nothing true true x e = refl
nothing true false x e = absurd (true≢false (sym e))
nothing false r x e = refl

something : (r : Bool) (x : Option ℕ) → r ≡ false → cond (true && not r) x None ≡ x
something true x e = absurd (true≢false e)
something false x e = refl

-- What `with_coefficients` finds.
module _ (c : List ℕ → ℕ) where
  found : List ℕ → Bool → Option ℕ
  found a t = cond (t && not (c a == 0)) (Some (c a)) None

  found_next : (a b : List ℕ) (L : List (List ℕ)) (t : Bool) → same a b ≡ t → (r : Bool) → (c b == 0) ≡ r
      → get (with_coefficients c L) a ≡ found a (list_any (same a) L)
      → get (cond r (with_coefficients c L) (insert (with_coefficients c L) b (c b))) a ≡ found a (t || list_any (same a) L)
  unfolding found
  found_next a b L false s true e rec = rec
  found_next a b L true s true e rec =
      let z : (c a == 0) ≡ true = ap (λ d. c d == 0) (same_true a b s) ∙ e in
      rec ∙ nothing (list_any (same a) L) (c a == 0) (Some (c a)) z ∙ sym (nothing true (c a == 0) (Some (c a)) z)
  found_next a b L false s false e rec = get-insert nat_list_cmp_total (with_coefficients c L) b (c b) a
      ∙ ap (λ t. cond t (Some (c b)) (get (with_coefficients c L) a)) s ∙ rec
  found_next a b L true s false e rec =
      let z : (c a == 0) ≡ false = ap (λ d. c d == 0) (same_true a b s) ∙ e in
      get-insert nat_list_cmp_total (with_coefficients c L) b (c b) a ∙ ap (λ t. cond t (Some (c b)) (get (with_coefficients c L) a)) s
      ∙ ap (λ d. Some (c d)) (sym (same_true a b s)) ∙ sym (something (c a == 0) (Some (c a)) z)

  get_found : (a : List ℕ) (L : List (List ℕ)) → get (with_coefficients c L) a ≡ found a (list_any (same a) L)
  unfolding with_coefficients found
  get_found a [] = get-empty (slice_cmp nat_cmp) a
  get_found a (b ∷ L) = found_next a b L (same a b) refl (c b == 0) refl (get_found a L)

  -- The coefficients at the list's members are the given ones, and the others are zero.
  pub coefficient-with_coefficients : (a : List ℕ) (L : List (List ℕ)) → coefficient (with_coefficients c L) a ≡ cond (list_any (same a) L) (c a) 0
  unfolding coefficient found
  coefficient-with_coefficients a L = ap (λ o. unwrap_or o 0) (get_found a L) ∙ by (list_any (same a) L) (c a == 0) refl
    where
      by : (t r : Bool) → (c a == 0) ≡ r → unwrap_or (cond (t && not r) (Some (c a)) None) 0 ≡ cond t (c a) 0
      by true true e = sym (eqb-true (c a) 0 e)
      by true false e = refl
      by false r e = refl

  found_some : (a : List ℕ) (d : ℕ) (t r : Bool) → (c a == 0) ≡ r → cond (t && not r) (Some (c a)) None ≡ Some d → (t ≡ true) × (d ≡ c a) × (0 < d)
  found_some a d true true e s = absurd (none-some d s)
  found_some a d true false e s =
      let v : d ≡ c a = sym (same_Some (c a) d s) in
      let n = eqb-false (c a) 0 e in
      (refl, v, omega arith)
  found_some a d false r e s = absurd (none-some d s)

  -- The support is among the listed exponent lists.
  pub support-with_coefficients : (P : List ℕ → Type 0) (L : List (List ℕ)) → All P L → All P (support (with_coefficients c L))
  unfolding found
  support-with_coefficients P L all =
      let f : Polynomial = with_coefficients c L in
      All-weaker (λ a. list_any (same a) (support f) ≡ true) P
      (λ a h. All_same P L a all (found_some a (coefficient f a) (list_any (same a) L) (c a == 0) refl (sym (get_found a L) ∙ support_found f a h)).0)
      (support f) (All-is_member (eq_by_cmp_equiv nat_list_cmp_total) (support f))

  pub IsPolynomial-with_coefficients : {F : Field} (L : List (List ℕ)) → All IsExponents L → All (λ a. c a < F.size) L
      → IsPolynomial F (with_coefficients c L)
  unfolding found
  IsPolynomial-with_coefficients {F} L exponents below =
      let at : (a : List ℕ) (d : ℕ) → get (with_coefficients c L) a ≡ Some d → (list_any (same a) L ≡ true) × (d ≡ c a) × (0 < d) =
      λ a d e. found_some a d (list_any (same a) L) (c a == 0) refl (sym (get_found a L) ∙ e) in
      record {
        exponents = λ a d e. All_same IsExponents L a exponents (at a d e).0;
        nonzero = λ a d e. (at a d e).2;
        below = λ a d e. subst (λ k. k < F.size) (sym (at a d e).1) (All_same (λ b. c b < F.size) L a below (at a d e).0);
      }

pub IsPolynomial-empty : (F : Field) → IsPolynomial F empty
IsPolynomial-empty F = record {
  exponents = λ a d e. absurd (none-some d (sym (get-empty (slice_cmp nat_cmp) a) ∙ e));
  nonzero = λ a d e. absurd (none-some d (sym (get-empty (slice_cmp nat_cmp) a) ∙ e));
  below = λ a d e. absurd (none-some d (sym (get-empty (slice_cmp nat_cmp) a) ∙ e));
}

pub IsPolynomial-term : {F : Field} (c : ℕ) {a : List ℕ} → c < F.size → IsExponents a → IsPolynomial F (term c a)
unfolding term
IsPolynomial-term {F} c {a} h A = IsPolynomial-with_coefficients (λ _. c) (a ∷ []) (All-cons IsExponents a [] A (All-nil IsExponents)) (λ k d g. h)

pub coefficient-term : (c : ℕ) (a b : List ℕ) → coefficient (term c a) b ≡ cond (same b a) c 0
unfolding term
coefficient-term c a b = coefficient-with_coefficients (λ _. c) b (a ∷ []) ∙ by (same b a)
  where
    by : (t : Bool) → cond (t || false) c 0 ≡ cond t c 0
    by true = refl
    by false = refl

pub coefficient-term_same : (c : ℕ) (a : List ℕ) → coefficient (term c a) a ≡ c
coefficient-term_same c a = coefficient-term c a a ∙ ap (λ t. cond t c 0) (same_itself a)

module _ {F : Field} (L : IsField F) where
  pub coefficient-sum : (f g : Polynomial) (a : List ℕ) → coefficient (sum F f g) a ≡ F.add (coefficient f a) (coefficient g a)
  unfolding sum
  coefficient-sum f g a = coefficient-with_coefficients (λ b. F.add (coefficient f b) (coefficient g b)) a (support f ++ support g)
      ∙ by (list_any (same a) (support f ++ support g)) refl
    where
      by : (t : Bool) → list_any (same a) (support f ++ support g) ≡ t
          → cond t (F.add (coefficient f a) (coefficient g a)) 0 ≡ F.add (coefficient f a) (coefficient g a)
      by true e = refl
      by false e =
          let parts = or_parts _ _ (sym (list_any-append (same a) (support f) (support g)) ∙ e) in
          sym (ap₂ F.add (coefficient_outside f a parts.0) (coefficient_outside g a parts.1) ∙ L.add_zero 0 (zero_below L))

  pub IsPolynomial-sum : {f g : Polynomial} → IsPolynomial F f → IsPolynomial F g → IsPolynomial F (sum F f g)
  unfolding sum
  IsPolynomial-sum {f} {g} P Q =
      IsPolynomial-with_coefficients _ (support f ++ support g) (All-append IsExponents (support f) (support g) (support_exponents P) (support_exponents Q))
      (λ k d h. L.add_below _ _ (coefficient_below P (zero_below L) _) (coefficient_below Q (zero_below L) _))
