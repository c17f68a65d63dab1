-- Additive maps of polynomials that take terms to terms: on a falling list they work term by term.
use Rattle.std.proofs.Common.{◌≡◌, ℕ, ◌^◌, ◌<◌, Bool, true, false, cond, List, [], ◌∷◌, map, All, unwrap_or, nat_cmp, Greater, refl, sym, ap, ap₂, ◌∙◌, arith, is_eq, ◌++◌, ⊎_elim, eq-zero-or-pos}
use Rattle.std.specs.Cmp.Lexicographic.{slice_cmp}
use Rattle.std.specs.FinMap.{empty, from_entries}
use Rattle.std.proofs.lemmas.List.Elements.{All-nil, All-cons, All-head, All-tail, All-map, All-weaker, All-append}
use Rattle.fj_coeff.specs.Field.{Field, IsField}
use Rattle.fj_coeff.specs.Field as field
use Rattle.fj_algebra.proofs.Ring.{neg_sum}
use Rattle.fj_theory.specs.Exponents.{IsExponents, plus, times, origin}
use Rattle.fj_theory.specs.MonomialOrder.{compare_by, IsMonomialOrder}
use Rattle.fj_theory.specs.Polynomial.{Polynomial, IsPolynomial, IsTerm, IsFalling, coefficient, terms_falling, term, sum, negation, product, power}
use Rattle.fj_theory.proofs.MonomialOrder.{slice_cmp-plus}
use Rattle.fj_theory.proofs.Frobenius.{power_empty, same-times, power_sum, power_positive}
use Rattle.fj_theory.proofs.Roots.{mul_positive, field_power_positive}
use Rattle.fj_theory.proofs.Polynomial.{IsPolynomial-term, polynomial_equal, coefficient-empty, IsPolynomial-empty, coefficient-term}
use Rattle.fj_theory.proofs.Exponents.{IsExponents-plus, plus_comm, origin_plus, IsExponents-times, IsExponents-origin}
use Rattle.fj_theory.proofs.PolynomialRing.{product_sum, product_empty, neg_zero_rank, PolynomialOver, IsPolynomial-negation, map_add, map_neg, sum_comm, coefficient-negation, polynomial_ring, sum_empty, sum_assoc}
use Rattle.fj_theory.proofs.Monomial.{from_entries-cons, product_terms, power_below, power_term}
use Rattle.fj_theory.proofs.Terms.{Apart, IsFalling-from_Falls, IsTerm-terms_falling, IsPolynomial-from_entries, terms_falling-from_entries, Falls-from_IsFalling, find_none, from_entries-terms_falling, Falls, terms_falling-IsFalling, greater_apart, coefficient-from_entries}
use Rattle.fj_theory.proofs.FormalSum.{same}

-- The term with its coefficient changed by u and its exponents by g.
abbrev pub changed : (ℕ → ℕ) → (List ℕ → List ℕ) → List ℕ × ℕ → List ℕ × ℕ
changed u g t = (g t.0, u t.1)

-- An additive map of polynomials that takes each term to a term, by a map u of coefficients and an injective map g of exponent lists.
pub record IsTermMap (F : Field) (Φ : Polynomial → Polynomial) (u : ℕ → ℕ) (g : List ℕ → List ℕ) : Type 0 where
  pub on_zero : Φ empty ≡ empty
  pub on_sum : {f h : Polynomial} → IsPolynomial F f → IsPolynomial F h → Φ (sum F f h) ≡ sum F (Φ f) (Φ h)
  pub on_term : (t : List ℕ × ℕ) → IsTerm F t → Φ (term t.1 t.0) ≡ term (u t.1) (g t.0)
  pub keeps_terms : (t : List ℕ × ℕ) → IsTerm F t → IsTerm F (changed u g t)
  pub injective : (a b : List ℕ) → IsExponents a → IsExponents b → same (g a) (g b) ≡ same a b

Apart-from_Falls : (key : List ℕ → List ℕ) (ts : List (List ℕ × ℕ)) → Falls key ts → Apart ts
Apart-from_Falls key [] h = tt
Apart-from_Falls key (t ∷ ts) h =
    (All-weaker (λ u. compare_by key t.0 u.0 ≡ Greater) (λ u. same t.0 u.0 ≡ false) (λ u l. greater_apart key t.0 u.0 l) ts h.0, Apart-from_Falls key ts h.1)

module _ {F : Field} (L : IsField F) {Φ : Polynomial → Polynomial} {u : ℕ → ℕ} {g : List ℕ → List ℕ} (M : IsTermMap F Φ u g) where
  changed_terms : (ts : List (List ℕ × ℕ)) → All (IsTerm F) ts → All (IsTerm F) (map (changed u g) ts)
  changed_terms ts all = All-map (IsTerm F) (changed u g) ts (λ k d h. M.keeps_terms _ (all k d h))

  changed_apart : (t : List ℕ × ℕ) (ts : List (List ℕ × ℕ)) → IsTerm F t → All (IsTerm F) ts → All (λ v. same t.0 v.0 ≡ false) ts
      → All (λ v. same (g t.0) v.0 ≡ false) (map (changed u g) ts)
  changed_apart t ts T all apart = All-map (λ v. same (g t.0) v.0 ≡ false) (changed u g) ts (λ k d h. M.injective t.0 _ T.exponents (all k d h).exponents ∙ apart k d h)

  -- The map works term by term.
  pub term_by_term : (ts : List (List ℕ × ℕ)) → All (IsTerm F) ts → Apart ts → Φ (from_entries ts) ≡ from_entries (map (changed u g) ts)
  term_by_term [] all h = M.on_zero
  term_by_term (t ∷ ts) all h =
      let T = All-head (IsTerm F) t ts all in
      let later = All-tail (IsTerm F) t ts all in
      let new : coefficient (from_entries ts) t.0 ≡ 0 = coefficient-from_entries ts t.0 ∙ ap (λ o. unwrap_or o 0) (find_none t.0 ts h.0) in
      let new' : coefficient (from_entries (map (changed u g) ts)) (g t.0) ≡ 0 =
      coefficient-from_entries (map (changed u g) ts) (g t.0)
      ∙ ap (λ o. unwrap_or o 0) (find_none (g t.0) (map (changed u g) ts) (changed_apart t ts T later h.0)) in
      ap Φ (from_entries-cons L t ts T later new) ∙ M.on_sum (IsPolynomial-term t.1 T.below T.exponents) (IsPolynomial-from_entries ts later)
      ∙ ap₂ (sum F) (M.on_term t T) (term_by_term ts later h.1)
      ∙ sym (from_entries-cons L (changed u g t) (map (changed u g) ts) (M.keeps_terms t T) (changed_terms ts later) new')

  module _ {key : List ℕ → List ℕ} (O : IsMonomialOrder key) (order : (a b : List ℕ) → IsExponents a → IsExponents b → compare_by key (g a) (g b) ≡ compare_by key a b) where
    changed_Falls : (ts : List (List ℕ × ℕ)) → All (IsTerm F) ts → Falls key ts → Falls key (map (changed u g) ts)
    changed_Falls [] all h = tt
    changed_Falls (t ∷ ts) all h =
        let T = All-head (IsTerm F) t ts all in
        let later = All-tail (IsTerm F) t ts all in
        (All-map (λ v. compare_by key (g t.0) v.0 ≡ Greater) (changed u g) ts (λ k d l. order t.0 _ T.exponents (later k d l).exponents ∙ h.0 k d l), changed_Falls ts later h.1)

    pub IsFalling-changed : (ts : List (List ℕ × ℕ)) → All (IsTerm F) ts → IsFalling key ts → IsFalling key (map (changed u g) ts)
    IsFalling-changed ts all h = IsFalling-from_Falls key _ (changed_Falls ts all (Falls-from_IsFalling key ts h))

    -- The falling terms of the image are the images of the falling terms.
    pub terms_falling-changed : {f : Polynomial} → IsPolynomial F f → terms_falling key (Φ f) ≡ map (changed u g) (terms_falling key f)
    terms_falling-changed {f} P =
        let ts : List (List ℕ × ℕ) = terms_falling key f in
        let all = IsTerm-terms_falling key P in
        let falls = terms_falling-IsFalling O P in
        ap (terms_falling key) (ap Φ (sym (from_entries-terms_falling O P)) ∙ term_by_term ts all (Apart-from_Falls key ts (Falls-from_IsFalling key ts falls)))
        ∙ terms_falling-from_entries O (map (changed u g) ts) (All-weaker (IsTerm F) (λ t. IsExponents t.0) (λ t T. T.exponents) _ (changed_terms ts all)) (IsFalling-changed ts all falls)

same-plus_both : {a b d : List ℕ} → IsExponents a → IsExponents b → IsExponents d → same (plus a b) (plus a d) ≡ same b d
same-plus_both {a} {b} {d} A B D =
    ap is_eq (ap₂ (slice_cmp nat_cmp) (plus_comm a b) (plus_comm a d) ∙ slice_cmp-plus b d a (B.eight ∙ sym A.eight) (D.eight ∙ sym A.eight))

Apart-left : (xs ys : List (List ℕ × ℕ)) → Apart (xs ++ ys) → Apart xs
Apart-left [] ys h = tt
Apart-left (t ∷ xs) ys h = (All_left (λ u. same t.0 u.0 ≡ false) xs ys h.0, Apart-left xs ys h.1)
  where
    All_left : (P : List ℕ × ℕ → Type 0) (xs ys : List (List ℕ × ℕ)) → All P (xs ++ ys) → All P xs
    All_left P [] ys all = All-nil P
    All_left P (x ∷ xs) ys all = All-cons P x xs (All-head P x (xs ++ ys) all) (All_left P xs ys (All-tail P x (xs ++ ys) all))

module _ {F : Field} (L : IsField F) where
  -- Multiplication by a term, and by a constant.
  pub product_term-IsTermMap : (c : ℕ) {a : List ℕ} → 0 < c → c < F.size → IsExponents a → IsTermMap F (product F (term c a)) (F.mul c) (plus a)
  product_term-IsTermMap c {a} p h A =
      let P = IsPolynomial-term {F = F} c h A in
      record {
        on_zero = product_empty L P;
        on_sum = λ Q H. product_sum L P Q H;
        on_term = λ t T. product_terms L c t.1 h T.below A T.exponents;
        keeps_terms = λ t T. record { exponents = IsExponents-plus A T.exponents; nonzero = mul_positive L c t.1 p h T.nonzero T.below; below = L.mul_below c t.1 h T.below };
        injective = λ b d B D. same-plus_both A B D;
      }

  pub product_constant-IsTermMap : (c : ℕ) → 0 < c → c < F.size → IsTermMap F (product F (term c origin)) (F.mul c) (λ a. a)
  product_constant-IsTermMap c p h =
      let P = IsPolynomial-term {F = F} c h IsExponents-origin in
      record {
        on_zero = product_empty L P;
        on_sum = λ Q H. product_sum L P Q H;
        on_term = λ t T. product_terms L c t.1 h T.below IsExponents-origin T.exponents ∙ ap (term (F.mul c t.1)) (origin_plus T.exponents);
        keeps_terms = λ t T. record { exponents = T.exponents; nonzero = mul_positive L c t.1 p h T.nonzero T.below; below = L.mul_below c t.1 h T.below };
        injective = λ b d B D. refl;
      }

  -- The p^e-th power.
  pub frobenius-IsTermMap : (e : ℕ)
      → IsTermMap F (λ f. power F f (F.characteristic ^ e)) (λ c. field.power F c (F.characteristic ^ e)) (times (F.characteristic ^ e))
  frobenius-IsTermMap e = record {
    on_zero = power_empty L e;
    on_sum = λ P Q. power_sum L P Q e;
    on_term = λ t T. power_term L t.1 T.below T.exponents (F.characteristic ^ e);
    keeps_terms = λ t T. record { exponents = IsExponents-times (F.characteristic ^ e) T.exponents; nonzero = field_power_positive L e t.1 T.nonzero T.below; below = power_below L t.1 (F.characteristic ^ e) T.below };
    injective = λ a b A B. same-times (F.characteristic ^ e) a b (power_positive L e);
  }

  neg_positive : (c : ℕ) → 0 < c → c < F.size → 0 < F.neg c
  neg_positive c p h =
      ⊎_elim (λ z. let n = sym (L.add_zero c h) ∙ ap (F.add c) (sym z) ∙ L.add_neg c h in absurd (omega arith)) (λ g. g) (eq-zero-or-pos (F.neg c))

  -- The negation.
  pub negation-IsTermMap : IsTermMap F (negation F) F.neg (λ a. a)
  negation-IsTermMap = record {
    on_zero = polynomial_equal (IsPolynomial-negation L (IsPolynomial-empty F)) (IsPolynomial-empty F)
        (λ a A. coefficient-negation L empty a ∙ ap F.neg (coefficient-empty a) ∙ neg_zero_rank L ∙ sym (coefficient-empty a));
    on_sum = λ {f} {h} P Q.
        let x : PolynomialOver F = record { map = f; is_polynomial = P } in
        let y : PolynomialOver F = record { map = h; is_polynomial = Q } in
        ap (negation F) (sym (map_add L x y)) ∙ sym (map_neg L ((polynomial_ring L).add x y)) ∙ ap (λ z. z.map) (neg_sum (polynomial_ring L) x y)
        ∙ map_add L _ _ ∙ ap₂ (sum F) (map_neg L x) (map_neg L y);
    on_term = λ t T. polynomial_equal (IsPolynomial-negation L (IsPolynomial-term t.1 T.below T.exponents)) (IsPolynomial-term (F.neg t.1) (L.neg_below t.1 T.below) T.exponents)
        (λ a A. coefficient-negation L (term t.1 t.0) a ∙ ap F.neg (coefficient-term t.1 t.0 a) ∙ by t.1 (same a t.0) ∙ sym (coefficient-term (F.neg t.1) t.0 a));
    keeps_terms = λ t T. record { exponents = T.exponents; nonzero = neg_positive t.1 T.nonzero T.below; below = L.neg_below t.1 T.below };
    injective = λ a b A B. refl;
  }
    where
      by : (c : ℕ) (t : Bool) → F.neg (cond t c 0) ≡ cond t (F.neg c) 0
      by c true = refl
      by c false = neg_zero_rank L

  append_apart : (xs ys : List (List ℕ × ℕ)) → All (IsTerm F) xs → All (IsTerm F) ys → Apart (xs ++ ys)
      → from_entries (xs ++ ys) ≡ sum F (from_entries xs) (from_entries ys)
  append_apart [] ys all all' h =
      let Q = IsPolynomial-from_entries ys all' in
      sym (sum_comm L (IsPolynomial-empty F) Q ∙ sum_empty L Q)
  append_apart (t ∷ xs) ys all all' h =
      let T = All-head (IsTerm F) t xs all in
      let later = All-tail (IsTerm F) t xs all in
      let zero_at : (zs : List (List ℕ × ℕ)) → All (λ u. same t.0 u.0 ≡ false) zs → coefficient (from_entries zs) t.0 ≡ 0 =
      λ zs apart. coefficient-from_entries zs t.0 ∙ ap (λ o. unwrap_or o 0) (find_none t.0 zs apart) in
      from_entries-cons L t (xs ++ ys) T (All-append (IsTerm F) xs ys later all') (zero_at (xs ++ ys) h.0)
      ∙ ap (sum F (term t.1 t.0)) (append_apart xs ys later all' h.1)
      ∙ sym (sum_assoc L (IsPolynomial-term t.1 T.below T.exponents) (IsPolynomial-from_entries xs later) (IsPolynomial-from_entries ys all'))
      ∙ ap (λ f. sum F f (from_entries ys)) (sym (from_entries-cons L t xs T later (zero_at xs (Apart-left (t ∷ xs) ys h).0)))

  -- A falling list in two pieces is the sum of the pieces.
  pub from_entries-append : (key : List ℕ → List ℕ) (xs ys : List (List ℕ × ℕ)) → All (IsTerm F) xs → All (IsTerm F) ys → IsFalling key (xs ++ ys)
      → from_entries (xs ++ ys) ≡ sum F (from_entries xs) (from_entries ys)
  from_entries-append key xs ys all all' h = append_apart xs ys all all' (Apart-from_Falls key (xs ++ ys) (Falls-from_IsFalling key (xs ++ ys) h))
