-- A polynomial as a formal sum of its terms, and the coefficients of the product.
use Rattle.std.proofs.Common.{◌≡◌, ℕ, ◌<◌, Bool, true, false, cond, ◌&&◌, List, [], ◌∷◌, ◌++◌, length, map, get_or, flat_map, All, Some, unwrap_or, nat_cmp, is_eq, is_lt, Ordering, Less, Equal, Greater, refl, sym, ap, ap₂, ◌∙◌, subst, T}
use Rattle.std.specs.List.{list_any}
use Rattle.std.specs.Ordering.{ordering_reverse}
use Rattle.std.specs.Cmp.Lexicographic.{slice_cmp}
use Rattle.std.specs.FinMap.{get, entries, entries_sorted, find, is_sorted, get-entries}
use Rattle.std.specs.FinMap.Entries.{below_all}
use Rattle.std.proofs.lemmas.Bool.{true≢false, or_parts}
use Rattle.std.proofs.lemmas.Cmp.{nat_list_cmp_total}
use Rattle.std.proofs.lemmas.List.{map-append}
use Rattle.std.proofs.lemmas.List.Elements.{All-nil, All-cons, All-head, All-tail, All-append, All-map}
use Rattle.fj_coeff.specs.Field.{Field, IsField}
use Rattle.fj_algebra.specs.Ring.{CommutativeRing}
use Rattle.fj_algebra.specs.Sum.{sum_over}
use Rattle.fj_algebra.proofs.Ring.{zero_add, add_zero, mul_zero}
use Rattle.fj_algebra.proofs.Sum.{sum_over-append, sum_over-map, sum_over-flat_map, sum_over-same, sum_over-zero, sum_over-mul}
use Rattle.fj_theory.specs.Exponents.{IsExponents, plus, minus, divides}
use Rattle.fj_theory.specs.Polynomial.{Polynomial, IsPolynomial, coefficient, support, sum, total_over, convolution, product}
use Rattle.fj_theory.proofs.Exponents.{IsExponents-plus, plus-minus, minus-plus, divides-plus}
use Rattle.fj_theory.proofs.Field.{Element, element, rank_element, field_ring, element_zero, element_add, element_mul, zero_below}
use Rattle.fj_theory.proofs.FormalSum.{same, same_true, same_itself, same_false, FormalSum, weigh, at_exponents, coefficient_in, IsAdditive, weigh_same}
use Rattle.fj_theory.proofs.Polynomial.{support_exponents, coefficient_below, All_same, coefficient-with_coefficients, IsPolynomial-with_coefficients, coefficient-sum}

-- Sums of equal terms.
pub sum_over_each : {A X : Type 0} (R : CommutativeRing A) (f g : X → A) (xs : List X) → All (λ x. f x ≡ g x) xs → sum_over R f xs ≡ sum_over R g xs
sum_over_each R f g [] all = refl
sum_over_each R f g (x ∷ xs) all = ap₂ R.add (All-head (λ y. f y ≡ g y) x xs all) (sum_over_each R f g xs (All-tail (λ y. f y ≡ g y) x xs all))

-- Entries in the order of std's maps.
is_lt-Less : (o : Ordering) → T (is_lt o) → o ≡ Less
is_lt-Less Less h = refl
is_lt-Less Equal h = absurd h
is_lt-Less Greater h = absurd h

pub T_left : (a b : Bool) → T (a && b) → T a
T_left true b h = tt
T_left false b h = absurd h

pub T_right : (a b : Bool) → T (a && b) → T b
T_right true b h = h
T_right false b h = absurd h

pub All_above : {X : Type 0} (x : List ℕ) (es : List (List ℕ × X)) → T (below_all (slice_cmp nat_cmp) x es)
    → All (λ e. slice_cmp nat_cmp x e.0 ≡ Less) es
All_above x [] h = All-nil (λ e. slice_cmp nat_cmp x e.0 ≡ Less)
All_above x (e ∷ es) h = All-cons (λ d. slice_cmp nat_cmp x d.0 ≡ Less) e es (is_lt-Less _ (T_left _ _ h)) (All_above x es (T_right _ _ h))

pub below_not_same : (x y : List ℕ) → slice_cmp nat_cmp x y ≡ Less → same x y ≡ false
below_not_same x y l = ap is_eq l

below_not_same_back : (x y : List ℕ) → slice_cmp nat_cmp x y ≡ Less → same y x ≡ false
below_not_same_back x y l = ap is_eq (nat_list_cmp_total.antisymm y x ∙ ap ordering_reverse l)

entries_found : {X : Type 0} (es : List (List ℕ × X)) → T (is_sorted (slice_cmp nat_cmp) es)
    → All (λ e. find (slice_cmp nat_cmp) e.0 es ≡ Some e.1) es
entries_found [] h = All-nil (λ e. find (slice_cmp nat_cmp) e.0 [] ≡ Some e.1)
entries_found {X} (e ∷ es) h =
    let above = All_above e.0 es (T_left _ _ h) in
    let rest = entries_found es (T_right _ _ h) in
    let Found : List ℕ × X → Type 0 = λ d. find (slice_cmp nat_cmp) d.0 (e ∷ es) ≡ Some d.1 in
    All-cons Found e es (ap (λ t. cond t (Some e.1) (find (slice_cmp nat_cmp) e.0 es)) (same_itself e.0))
    (λ k d g. ap (λ t. cond t (Some e.1) (find (slice_cmp nat_cmp) (get_or es k d).0 es)) (below_not_same_back e.0 (get_or es k d).0 (above k d g)) ∙ rest k d g)

-- Each entry is found, and its coefficient is the polynomial's there.
pub entries_get : (f : Polynomial) → All (λ e. get f e.0 ≡ Some e.1) (entries f)
entries_get f k d h = get-entries f (get_or (entries f) k d).0 ∙ entries_found (entries f) (entries_sorted f) k d h

pub entries_coefficients : (f : Polynomial) → All (λ e. coefficient f e.0 ≡ e.1) (entries f)
unfolding coefficient
entries_coefficients f k d h = ap (λ o. unwrap_or o 0) (entries_get f k d h)

module _ {F : Field} (L : IsField F) where
  abbrev pub K : CommutativeRing (Element F)
  K = field_ring L

  abbrev pub lift : List (List ℕ × ℕ) → FormalSum (Element F)
  lift es = map (λ e. (e.0, element L e.1)) es

  -- The terms of a polynomial, with coefficients in the ring K of the field.
  abbrev pub terms : Polynomial → FormalSum (Element F)
  terms f = lift (entries f)

  lift_above : (a : List ℕ) (es : List (List ℕ × ℕ)) → All (λ e. slice_cmp nat_cmp a e.0 ≡ Less) es → coefficient_in K (lift es) a ≡ K.zero
  lift_above a [] all = refl
  lift_above a (e ∷ es) all =
      ap (λ t. K.add (cond t (element L e.1) K.zero) (coefficient_in K (lift es) a)) (below_not_same a e.0 (All-head (λ d. slice_cmp nat_cmp a d.0 ≡ Less) e es all))
      ∙ zero_add K _ ∙ lift_above a es (All-tail (λ d. slice_cmp nat_cmp a d.0 ≡ Less) e es all)

  lift_coefficient : (a : List ℕ) (es : List (List ℕ × ℕ)) → T (is_sorted (slice_cmp nat_cmp) es)
      → coefficient_in K (lift es) a ≡ element L (unwrap_or (find (slice_cmp nat_cmp) a es) 0)
  lift_coefficient a [] h = sym (element_zero L)
  lift_coefficient a (e ∷ es) h = by (same a e.0) refl (lift_coefficient a es (T_right _ _ h))
    where
      by : (t : Bool) → same a e.0 ≡ t → coefficient_in K (lift es) a ≡ element L (unwrap_or (find (slice_cmp nat_cmp) a es) 0)
          → K.add (cond t (element L e.1) K.zero) (coefficient_in K (lift es) a) ≡ element L (unwrap_or (cond t (Some e.1) (find (slice_cmp nat_cmp) a es)) 0)
      by true s rec =
          ap (K.add (element L e.1)) (ap (coefficient_in K (lift es)) (same_true a e.0 s) ∙ lift_above e.0 es (All_above e.0 es (T_left _ _ h)))
          ∙ add_zero K _
      by false s rec = zero_add K _ ∙ rec

  -- The coefficients of the terms as a formal sum are the polynomial's.
  pub coefficient_in-terms : (f : Polynomial) (a : List ℕ) → coefficient_in K (terms f) a ≡ element L (coefficient f a)
  unfolding coefficient
  coefficient_in-terms f a = lift_coefficient a (entries f) (entries_sorted f) ∙ ap (λ o. element L (unwrap_or o 0)) (sym (get-entries f a))

  keys_lift : (es : List (List ℕ × ℕ)) → map (λ e. e.0) (lift es) ≡ map (λ e. e.0) es
  keys_lift [] = refl
  keys_lift (e ∷ es) = ap (λ ks. e.0 ∷ ks) (keys_lift es)

  pub terms_exponents : {f : Polynomial} → IsPolynomial F f → All (λ e. IsExponents e.0) (terms f)
  terms_exponents {f} P = All_from_keys (terms f) (subst (All IsExponents) (sym (keys_lift (entries f))) (support_exponents P))
    where
      All_from_keys : {X : Type 0} (es : List (List ℕ × X)) → All IsExponents (map (λ e. e.0) es) → All (λ e. IsExponents e.0) es
      All_from_keys [] all = All-nil (λ e. IsExponents e.0)
      All_from_keys (e ∷ es) all = All-cons (λ d. IsExponents d.0) e es (All-head IsExponents e.0 (map (λ d. d.0) es) all) (All_from_keys es (All-tail IsExponents e.0 (map (λ d. d.0) es) all))

-- The products of the terms of two formal sums.
pub pairs : {A : Type 0} → CommutativeRing A → FormalSum A → FormalSum A → FormalSum A
pairs R es fs = flat_map (λ e. map (λ d. (plus e.0 d.0, R.mul e.1 d.1)) fs) es

module _ {A B : Type 0} (R : CommutativeRing A) (S : CommutativeRing B) (w : List ℕ → A → B) where
  pub weigh-pairs : (es fs : FormalSum A) → weigh S w (pairs R es fs) ≡ sum_over S (λ e. sum_over S (λ d. w (plus e.0 d.0) (R.mul e.1 d.1)) fs) es
  unfolding pairs
  weigh-pairs es fs =
      sum_over-flat_map S (λ p. w p.0 p.1) (λ e. map (λ d. (plus e.0 d.0, R.mul e.1 d.1)) fs) es
      ∙ sum_over-same S _ _ (λ e. sum_over-map S (λ p. w p.0 p.1) (λ d. (plus e.0 d.0, R.mul e.1 d.1)) fs) es

abbrev pub exponents_of : {A : Type 0} → FormalSum A → List (List ℕ)
exponents_of es = map (λ e. e.0) es

exponents_of-row : {A : Type 0} (b : List ℕ) (f : A → A) (fs : FormalSum A)
    → exponents_of (map {B = List ℕ × A} (λ (d : List ℕ × A). (plus b d.0, f d.1)) fs) ≡ map (plus b) (exponents_of fs)
exponents_of-row b f [] = refl
exponents_of-row b f (d ∷ fs) = ap (λ ks. plus b d.0 ∷ ks) (exponents_of-row b f fs)

exponents_of-pairs : {A : Type 0} (R : CommutativeRing A) (es fs : FormalSum A)
    → exponents_of (pairs R es fs) ≡ flat_map (λ b. map (plus b) (exponents_of fs)) (exponents_of es)
unfolding pairs
exponents_of-pairs R [] fs = refl
exponents_of-pairs {A} R (e ∷ es) fs =
    map-append (λ (d : List ℕ × A). d.0) (map (λ (d : List ℕ × A). (plus e.0 d.0, R.mul e.1 d.1)) fs) (pairs R es fs)
    ∙ ap₂ ◌++◌ (exponents_of-row e.0 (R.mul e.1) fs) (exponents_of-pairs R es fs)

-- A formal sum has no coefficient where it has no term.
coefficient_in_outside : {A : Type 0} (R : CommutativeRing A) (es : FormalSum A) (a : List ℕ) → list_any (same a) (exponents_of es) ≡ false
    → coefficient_in R es a ≡ R.zero
coefficient_in_outside R [] a h = refl
coefficient_in_outside R (e ∷ es) a h =
    let parts = or_parts (same a e.0) _ h in
    ap (λ t. R.add (cond t e.1 R.zero) (coefficient_in R es a)) parts.0 ∙ zero_add R _ ∙ coefficient_in_outside R es a parts.1

-- The test of a term of the product is a test of the quotient.
same-plus : {a b c : List ℕ} → IsExponents a → IsExponents b → IsExponents c → divides b a ≡ true → same a (plus b c) ≡ same (minus a b) c
same-plus {a} {b} {c} A B C d = same_tests (same a (plus b c)) (same (minus a b) c) (same_true a (plus b c)) (same_true (minus a b) c) forth back
  where
    forth : a ≡ plus b c → same (minus a b) c ≡ true
    forth e = ap (λ x. same x c) (ap (λ x. minus x b) e ∙ minus-plus B C) ∙ same_itself c

    back : minus a b ≡ c → same a (plus b c) ≡ true
    back e = ap (same a) (ap (plus b) (sym e) ∙ plus-minus B A d) ∙ same_itself a

    same_tests : (s t : Bool) → (s ≡ true → a ≡ plus b c) → (t ≡ true → minus a b ≡ c) → (a ≡ plus b c → t ≡ true) → (minus a b ≡ c → s ≡ true)
        → s ≡ t
    same_tests true t p q f g = sym (f (p refl))
    same_tests false true p q f g = g (q refl)
    same_tests false false p q f g = refl

same-plus_not : (a : List ℕ) {b c : List ℕ} → IsExponents b → IsExponents c → divides b a ≡ false → same a (plus b c) ≡ false
same-plus_not a {b} {c} B C d = same_false a (plus b c) (λ e. true≢false (sym (divides-plus B C) ∙ ap (divides b) (sym e) ∙ d))

module _ {F : Field} (L : IsField F) where
  mul_cond : (t : Bool) (x y : Element F) → cond t ((K L).mul x y) (K L).zero ≡ (K L).mul x (cond t y (K L).zero)
  mul_cond true x y = refl
  mul_cond false x y = sym (mul_zero (K L) x)

  -- One term's part of the coefficient of a product.
  pub row_coefficient : {a b : List ℕ} (x : Element F) (fs : FormalSum (Element F)) → IsExponents a → IsExponents b → All (λ d. IsExponents d.0) fs
      → sum_over (K L) (λ d. at_exponents (K L) a (plus b d.0) ((K L).mul x d.1)) fs ≡ cond (divides b a) ((K L).mul x (coefficient_in (K L) fs (minus a b))) (K L).zero
  row_coefficient {a} {b} x fs A B all = by (divides b a) refl
    where
      by : (t : Bool) → divides b a ≡ t
          → sum_over (K L) (λ d. at_exponents (K L) a (plus b d.0) ((K L).mul x d.1)) fs ≡ cond t ((K L).mul x (coefficient_in (K L) fs (minus a b))) (K L).zero
      by true e =
          sum_over_each (K L) _ (λ d. (K L).mul x (at_exponents (K L) (minus a b) d.0 d.1)) fs
          (λ k d h. ap (λ t. cond t ((K L).mul x (get_or fs k d).1) (K L).zero) (same-plus A B (all k d h) e) ∙ mul_cond _ x _)
          ∙ sum_over-mul (K L) x (λ d. at_exponents (K L) (minus a b) d.0 d.1) fs
      by false e = sum_over_each (K L) _ (λ d. (K L).zero) fs (λ k d h. ap (λ t. cond t ((K L).mul x (get_or fs k d).1) (K L).zero) (same-plus_not a B (all k d h) e))
          ∙ sum_over-zero (K L) fs

  -- Sums of ranks in the field are sums in the ring.
  pub total_over_below : (c : List ℕ → ℕ) → ((b : List ℕ) → c b < F.size) → (xs : List (List ℕ)) → total_over F c xs < F.size
  unfolding total_over
  total_over_below c h [] = zero_below L
  total_over_below c h (x ∷ xs) = L.add_below (c x) (total_over F c xs) (h x) (total_over_below c h xs)

  pub element-total_over : (c : List ℕ → ℕ) → ((b : List ℕ) → c b < F.size) → (xs : List (List ℕ))
      → element L (total_over F c xs) ≡ sum_over (K L) (λ b. element L (c b)) xs
  unfolding total_over
  element-total_over c h [] = element_zero L
  element-total_over c h (x ∷ xs) = element_add L (c x) (total_over F c xs) (h x) (total_over_below c h xs)
      ∙ ap ((K L).add (element L (c x))) (element-total_over c h xs)

  element_cond : (t : Bool) (c d : ℕ) → c < F.size → d < F.size
      → element L (cond t (F.mul c d) 0) ≡ cond t ((K L).mul (element L c) (element L d)) (K L).zero
  element_cond true c d h g = element_mul L c d h g
  element_cond false c d h g = element_zero L

  cond_below : (t : Bool) (c d : ℕ) → c < F.size → d < F.size → cond t (F.mul c d) 0 < F.size
  cond_below true c d h g = L.mul_below c d h g
  cond_below false c d h g = zero_below L

  module _ {f g : Polynomial} (P : IsPolynomial F f) (Q : IsPolynomial F g) where
    at_most : (a b : List ℕ) → cond (divides b a) (F.mul (coefficient f b) (coefficient g (minus a b))) 0 < F.size
    at_most a b = cond_below (divides b a) _ _ (coefficient_below P (zero_below L) b) (coefficient_below Q (zero_below L) (minus a b))

    pub convolution_below : (a : List ℕ) → convolution F f g a < F.size
    unfolding convolution
    convolution_below a = total_over_below (λ b. cond (divides b a) (F.mul (coefficient f b) (coefficient g (minus a b))) 0) (at_most a) (support f)

    -- The coefficient of the formal product is the convolution.
    coefficient_in-pairs : {a : List ℕ} → IsExponents a
        → coefficient_in (K L) (pairs (K L) (terms L f) (terms L g)) a ≡ element L (convolution F f g a)
    unfolding convolution
    coefficient_in-pairs {a} A =
        weigh-pairs (K L) (K L) (at_exponents (K L) a) (terms L f) (terms L g)
        ∙ sum_over_each (K L) _ (λ e. cond (divides e.0 a) ((K L).mul e.1 (coefficient_in (K L) (terms L g) (minus a e.0))) (K L).zero) (terms L f)
        (λ k d h. row_coefficient (get_or (terms L f) k d).1 (terms L g) A (terms_exponents L P k d h) (terms_exponents L Q))
        ∙ sum_over-map (K L) _ (λ e. (e.0, element L e.1)) (entries f)
        ∙ sum_over_each (K L) _ (λ e. element L (cond (divides e.0 a) (F.mul (coefficient f e.0) (coefficient g (minus a e.0))) 0)) (entries f)
        (λ k d h. row k d h)
        ∙ sym (sum_over-map (K L) (λ b. element L (cond (divides b a) (F.mul (coefficient f b) (coefficient g (minus a b))) 0)) (λ e. e.0) (entries f))
        ∙ sym (element-total_over (λ b. cond (divides b a) (F.mul (coefficient f b) (coefficient g (minus a b))) 0) (at_most a) (support f))
      where
        row : (k : ℕ) (d : List ℕ × ℕ) → k < length (entries f) → let e = get_or (entries f) k d in
            cond (divides e.0 a) ((K L).mul (element L e.1) (coefficient_in (K L) (terms L g) (minus a e.0))) (K L).zero ≡ element L (cond (divides e.0 a) (F.mul (coefficient f e.0) (coefficient g (minus a e.0))) 0)
        row k d h =
            let e = get_or (entries f) k d in
            ap₂ (λ x y. cond (divides e.0 a) ((K L).mul x y) (K L).zero) (ap (element L) (sym (entries_coefficients f k d h))) (coefficient_in-terms L g (minus a e.0))
            ∙ sym (element_cond (divides e.0 a) _ _ (coefficient_below P (zero_below L) e.0) (coefficient_below Q (zero_below L) (minus a e.0)))

    product_exponents : All IsExponents (flat_map (λ b. map (plus b) (support g)) (support f))
    product_exponents = rows (support f) (support_exponents P)
      where
        row : (b : List ℕ) → IsExponents b → (cs : List (List ℕ)) → All IsExponents cs → All IsExponents (map (plus b) cs)
        row b B cs all = All-map IsExponents (plus b) cs (λ k d h. IsExponents-plus B (all k d h))

        rows : (bs : List (List ℕ)) → All IsExponents bs → All IsExponents (flat_map (λ b. map (plus b) (support g)) bs)
        rows [] all = All-nil IsExponents
        rows (b ∷ bs) all = All-append IsExponents (map (plus b) (support g)) _ (row b (All-head IsExponents b bs all) (support g) (support_exponents Q)) (rows bs (All-tail IsExponents b bs all))

    pub IsPolynomial-product : IsPolynomial F (product F f g)
    unfolding product
    IsPolynomial-product = IsPolynomial-with_coefficients (convolution F f g) _ product_exponents (λ k d h. convolution_below _)

    -- The coefficients of the product, as an element and as a rank.
    coefficient_in-product : (a : List ℕ) → element L (coefficient (product F f g) a) ≡ coefficient_in (K L) (pairs (K L) (terms L f) (terms L g)) a
    unfolding product
    coefficient_in-product a = ap (element L) (coefficient-with_coefficients (convolution F f g) a exponents) ∙ by (list_any (same a) exponents) refl
      where
        exponents : List (List ℕ)
        exponents = flat_map (λ b. map (plus b) (support g)) (support f)

        listed : exponents_of (pairs (K L) (terms L f) (terms L g)) ≡ exponents
        listed = exponents_of-pairs (K L) (terms L f) (terms L g)
            ∙ ap₂ (λ bs cs. flat_map (λ b. map (plus b) cs) bs) (keys_lift L (entries f)) (keys_lift L (entries g))

        by : (t : Bool) → list_any (same a) exponents ≡ t
            → element L (cond t (convolution F f g a) 0) ≡ coefficient_in (K L) (pairs (K L) (terms L f) (terms L g)) a
        by true e = sym (coefficient_in-pairs (All_same IsExponents exponents a product_exponents e))
        by false e = element_zero L ∙ sym (coefficient_in_outside (K L) (pairs (K L) (terms L f) (terms L g)) a (ap (list_any (same a)) listed ∙ e))

    pub coefficient-product : {a : List ℕ} → IsExponents a → coefficient (product F f g) a ≡ convolution F f g a
    coefficient-product {a} A =
        sym (rank_element L _ (coefficient_below IsPolynomial-product (zero_below L) a))
        ∙ ap (λ x. x.rank) (coefficient_in-product a ∙ coefficient_in-pairs A) ∙ rank_element L _ (convolution_below a)

    -- The weight of a product.
    pub weigh-product : {B : Type 0} {S : CommutativeRing B} {w : List ℕ → Element F → B} → IsAdditive (K L) S w
        → weigh S w (terms L (product F f g)) ≡ sum_over S (λ e. sum_over S (λ d. w (plus e.0 d.0) ((K L).mul e.1 d.1)) (terms L g)) (terms L f)
    weigh-product {S} {w} W =
        weigh_same W (terms L (product F f g)) (pairs (K L) (terms L f) (terms L g)) (λ a. coefficient_in-terms L (product F f g) a ∙ coefficient_in-product a)
        ∙ weigh-pairs (K L) S w (terms L f) (terms L g)

    pub weigh-sum : {B : Type 0} {S : CommutativeRing B} {w : List ℕ → Element F → B} → IsAdditive (K L) S w
        → weigh S w (terms L (sum F f g)) ≡ S.add (weigh S w (terms L f)) (weigh S w (terms L g))
    weigh-sum {S} {w} W =
        weigh_same W (terms L (sum F f g)) (terms L f ++ terms L g)
        (λ a. coefficient_in-terms L (sum F f g) a ∙ ap (element L) (coefficient-sum L f g a) ∙ element_add L _ _ (coefficient_below P (zero_below L) a) (coefficient_below Q (zero_below L) a)
        ∙ sym (sum_over-append (K L) (λ e. at_exponents (K L) a e.0 e.1) (terms L f) (terms L g) ∙ ap₂ (K L).add (coefficient_in-terms L f a) (coefficient_in-terms L g a)))
        ∙ sum_over-append S (λ e. w e.0 e.1) (terms L f) (terms L g)
