-- Lists of terms changed term by term, and lists of terms cut in two.
use Rattle.std.proofs.Common.{◌≡◌, ◌≢◌, ℕ, Result, Ok, Err, IsOk, IsErr, take_all, drop, Option, Some, None, ◌+◌, ◌^◌, ◌<◌, ◌≤◌, List, [], ◌∷◌, ◌++◌, length, take, get_or, map, All, refl, sym, ap, ap₂, ◌∙◌, subst, arith}
use Rattle.std.proofs.lemmas.List.{length-map, get_or-map, map_push, take_more, map-append, take-append-drop}
use Rattle.std.proofs.lemmas.List.Elements.{All-nil, All-cons, All-head, All-tail}
use Rattle.std.proofs.Math.Nat.{pow-suc, pow-zero}
use Rattle.std.proofs.lemmas.Simd.{map-map}
use Rattle.std.specs.FinMap.{empty, get-from_entries}
use Rattle.std.proofs.lemmas.Cmp.{nat_list_cmp_total}
use Rattle.fj_coeff.specs.Field.{Field, IsField}
use Rattle.fj_coeff.specs.Field as field
use Rattle.fj_theory.specs.Exponents.{IsExponents, total, times, plus}
use Rattle.fj_theory.specs.MonomialOrder.{compare_by, IsMonomialOrder}
use Rattle.fj_theory.specs.Polynomial.{negation, Polynomial, IsPolynomial, IsTerm, IsFalling, coefficient, degree, terms_falling, term, sum, product, power}
use Rattle.fj_theory.proofs.Polynomial.{IsPolynomial-term, IsPolynomial-empty, get-coefficient}
use Rattle.fj_theory.proofs.PolynomialRing.{product_comm, product_empty, product_sum, IsPolynomial-power, IsPolynomial-negation}
use Rattle.fj_theory.proofs.Product.{IsPolynomial-product}
use Rattle.fj_theory.proofs.MonomialOrder.{compare_by-plus_left, compare_by-times}
use Rattle.fj_theory.proofs.Terms.{from_entries-terms_falling, falling_coefficients, find_All}
use Rattle.fj_theory.proofs.Degree.{degree_attained, empty_from_degree}
use Rattle.fj_theory.proofs.Frobenius.{power_positive}
use Rattle.fj_theory.proofs.TermMaps.{IsTermMap, changed, IsFalling-changed, terms_falling-changed, product_term-IsTermMap, frobenius-IsTermMap, negation-IsTermMap}
use Rattle.fj_poly.specs.Limit.{IsHigh}
use Rattle.fj_poly.specs.declared.poly.Term.{Term}
use Rattle.fj_poly.specs.Terms.{AreTerms, entry, entries}
use Rattle.fj_poly.proofs.Falling.{terms-front, terms-back, falling-front, falling-back}
use Rattle.fj_poly.proofs.Limits.{total_within, low_row, low_empty, low_degree}
use Rattle.fj_poly.proofs.Polynomials.{polynomial_of, each_term, IsPolynomial-polynomial_of, sum-append}
use Rattle.fj_poly.proofs.View.{terms_falling-polynomial_of}

-- A falling list of terms and its polynomial.
pub record Listed (F : Field) (key : List ℕ → List ℕ) (ts : List (List ℕ × ℕ)) (f : Polynomial) : Type 0 where
  pub falls : IsFalling key ts
  pub terms : AreTerms F ts
  pub value : polynomial_of ts ≡ f

pub terms_from_each : {F : Field} (ts : List (List ℕ × ℕ)) → All (IsTerm F) ts → AreTerms F ts
terms_from_each [] all = tt
terms_from_each {F} (t ∷ ts) all =
    let T = All-head (IsTerm F) t ts all in
    ((T.exponents.eight, T.nonzero, T.below), terms_from_each ts (All-tail (IsTerm F) t ts all))

module _ {F : Field} (L : IsField F) {key : List ℕ → List ℕ} (O : IsMonomialOrder key) {ts : List (List ℕ × ℕ)} {f : Polynomial} (own : Listed F key ts f) where
  listed_polynomial : IsPolynomial F f
  listed_polynomial = subst (IsPolynomial F) own.value (IsPolynomial-polynomial_of {F = F} ts own.terms)

  own_terms : terms_falling key f ≡ ts
  own_terms = ap (terms_falling key) (sym own.value) ∙ terms_falling-polynomial_of O F ts own.falls own.terms

  module _ {Φ : Polynomial → Polynomial} {u : ℕ → ℕ} {g : List ℕ → List ℕ} (M : IsTermMap F Φ u g)
      (order : (a b : List ℕ) → IsExponents a → IsExponents b → compare_by key (g a) (g b) ≡ compare_by key a b) (P : IsPolynomial F (Φ f)) where
    -- A map that takes terms to terms changes the list term by term.
    pub Listed-changed : Listed F key (map (changed u g) ts) (Φ f)
    Listed-changed = record {
      falls = IsFalling-changed L M O order ts (each_term {F = F} ts own.terms) own.falls;
      terms = terms_from_each _ (λ k d l.
          let within : k < length ts = omega (arith, length-map ts (changed u g)) in
          let at = get_or-map (changed u g) ts k (get_or ts k d) in
          subst (IsTerm F) (sym (get_or-map (changed u g) ts k d d within)) (M.keeps_terms _ (each_term {F = F} ts own.terms k d within)));
      value = ap polynomial_of (sym (terms_falling-changed L M O order listed_polynomial ∙ ap (map (changed u g)) own_terms)) ∙ from_entries-terms_falling O P;
    }

    -- Where no term of the image is high, none of the changed monomials passes the limit.
    pub changed_within : (IsHigh (Φ f) → ⊥) → (i : ℕ) (d : List ℕ × ℕ) → i < length ts → total (g (get_or ts i d).0) ≤ 2 ^ 40
    changed_within low i d l =
        let T = M.keeps_terms _ (each_term {F = F} ts own.terms i d l) in
        let image : List (List ℕ × ℕ) = map (changed u g) ts in
        let at : get_or image i d ≡ changed u g (get_or ts i d) = get_or-map (changed u g) ts i d d l in
        let found : coefficient (polynomial_of image) (get_or image i d).0 ≡ (get_or image i d).1 =
        falling_coefficients O image Listed-changed.falls i d (omega (arith, length-map ts (changed u g))) in
        let c : coefficient (Φ f) (changed u g (get_or ts i d)).0 ≡ (changed u g (get_or ts i d)).1 =
        subst (λ t. coefficient (Φ f) t.0 ≡ t.1) at (subst (λ h. coefficient h (get_or image i d).0 ≡ (get_or image i d).1) Listed-changed.value found) in
        total_within L P low _ T.exponents (subst (λ k. 0 < k) (sym c) T.nonzero)

-- One more element of a list is changed.
pub changed_more : {A B : Type 0} (f : A → B) (xs : List A) (out : List B) (i : ℕ) (x : A) → out ≡ map f (take i xs) → i < length xs → x ≡ get_or xs i x
    → out ++ f x ∷ [] ≡ map f (take (i + 1) xs)
changed_more f xs out i x before l at =
    ap (λ ys. ys ++ f x ∷ []) before ∙ sym (ap (map f) (take_more xs i x l ∙ ap (λ y. take i xs ++ y ∷ []) (sym at)) ∙ map_push f (take i xs) x)

-- An element of a list that is the same as another, changed.
pub at_item : {A B : Type 0} (f : A → B) (xs ys : List A) (i : ℕ) (x : A) → ys ≡ xs → i < length ys → x ≡ get_or ys i x → get_or (map f xs) i (f x) ≡ f x
at_item f xs ys i x e l at =
    get_or-map f xs i x (f x) (subst (λ zs. i < length zs) e l) ∙ ap f (ap (λ zs. get_or zs i x) (sym e) ∙ sym at)

-- All elements of a list are changed.
pub all_changed : {A B : Type 0} (f : A → B) (h : B → B) (out : List B) (xs ys : List A) (i : ℕ) → out ≡ map (λ t. h (f t)) (take i ys) → length ys ≤ i → ys ≡ xs
    → out ≡ map h (map f xs)
all_changed f h out xs ys i made all e = made ∙ ap (map (λ t. h (f t))) (take_all i ys all ∙ e) ∙ sym (map-map h f xs)

pub ok_from_not_err : {T E : Type 0} (r : Result T E) → (IsErr r → ⊥) → IsOk r
ok_from_not_err (Ok x) h = refl
ok_from_not_err (Err e) h = absurd (h refl)

-- The p-th power takes terms to terms.
frobenius_once : {F : Field} (L : IsField F) (p : ℕ) → p ≡ F.characteristic → IsTermMap F (λ f. power F f p) (λ c. field.power F c p) (times p)
frobenius_once {F} L p e =
    let q : F.characteristic ^ 1 ≡ p = pow-suc F.characteristic 0 ∙ (let one = pow-zero F.characteristic in rw one (omega arith)) ∙ sym e in
    subst (λ q. IsTermMap F (λ f. power F f q) (λ c. field.power F c q) (times q)) q (frobenius-IsTermMap L 1)

module _ {F : Field} (L : IsField F) {key : List ℕ → List ℕ} (O : IsMonomialOrder key) {ts : List (List ℕ × ℕ)} {f : Polynomial} (own : Listed F key ts f) where
  -- The product with a term, term by term.
  module _ (c : ℕ) {m : List ℕ} (nonzero : c ≢ 0) (small : c < F.size) (A : IsExponents m) where
    by_term : IsTermMap F (product F (term c m)) (F.mul c) (plus m)
    by_term = product_term-IsTermMap L c (omega arith) small A

    by_term_polynomial : IsPolynomial F (product F (term c m) f)
    by_term_polynomial = IsPolynomial-product L (IsPolynomial-term c small A) (listed_polynomial L O own)

    pub Listed-product : Listed F key (map (changed (F.mul c) (plus m)) ts) (product F (term c m) f)
    Listed-product = Listed-changed L O own by_term (λ a b B C. compare_by-plus_left O B C A) by_term_polynomial

    pub product_term_within : (IsHigh (product F (term c m) f) → ⊥) → (i : ℕ) (d : List ℕ × ℕ) → i < length ts → total (plus m (get_or ts i d).0) ≤ 2 ^ 40
    product_term_within low i d l = changed_within L O own by_term (λ a b B C. compare_by-plus_left O B C A) by_term_polynomial low i d l

  -- The negation, term by term.
  pub Listed-negation : Listed F key (map (changed F.neg (λ a. a)) ts) (negation F f)
  Listed-negation = Listed-changed L O own (negation-IsTermMap L) (λ a b A B. refl) (IsPolynomial-negation L (listed_polynomial L O own))

  -- Of a product that is not high no row is.
  pub rows_within : {g : Polynomial} → IsPolynomial F g → (IsHigh (product F f g) → ⊥) → All (λ t. IsHigh (product F (term t.1 t.0) g) → ⊥) ts
  rows_within Q low k d l =
      let T = each_term {F = F} ts own.terms k d l in
      low_row L (listed_polynomial L O own) Q low _ _ T.exponents T.nonzero T.below
      (subst (λ h. coefficient h (get_or ts k d).0 ≡ (get_or ts k d).1) own.value (falling_coefficients O ts own.falls k d l))

  -- The p-th power, term by term.
  module _ (p : ℕ) (e : p ≡ F.characteristic) where
    positive : 0 < p
    positive = subst (λ k. 0 < k) (pow-suc F.characteristic 0 ∙ (let one = pow-zero F.characteristic in rw one (omega arith)) ∙ sym e) (power_positive L 1)

    power_polynomial : IsPolynomial F (power F f p)
    power_polynomial = IsPolynomial-power L (listed_polynomial L O own) p

    pub Listed-frobenius : Listed F key (map (changed (λ c. field.power F c p) (times p)) ts) (power F f p)
    Listed-frobenius = Listed-changed L O own (frobenius_once L p e) (λ a b A B. compare_by-times O p positive A B) power_polynomial

    pub frobenius_within : (IsHigh (power F f p) → ⊥) → (i : ℕ) (d : List ℕ × ℕ) → i < length ts → total (times p (get_or ts i d).0) ≤ 2 ^ 40
    frobenius_within low i d l = changed_within L O own (frobenius_once L p e) (λ a b A B. compare_by-times O p positive A B) power_polynomial low i d l

module _ {F : Field} (L : IsField F) {g : Polynomial} (Q : IsPolynomial F g) where
  -- No term, no product.
  pub product-nil : product F (polynomial_of []) g ≡ empty
  product-nil = product_comm L (IsPolynomial-empty F) Q ∙ product_empty L Q

  -- The product with a list in two pieces is the sum of the products with the pieces.
  pub product-append : (key : List ℕ → List ℕ) (xs ys : List (List ℕ × ℕ)) → IsFalling key (xs ++ ys) → AreTerms F (xs ++ ys)
      → product F (polynomial_of (xs ++ ys)) g ≡ sum F (product F (polynomial_of xs) g) (product F (polynomial_of ys) g)
  product-append key xs ys falls terms =
      let X : IsPolynomial F (polynomial_of xs) = IsPolynomial-polynomial_of xs (terms-front F xs ys terms) in
      let Y : IsPolynomial F (polynomial_of ys) = IsPolynomial-polynomial_of ys (terms-back F xs ys terms) in
      product_comm L (IsPolynomial-polynomial_of (xs ++ ys) terms) Q
      ∙ ap (product F g) (sum-append L key xs ys falls terms)
      ∙ product_sum L Q X Y
      ∙ ap₂ (sum F) (product_comm L Q X) (product_comm L Q Y)

All_left : (P : List ℕ × ℕ → Type 0) (xs ys : List (List ℕ × ℕ)) → All P (xs ++ ys) → All P xs
All_left P [] ys all = All-nil P
All_left P (x ∷ xs) ys all = All-cons P x xs (All-head P x (xs ++ ys) all) (All_left P xs ys (All-tail P x (xs ++ ys) all))

All_right : (P : List ℕ × ℕ → Type 0) (xs ys : List (List ℕ × ℕ)) → All P (xs ++ ys) → All P ys
All_right P [] ys all = all
All_right P (x ∷ xs) ys all = All_right P xs ys (All-tail P x (xs ++ ys) all)

-- A falling list of terms, no product of which with a polynomial is high.
pub record Rows (F : Field) (key : List ℕ → List ℕ) (ts : List (List ℕ × ℕ)) (g : Polynomial) : Type 0 where
  pub falls : IsFalling key ts
  pub terms : AreTerms F ts
  pub within : All (λ t. IsHigh (product F (term t.1 t.0) g) → ⊥) ts

pub Rows-front : {F : Field} {key : List ℕ → List ℕ} {g : Polynomial} (xs ys : List (List ℕ × ℕ)) → Rows F key (xs ++ ys) g → Rows F key xs g
Rows-front {F} {key} {g} xs ys r = record { falls = falling-front key xs ys r.falls; terms = terms-front F xs ys r.terms; within = All_left (λ t. IsHigh (product F (term t.1 t.0) g) → ⊥) xs ys r.within }

pub Rows-back : {F : Field} {key : List ℕ → List ℕ} {g : Polynomial} (xs ys : List (List ℕ × ℕ)) → Rows F key (xs ++ ys) g → Rows F key ys g
Rows-back {F} {key} {g} xs ys r = record { falls = falling-back key xs ys r.falls; terms = terms-back F xs ys r.terms; within = All_right (λ t. IsHigh (product F (term t.1 t.0) g) → ⊥) xs ys r.within }

-- A list that is cut in two.
pub cut : {A B : Type 0} (f : A → B) (xs front back : List A) (n : ℕ) → front ≡ take n xs → back ≡ drop n xs → map f front ++ map f back ≡ map f xs
cut f xs front back n e h = sym (map-append f front back) ∙ ap (map f) (ap₂ (λ a b. a ++ b) e h ∙ take-append-drop n xs)

-- The terms of a list whose monomials are within the limit.
pub entries_within : {K : Type 0} (rank : K → ℕ) (ts : List (Term K)) → All (λ t. total t.0 ≤ 2 ^ 40) (entries rank ts)
entries_within rank [] = All-nil (λ t. total t.0 ≤ 2 ^ 40)
entries_within rank (t ∷ ts) = All-cons (λ t. total t.0 ≤ 2 ^ 40) (entry rank t) (entries rank ts) t.monomial.bounded (entries_within rank ts)

-- The polynomial of such a list is not high.
pub low_list : {F : Field} (L : IsField F) (ts : List (List ℕ × ℕ)) → AreTerms F ts → All (λ t. total t.0 ≤ 2 ^ 40) ts → IsHigh (polynomial_of ts) → ⊥
low_list {F} L ts terms within = by (degree (polynomial_of ts)) refl
  where
    P : IsPolynomial F (polynomial_of ts)
    P = IsPolynomial-polynomial_of ts terms

    by : (o : Option ℕ) → degree (polynomial_of ts) ≡ o → IsHigh (polynomial_of ts) → ⊥
    by None d = low_empty (empty_from_degree L P d)
    by (Some n) d =
        let top = degree_attained L P d in
        let at = find_All (λ t. total t.0 ≤ 2 ^ 40) ts top.0 _ within (sym (get-from_entries nat_list_cmp_total ts top.0) ∙ get-coefficient (polynomial_of ts) top.0 top.2) in
        low_degree (polynomial_of ts) d (omega (arith, top.3, at))

-- A list of one element.
pub single : {A : Type 0} (xs : List A) (x : A) → 0 < length xs → length xs < 2 → x ≡ get_or xs 0 x → xs ≡ x ∷ []
single [] x some few e = absurd (omega arith)
single (y ∷ []) x some few e = ap (λ z. z ∷ []) (sym e)
single (y ∷ z ∷ xs) x some few e = absurd (omega arith)
