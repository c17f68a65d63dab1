-- The degree of a polynomial, and of a product.
use Rattle.std.proofs.Common.{◌≡◌, ℕ, zero, suc, ◌<◌, ◌≤◌, true, max, List, [], ◌∷◌, map, fold, All, Contains, Some, nat_cmp, Less, sym, ap, ◌∙◌, subst, arith, ⊎_elim, le_antisymm, None, Bool, ◌⊎◌, ◌+◌, ◌*◌, ◌≢◌, cond, inl, zero-mul, Option, inr, ap₂, false, refl, eq-zero-or-pos}
use Rattle.std.specs.FinMap.{len-empty, empty, entries, len-entries}
use Rattle.std.specs.List.{list_any, reduce}
use Rattle.std.specs.Ordering.{ordering_then}
use Rattle.std.specs.Cmp.Lexicographic.{slice_cmp}
use Rattle.std.proofs.lemmas.List.{nil_from_length}
use Rattle.std.proofs.lemmas.Option.{none-some, same_Some}
use Rattle.std.proofs.lemmas.Cmp.{eq_by_cmp_equiv, nat_list_cmp_total}
use Rattle.std.proofs.lemmas.Map.Made.{All-is_member, is_member-Decides}
use Rattle.std.proofs.lemmas.Bool.{cases_lt}
use Rattle.std.proofs.lemmas.Bool.Decides.{nat_tests}
use Rattle.std.proofs.lemmas.List.Elements.{All-nil, All-cons, All-head, All-tail, All-map, All-contains, All-weaker}
use Rattle.fj_coeff.specs.Field.{Field, IsField}
use Rattle.fj_algebra.specs.Polynomial as algebra_polynomial
use Rattle.fj_algebra.proofs.Leads.{lead_product}
use Rattle.fj_algebra.proofs.Polynomial.{lead_or_zero}
use Rattle.fj_theory.specs.Exponents.{IsExponents, total}
use Rattle.fj_theory.specs.MonomialOrder.{grlex_key}
use Rattle.fj_theory.specs.Polynomial.{coefficient, support, degree, Polynomial, term, IsPolynomial, power, product}
use Rattle.fj_theory.proofs.Exponents.{IsExponents-origin, total_origin, total-plus_exponents}
use Rattle.fj_theory.proofs.FormalSum.{same, same-Decides, same_true}
use Rattle.fj_theory.proofs.Polynomial.{support_found, support_listed, IsPolynomial-term, coefficient-term_same, coefficient-term}
use Rattle.fj_theory.proofs.Keys.{grlex_key-IsMonomialOrder}
use Rattle.fj_theory.proofs.OrderedPolynomials.{Exponents, ordered_polynomials, polynomials, scalars, coefficient_at, monomial_order, monomials, times}
use Rattle.fj_theory.proofs.PolynomialRing.{PolynomialOver, power_suc, map_mul, map_zero, power_zero, IsPolynomial-power}
use Rattle.fj_theory.proofs.Field.{rank_zero, one_below, element_equal}

-- The greatest number of a list.
fold_max_start : (x : ℕ) (xs : List ℕ) → x ≤ fold max x xs
fold_max_start x [] = omega arith
fold_max_start x (y ∷ xs) = omega (arith, fold_max_start (max x y) xs)

fold_max_larger : (x y : ℕ) (xs : List ℕ) → x ≤ y → fold max x xs ≤ fold max y xs
fold_max_larger x y [] h = h
fold_max_larger x y (z ∷ xs) h = fold_max_larger (max x z) (max y z) xs (omega arith)

fold_max_element : (x : ℕ) (xs : List ℕ) → All (λ y. y ≤ fold max x xs) xs
fold_max_element x [] = All-nil (λ y. y ≤ x)
fold_max_element x (y ∷ xs) = All-cons (λ z. z ≤ fold max (max x y) xs) y xs (omega (arith, fold_max_start (max x y) xs)) (fold_max_element (max x y) xs)

fold_max_bound : (n x : ℕ) (xs : List ℕ) → x ≤ n → All (λ y. y ≤ n) xs → fold max x xs ≤ n
fold_max_bound n x [] h all = h
fold_max_bound n x (y ∷ xs) h all = let g = All-head (λ y. y ≤ n) y xs all in fold_max_bound n (max x y) xs (omega arith) (All-tail (λ y. y ≤ n) y xs all)

reduce_max : (xs : List ℕ) (n : ℕ) → All (λ y. y ≤ n) xs → Contains xs n → reduce max xs ≡ Some n
reduce_max [] n all c = absurd (omega (arith, c.1))
reduce_max (x ∷ xs) n all c =
    ap Some (le_antisymm (fold_max_bound n x xs (All-head (λ y. y ≤ n) x xs all) (All-tail (λ y. y ≤ n) x xs all))
    (All-contains (λ y. y ≤ fold max x xs) (x ∷ xs) n (All-cons (λ y. y ≤ fold max x xs) x xs (fold_max_start x xs) (fold_max_element x xs)) c))

Contains-map : {X Y : Type 0} (f : X → Y) (xs : List X) (x : X) → Contains xs x → Contains (map f xs) (f x)
Contains-map f [] x c = absurd (omega (arith, c.1))
Contains-map f (y ∷ xs) x (zero, l, e) = (0, omega arith, ap f e)
Contains-map f (y ∷ xs) x (suc k, l, e) = let rest = Contains-map f xs x (k, omega arith, e) in (suc rest.0, omega (arith, rest.1), rest.2)

-- A smaller total is less in Grlex.
grlex_smaller : (a b : List ℕ) → total a < total b → slice_cmp nat_cmp (grlex_key a) (grlex_key b) ≡ Less
unfolding grlex_key
grlex_smaller a b h = first_less (total a) (total b) (slice_cmp nat_cmp a b) h
  where
    first_less : (x y : ℕ) (o : _) → x < y → ordering_then (nat_cmp x y) o ≡ Less
    first_less x y o h = grind (arith, nat_tests)

-- The degree is the greatest total of an exponent list with a coefficient.
pub degree_from : {F : Field} {f : Polynomial} → IsPolynomial F f → (a : List ℕ) → 0 < coefficient f a
    → ((b : List ℕ) → IsExponents b → 0 < coefficient f b → total b ≤ total a) → degree f ≡ Some (total a)
unfolding degree
degree_from {F} {f} Q a p most =
    reduce_max (map total (support f)) (total a)
    (All-map (λ n. n ≤ total a) total (support f) (All-weaker (λ b. list_any (same b) (support f) ≡ true) (λ b. total b ≤ total a)
    (λ b t. let found = support_found f b t in most b (Q.exponents b _ found) (Q.nonzero b _ found)) (support f)
    (All-is_member (eq_by_cmp_equiv nat_list_cmp_total) (support f))))
    (Contains-map total (support f) a ((is_member-Decides same-Decides (support f) a).0 (support_listed f a p)))

pub degree-empty : degree empty ≡ None
unfolding degree
degree-empty = ap (λ es. reduce max (map total (map (λ (e : List ℕ × ℕ). e.0) es))) (nil_from_length (entries empty) (sym (len-entries empty) ∙ len-empty (slice_cmp nat_cmp) ℕ))

pub degree-term : (F : Field) (c : ℕ) {a : List ℕ} → 0 < c → c < F.size → IsExponents a → degree (term c a) ≡ Some (total a)
degree-term F c {a} p h A =
    degree_from (IsPolynomial-term {F = F} c h A) a (subst (λ d. 0 < d) (sym (coefficient-term_same c a)) p)
    (λ b B g. by b (same b a) refl (subst (λ d. 0 < d) (coefficient-term c a b) g))
  where
    by : (b : List ℕ) (t : Bool) → same b a ≡ t → 0 < cond t c 0 → total b ≤ total a
    by b true e g = let f = ap total (same_true b a e) in omega arith
    by b false e g = absurd (omega arith)

module _ {F : Field} (L : IsField F) where
  -- a is the lead of f in Grlex.
  abbrev Lead : PolynomialOver F → Exponents → Type 0
  Lead f a = algebra_polynomial.IsLead (ordered_polynomials L grlex_key-IsMonomialOrder) f a

  module _ {f : PolynomialOver F} {a : Exponents} (lead : Lead f a) where
    lead_positive : 0 < coefficient f.map a.list
    unfolding ordered_polynomials polynomials scalars coefficient_at
    lead_positive = ⊎_elim (λ z. absurd (lead.nonzero (element_equal _ _ (z ∙ sym (rank_zero L))))) (λ p. p) (eq-zero-or-pos (coefficient f.map a.list))

    lead_total : (b : List ℕ) → IsExponents b → 0 < coefficient f.map b → total b ≤ total a.list
    unfolding ordered_polynomials polynomials scalars coefficient_at monomial_order
    lead_total b B h =
        ⊎_elim
        (λ g. let m : Exponents = record { list = b; is_exponents = B } in
        let z = ap (λ x. x.rank) (lead.top m (record { is_less = grlex_smaller a.list b g })) ∙ rank_zero L in absurd (omega arith))
        (λ g. g) (cases_lt (total a.list) (total b))

    degree-lead : degree f.map ≡ Some (total a.list)
    degree-lead = degree_from f.is_polynomial a.list lead_positive lead_total

  module _ {f : Polynomial} (Q : IsPolynomial F f) where
    own : PolynomialOver F
    own = record { map = f; is_polynomial = Q }

    lead_or_empty : (f ≡ empty) ⊎ ((a : Exponents) × Lead own a)
    unfolding ordered_polynomials polynomials own
    lead_or_empty = ⊎_elim (λ z. inl (ap (λ x. x.map) z ∙ map_zero L)) (λ h. inr h) (lead_or_zero (ordered_polynomials L grlex_key-IsMonomialOrder) own)

    degree_lead : (n : ℕ) → degree f ≡ Some n → (a : Exponents) × Lead own a × (total a.list ≡ n)
    unfolding own
    degree_lead n e = ⊎_elim (λ z. absurd (none-some n (sym degree-empty ∙ ap degree (sym z) ∙ e))) (λ h. (h.0, h.1, same_Some _ _ (sym (degree-lead h.1) ∙ e))) lead_or_empty

    -- No term has a total above the degree, and one has the degree as its total.
    pub degree_bounds : {n : ℕ} → degree f ≡ Some n → (b : List ℕ) → IsExponents b → 0 < coefficient f b → total b ≤ n
    unfolding own
    degree_bounds {n} e b B h = let lead = degree_lead n e in subst (λ m. total b ≤ m) lead.2 (lead_total lead.1 b B h)

    pub degree_attained : {n : ℕ} → degree f ≡ Some n → (a : List ℕ) × IsExponents a × (0 < coefficient f a) × (total a ≡ n)
    unfolding own
    degree_attained {n} e = let lead = degree_lead n e in ((lead.0).list, (lead.0).is_exponents, lead_positive lead.1, lead.2)

    pub empty_from_degree : degree f ≡ None → f ≡ empty
    unfolding own
    empty_from_degree e = ⊎_elim (λ z. z) (λ h. absurd (none-some _ (sym e ∙ degree-lead h.1))) lead_or_empty

  -- The degree of a product is the sum of the degrees.
  pub degree-product : {f g : Polynomial} → IsPolynomial F f → IsPolynomial F g → {m n : ℕ} → degree f ≡ Some m → degree g ≡ Some n
      → degree (product F f g) ≡ Some (m + n)
  unfolding own ordered_polynomials polynomials monomials times
  degree-product {f} {g} Q H {m} {n} d e =
      let a = degree_lead Q m d in
      let b = degree_lead H n e in
      ap degree (sym (map_mul L (own Q) (own H))) ∙ degree-lead (lead_product (ordered_polynomials L grlex_key-IsMonomialOrder) a.1 b.1)
      ∙ ap Some (total-plus_exponents (a.0).is_exponents (b.0).is_exponents ∙ ap₂ ◌+◌ a.2 b.2)

  pub degree-power : {f : Polynomial} → IsPolynomial F f → {n : ℕ} → degree f ≡ Some n → (k : ℕ) → degree (power F f k) ≡ Some (k * n)
  degree-power {f} Q {n} d zero = ap degree (power_zero L Q) ∙ degree-term F 1 (omega arith) (one_below L) IsExponents-origin
      ∙ ap Some (total_origin ∙ sym (zero-mul n))
  degree-power {f} Q {n} d (suc k) = ap degree (power_suc L Q k) ∙ degree-product Q (IsPolynomial-power L Q k) d (degree-power Q d k)
      ∙ ap Some (omega arith)

  -- A product is zero only where a factor is.
  pub product_nonzero : {f g : Polynomial} → IsPolynomial F f → IsPolynomial F g → f ≢ empty → g ≢ empty → product F f g ≢ empty
  product_nonzero {f} {g} Q H n m z = by (degree f) (degree g) refl refl
    where
      by : (o r : Option ℕ) → degree f ≡ o → degree g ≡ r → ⊥
      by None r d e = n (empty_from_degree Q d)
      by (Some a) None d e = m (empty_from_degree H e)
      by (Some a) (Some b) d e = none-some _ (sym degree-empty ∙ ap degree (sym z) ∙ degree-product Q H d e)
