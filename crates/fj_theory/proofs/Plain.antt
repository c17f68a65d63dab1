-- Plain polynomials as polynomials over GF(p), and the terms of a multiple of a p^e-th power.
use Rattle.std.proofs.Common.{◌≡◌, ◌≢◌, ℕ, zero, suc, ◌+◌, ◌*◌, ◌%◌, ◌^◌, ◌<◌, ◌≤◌, ◌==◌, Bool, true, false, cond, List, [], ◌∷◌, ◌++◌, length, map, drop, flat_map, get_or, nat_cmp, lit<, All, AllPairs, Contains, Some, unwrap_or, refl, sym, ap, ◌∙◌, subst, arith, add-one, pow-suc, slice_get}
use Rattle.std.specs.Cmp.Lexicographic.{slice_cmp}
use Rattle.std.specs.FinMap.{get, insert, empty, entries, from_entries, get-empty, get-insert, get-from_entries}
use Rattle.std.proofs.Math.Nat.{pow-zero}
use Rattle.std.proofs.Math.Seq.{drop-cons}
use Rattle.std.proofs.lemmas.Cmp.{nat_list_cmp_total}
use Rattle.std.proofs.lemmas.List.Sums.{get_or-le-sum_by}
use Rattle.std.proofs.lemmas.Option.{none-some, slice_get_within, get_or_from_slice_get}
use Rattle.std.proofs.lemmas.List.Elements.{All-head, All-tail, All-drop, All-append, All-map, All-weaker}
use Rattle.fj_algebra.proofs.Lists.{All-flat_map, All-map_back}
use Rattle.fj_coeff.specs.Field as field
use Rattle.fj_coeff.specs.Field.{Field, IsField, primes}
use Rattle.fj_coeff.specs.PrimeField.{prime_field}
use Rattle.fj_coeff.specs.PrimeFieldLaws.{IsField-prime_field}
use Rattle.fj_algebra.specs.Power as ring
use Rattle.fj_algebra.proofs.Power.{power-1, power-power}
use Rattle.fj_theory.specs.Exponents.{IsExponents, plus, times, total}
use Rattle.fj_theory.specs.Polynomial.{Polynomial, IsPolynomial, IsTerm, coefficient, support, with_coefficients, convolution, sum, product, power, term}
use Rattle.fj_theory.specs.Plain.{PlainPolynomial, polynomial, HasRanksBelow, rising_terms, plain_sum, plain_product}
use Rattle.fj_theory.proofs.Exponents.{IsExponents-plus, IsExponents-times, total-plus}
use Rattle.fj_theory.proofs.Field.{Element, element_equal, field_ring}
use Rattle.fj_theory.proofs.FormalSum.{same, same_true, same_false}
use Rattle.fj_theory.proofs.Polynomial.{IsPolynomial-term, IsPolynomial-sum}
use Rattle.fj_theory.proofs.PolynomialRing.{IsPolynomial-power, sum_assoc, product_sum, product_empty}
use Rattle.fj_theory.proofs.Product.{entries_get, IsPolynomial-product}
use Rattle.fj_theory.proofs.Monomial.{rank_power, product_terms, power_term, from_entries-cons}
use Rattle.fj_theory.proofs.Frobenius.{power_sum, power_empty}
use Rattle.fj_theory.proofs.Terms.{Apart, find_none, find_All, coefficient-from_entries, IsPolynomial-from_entries}

-- No two terms have the same exponents.
pub Apart-from_distinct : (ts : List (List ℕ × ℕ)) → AllPairs (λ s t. s.0 ≢ t.0) ts → Apart ts
Apart-from_distinct [] distinct = tt
Apart-from_distinct (t ∷ ts) distinct = (
  λ k d h. same_false t.0 (get_or ts k d).0 (distinct 0 (suc k) d (omega arith) (omega arith)),
  Apart-from_distinct ts (λ i j d h g. distinct (suc i) (suc j) d (omega arith) (omega arith)),
)

pub Apart-drop : (n : ℕ) (ts : List (List ℕ × ℕ)) → Apart ts → Apart (drop n ts)
Apart-drop zero ts h = h
Apart-drop (suc n) [] h = tt
Apart-drop (suc n) (t ∷ ts) h = Apart-drop n ts h.1

-- A term times the p^e-th power of the polynomial with these terms.
abbrev pub multiple : (p e c : ℕ) → List ℕ → List (List ℕ × ℕ) → Polynomial
multiple p e c a ts = product (prime_field p) (term c a) (power (prime_field p) (from_entries ts) (p ^ e))

module _ {p : ℕ} (prime : Contains primes p) where
  F : Field
  F = prime_field p

  L : IsField (prime_field p)
  L = IsField-prime_field p prime

  pub IsTerm-plain : (f : PlainPolynomial) → HasRanksBelow p f → All (IsTerm (prime_field p)) f.terms
  IsTerm-plain f ranks k d h = record { exponents = f.plain.exponents k d h; nonzero = f.plain.nonzero k d h; below = ranks.below k d h }

  -- A plain polynomial with ranks below p is a polynomial over GF(p).
  pub IsPolynomial-polynomial : (f : PlainPolynomial) → HasRanksBelow p f → IsPolynomial (prime_field p) (polynomial f)
  IsPolynomial-polynomial f ranks = IsPolynomial-from_entries f.terms (IsTerm-plain f ranks)

  -- Each element of GF(p) is its own p^e-th power.
  power_rank_at : (x : Element (prime_field p)) (e : ℕ) → ring.power (field_ring L) x (p ^ e) ≡ x
  power_rank_at x zero = ap (ring.power (field_ring L) x) (pow-zero p) ∙ power-1 (field_ring L) x
  power_rank_at x (suc e) =
      ap (ring.power (field_ring L) x) (pow-suc p e) ∙ sym (power-power (field_ring L) x (p ^ e) p) ∙ ap (λ y. ring.power (field_ring L) y p) (power_rank_at x e)
      ∙ element_equal _ _ (rank_power L x p ∙ L.power_root x.rank x.below)

  pub power_rank : (c e : ℕ) → c < p → field.power (prime_field p) c (p ^ e) ≡ c
  power_rank c e h =
      let x : Element (prime_field p) = record { rank = c; below = h } in
      sym (rank_power L x (p ^ e)) ∙ ap (λ y. y.rank) (power_rank_at x e)

  module _ (e c : ℕ) {a : List ℕ} (h : c < p) (A : IsExponents a) where
    pub multiple-nil : multiple p e c a [] ≡ empty
    multiple-nil = ap (product (prime_field p) (term c a)) (power_empty L e) ∙ product_empty L (IsPolynomial-term c h A)

    multiple-cons : (t : List ℕ × ℕ) (ts : List (List ℕ × ℕ)) → All (IsTerm (prime_field p)) (t ∷ ts) → Apart (t ∷ ts)
        → multiple p e c a (t ∷ ts) ≡ sum (prime_field p) (term (c * t.1 % p) (plus a (times (p ^ e) t.0))) (multiple p e c a ts)
    multiple-cons t ts all apart =
        let B = All-head (IsTerm (prime_field p)) t ts all in
        let later = All-tail (IsTerm (prime_field p)) t ts all in
        let Q = IsPolynomial-from_entries ts later in
        let M = IsPolynomial-term t.1 B.below B.exponents in
        let new : coefficient (from_entries ts) t.0 ≡ 0 = coefficient-from_entries ts t.0 ∙ ap (λ o. unwrap_or o 0) (find_none t.0 ts apart.0) in
        ap (λ f. product (prime_field p) (term c a) (power (prime_field p) f (p ^ e))) (from_entries-cons L t ts B later new)
        ∙ ap (product (prime_field p) (term c a)) (power_sum L M Q e)
        ∙ product_sum L (IsPolynomial-term c h A) (IsPolynomial-power L M (p ^ e)) (IsPolynomial-power L Q (p ^ e))
        ∙ ap (λ f. sum (prime_field p) f (multiple p e c a ts))
        (ap (product (prime_field p) (term c a)) (power_term L t.1 B.below B.exponents (p ^ e) ∙ ap (λ k. term k (times (p ^ e) t.0)) (power_rank t.1 e B.below))
        ∙ product_terms L c t.1 h B.below A (IsExponents-times (p ^ e) B.exponents))

    -- The multiple of the terms from place i on is the multiple of the term there plus that of the later terms.
    pub multiple-drop : (f : PlainPolynomial) → HasRanksBelow p f → (i : ℕ) (d : List ℕ × ℕ) → i < length f.terms
        → let t = get_or f.terms i d in multiple p e c a (drop i f.terms) ≡ sum (prime_field p) (term (c * t.1 % p) (plus a (times (p ^ e) t.0))) (multiple p e c a (drop (suc i) f.terms))
    multiple-drop f ranks i d l =
        let cut = drop-cons f.terms i d l in
        ap (multiple p e c a) cut
        ∙ multiple-cons (get_or f.terms i d) (drop (suc i) f.terms) (subst (All (IsTerm (prime_field p))) cut (All-drop (IsTerm (prime_field p)) i f.terms (IsTerm-plain f ranks)))
        (subst Apart cut (Apart-drop i f.terms (Apart-from_distinct f.terms f.plain.distinct)))

    pub IsPolynomial-multiple : (ts : List (List ℕ × ℕ)) → All (IsTerm (prime_field p)) ts → IsPolynomial (prime_field p) (multiple p e c a ts)
    IsPolynomial-multiple ts all = IsPolynomial-product L (IsPolynomial-term c h A) (IsPolynomial-power L (IsPolynomial-from_entries ts all) (p ^ e))

    -- One term more of a multiple is added.
    pub multiple_more : (f : PlainPolynomial) → HasRanksBelow p f → (i : ℕ) (t : List ℕ × ℕ) → slice_get f.terms i ≡ Some t → (old new whole : Polynomial) → IsPolynomial (prime_field p) old
        → sum (prime_field p) old (multiple p e c a (drop i f.terms)) ≡ whole
        → new ≡ sum (prime_field p) old (term (c * t.1 % p) (plus a (times (p ^ e) t.0)))
        → IsPolynomial (prime_field p) new × (sum (prime_field p) new (multiple p e c a (drop (i + 1) f.terms)) ≡ whole)
    multiple_more f ranks i t found old new whole P before is =
        let within : i < length f.terms = slice_get_within f.terms i t found in
        let here : get_or f.terms i t ≡ t = get_or_from_slice_get f.terms i t t found in
        let B : IsTerm (prime_field p) t = subst (IsTerm (prime_field p)) here (IsTerm-plain f ranks i t within) in
        let one : Polynomial = term (c * t.1 % p) (plus a (times (p ^ e) t.0)) in
        let O : IsPolynomial (prime_field p) one = IsPolynomial-term (c * t.1 % p) (L.mul_below c t.1 h B.below) (IsExponents-plus A (IsExponents-times (p ^ e) B.exponents)) in
        let M : IsPolynomial (prime_field p) (multiple p e c a (drop (suc i) f.terms)) = IsPolynomial-multiple (drop (suc i) f.terms) (All-drop (IsTerm (prime_field p)) (suc i) f.terms (IsTerm-plain f ranks)) in
        let now : IsPolynomial (prime_field p) new = subst (IsPolynomial (prime_field p)) (sym is) (IsPolynomial-sum L P O) in (
          now,
          ap (λ n. sum (prime_field p) new (multiple p e c a (drop n f.terms))) (add-one i)
              ∙ ap (λ g. sum (prime_field p) g (multiple p e c a (drop (suc i) f.terms))) is
              ∙ sum_assoc L P O M
              ∙ ap (sum (prime_field p) old) (sym (multiple-drop f ranks i t within ∙ ap (λ u. sum (prime_field p) (term (c * u.1 % p) (plus a (times (p ^ e) u.0))) (multiple p e c a (drop (suc i) f.terms))) here))
              ∙ before,
        )

-- The rank of a term that is found.
pub rank_below_at : {p : ℕ} (f : PlainPolynomial) → HasRanksBelow p f → (i : ℕ) (t : List ℕ × ℕ) → slice_get f.terms i ≡ Some t → t.1 < p
rank_below_at {p} f ranks i t found = subst (λ u. u.1 < p) (get_or_from_slice_get f.terms i t t found) (ranks.below i t (slice_get_within f.terms i t found))

-- What holds of the exponents of a list holds of those that `with_coefficients` keeps.
within-with_coefficients : (P : List ℕ → Type 0) (c : List ℕ → ℕ) (bs : List (List ℕ)) → All P bs → (a : List ℕ) (d : ℕ) → get (with_coefficients c bs) a ≡ Some d → P a
unfolding with_coefficients
within-with_coefficients P c [] all a d e = absurd (none-some d (sym (get-empty (slice_cmp nat_cmp) a) ∙ e))
within-with_coefficients P c (b ∷ bs) all a d e = by (c b == 0) (within-with_coefficients P c bs (All-tail P b bs all) a d) e
  where
    found : (t : Bool) → same a b ≡ t → (get (with_coefficients c bs) a ≡ Some d → P a) → cond t (Some (c b)) (get (with_coefficients c bs) a) ≡ Some d → P a
    found true s later e = subst P (sym (same_true a b s)) (All-head P b bs all)
    found false s later e = later e

    by : (r : Bool) → (get (with_coefficients c bs) a ≡ Some d → P a) → get (cond r (with_coefficients c bs) (insert (with_coefficients c bs) b (c b))) a ≡ Some d → P a
    by true later e = later e
    by false later e = found (same a b) refl later (sym (get-insert nat_list_cmp_total (with_coefficients c bs) b (c b) a) ∙ e)

module _ (P : List ℕ → Type 0) where
  -- All exponents of a polynomial.
  abbrev pub AllWithin : Polynomial → Type 0
  AllWithin f = All P (support f)

  within-terms : (f : Polynomial) → ((a : List ℕ) (d : ℕ) → get f a ≡ Some d → P a) → AllWithin f
  within-terms f each = All-map P (λ e. e.0) (entries f) (λ k d h. each _ _ (entries_get f k d h))

  pub within-from_entries : (ts : List (List ℕ × ℕ)) → All (λ t. P t.0) ts → AllWithin (from_entries ts)
  within-from_entries ts all = within-terms (from_entries ts) (λ a d e. find_All (λ t. P t.0) ts a d all (sym (get-from_entries nat_list_cmp_total ts a) ∙ e))

  -- What holds of the exponents of two polynomials holds of those of their sum.
  pub within-sum : (F : Field) (f g : Polynomial) → AllWithin f → AllWithin g → AllWithin (sum F f g)
  unfolding sum
  within-sum F f g all others =
      within-terms (sum F f g) (within-with_coefficients P (λ a. F.add (coefficient f a) (coefficient g a)) (support f ++ support g) (All-append P (support f) (support g) all others))

  -- The exponents of a product are sums of exponents.
  pub within-product : (F : Field) (f g : Polynomial) → All (λ b. All (λ c. P (plus b c)) (support g)) (support f) → AllWithin (product F f g)
  unfolding product
  within-product F f g all =
      within-terms (product F f g) (within-with_coefficients P (convolution F f g) (flat_map (λ b. map (plus b) (support g)) (support f))
      (All-flat_map P (λ b. map (plus b) (support g)) (support f) (All-weaker (λ b. All (λ c. P (plus b c)) (support g)) (λ b. All P (map (plus b) (support g))) (λ b each. All-map P (plus b) (support g) each) (support f) all)))

-- Eight exponents with a total of at most n.
record HasTotal (n : ℕ) (a : List ℕ) : Type 0 where
  eight : IsExponents a
  bounded : total a ≤ n

entries_from_total : (n : ℕ) (a : List ℕ) → total a ≤ n → n < 2 ^ 64 → All (λ k. k < 2 ^ 64) a
entries_from_total n a bound fits k d h = let one = get_or-le-sum_by (λ x. x) a k d h in omega arith

fits_entries : (n : ℕ) (f : Polynomial) → n < 2 ^ 64 → AllWithin (λ a. total a ≤ n) f → All (λ t. All (λ k. k < 2 ^ 64) t.0) (rising_terms f)
fits_entries n f fits all = All-map_back (λ a. All (λ k. k < 2 ^ 64) a) (λ (t : List ℕ × ℕ). t.0) (entries f) (All-weaker (λ a. total a ≤ n) (λ a. All (λ k. k < 2 ^ 64) a) (λ a bound. entries_from_total n a bound fits) (support f) all)

-- The exponents of a sum and of a product of two plain polynomials fit a machine word.
pub plain_sum_fits : (p : ℕ) (f g : PlainPolynomial) → All (λ t. All (λ k. k < 2 ^ 64) t.0) (plain_sum p f g)
plain_sum_fits p f g =
    fits_entries (2 ^ 41) (sum (prime_field p) (polynomial f) (polynomial g)) (lit< tt)
    (within-sum (λ a. total a ≤ 2 ^ 41) (prime_field p) (polynomial f) (polynomial g)
    (within-from_entries (λ a. total a ≤ 2 ^ 41) f.terms f.plain.bounded) (within-from_entries (λ a. total a ≤ 2 ^ 41) g.terms g.plain.bounded))

pub plain_product_fits : (p : ℕ) (f g : PlainPolynomial) → All (λ t. All (λ k. k < 2 ^ 64) t.0) (plain_product p f g)
plain_product_fits p f g =
    fits_entries (2 ^ 42) (product (prime_field p) (polynomial f) (polynomial g)) (lit< tt)
    (within-product (λ a. total a ≤ 2 ^ 42) (prime_field p) (polynomial f) (polynomial g)
    (All-weaker (HasTotal (2 ^ 41)) (λ b. All (λ c. total (plus b c) ≤ 2 ^ 42) (support (polynomial g)))
    (λ b B. All-weaker (HasTotal (2 ^ 41)) (λ c. total (plus b c) ≤ 2 ^ 42)
    (λ c C. let e = total-plus b c (B.eight.eight ∙ sym C.eight.eight) in let x = B.bounded in let y = C.bounded in omega arith) (support (polynomial g)) (each g))
    (support (polynomial f)) (each f)))
  where
    each : (h : PlainPolynomial) → All (HasTotal (2 ^ 41)) (support (polynomial h))
    each h = within-from_entries (HasTotal (2 ^ 41)) h.terms (λ k d l. record { eight = h.plain.exponents k d l; bounded = h.plain.bounded k d l })
