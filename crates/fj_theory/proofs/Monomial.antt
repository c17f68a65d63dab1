-- Products, powers and sums of terms, and induction on polynomials by their terms.
use Rattle.std.proofs.Common.{◌≡◌, ℕ, zero, suc, ◌<◌, Bool, true, false, cond, List, [], ◌∷◌, All, unwrap_or, refl, sym, ap, ap₂, ◌∙◌, subst}
use Rattle.std.specs.FinMap.{empty, entries, entries_sorted, from_entries}
use Rattle.std.proofs.lemmas.List.Elements.{All-cons, All-head, All-tail}
use Rattle.fj_coeff.specs.Field.{Field, IsField}
use Rattle.fj_coeff.specs.Field as field
use Rattle.fj_algebra.specs.Power as ring
use Rattle.fj_algebra.specs.Sum.{sum_over}
use Rattle.fj_theory.specs.Exponents.{IsExponents, plus, minus, times, divides}
use Rattle.fj_theory.specs.Polynomial.{Polynomial, IsPolynomial, IsTerm, coefficient, term, sum, product, power}
use Rattle.fj_theory.proofs.Exponents.{IsExponents-plus, IsExponents-times, minus-plus, divides-plus, times_zero, times_suc}
use Rattle.fj_theory.proofs.Field.{Element, element_equal, element, rank_element, field_ring, element_zero, element_mul, zero_below, rank_zero, rank_one, rank_mul, rank_add}
use Rattle.fj_theory.proofs.FormalSum.{same, same_true, at_exponents, IsAdditive, at_exponents-IsAdditive}
use Rattle.fj_theory.proofs.Polynomial.{polynomial_equal, coefficient_below, coefficient-empty, coefficient-term, coefficient-sum, IsPolynomial-empty, IsPolynomial-term, IsPolynomial-sum}
use Rattle.fj_theory.proofs.Product.{K, terms, coefficient_in-terms, terms_exponents, IsPolynomial-product, weigh-product, row_coefficient}
use Rattle.fj_theory.proofs.PolynomialRing.{from_terms, weigh-term, meets, meets_right-IsAdditive, meets_left-IsAdditive}
use Rattle.fj_theory.proofs.Terms.{coefficient-from_entries, coefficient-from_entries_cons, Apart, Apart-from_sorted, find_none, IsPolynomial-from_entries, IsTerm-entries, from_entries-entries}

-- Powers and multiples in the field are those in the ring of its elements.
module _ {F : Field} (L : IsField F) where
  pub rank_power : (x : Element F) (k : ℕ) → (ring.power (field_ring L) x k).rank ≡ field.power F x.rank k
  unfolding ring.power field.power
  rank_power x zero = rank_one L
  rank_power x (suc k) = rank_mul L x (ring.power (field_ring L) x k) ∙ ap (F.mul x.rank) (rank_power x k)

  pub rank_multiple : (x : Element F) (k : ℕ) → (ring.multiple (field_ring L) k x).rank ≡ field.multiple F k x.rank
  unfolding ring.multiple field.multiple
  rank_multiple x zero = rank_zero L
  rank_multiple x (suc k) = rank_add L x (ring.multiple (field_ring L) k x) ∙ ap (F.add x.rank) (rank_multiple x k)

  pub power_below : (c k : ℕ) → c < F.size → field.power F c k < F.size
  power_below c k h = subst (λ d. d < F.size) (rank_power x k) (ring.power (field_ring L) x k).below
    where
      x : Element F
      x = record { rank = c; below = h }

  pub multiple_below : (c k : ℕ) → c < F.size → field.multiple F k c < F.size
  multiple_below c k h = subst (λ d. d < F.size) (rank_multiple x k) (ring.multiple (field_ring L) k x).below
    where
      x : Element F
      x = record { rank = c; below = h }

  pub element_power : (c k : ℕ) → c < F.size → element L (field.power F c k) ≡ ring.power (field_ring L) (element L c) k
  element_power c k h = element_equal _ _ (rank_element L _ (power_below c k h) ∙ sym (rank_power (element L c) k ∙ ap (λ d. field.power F d k) (rank_element L c h)))

  -- A term with coefficient zero is zero.
  pub term_zero : {a : List ℕ} → IsExponents a → term 0 a ≡ empty
  term_zero {a} A = polynomial_equal (IsPolynomial-term 0 (zero_below L) A) (IsPolynomial-empty F) (λ b B. coefficient-term 0 a b ∙ by (same b a) ∙ sym (coefficient-empty b))
    where
      by : (t : Bool) → cond {A = ℕ} t 0 0 ≡ 0
      by true = refl
      by false = refl

  -- Terms at one exponent list add up.
  pub sum_terms : (c d : ℕ) {a : List ℕ} → c < F.size → d < F.size → IsExponents a → sum F (term c a) (term d a) ≡ term (F.add c d) a
  sum_terms c d {a} h g A = polynomial_equal (IsPolynomial-sum L (IsPolynomial-term c h A) (IsPolynomial-term d g A)) (IsPolynomial-term (F.add c d) (L.add_below c d h g) A)
      (λ b B. coefficient-sum L (term c a) (term d a) b ∙ ap₂ F.add (coefficient-term c a b) (coefficient-term d a b) ∙ by (same b a) ∙ sym (coefficient-term (F.add c d) a b))
    where
      by : (t : Bool) → F.add (cond t c 0) (cond t d 0) ≡ cond t (F.add c d) 0
      by true = refl
      by false = L.add_zero 0 (zero_below L)

  -- The product of two terms.
  pub product_terms : (c d : ℕ) {a b : List ℕ} → c < F.size → d < F.size → IsExponents a → IsExponents b
      → product F (term c a) (term d b) ≡ term (F.mul c d) (plus a b)
  product_terms c d {a} {b} h g A B =
      from_terms L (IsPolynomial-product L P Q) (IsPolynomial-term (F.mul c d) (L.mul_below c d h g) (IsExponents-plus A B))
      (λ x. weigh-product L P Q (at_exponents-IsAdditive (K L) x) ∙ weigh-term L (left x) c a ∙ weigh-term L (right x) d b
      ∙ ap (at_exponents (K L) x (plus a b)) (sym (element_mul L c d h g))
      ∙ sym (weigh-term L (at_exponents-IsAdditive (K L) x) (F.mul c d) (plus a b)))
    where
      P : IsPolynomial F (term c a)
      P = IsPolynomial-term c h A

      Q : IsPolynomial F (term d b)
      Q = IsPolynomial-term d g B

      left : (x : List ℕ)
          → IsAdditive (K L) (K L) (λ u y. sum_over (K L) (λ e. at_exponents (K L) x (plus u e.0) ((K L).mul y e.1)) (terms L (term d b)))
      left x = unfold meets in meets_left-IsAdditive L x (terms L (term d b))

      right : (x : List ℕ) → IsAdditive (K L) (K L) (λ u y. at_exponents (K L) x (plus a u) ((K L).mul (element L c) y))
      right x = unfold meets in meets_right-IsAdditive L x a (element L c)

  -- The power of a term.
  pub power_term : (c : ℕ) {a : List ℕ} → c < F.size → IsExponents a → (k : ℕ) → power F (term c a) k ≡ term (field.power F c k) (times k a)
  unfolding power field.power
  power_term c {a} h A zero = ap (term 1) (sym (times_zero A))
  power_term c {a} h A (suc k) =
      ap (product F (term c a)) (power_term c h A k) ∙ product_terms c (field.power F c k) h (power_below c k h) A (IsExponents-times k A)
      ∙ ap (term (F.mul c (field.power F c k))) (sym (times_suc k a))

  module _ {f : Polynomial} (P : IsPolynomial F f) (c : ℕ) {a : List ℕ} (h : c < F.size) (A : IsExponents a) where
    -- The coefficients of the product with a term.
    pub coefficient-product_term : {x : List ℕ} → IsExponents x
        → coefficient (product F (term c a) f) x ≡ cond (divides a x) (F.mul c (coefficient f (minus x a))) 0
    coefficient-product_term {x} X =
        let Q : IsPolynomial F (term c a) = IsPolynomial-term c h A in
        let y : ℕ = coefficient f (minus x a) in
        let whole : element L (coefficient (product F (term c a) f) x) ≡ element L (cond (divides a x) (F.mul c y) 0) =
        sym (coefficient_in-terms L (product F (term c a) f) x) ∙ weigh-product L Q P (at_exponents-IsAdditive (K L) x) ∙ weigh-term L left c a
        ∙ row_coefficient L (element L c) (terms L f) X A (terms_exponents L P)
        ∙ ap (λ z. cond (divides a x) ((K L).mul (element L c) z) (K L).zero) (coefficient_in-terms L f (minus x a))
        ∙ by (divides a x) in
        sym (rank_element L _ (coefficient_below (IsPolynomial-product L Q P) (zero_below L) x)) ∙ ap (λ z. z.rank) whole
        ∙ rank_element L _ (below (divides a x))
      where
        left : IsAdditive (K L) (K L) (λ u y. sum_over (K L) (λ e. at_exponents (K L) x (plus u e.0) ((K L).mul y e.1)) (terms L f))
        left = unfold meets in meets_left-IsAdditive L x (terms L f)

        by : (t : Bool)
            → cond t ((K L).mul (element L c) (element L (coefficient f (minus x a)))) (K L).zero ≡ element L (cond t (F.mul c (coefficient f (minus x a))) 0)
        by true = sym (element_mul L c _ h (coefficient_below P (zero_below L) (minus x a)))
        by false = sym (element_zero L)

        below : (t : Bool) → cond t (F.mul c (coefficient f (minus x a))) 0 < F.size
        below true = L.mul_below c _ h (coefficient_below P (zero_below L) (minus x a))
        below false = zero_below L

    pub coefficient-product_term_plus : {b : List ℕ} → IsExponents b → coefficient (product F (term c a) f) (plus a b) ≡ F.mul c (coefficient f b)
    coefficient-product_term_plus {b} B =
        coefficient-product_term (IsExponents-plus A B) ∙ ap (λ t. cond t (F.mul c (coefficient f (minus (plus a b) a))) 0) (divides-plus A B)
        ∙ ap (λ x. F.mul c (coefficient f x)) (minus-plus A B)

  -- A list of terms is its first term plus the rest.
  pub from_entries-cons : (t : List ℕ × ℕ) (ts : List (List ℕ × ℕ)) → IsTerm F t → All (IsTerm F) ts → coefficient (from_entries ts) t.0 ≡ 0
      → from_entries (t ∷ ts) ≡ sum F (term t.1 t.0) (from_entries ts)
  from_entries-cons t ts B all new =
      polynomial_equal (IsPolynomial-from_entries (t ∷ ts) (All-cons (IsTerm F) t ts B all)) (IsPolynomial-sum L (IsPolynomial-term t.1 B.below B.exponents) Q)
      (λ a A. coefficient-from_entries_cons t ts a ∙ by a (same a t.0) refl ∙ sym (coefficient-sum L (term t.1 t.0) (from_entries ts) a ∙ ap (λ c. F.add c (coefficient (from_entries ts) a)) (coefficient-term t.1 t.0 a)))
    where
      Q : IsPolynomial F (from_entries ts)
      Q = IsPolynomial-from_entries ts all

      by : (a : List ℕ) (s : Bool) → same a t.0 ≡ s
          → cond s t.1 (coefficient (from_entries ts) a) ≡ F.add (cond s t.1 0) (coefficient (from_entries ts) a)
      by a true e = sym (ap (F.add t.1) (ap (coefficient (from_entries ts)) (same_true a t.0 e) ∙ new) ∙ L.add_zero t.1 B.below)
      by a false e =
          let below = coefficient_below Q (zero_below L) a in
          sym (L.add_comm 0 _ (zero_below L) below ∙ L.add_zero _ below)

  -- Induction on a polynomial: zero, or a term and a polynomial that lacks its monomial.
  module _ (P : Polynomial → Type 0) (base : P empty) (step : (c : ℕ) (a : List ℕ) (f : Polynomial) → IsTerm F (a, c) → IsPolynomial F f → coefficient f a ≡ 0 → P f → P (sum F (term c a) f)) where
    along_terms : (ts : List (List ℕ × ℕ)) → All (IsTerm F) ts → Apart ts → P (from_entries ts)
    along_terms [] all h = base
    along_terms (t ∷ ts) all h =
        let later = All-tail (IsTerm F) t ts all in
        let new : coefficient (from_entries ts) t.0 ≡ 0 = coefficient-from_entries ts t.0 ∙ ap (λ o. unwrap_or o 0) (find_none t.0 ts h.0) in
        let B = All-head (IsTerm F) t ts all in
        subst P (sym (from_entries-cons t ts B later new)) (step t.1 t.0 (from_entries ts) B (IsPolynomial-from_entries ts later) new (along_terms ts later h.1))

    pub polynomial_induction : {f : Polynomial} → IsPolynomial F f → P f
    polynomial_induction {f} Q = subst P (from_entries-entries f) (along_terms (entries f) (IsTerm-entries Q) (Apart-from_sorted (entries f) (entries_sorted f)))
