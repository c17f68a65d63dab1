-- The polynomials over a field with a monomial order, as an instance of the abstract theory of Gröbner bases.
use Rattle.std.proofs.Common.{inl, inr, ◌≡◌, ◌≢◌, ℕ, zero, suc, ◌<◌, Bool, true, false, cond, List, [], ◌∷◌, All, Contains, refl, sym, ap, ◌∙◌, subst, arith, true≢false}
use Rattle.std.proofs.lemmas.List.Elements.{All-head, All-tail}
use Rattle.fj_coeff.specs.Field.{Field, IsField}
use Rattle.fj_algebra.specs.Order as order
use Rattle.fj_algebra.specs.Polynomial as abstract
use Rattle.std.proofs.lemmas.Map.Made.{is_member-Decides}
use Rattle.fj_algebra.proofs.Pairs.{contains_cons, contains_head, contains_tail, contains_nil}
use Rattle.fj_theory.specs.Exponents.{IsExponents, origin, plus, minus, divides}
use Rattle.fj_theory.specs.MonomialOrder.{IsMonomialOrder}
use Rattle.fj_theory.specs.Polynomial.{coefficient, support, term}
use Rattle.fj_theory.proofs.Exponents.{plus_comm, plus_assoc, plus_origin, IsExponents-origin, IsExponents-plus, IsExponents-minus, plus-minus, divides-plus}
use Rattle.fj_theory.proofs.MonomialOrder.{compare_by-plus_left}
use Rattle.fj_theory.proofs.Field.{Element, element_equal, field_ring, zero_below, rank_zero, rank_one, rank_add, rank_mul}
use Rattle.fj_theory.proofs.FormalSum.{same, same_true, same-Decides}
use Rattle.fj_theory.proofs.Polynomial.{polynomial_equal, support_exponents, support_listed, coefficient_below, coefficient-sum, coefficient-term, coefficient-term_same, get-coefficient, IsPolynomial-term}
use Rattle.fj_theory.proofs.PolynomialRing.{PolynomialOver, over_equal, polynomial_ring, map_add, map_mul}
use Rattle.fj_theory.proofs.Monomial.{coefficient-product_term, coefficient-product_term_plus}
use native.Mathlib.Nat.{ℕ_set}
use mathlib.Core.HLevel.{Σ_prop_path}

-- An exponent list of eight numbers.
pub record Exponents : Type 0 where
  pub list : List ℕ
  pub is_exponents : IsExponents list

IsExponents-prop : (a : List ℕ) → IsProp (IsExponents a)
IsExponents-prop a = hlevel ℕ_set

pub exponents_equal : (a b : Exponents) → a.list ≡ b.list → a ≡ b
exponents_equal a b e =
    let pairs : ◌≡◌ {A = (h : List ℕ) × IsExponents h} (a.list, a.is_exponents) (b.list, b.is_exponents) = Σ_prop_path IsExponents-prop e in
    λ i. record { list = (pairs i).0; is_exponents = (pairs i).1 }

unfoldable pub times : Exponents → Exponents → Exponents
times a b = record { list = plus a.list b.list; is_exponents = IsExponents-plus a.is_exponents b.is_exponents }

pub quotient : (a b : Exponents) → Dec ((c : Exponents) × (times a c ≡ b))
unfolding times
quotient a b = go (divides a.list b.list) refl
  where
    go : (t : Bool) → divides a.list b.list ≡ t → Dec ((c : Exponents) × (times a c ≡ b))
    go true e =
        yes (
          record { list = minus b.list a.list; is_exponents = IsExponents-minus b.is_exponents a.is_exponents },
          exponents_equal _ b (plus-minus a.is_exponents b.is_exponents e),
        )
    go false e = no (λ c. true≢false (sym (subst (λ l. divides a.list l ≡ true) (ap (λ x. x.list) c.1) (divides-plus a.is_exponents c.0.is_exponents)) ∙ e))

-- The monomials in eight variables.
unfoldable pub monomials : order.Monomials Exponents
unfolding times
monomials = record {
  one = record { list = origin; is_exponents = IsExponents-origin };
  times = times;
  times_assoc = λ a b c. exponents_equal _ _ (plus_assoc a.list b.list c.list);
  times_comm = λ a b. exponents_equal _ _ (plus_comm a.list b.list);
  times_one = λ a. exponents_equal _ _ (plus_origin a.is_exponents);
  quotient = quotient;
}

-- The order of a key.
unfoldable pub monomial_order : {key : List ℕ → List ℕ} → IsMonomialOrder key → order.MonomialOrder monomials
unfolding monomials times
monomial_order {key} K = record {
  entries = 9;
  key = λ a. key a.list;
  key_length = λ a. K.nine a.list a.is_exponents;
  key_injective = λ a b e. exponents_equal a b (K.injective a.list b.list a.is_exponents b.is_exponents e);
  kept = λ c a b. compare_by-plus_left K a.is_exponents b.is_exponents c.is_exponents;
}

module _ {F : Field} (L : IsField F) where
  -- The field, in which it is decided whether an element is zero.
  unfoldable pub scalars : abstract.Field (Element F)
  scalars = record {
    ring = field_ring L;
    inverse = λ x. invert x (is_zero x.rank);
    mul_inverse = λ x n. inverts x n (is_zero x.rank);
    one_is_not_zero = λ e. absurd (let h = sym (rank_one L) ∙ ap (λ x. x.rank) e ∙ rank_zero L in omega (arith, h));
    is_zero = λ x. decide x (is_zero x.rank);
  }
    where
      is_zero : (n : ℕ) → Dec (n ≡ 0)
      is_zero zero = yes refl
      is_zero (suc n) = no (λ e. absurd (omega arith))

      invert : (x : Element F) → Dec (x.rank ≡ 0) → Element F
      invert x (yes e) = x
      invert x (no n) = record { rank = F.inverse x.rank; below = L.inverse_below x.rank (omega arith) x.below }

      decide : (x : Element F) → Dec (x.rank ≡ 0) → Dec (x ≡ (field_ring L).zero)
      decide x (yes e) = yes (element_equal x (field_ring L).zero (e ∙ sym (rank_zero L)))
      decide x (no n) = no (λ e. n (ap (λ x. x.rank) e ∙ rank_zero L))

      inverts : (x : Element F) → x ≢ (field_ring L).zero → (d : Dec (x.rank ≡ 0)) → (field_ring L).mul x (invert x d) ≡ (field_ring L).one
      inverts x n (yes e) = absurd (n (element_equal x (field_ring L).zero (e ∙ sym (rank_zero L))))
      inverts x n (no m) = element_equal _ _ (rank_mul L x _ ∙ L.mul_inverse x.rank (omega arith) x.below ∙ sym (rank_one L))

  unfoldable pub coefficient_at : PolynomialOver F → Exponents → Element F
  coefficient_at f a = record { rank = coefficient f.map a.list; below = coefficient_below f.is_polynomial (zero_below L) a.list }

  unfoldable pub term_at : Element F → Exponents → PolynomialOver F
  term_at c a = record { map = term c.rank a.list; is_polynomial = IsPolynomial-term c.rank c.below a.is_exponents }

  pub listed : (xs : List (List ℕ)) → All IsExponents xs → List Exponents
  listed [] all = []
  listed (x ∷ xs) all = record { list = x; is_exponents = All-head IsExponents x xs all } ∷ listed xs (All-tail IsExponents x xs all)

  pub listed_contains : (xs : List (List ℕ)) (all : All IsExponents xs) (a : Exponents) → Contains xs a.list → Contains (listed xs all) a
  unfolding listed
  listed_contains [] all a c = absurd (contains_nil a.list c)
  listed_contains (x ∷ xs) all a c = elim (contains_cons x xs a.list c) [
    | inl e ↦ subst (Contains (listed (x ∷ xs) all)) (exponents_equal (record { list = x; is_exponents = All-head IsExponents x xs all }) a e)
        (contains_head (record { list = x; is_exponents = All-head IsExponents x xs all }) (listed xs (All-tail IsExponents x xs all)))
    | inr d ↦ contains_tail (record { list = x; is_exponents = All-head IsExponents x xs all }) (listed xs (All-tail IsExponents x xs all)) a
        (listed_contains xs (All-tail IsExponents x xs all) a d)
  ]

  -- The polynomials over the field.
  unfoldable pub polynomials : abstract.PolynomialRing (Element F) Exponents (PolynomialOver F)
  unfolding monomials times scalars coefficient_at term_at
  polynomials = record {
    field = scalars;
    monomials = monomials;
    ring = polynomial_ring L;
    coefficient = coefficient_at;
    term = term_at;
    support = λ f. listed (support f.map) (support_exponents f.is_polynomial);
    equal = λ f g e. over_equal f g (polynomial_equal f.is_polynomial g.is_polynomial (λ a A. ap (λ x. x.rank) (e (record { list = a; is_exponents = A }))));
    support_covers = λ f a n. listed_contains (support f.map) (support_exponents f.is_polynomial) a (supported f a n);
    coefficient_add =
        λ f g a. element_equal _ _
        (ap (λ h. coefficient h a.list) (map_add L f g) ∙ coefficient-sum L f.map g.map a.list
        ∙ sym (rank_add L (coefficient_at f a) (coefficient_at g a)));
    coefficient_same = λ c a. element_equal _ _ (coefficient-term_same c.rank a.list);
    coefficient_other = λ c a b n. element_equal _ _ (coefficient-term c.rank a.list b.list ∙ ap (λ t. cond t c.rank 0) (not_same a b n) ∙ sym (rank_zero L));
    coefficient_multiple =
        λ c a f b. element_equal _ _
        (ap (λ h. coefficient h (plus a.list b.list)) (map_mul L (term_at c a) f)
        ∙ coefficient-product_term_plus L f.is_polynomial c.rank c.below a.is_exponents b.is_exponents ∙ sym (rank_mul L c (coefficient_at f b)));
    coefficient_no_multiple =
        λ c a f b n. element_equal _ _
        (ap (λ h. coefficient h b.list) (map_mul L (term_at c a) f)
        ∙ coefficient-product_term L f.is_polynomial c.rank c.below a.is_exponents b.is_exponents
        ∙ ap (λ t. cond t (F.mul c.rank (coefficient f.map (minus b.list a.list))) 0) (not_divides a b n) ∙ sym (rank_zero L));
  }
    where
      not_same : (a b : Exponents) → a ≢ b → same b.list a.list ≡ false
      not_same a b n = go (same b.list a.list) refl
        where
          go : (t : Bool) → same b.list a.list ≡ t → t ≡ false
          go true e = absurd (n (exponents_equal a b (sym (same_true b.list a.list e))))
          go false e = refl

      not_divides : (a b : Exponents) → (order.Divides monomials a b → ⊥) → divides a.list b.list ≡ false
      not_divides a b n = go (divides a.list b.list) refl
        where
          go : (t : Bool) → divides a.list b.list ≡ t → t ≡ false
          go true e =
              absurd (n (record {
                quotient = record { list = minus b.list a.list; is_exponents = IsExponents-minus b.is_exponents a.is_exponents };
                product = exponents_equal _ b (plus-minus a.is_exponents b.is_exponents e);
              }))
          go false e = refl

      supported : (f : PolynomialOver F) (a : Exponents) → coefficient_at f a ≢ (field_ring L).zero → Contains (support f.map) a.list
      supported f a n =
          (is_member-Decides same-Decides (support f.map) a.list).0
          (support_listed f.map a.list
          (positive (coefficient f.map a.list) (λ e. n (element_equal (coefficient_at f a) (field_ring L).zero (e ∙ sym (rank_zero L))))))
        where
          positive : (n : ℕ) → (n ≡ 0 → ⊥) → 0 < n
          positive n h = omega arith

  -- The polynomials with the order of a key.
  unfoldable pub ordered_polynomials : {key : List ℕ → List ℕ} → IsMonomialOrder key → abstract.OrderedPolynomials (Element F) Exponents (PolynomialOver F)
  unfolding polynomials
  ordered_polynomials K = record { polynomials = polynomials; order = monomial_order K }

module _ {F : Field} (L : IsField F) where
  pub exponents_of : (f : PolynomialOver F) (a : List ℕ) → 0 < coefficient f.map a → IsExponents a
  exponents_of f a p = f.is_polynomial.exponents a _ (get-coefficient f.map a p)

  -- A coefficient that is not zero, both ways.
  pub positive : (g : PolynomialOver F) (a : Exponents) → coefficient_at L g a ≢ (field_ring L).zero → 0 < coefficient g.map a.list
  unfolding coefficient_at
  positive g a n = go (coefficient g.map a.list) refl
    where
      go : (c : ℕ) → coefficient g.map a.list ≡ c → 0 < coefficient g.map a.list
      go zero e = absurd (n (element_equal _ _ (e ∙ sym (rank_zero L))))
      go (suc c) e = omega (arith, e)

  pub positive_back : (g : PolynomialOver F) (a : Exponents) → 0 < coefficient g.map a.list → coefficient_at L g a ≢ (field_ring L).zero
  unfolding coefficient_at
  positive_back g a h e = let r = ap (λ x. x.rank) e ∙ rank_zero L in absurd (omega (arith, h, r))
