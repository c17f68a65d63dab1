-- Leads of products, cancellation, and polynomials made monic.
use Rattle.std.proofs.Common.{◌≡◌, ◌≢◌, inl, inr, sym, ap, ◌∙◌, subst}
use Rattle.fj_algebra.specs.Ring.{CommutativeRing, subtract}
use Rattle.fj_algebra.specs.Order.{IsAtMost, IsBelow}
use Rattle.fj_algebra.specs.Polynomial.{made_monic, OrderedPolynomials, IsLead, IsMonic}
use Rattle.fj_algebra.proofs.Ring.{ring_laws, add_zero, mul_zero, add_mul, one_mul, equal_from_subtract}
use Rattle.fj_algebra.proofs.Order.{at_most_times, below_at_most, below_irrefl, below_times, one_times}
use Rattle.fj_algebra.proofs.Polynomial.{at_most_lead, mul_nonzero, coefficient_outside, Supported-mul, Supported-multiple, without, with_term, under_without, lead_or_zero, lead_nonzero, is_zero, term_mul, term_one}

module _ {K M A : Type 0} (P : OrderedPolynomials K M A) where
  open P use {coefficient, term, ring.{zero as 𝟘, one as 𝟙, add, neg, mul}, field.ring as scalars, monomials.{one, times}, order}

  times_below : (x y a b : M) → IsBelow order x a → IsAtMost order y b → IsBelow order (times x y) (times a b)
  times_below x y a b h k = below_at_most_right (at_most_times order x y b k)
    where
      right : IsBelow order (times x b) (times a b)
      right =
          subst (λ c. IsBelow order c (times a b)) (P.monomials.times_comm b x)
          (subst (IsBelow order (times b x)) (P.monomials.times_comm b a) (below_times order b h))

      below_at_most_right : IsAtMost order (times x y) (times x b) → IsBelow order (times x y) (times a b)
      below_at_most_right l = below_at_most order (times x y) (times x b) (times a b) l right

  -- The leading coefficient of a product is the product of the leading coefficients.
  pub coefficient_product : {f g : A} {a b : M} → IsLead P f a → IsLead P g b →
      coefficient (mul f g) (times a b) ≡ scalars.mul (coefficient f a) (coefficient g b)
  coefficient_product {f} {g} {a} {b} h k =
      ap (λ f. coefficient (mul f g) (times a b)) (with_term P f a)
      ∙ ap (λ h. coefficient h (times a b)) (add_mul P.ring (term (coefficient f a) a) (without P f a) g)
      ∙ P.coefficient_add (mul (term (coefficient f a) a) g) (mul (without P f a) g) (times a b)
      ∙ ap (scalars.add (coefficient (mul (term (coefficient f a) a) g) (times a b)))
      (coefficient_outside P.polynomials {B = λ e. IsBelow order e (times a b)}
      (Supported-mul P (λ x y l m. times_below x y a b l m) (under_without P h) (at_most_lead P k.top)) (times a b) (below_irrefl order))
      ∙ add_zero scalars (coefficient (mul (term (coefficient f a) a) g) (times a b)) ∙ P.coefficient_multiple (coefficient f a) a g b

  -- Leads multiply.
  pub lead_product : {f g : A} {a b : M} → IsLead P f a → IsLead P g b → IsLead P (mul f g) (times a b)
  lead_product {f} {g} {a} {b} h k = record {
    nonzero = λ z. mul_nonzero P.field (coefficient f a) (coefficient g b) h.nonzero k.nonzero (sym (coefficient_product h k) ∙ z);
    top =
        λ e l. coefficient_outside P.polynomials {B = λ e. IsAtMost order e (times a b)}
        (Supported-mul P (λ x y m n. at_most x y m n) (at_most_lead P h.top) (at_most_lead P k.top)) e
        (λ m. below_irrefl order (below_at_most order e (times a b) e m l));
  }
    where
      at_most : (x y : M) → IsAtMost order x a → IsAtMost order y b → IsAtMost order (times x y) (times a b)
      at_most x y (inl l) n = inl (times_below x y a b l n)
      at_most x y (inr e) n = subst (λ a. IsAtMost order (times x y) (times a b)) e (at_most_times order x y b n)

  -- The lead of a multiple by a monomial.
  pub lead_multiple : {g : A} {b : M} (m : M) → IsLead P g b → IsLead P (mul (term scalars.one m) g) (times m b)
  lead_multiple {g} {b} m k = record {
    nonzero = λ z. k.nonzero (sym (one_mul scalars (coefficient g b)) ∙ sym (P.coefficient_multiple scalars.one m g b) ∙ z);
    top =
        λ e l. coefficient_outside P.polynomials {B = λ e. IsAtMost order e (times m b)}
        (Supported-multiple P.polynomials scalars.one m (λ y w. at_most_times order m y b w) (at_most_lead P k.top)) e
        (λ w. below_irrefl order (below_at_most order e (times m b) e w l));
  }

  -- The product of polynomials that are not zero is not zero.
  pub product_nonzero : {f g : A} → f ≢ 𝟘 → g ≢ 𝟘 → mul f g ≢ 𝟘
  product_nonzero {f} {g} n m e =
      elim (lead_or_zero P f)
      [ inl z ↦ n z | inr (a, h) ↦ elim (lead_or_zero P g) [ inl z ↦ m z | inr (b, k) ↦ lead_nonzero P (lead_product h k) e ] ]

  -- A polynomial that is not zero can be cancelled.
  pub product_cancel : {g : A} → g ≢ 𝟘 → (x y : A) → mul g x ≡ mul g y → x ≡ y
  product_cancel {g} n x y e =
      elim (is_zero P (subtract P.ring x y)) [
        | yes z ↦ equal_from_subtract P.ring x y z
        | no m ↦ absurd (product_nonzero n m (spread P.ring g x y ∙ ap (λ u. add u (neg (mul g y))) e ∙ P.ring.add_neg (mul g y)))
      ]
    where
      spread : {A : Type 0} (R : CommutativeRing A) (g x y : A) → R.mul g (subtract R x y) ≡ R.add (R.mul g x) (R.neg (R.mul g y))
      spread R g x y = simp ring_laws

  -- It is monic.
  pub made_monic_is : {f : A} {a : M} → IsLead P f a → IsMonic P (made_monic P f a) a
  made_monic_is {f} {a} h = record {
    monic = at a ∙ scalars.mul_comm (P.field.inverse (coefficient f a)) (coefficient f a) ∙ P.field.mul_inverse (coefficient f a) h.nonzero;
    top = λ b l. at b ∙ ap (scalars.mul (P.field.inverse (coefficient f a))) (h.top b l) ∙ mul_zero scalars (P.field.inverse (coefficient f a));
  }
    where
      at : (b : M) → coefficient (made_monic P f a) b ≡ scalars.mul (P.field.inverse (coefficient f a)) (coefficient f b)
      at b =
          subst (λ e. coefficient (made_monic P f a) e ≡ scalars.mul (P.field.inverse (coefficient f a)) (coefficient f b)) (one_times P.monomials b)
          (P.coefficient_multiple (P.field.inverse (coefficient f a)) one f b)

  -- f is a constant times what it is made.
  pub made_monic_back : {f : A} {a : M} → IsLead P f a → f ≡ mul (term (coefficient f a) one) (made_monic P f a)
  made_monic_back {f} {a} h = sym (sym (P.ring.mul_assoc (term (coefficient f a) one) (term (P.field.inverse (coefficient f a)) one) f)
      ∙ ap (λ u. mul u f) (term_mul P (coefficient f a) (P.field.inverse (coefficient f a)) one one
      ∙ ap (λ c. term c (times one one)) (P.field.mul_inverse (coefficient f a) h.nonzero) ∙ ap (term scalars.one) (P.monomials.times_one one)
      ∙ term_one P) ∙ one_mul P.ring f)
