-- Laws of coefficients, terms and leads.
use Rattle.std.proofs.Common.{◌≡◌, ◌≢◌, List, [], ◌∷◌, Contains, ◌⊎◌, inl, inr, sym, ap, ◌∙◌, subst, arith}
use Rattle.fj_algebra.specs.Ring.{CommutativeRing, subtract}
use Rattle.fj_algebra.specs.Order.{IsAtMost, IsBelow}
use Rattle.fj_algebra.specs.Polynomial.{Field, PolynomialRing, OrderedPolynomials, IsLead, IsMonic, Supported}
use Rattle.fj_algebra.proofs.Ring.{ring_laws, zero_mul, mul_zero, one_mul, add_cancel_left, neg_unique, add_zero}
use Rattle.fj_algebra.proofs.Pairs.{contains_cons}
use Rattle.fj_algebra.proofs.Order.{order_induction, trichotomy, below_trans, below_irrefl, times_cancel, one_times}

-- The product of elements of a field that are not zero is not zero.
pub mul_nonzero : {K : Type 0} (F : Field K) (c d : K) → c ≢ F.ring.zero → d ≢ F.ring.zero → F.ring.mul c d ≢ F.ring.zero
mul_nonzero F c d nc nd e =
    let i : F.ring.mul c (F.inverse c) ≡ F.ring.one = F.mul_inverse c nc in
    nd (sym (one_mul F.ring d) ∙ ap (λ u. F.ring.mul u d) (sym i) ∙ regroup F.ring c (F.inverse c) d ∙ ap (F.ring.mul (F.inverse c)) e
    ∙ mul_zero F.ring (F.inverse c))
  where
    regroup : {K : Type 0} (R : CommutativeRing K) (c i d : K) → R.mul (R.mul c i) d ≡ R.mul i (R.mul c d)
    regroup R c i d = simp ring_laws

pub subtract_zero : {K : Type 0} (R : CommutativeRing K) (c : K) → subtract R c R.zero ≡ c
subtract_zero R c = simp (subtract, ring_laws)

module _ {K M A : Type 0} (P : PolynomialRing K M A) where
  open P use {coefficient, term, ring.{zero as 𝟘, one as 𝟙, add, neg, mul}, field.ring as scalars, monomials.{one, times}}

  pub coefficient_zero : (a : M) → coefficient 𝟘 a ≡ scalars.zero
  coefficient_zero a =
      add_cancel_left scalars (coefficient 𝟘 a) (coefficient 𝟘 a) scalars.zero
      (sym (P.coefficient_add 𝟘 𝟘 a) ∙ ap (λ f. coefficient f a) (P.ring.add_zero 𝟘) ∙ sym (scalars.add_zero (coefficient 𝟘 a)))

  pub coefficient_neg : (f : A) (a : M) → coefficient (neg f) a ≡ scalars.neg (coefficient f a)
  coefficient_neg f a =
      neg_unique scalars (coefficient f a) (coefficient (neg f) a)
      (sym (P.coefficient_add f (neg f) a) ∙ ap (λ f. coefficient f a) (P.ring.add_neg f) ∙ coefficient_zero a)

  pub coefficient_subtract : (f g : A) (a : M) → coefficient (subtract P.ring f g) a ≡ subtract scalars (coefficient f a) (coefficient g a)
  coefficient_subtract f g a = P.coefficient_add f (neg g) a ∙ ap (scalars.add (coefficient f a)) (coefficient_neg g a)

  -- A coefficient outside of the support is zero.
  pub coefficient_outside : {B : M → Type 0} {f : A} → Supported P B f → (a : M) → (B a → ⊥) → coefficient f a ≡ scalars.zero
  coefficient_outside {f = f} s a not_within = elim (P.field.is_zero (coefficient f a)) [ yes e ↦ e | no n ↦ absurd (not_within (s.within a n)) ]

  pub Supported-zero : (B : M → Type 0) → Supported P B 𝟘
  Supported-zero B = record { within = λ a n. absurd (n (coefficient_zero a)) }

  pub Supported-weaker : {B C : M → Type 0} {f : A} → ((a : M) → B a → C a) → Supported P B f → Supported P C f
  Supported-weaker w s = record { within = λ a n. w a (s.within a n) }

  pub Supported-add : {B : M → Type 0} {f g : A} → Supported P B f → Supported P B g → Supported P B (add f g)
  Supported-add {B} {f} {g} s t = record { within = λ a n. go a n (P.field.is_zero (coefficient f a)) (P.field.is_zero (coefficient g a)) }
    where
      go : (a : M) → coefficient (add f g) a ≢ scalars.zero → Dec (coefficient f a ≡ scalars.zero) → Dec (coefficient g a ≡ scalars.zero) → B a
      go a n (no m) d = s.within a m
      go a n (yes e) (no m) = t.within a m
      go a n (yes e) (yes d) = absurd (n (P.coefficient_add f g a ∙ rw (e, d) (add_zero scalars scalars.zero)))

  pub Supported-neg : {B : M → Type 0} {f : A} → Supported P B f → Supported P B (neg f)
  Supported-neg {B} {f} s = record { within = λ a n. s.within a (λ e. n (coefficient_neg f a ∙ rw e (simp ring_laws))) }

  pub Supported-subtract : {B : M → Type 0} {f g : A} → Supported P B f → Supported P B g → Supported P B (subtract P.ring f g)
  Supported-subtract s t = Supported-add s (Supported-neg t)

  pub Supported-multiple : {B C : M → Type 0} (c : K) (a : M) {f : A} → ((b : M) → B b → C (times a b)) → Supported P B f → Supported P C (mul (term c a) f)
  Supported-multiple {B} {C} c a {f} w s = record { within = λ b n. go b n (P.monomials.quotient a b) }
    where
      go : (b : M) → coefficient (mul (term c a) f) b ≢ scalars.zero → Dec ((q : M) × (times a q ≡ b)) → C b
      go b n (no none) = absurd (n (P.coefficient_no_multiple c a f b (λ d. none (d.quotient, d.product))))
      go b n (yes (q, e)) = subst C e (w q (s.within q (λ z. n (rw (← e) (P.coefficient_multiple c a f q ∙ rw z (mul_zero scalars c))))))

module _ {K M A : Type 0} (P : OrderedPolynomials K M A) where
  open P use {coefficient, term, ring.{zero as 𝟘, one as 𝟙, add, neg, mul}, field.ring as scalars, monomials.{one, times}, order}

  -- Whether two monomials are equal is decided.
  pub same_monomial : (a b : M) → Dec (a ≡ b)
  same_monomial a b =
      elim (trichotomy order a b) [
        | inl l ↦ no (λ e. below_irrefl order (subst (λ c. IsBelow order c b) e l))
        | inr (inl e) ↦ yes e
        | inr (inr l) ↦ no (λ e. below_irrefl order (subst (IsBelow order b) e l))
      ]

  pub term_add : (c d : K) (a : M) → add (term c a) (term d a) ≡ term (scalars.add c d) a
  term_add c d a = P.equal (add (term c a) (term d a)) (term (scalars.add c d) a) (λ b. go b (same_monomial a b))
    where
      go : (b : M) → Dec (a ≡ b) → coefficient (add (term c a) (term d a)) b ≡ coefficient (term (scalars.add c d) a) b
      go b (yes e) = rw (← e, P.coefficient_add (term c a) (term d a) a, P.coefficient_same c a, P.coefficient_same d a, P.coefficient_same (scalars.add c d) a)
      go b (no n) =
          rw (
            P.coefficient_add (term c a) (term d a) b,
            P.coefficient_other c a b n,
            P.coefficient_other d a b n,
            P.coefficient_other (scalars.add c d) a b n,
          ) (add_zero scalars scalars.zero)

  pub term_zero : (a : M) → term scalars.zero a ≡ 𝟘
  term_zero a = P.equal (term scalars.zero a) 𝟘 (λ b. go b (same_monomial a b) ∙ sym (coefficient_zero P.polynomials b))
    where
      go : (b : M) → Dec (a ≡ b) → coefficient (term scalars.zero a) b ≡ scalars.zero
      go b (yes e) = rw (← e) (P.coefficient_same scalars.zero a)
      go b (no n) = P.coefficient_other scalars.zero a b n

  pub term_mul : (c d : K) (a b : M) → mul (term c a) (term d b) ≡ term (scalars.mul c d) (times a b)
  term_mul c d a b = P.equal (mul (term c a) (term d b)) (term (scalars.mul c d) (times a b)) (λ e. go e (P.monomials.quotient a e))
    where
      inner : (q : M) → Dec (b ≡ q) → coefficient (mul (term c a) (term d b)) (times a q) ≡ coefficient (term (scalars.mul c d) (times a b)) (times a q)
      inner q (yes e) = rw (← e, P.coefficient_multiple c a (term d b) b, P.coefficient_same d b, P.coefficient_same (scalars.mul c d) (times a b))
      inner q (no n) =
          rw (
            P.coefficient_multiple c a (term d b) q,
            P.coefficient_other d b q n,
            P.coefficient_other (scalars.mul c d) (times a b) (times a q) (λ e. n (times_cancel order a b q e)),
          ) (mul_zero scalars c)

      go : (e : M) → Dec ((q : M) × (times a q ≡ e)) → coefficient (mul (term c a) (term d b)) e ≡ coefficient (term (scalars.mul c d) (times a b)) e
      go e (yes (q, h)) = rw (← h) (inner q (same_monomial b q))
      go e (no none) =
          P.coefficient_no_multiple c a (term d b) e (λ h. none (h.quotient, h.product))
          ∙ sym (P.coefficient_other (scalars.mul c d) (times a b) e (λ h. none (b, h)))

  pub term_one : term scalars.one one ≡ 𝟙
  term_one =
      P.equal (term scalars.one one) 𝟙
      (λ b. rw (← P.ring.mul_one (term scalars.one one))
      (subst (λ e. coefficient (mul (term scalars.one one) 𝟙) e ≡ coefficient 𝟙 b) (one_times P.monomials b)
      (P.coefficient_multiple scalars.one one 𝟙 b ∙ one_mul scalars (coefficient 𝟙 b))))

  -- Terms of one coefficient multiply as monomials.
  pub monic_term_mul : (a b : M) → mul (term scalars.one a) (term scalars.one b) ≡ term scalars.one (times a b)
  monic_term_mul a b = term_mul scalars.one scalars.one a b ∙ ap (λ c. term c (times a b)) (scalars.mul_one scalars.one)

  -- A constant times a monomial.
  pub term_split : (c : K) (a : M) → term c a ≡ mul (term c one) (term scalars.one a)
  term_split c a = sym (term_mul c scalars.one one a ∙ rw (one_times P.monomials a, scalars.mul_one c))

  pub Supported-term : {B : M → Type 0} (c : K) (a : M) → B a → Supported P.polynomials B (term c a)
  Supported-term {B} c a h = record { within = λ b n. go b n (same_monomial a b) }
    where
      go : (b : M) → coefficient (term c a) b ≢ scalars.zero → Dec (a ≡ b) → B b
      go b n (yes e) = subst B e h
      go b n (no m) = absurd (n (P.coefficient_other c a b m))

  -- A polynomial without its term at a.
  abbrev pub without : A → M → A
  without f a = subtract P.ring f (term (coefficient f a) a)

  pub without_same : (f : A) (a : M) → coefficient (without f a) a ≡ scalars.zero
  without_same f a =
      coefficient_subtract P.polynomials f (term (coefficient f a) a) a
      ∙ rw (P.coefficient_same (coefficient f a) a) (scalars.add_neg (coefficient f a))

  pub without_other : (f : A) (a b : M) → a ≢ b → coefficient (without f a) b ≡ coefficient f b
  without_other f a b n =
      coefficient_subtract P.polynomials f (term (coefficient f a) a) b
      ∙ rw (P.coefficient_other (coefficient f a) a b n) (subtract_zero scalars (coefficient f b))

  pub with_term : (f : A) (a : M) → f ≡ add (term (coefficient f a) a) (without f a)
  with_term f a = restore P.ring f (term (coefficient f a) a)
    where
      restore : {A : Type 0} (R : CommutativeRing A) (f t : A) → f ≡ R.add t (subtract R f t)
      restore R f t = simp ring_laws

  pub Supported-without : {B : M → Type 0} {f : A} (a : M) → Supported P.polynomials B f → Supported P.polynomials B (without f a)
  Supported-without {B} {f} a s =
      record {
        within = λ b n. elim
            (same_monomial a b) [
              | yes e ↦ absurd (n (subst (λ b. coefficient (without f a) b ≡ scalars.zero) e (without_same f a)))
              | no m ↦ s.within b (λ z. n (without_other f a b m ∙ z))
            ];
      }

  pub under_without : {f : A} {a : M} → IsLead P f a → Supported P.polynomials (λ b. IsBelow order b a) (without f a)
  under_without {f} {a} h = record { within = λ b n. go b n (trichotomy order a b) }
    where
      go : (b : M) → coefficient (without f a) b ≢ scalars.zero → IsBelow order a b ⊎ ((a ≡ b) ⊎ IsBelow order b a) → IsBelow order b a
      go b n (inl l) = absurd (n (without_other f a b (λ e. below_irrefl order (subst (IsBelow order a) (sym e) l)) ∙ h.top b l))
      go b n (inr (inl e)) = absurd (n (subst (λ b. coefficient (without f a) b ≡ scalars.zero) e (without_same f a)))
      go b n (inr (inr l)) = l

  -- the greatest of some monomials at which f has a coefficient that is not zero
  greatest : (f : A) (bs : List M) →
      ((b : M) → Contains bs b → coefficient f b ≡ scalars.zero) ⊎
      ((a : M) × (coefficient f a ≢ scalars.zero) × ((b : M) → Contains bs b → IsBelow order a b → coefficient f b ≡ scalars.zero))
  greatest f [] = inl (λ b c. absurd (omega (arith, c.1)))
  greatest f (x ∷ bs) = go (P.field.is_zero (coefficient f x)) (greatest f bs)
    where
      go : Dec (coefficient f x ≡ scalars.zero) →
          ((b : M) → Contains bs b → coefficient f b ≡ scalars.zero) ⊎
          ((a : M) × (coefficient f a ≢ scalars.zero) × ((b : M) → Contains bs b → IsBelow order a b → coefficient f b ≡ scalars.zero))
          → ((b : M) → Contains (x ∷ bs) b → coefficient f b ≡ scalars.zero) ⊎
          ((a : M) × (coefficient f a ≢ scalars.zero) × ((b : M) → Contains (x ∷ bs) b → IsBelow order a b → coefficient f b ≡ scalars.zero))
      go (yes e) (inl none) = inl (λ b c. elim (contains_cons x bs b c) [ inl h ↦ subst (λ b. coefficient f b ≡ scalars.zero) h e | inr h ↦ none b h ])
      go (yes e) (inr (a, n, top)) =
          inr (a, n, λ b c l. elim (contains_cons x bs b c) [ inl h ↦ subst (λ b. coefficient f b ≡ scalars.zero) h e | inr h ↦ top b h l ])
      go (no m) (inl none) =
          inr (
            x,
            m,
            λ b c l. elim
                (contains_cons x bs b c) [ inl h ↦ absurd (below_irrefl order (subst (IsBelow order x) (sym h) l)) | inr h ↦ none b h ],
          )
      go (no m) (inr (a, n, top)) = elim (trichotomy order x a) [
        | inl l ↦ inr (
          a,
          n,
          λ b c k. elim (contains_cons x bs b c)
              [ inl h ↦ absurd (below_irrefl order (below_trans order (subst (IsBelow order a) (sym h) k) l)) | inr h ↦ top b h k ],
        )
        | inr (inl e) ↦ inr (
          a,
          n,
          λ b c k. elim (contains_cons x bs b c)
              [ inl h ↦ absurd (below_irrefl order (subst (IsBelow order a) (sym h ∙ e) k)) | inr h ↦ top b h k ],
        )
        | inr (inr l) ↦ inr (
          x,
          m,
          λ b c k. elim (contains_cons x bs b c)
              [ inl h ↦ absurd (below_irrefl order (subst (IsBelow order x) (sym h) k)) | inr h ↦ top b h (below_trans order l k) ],
        )
      ]

  -- Each polynomial is zero or has a lead.
  pub lead_or_zero : (f : A) → (f ≡ 𝟘) ⊎ ((a : M) × IsLead P f a)
  lead_or_zero f = elim (greatest f (P.support f)) [
    | inl none ↦ inl (P.equal f 𝟘 (λ a. zero_at a (λ c. none a c) ∙ sym (coefficient_zero P.polynomials a)))
    | inr (a, n, top) ↦ inr (a, record { nonzero = n; top = λ b l. zero_at b (λ c. top b c l) })
  ]
    where
      zero_at : (a : M) → (Contains (P.support f) a → coefficient f a ≡ scalars.zero) → coefficient f a ≡ scalars.zero
      zero_at a h = elim (P.field.is_zero (coefficient f a)) [ yes e ↦ e | no n ↦ h (P.support_covers f a n) ]

  -- The lead is unique.
  pub lead_unique : {f : A} {a b : M} → IsLead P f a → IsLead P f b → a ≡ b
  lead_unique {f} {a} {b} h k =
      elim (trichotomy order a b) [ inl l ↦ absurd (k.nonzero (h.top b l)) | inr (inl e) ↦ e | inr (inr l) ↦ absurd (h.nonzero (k.top a l)) ]

  -- A polynomial with a lead is not zero.
  pub lead_nonzero : {f : A} {a : M} → IsLead P f a → f ≢ 𝟘
  lead_nonzero {f} {a} h e = h.nonzero (ap (λ f. coefficient f a) e ∙ coefficient_zero P.polynomials a)

  pub lead_from_monic : {f : A} {a : M} → IsMonic P f a → IsLead P f a
  lead_from_monic h = record { nonzero = λ e. P.field.one_is_not_zero (sym h.monic ∙ e); top = h.top }

  -- Whether a polynomial is zero is decided.
  pub is_zero : (f : A) → Dec (f ≡ 𝟘)
  is_zero f = elim (lead_or_zero f) [ inl e ↦ yes e | inr (a, h) ↦ no (lead_nonzero h) ]

  -- Induction on the lead: what holds of zero, and of f where it holds of all polynomials with monomials below the lead of f, holds of all.
  pub lead_induction {ℓ} : (Q : A → Type ℓ) → Q 𝟘 →
      ((f : A) (a : M) → IsLead P f a → ((g : A) → Supported P.polynomials (λ b. IsBelow order b a) g → Q g) → Q f) → (f : A) → Q f
  lead_induction Q base step f =
      elim (lead_or_zero f) [
        | inl e ↦ subst Q (sym e) base
        | inr (a, h) ↦ order_induction order (λ a. (f : A) → IsLead P f a → Q f)
            (λ a lower f h. step f a h (λ g s. under a lower g s (lead_or_zero g))) a f h
      ]
    where
      under : (a : M) → ((b : M) → IsBelow order b a → (f : A) → IsLead P f b → Q f) → (g : A) → Supported P.polynomials (λ b. IsBelow order b a) g →
          (g ≡ 𝟘) ⊎ ((b : M) × IsLead P g b) → Q g
      under a lower g s (inl e) = subst Q (sym e) base
      under a lower g s (inr (b, k)) = lower b (s.within b k.nonzero) g k

  -- Induction on the terms of a polynomial, which are all within B.
  pub term_induction : (B : M → Type 0) (Q : A → Type 0) → Q 𝟘 → ((c : K) (a : M) (f : A) → B a → Q f → Q (add (term c a) f)) → (f : A) →
      Supported P.polynomials B f → Q f
  term_induction B Q base step =
      lead_induction (λ f. Supported P.polynomials B f → Q f) (λ _. base)
      (λ f a h lower s. subst Q (sym (with_term f a))
      (step (coefficient f a) a (without f a) (s.within a h.nonzero) (lower (without f a) (under_without h) (Supported-without a s))))

  pub Supported-mul : {B C D : M → Type 0} {f g : A} → ((a b : M) → B a → C b → D (times a b)) → Supported P.polynomials B f →
      Supported P.polynomials C g → Supported P.polynomials D (mul f g)
  Supported-mul {B} {C} {D} {f} {g} w s t =
      term_induction B (λ f. Supported P.polynomials D (mul f g))
      (subst (Supported P.polynomials D) (sym (zero_mul P.ring g)) (Supported-zero P.polynomials D))
      (λ c a f h k. subst (Supported P.polynomials D) (sym (spread P.ring (term c a) f g))
      (Supported-add P.polynomials (Supported-multiple P.polynomials c a (λ b. w a b h) t) k)) f s
    where
      spread : {A : Type 0} (R : CommutativeRing A) (f h g : A) → R.mul (R.add f h) g ≡ R.add (R.mul f g) (R.mul h g)
      spread R f h g = simp ring_laws

  -- The monomials of a polynomial are at most its lead.
  pub at_most_lead : {f : A} {a : M} → ((b : M) → IsBelow order a b → coefficient f b ≡ scalars.zero) → Supported P.polynomials (λ b. IsAtMost order b a) f
  at_most_lead {f} {a} top = record { within = λ b n. elim (trichotomy order b a) [ inl l ↦ inl l | inr (inl e) ↦ inr e | inr (inr l) ↦ absurd (n (top b l)) ] }
