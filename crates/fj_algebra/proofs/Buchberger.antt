-- Buchberger's criterion: where all pairs are settled, the leads of S divide the leads of all members of its ideal.
use Rattle.std.proofs.Common.{◌≡◌, ◌≢◌, ◌⊎◌, inl, inr, sym, ap, ◌∙◌, subst}
use Rattle.fj_algebra.specs.Ring.{CommutativeRing, subtract}
use Rattle.fj_algebra.specs.Order.{IsAtMost, IsBelow}
use Rattle.fj_algebra.specs.Polynomial.{OrderedPolynomials, IsLead, IsMonic, Supported}
use Rattle.fj_algebra.specs.Representation.{Representation, nothing, more}
use Rattle.fj_algebra.specs.Buchberger.{AllMonic, Settled, LeadIsReducible}
use Rattle.fj_algebra.proofs.Ring.{ring_laws, zero_mul, add_zero, zero_add, add_mul}
use Rattle.fj_algebra.proofs.Order.{at_most_times, below_at_most, at_most_trans, trichotomy, below_trans, below_irrefl, order_induction}
use Rattle.fj_algebra.proofs.Polynomial.{at_most_lead, Supported-zero, Supported-add, Supported-multiple, coefficient_outside, term_add, term_zero, term_split, subtract_zero, lead_from_monic, lead_unique}
use Rattle.fj_algebra.proofs.Representation.{Representation-weaker, Representation-same, Representation-add, Representation-scale}

module _ {A : Type 0} (R : CommutativeRing A) where
  open R use {add, mul, neg}

  take_from : (h t rest u : A) → h ≡ add t rest → subtract R h u ≡ add t (subtract R rest u)
  take_from h t rest u e = rw e (R.add_assoc t rest (neg u))

  take_first : (h t rest : A) → h ≡ add t rest → subtract R h t ≡ rest
  take_first h t rest e = rw e (simp (subtract, ring_laws))

  put_back : (h t : A) → h ≡ add t (subtract R h t)
  put_back h t = simp ring_laws

  -- (s + rest) - (s' + t) as a multiple of a difference and a difference
  two_tops : (h rest c s t u : A) → h ≡ add (mul c s) rest → subtract R h (add (mul c t) u) ≡ add (mul c (subtract R s t)) (subtract R rest u)
  two_tops h rest c s t u e = rw e (simp (subtract, ring_laws))

module _ {K M A : Type 0} (P : OrderedPolynomials K M A) where
  open P use {coefficient, term, ring.{zero as 𝟘, one as 𝟙, add, neg, mul}, field.ring as scalars, monomials.{one, times}, order}

  -- A sum of multiples with heights below d has its monomials below d.
  pub Supported-from_representation : {S : A → Type 0} {d : M} {h : A} → AllMonic P S → Representation P S (λ e. IsBelow order e d) h →
      Supported P.polynomials (λ e. IsBelow order e d) h
  Supported-from_representation {d = d} monic (nothing e) =
      subst (Supported P.polynomials (λ e. IsBelow order e d)) (sym e) (Supported-zero P.polynomials (λ e. IsBelow order e d))
  Supported-from_representation {d = d} monic (more {rest = rest} c m g s b r e) =
      subst (Supported P.polynomials (λ e. IsBelow order e d)) (sym e)
      (Supported-add P.polynomials (multiple (monic.lead g s)) (Supported-from_representation monic r))
    where
      multiple : (a : M) × IsMonic P g a → Supported P.polynomials (λ e. IsBelow order e d) (mul (term c m) g)
      multiple (a, is) =
          Supported-multiple P.polynomials c m
          (λ b' k. below_at_most order (times m b') (times m a) d (at_most_times order m b' a k) (b a (lead_from_monic P is)))
          (at_most_lead P is.top)

  scaled : (c : K) (m : M) (g : A) → mul (term c m) g ≡ mul (term c one) (mul (term scalars.one m) g)
  scaled c m g = ap (λ t. mul t g) (term_split P c m) ∙ P.ring.mul_assoc (term c one) (term scalars.one m) g

  joined : (c d : K) (m : M) (g : A) → mul (term (scalars.add c d) m) g ≡ add (mul (term c one) (mul (term scalars.one m) g)) (mul (term d m) g)
  joined c d m g = ap (λ t. mul t g) (sym (term_add P c d m)) ∙ add_mul P.ring (term c m) (term d m) g ∙ ap (λ u. add u (mul (term d m) g)) (scaled c m g)

  -- h is a multiple of height d and a sum of multiples with heights below d
  record HasTop (S : A → Type 0) (d : M) (h : A) : Type 0 where
    scalar : K
    scalar_nonzero : scalar ≢ scalars.zero
    monomial : M
    member : A
    is_member : S member
    lead : M
    is_monic : IsMonic P member lead
    height : times monomial lead ≡ d
    rest : Representation P S (λ e. IsBelow order e d) (subtract P.ring h (mul (term scalar monomial) member))

  module _ {S : A → Type 0} (monic : AllMonic P S) (settled : (g h : A) → S g → S h → Settled P S g h) where
    -- the multiples of height d are joined to one
    collect : {d : M} {h : A} → Representation P S (λ e. IsAtMost order e d) h → Representation P S (λ e. IsBelow order e d) h ⊎ HasTop S d h
    collect (nothing e) = inl (nothing e)
    collect {d} {h} (more {rest = rest} c m g s b r e) = go (monic.lead g s) (collect r)
      where
        lower : (a : M) → IsMonic P g a → IsBelow order (times m a) d → Representation P S (λ e. IsBelow order e d) rest ⊎ HasTop S d rest →
            Representation P S (λ e. IsBelow order e d) h ⊎ HasTop S d h
        lower a is l (inl t) = inl (more c m g s (λ b k. subst (λ b. IsBelow order (times m b) d) (lead_unique P (lead_from_monic P is) k) l) t e)
        lower a is l (inr t) = inr (record {
          scalar = t.scalar;
          scalar_nonzero = t.scalar_nonzero;
          monomial = t.monomial;
          member = t.member;
          is_member = t.is_member;
          lead = t.lead;
          is_monic = t.is_monic;
          height = t.height;
          rest =
              more c m g s (λ b k. subst (λ b. IsBelow order (times m b) d) (lead_unique P (lead_from_monic P is) k) l) t.rest
              (take_from P.ring h (mul (term c m) g) rest (mul (term t.scalar t.monomial) t.member) e);
        })

        single : (a : M) → IsMonic P g a → times m a ≡ d → Representation P S (λ e. IsBelow order e d) rest → Dec (c ≡ scalars.zero) →
            Representation P S (λ e. IsBelow order e d) h ⊎ HasTop S d h
        single a is l t (yes z) =
            inl (Representation-same P
            (e ∙ ap (λ u. add (mul u g) rest) (ap (λ c. term c m) z ∙ term_zero P m) ∙ ap (λ u. add u rest) (zero_mul P.ring g)
            ∙ zero_add P.ring rest) t)
        single a is l t (no n) =
            inr (record {
              scalar = c;
              scalar_nonzero = n;
              monomial = m;
              member = g;
              is_member = s;
              lead = a;
              is_monic = is;
              height = l;
              rest = Representation-same P (take_first P.ring h (mul (term c m) g) rest e) t;
            })

        join : (a : M) → IsMonic P g a → times m a ≡ d → (t : HasTop S d rest) → Dec (scalars.add c t.scalar ≡ scalars.zero) →
            Representation P S (λ e. IsBelow order e d) h ⊎ HasTop S d h
        join a is l t z =
            elim z [
              | yes e ↦ inl (Representation-same P (sym (vanish (scalars.add c t.scalar) e)) together)
              | no n ↦ inr (record {
                scalar = scalars.add c t.scalar;
                scalar_nonzero = n;
                monomial = t.monomial;
                member = t.member;
                is_member = t.is_member;
                lead = t.lead;
                is_monic = t.is_monic;
                height = t.height;
                rest = together;
              })
            ]
          where
            difference : A
            difference = subtract P.ring (mul (term scalars.one m) g) (mul (term scalars.one t.monomial) t.member)

            settled_at : Representation P S (λ e. IsBelow order e d) difference
            settled_at =
                subst (λ d. Representation P S (λ e. IsBelow order e d)
                (subtract P.ring (mul (term scalars.one m) g) (mul (term scalars.one t.monomial) t.member))) l
                ((settled g t.member s t.is_member).below m t.monomial a t.lead (lead_from_monic P is) (lead_from_monic P t.is_monic)
                (l ∙ sym t.height))

            together : Representation P S (λ e. IsBelow order e d) (subtract P.ring h (mul (term (scalars.add c t.scalar) t.monomial) t.member))
            together = Representation-same P
                (ap (subtract P.ring h) (joined c t.scalar t.monomial t.member)
                ∙ two_tops P.ring h rest (term c one) (mul (term scalars.one m) g) (mul (term scalars.one t.monomial) t.member)
                (mul (term t.scalar t.monomial) t.member) (e ∙ ap (λ u. add u rest) (scaled c m g)))
                (Representation-add P (Representation-scale P c settled_at) t.rest)

            vanish : (c : K) → c ≡ scalars.zero → subtract P.ring h (mul (term c t.monomial) t.member) ≡ h
            vanish c e =
                ap (λ c. subtract P.ring h (mul (term c t.monomial) t.member)) e
                ∙ ap (λ u. subtract P.ring h (mul u t.member)) (term_zero P t.monomial) ∙ ap (subtract P.ring h) (zero_mul P.ring t.member)
                ∙ subtract_zero P.ring h

        go : (a : M) × IsMonic P g a → Representation P S (λ e. IsBelow order e d) rest ⊎ HasTop S d rest →
            Representation P S (λ e. IsBelow order e d) h ⊎ HasTop S d h
        go (a, is) t =
            elim (b a (lead_from_monic P is)) [
              | inl l ↦ lower a is l t
              | inr l ↦ elim t [ inl u ↦ single a is l u (P.field.is_zero c) | inr u ↦ join a is l u (P.field.is_zero (scalars.add c u.scalar)) ]
            ]

    -- the lead of a sum with a top
    top_lead : {d : M} {h : A} → HasTop S d h → LeadIsReducible P S h
    top_lead {d} {h} t =
        record {
          lead = d;
          is_lead = is_lead;
          reducible = record {
            divisor = t.member;
            member = t.is_member;
            lead = t.lead;
            is_lead = lead_from_monic P t.is_monic;
            divides = record { quotient = t.monomial; product = P.monomials.times_comm t.lead t.monomial ∙ t.height };
          };
        }
      where
        first : A
        first = mul (term t.scalar t.monomial) t.member

        at : (b : M) → coefficient h b ≡ scalars.add (coefficient first b) (coefficient (subtract P.ring h first) b)
        at b = ap (λ f. coefficient f b) (put_back P.ring h first) ∙ P.coefficient_add first (subtract P.ring h first) b

        rest_vanishes : (b : M) → (IsBelow order b d → ⊥) → coefficient (subtract P.ring h first) b ≡ scalars.zero
        rest_vanishes b n = coefficient_outside P.polynomials (Supported-from_representation monic t.rest) b n

        first_at : coefficient first d ≡ t.scalar
        first_at =
            ap (coefficient (mul (term t.scalar t.monomial) t.member)) (sym t.height) ∙ P.coefficient_multiple t.scalar t.monomial t.member t.lead
            ∙ ap (scalars.mul t.scalar) t.is_monic.monic ∙ scalars.mul_one t.scalar

        first_above : (b : M) → IsBelow order d b → coefficient first b ≡ scalars.zero
        first_above b l =
            coefficient_outside P.polynomials {B = λ e. IsAtMost order e (times t.monomial t.lead)}
            (Supported-multiple P.polynomials t.scalar t.monomial (λ b k. at_most_times order t.monomial b t.lead k)
            (at_most_lead P t.is_monic.top)) b
            (λ k. below_irrefl order (below_at_most order b (times t.monomial t.lead) b k (subst (λ d. IsBelow order d b) (sym t.height) l)))

        is_lead : IsLead P h d
        is_lead = record {
          nonzero = λ z. t.scalar_nonzero (sym (at d ∙ rw (first_at, rest_vanishes d (below_irrefl order)) (add_zero scalars t.scalar)) ∙ z);
          top = λ b l. at b ∙ rw (first_above b l, rest_vanishes b (λ k. below_irrefl order (below_trans order k l))) (add_zero scalars scalars.zero);
        }

    -- the greatest height
    greatest_height : {B : M → Type 0} {h : A} → Representation P S B h → (h ≡ 𝟘) ⊎ ((d : M) × B d × Representation P S (λ e. IsAtMost order e d) h)
    greatest_height (nothing e) = inl e
    greatest_height {B} {h} (more {rest = rest} c m g s b r e) = go (monic.lead g s) (greatest_height r)
      where
        go : (a : M) × IsMonic P g a → (rest ≡ 𝟘) ⊎ ((d : M) × B d × Representation P S (λ e. IsAtMost order e d) rest) →
            (h ≡ 𝟘) ⊎ ((d : M) × B d × Representation P S (λ e. IsAtMost order e d) h)
        go (a, is) (inl z) =
            inr (
              times m a,
              b a (lead_from_monic P is),
              more c m g s (λ b k. inr (ap (times m) (lead_unique P k (lead_from_monic P is)))) (nothing z) e,
            )
        go (a, is) (inr (d, w, t)) = elim (trichotomy order (times m a) d) [
          | inl l ↦ inr (d, w, more c m g s (λ b k. inl (subst (λ b. IsBelow order (times m b) d) (lead_unique P (lead_from_monic P is) k) l)) t e)
          | inr (inl l) ↦ inr (d, w, more c m g s (λ b k. inr (ap (times m) (lead_unique P k (lead_from_monic P is)) ∙ l)) t e)
          | inr (inr l) ↦ inr (
            times m a,
            b a (lead_from_monic P is),
            more c m g s (λ b k. inr (ap (times m) (lead_unique P k (lead_from_monic P is))))
                (Representation-weaker P (λ g s. s) (λ e k. at_most_trans order e d (times m a) k (inl l)) t) e,
          )
        ]

    at_height : (d : M) {h : A} → Representation P S (λ e. IsAtMost order e d) h → (h ≡ 𝟘) ⊎ LeadIsReducible P S h
    at_height d r =
        order_induction order (λ d. (h : A) → Representation P S (λ e. IsAtMost order e d) h → (h ≡ 𝟘) ⊎ LeadIsReducible P S h)
        (λ d lower h r. elim
        (collect r) [ inr t ↦ inr (top_lead t) | inl u ↦ elim (greatest_height u) [ inl z ↦ inl z | inr (e, l, v) ↦ lower e l h v ] ]) d _ r

    -- Buchberger's criterion: where all pairs are settled, a polynomial that is represented is zero or has a lead that a lead of S divides.
    pub buchberger : {B : M → Type 0} {h : A} → Representation P S B h → (h ≡ 𝟘) ⊎ LeadIsReducible P S h
    buchberger r = elim (greatest_height r) [ inl z ↦ inl z | inr (d, w, t) ↦ at_height d t ]
