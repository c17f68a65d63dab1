-- Laws of division: its identity, its remainder, the heights of its multiples, and membership by it.
use Rattle.std.proofs.Common.{◌≡◌, ℕ, zero, suc, ◌<◌, List, [], ◌∷◌, length, get_or, set, replicate, Contains, ◌⊎◌, inl, inr, ◌↔◌, refl, sym, ap, ◌∙◌, subst, arith, length-set}
use Rattle.std.proofs.lemmas.List.{length-replicate}
use Rattle.fj_algebra.specs.Ring.{CommutativeRing, subtract}
use Rattle.fj_algebra.specs.Ideal.{Member, Inside, list_combination}
use Rattle.fj_algebra.specs.Order.{IsAtMost, Divides, IsBelow}
use Rattle.fj_algebra.specs.Polynomial.{OrderedPolynomials, IsLead, Supported}
use Rattle.fj_algebra.specs.Representation.{Representation, nothing, more}
use Rattle.fj_algebra.specs.Buchberger.{IsReducible, LeadIsReducible, CoversLeads}
use Rattle.fj_algebra.specs.Division.{IsReduced, IsRemainder, DivisionState, Cancels, Moves, DivisionRun, done, step, IsDivision}
use Rattle.fj_algebra.proofs.Ring.{ring_laws, add_zero, zero_add, zero_mul, add_left_comm, subtract_self}
use Rattle.fj_algebra.proofs.Ideal.{Member-zero, Member-add, Member-mul, Member-same, Member-subtract, Member-Contains, Member-Inside, Inside-from, Member-from_list}
use Rattle.fj_algebra.proofs.Pairs.{contains_cons}
use Rattle.fj_algebra.proofs.Order.{at_most_times, at_most_trans, below_at_most, trichotomy, below_irrefl}
use Rattle.fj_algebra.proofs.Polynomial.{at_most_lead, subtract_zero, coefficient_subtract, Supported-zero, Supported-add, Supported-weaker, Supported-term, Supported-multiple, Supported-without, coefficient_outside, without, under_without, lead_unique, lead_nonzero, lead_or_zero, lead_induction, is_zero}
use Rattle.fj_algebra.proofs.Representation.{Representation-same}

module _ {A : Type 0} (R : CommutativeRing A) where
  open R use {add, mul, neg}

  pub restore : (f t : A) → f ≡ add (subtract R f t) t
  restore f t = simp ring_laws

  difference_through : (f t r : A) → subtract R f r ≡ add t (subtract R (subtract R f t) r)
  difference_through f t r = simp ring_laws

  pub difference_back : (h r : A) → r ≡ subtract R h (subtract R h r)
  difference_back h r = simp (subtract, ring_laws)

module _ {K M A : Type 0} (P : OrderedPolynomials K M A) where
  open P use {coefficient, term, ring.{zero as 𝟘, one as 𝟙, add, neg, mul}, field.ring as scalars, monomials.{one, times}, order}

  -- What is left where the lead of f is cancelled by a multiple of g has its monomials below this lead.
  pub under_cancel : {f g : A} {a b m : M} {c : K} → IsLead P f a → IsLead P g b → times m b ≡ a → scalars.mul c (coefficient g b) ≡ coefficient f a
      → Supported P.polynomials (λ e. IsBelow order e a) (subtract P.ring f (mul (term c m) g))
  under_cancel {f} {g} {a} {b} {m} {c} l k h e =
      record {
        within = λ d n. elim
            (trichotomy order d a) [
              | inl l ↦ l
              | inr (inl u) ↦ absurd (n (subst (λ d. coefficient (subtract P.ring f (mul (term c m) g)) d ≡ scalars.zero) (sym u) same))
              | inr (inr u) ↦ absurd (n (above d u))
            ];
      }
    where
      at_lead : coefficient (mul (term c m) g) a ≡ coefficient f a
      at_lead = subst (λ a'. coefficient (mul (term c m) g) a' ≡ coefficient f a) h (P.coefficient_multiple c m g b ∙ e)

      same : coefficient (subtract P.ring f (mul (term c m) g)) a ≡ scalars.zero
      same =
          coefficient_subtract P.polynomials f (mul (term c m) g) a ∙ ap (subtract scalars (coefficient f a)) at_lead
          ∙ subtract_self scalars (coefficient f a)

      above : (d : M) → IsBelow order a d → coefficient (subtract P.ring f (mul (term c m) g)) d ≡ scalars.zero
      above d u = coefficient_subtract P.polynomials f (mul (term c m) g) d
          ∙ ap (subtract scalars (coefficient f d))
          (coefficient_outside P.polynomials {B = λ e. IsAtMost order e (times m b)}
          (Supported-multiple P.polynomials c m (λ e w. at_most_times order m e b w) (at_most_lead P k.top)) d
          (λ w. below_irrefl order (below_at_most order d (times m b) d w (subst (λ a. IsBelow order a d) (sym h) u))))
          ∙ subtract_zero scalars (coefficient f d) ∙ l.top d u

  -- The scalar by which a multiple of g cancels the lead of f.
  pub quotient_scalar : {g : A} {b : M} → IsLead P g b → (c : K) → scalars.mul (scalars.mul c (P.field.inverse (coefficient g b))) (coefficient g b) ≡ c
  quotient_scalar {g} {b} k c =
      regroup scalars c (P.field.inverse (coefficient g b)) (coefficient g b) ∙ ap (scalars.mul c) (P.field.mul_inverse (coefficient g b) k.nonzero)
      ∙ scalars.mul_one c
    where
      regroup : {K : Type 0} (R : CommutativeRing K) (c i d : K) → R.mul (R.mul c i) d ≡ R.mul c (R.mul d i)
      regroup R c i d = simp ring_laws

  -- Whether a lead of a list divides a monomial is decided.
  pub reducible : (G : List A) (a : M) → Dec (IsReducible P (Contains G) a)
  reducible [] a = no (λ h. absurd (omega (arith, h.member.1)))
  reducible (g ∷ G) a = go (lead_or_zero P g) (reducible G a)
    where
      later : IsReducible P (Contains G) a → IsReducible P (Contains (g ∷ G)) a
      later h =
          record {
            divisor = h.divisor;
            member = (suc h.member.0, omega (arith, h.member.1), h.member.2);
            lead = h.lead;
            is_lead = h.is_lead;
            divides = h.divides;
          }

      later_only : ((b : M) → IsLead P g b → Divides P.monomials b a → ⊥) → (IsReducible P (Contains G) a → ⊥) → IsReducible P (Contains (g ∷ G)) a → ⊥
      later_only first none h =
          elim (contains_cons g G h.divisor h.member) [
            | inl e ↦ first h.lead (subst (λ g. IsLead P g h.lead) (sym e) h.is_lead) h.divides
            | inr m ↦ none (record { divisor = h.divisor; member = m; lead = h.lead; is_lead = h.is_lead; divides = h.divides })
          ]

      go : (g ≡ 𝟘) ⊎ ((b : M) × IsLead P g b) → Dec (IsReducible P (Contains G) a) → Dec (IsReducible P (Contains (g ∷ G)) a)
      go l (yes h) = yes (later h)
      go (inl e) (no n) = no (later_only (λ b k d. lead_nonzero P k e) n)
      go (inr (b, k)) (no n) = elim (P.monomials.quotient b a) [
        | yes q ↦ yes (record { divisor = g; member = (zero, omega arith, refl); lead = b; is_lead = k; divides = record { quotient = q.0; product = q.1 } })
        | no w ↦ no (later_only (λ b' k' d. w (d.quotient, subst (λ b. times b d.quotient ≡ a) (lead_unique P k' k) d.product)) n)
      ]

  -- One reduction at the lead: f is a multiple of a member of S and a polynomial with monomials below the lead of f.
  record Reduction (S : A → Type 0) (f : A) (a : M) : Type 0 where
    scalar : K
    monomial : M
    divisor : A
    member : S divisor
    under : Supported P.polynomials (λ e. IsBelow order e a) (subtract P.ring f (mul (term scalar monomial) divisor))

  reduce : {S : A → Type 0} {f : A} {a : M} → IsLead P f a → IsReducible P S a → Reduction S f a
  reduce {f = f} {a = a} l h =
      record {
        scalar = scalars.mul (coefficient f a) (P.field.inverse (coefficient h.divisor h.lead));
        monomial = h.divides.quotient;
        divisor = h.divisor;
        member = h.member;
        under = under_cancel l h.is_lead (P.monomials.times_comm h.divides.quotient h.lead ∙ h.divides.product)
            (quotient_scalar h.is_lead (coefficient f a));
      }

  -- Each polynomial has a remainder by a list.
  pub remainder : (G : List A) (h : A) → (r : A) × IsRemainder P G h r
  remainder G =
      lead_induction P (λ h. (r : A) × IsRemainder P G h r)
      (𝟘, record { reduced = Supported-zero P.polynomials _; difference = Member-same (subtract_self P.ring 𝟘) (Member-zero G) })
      (λ f a l lower. go f a l lower (reducible G a))
    where
      go : (f : A) (a : M) → IsLead P f a → ((g : A) → Supported P.polynomials (λ b. IsBelow order b a) g → (r : A) × IsRemainder P G g r) →
          Dec (IsReducible P (Contains G) a) → (r : A) × IsRemainder P G f r
      go f a l lower (yes h) = after (reduce l h)
        where
          after : Reduction (Contains G) f a → (r : A) × IsRemainder P G f r
          after k = finish (lower _ k.under)
            where
              finish : (r : A) × IsRemainder P G (subtract P.ring f (mul (term k.scalar k.monomial) k.divisor)) r → (r : A) × IsRemainder P G f r
              finish (r, is) = (
                r,
                record {
                  reduced = is.reduced;
                  difference = Member-same (difference_through P.ring f (mul (term k.scalar k.monomial) k.divisor) r)
                      (Member-add (Member-mul (term k.scalar k.monomial) (Member-Contains k.member)) is.difference);
                },
              )
      go f a l lower (no n) = finish (lower (without P f a) (under_without P l))
        where
          regroup : {A : Type 0} (R : CommutativeRing A) (f t r : A) → subtract R f (R.add t r) ≡ subtract R (subtract R f t) r
          regroup R f t r = simp (subtract, ring_laws)

          finish : (r : A) × IsRemainder P G (without P f a) r → (r : A) × IsRemainder P G f r
          finish (r, is) = (
            add (term (coefficient f a) a) r,
            record {
              reduced = Supported-add P.polynomials (Supported-term P (coefficient f a) a n) is.reduced;
              difference = Member-same (regroup P.ring f (term (coefficient f a) a) r) is.difference;
            },
          )

  -- A reduced polynomial that is in an ideal whose leads are covered is zero.
  pub reduced_member_is_zero : {L : List A} {S : A → Type 0} {r : A} → CoversLeads P L S → IsReduced P S r → Member P.ring L r → r ≡ 𝟘
  reduced_member_is_zero {S = S} {r = r} covers reduced m = elim (is_zero P r) [ yes e ↦ e | no n ↦ absurd (contradict (covers.covers r m n)) ]
    where
      contradict : LeadIsReducible P S r → ⊥
      contradict k = reduced.within k.lead k.is_lead.nonzero k.reducible

  -- Membership is decided by the remainder where the leads are covered.
  pub member_by_remainder : {L G : List A} {h r : A} → Inside P.ring G L → CoversLeads P L (Contains G) → IsRemainder P G h r → Member P.ring L h ↔ (r ≡ 𝟘)
  member_by_remainder {L} {G} {h} {r} inside covers is = (
    λ m. reduced_member_is_zero covers is.reduced (Member-same (difference_back P.ring h r) (Member-subtract m (Member-Inside inside is.difference))),
    λ e. Member-same (sym (ap (subtract P.ring h) e ∙ subtract_zero P.ring h)) (Member-Inside inside is.difference),
  )

  -- Members of (L) whose leads divide all leads of (L) generate (L).
  pub covers_generate : {L G : List A} → Inside P.ring G L → CoversLeads P L (Contains G) → Inside P.ring L G
  covers_generate {L} {G} inside covers = Inside-from (λ h m. settle h m (remainder G h))
    where
      settle : (h : A) → Member P.ring L h → (r : A) × IsRemainder P G h r → Member P.ring G h
      settle h m (r, is) = Member-same (sym (ap (subtract P.ring h) ((member_by_remainder inside covers is).0 m) ∙ subtract_zero P.ring h)) is.difference

  -- An addend at one place of the cofactors adds its multiple of the element at this place.
  combination_set : (qs G : List A) (k : ℕ) (t g : A) → length qs ≡ length G → k < length G → get_or G k g ≡ g →
      list_combination P.ring (set qs k (add (get_or qs k 𝟘) t)) G ≡ add (mul t g) (list_combination P.ring qs G)
  combination_set qs [] k t g e l i = absurd (omega arith)
  combination_set [] (x ∷ G) k t g e l i = absurd (omega arith)
  combination_set (q ∷ qs) (x ∷ G) zero t g e l i =
      ap (λ x. add (mul (add q t) x) (list_combination P.ring qs G)) i ∙ first P.ring q t g (list_combination P.ring qs G)
      ∙ ap (λ x. add (mul t g) (add (mul q x) (list_combination P.ring qs G))) (sym i)
    where
      first : {A : Type 0} (R : CommutativeRing A) (q t g c : A) → R.add (R.mul (R.add q t) g) c ≡ R.add (R.mul t g) (R.add (R.mul q g) c)
      first R q t g c = simp ring_laws
  combination_set (q ∷ qs) (x ∷ G) (suc k) t g e l i =
      ap (add (mul q x)) (combination_set qs G k t g (omega arith) (omega arith) i)
      ∙ add_left_comm P.ring (mul q x) (mul t g) (list_combination P.ring qs G)

  combination_replicate : (G : List A) → list_combination P.ring (replicate (length G) 𝟘) G ≡ 𝟘
  combination_replicate [] = refl
  combination_replicate (g ∷ G) =
      ap (λ u. add u (list_combination P.ring (replicate (length G) 𝟘) G)) (zero_mul P.ring g) ∙ zero_add P.ring _ ∙ combination_replicate G

  -- The value of a state: the quotients times the members, the dividend and the remainder.
  value : List A → DivisionState A → A
  value G s = add (list_combination P.ring s.quotients G) (add s.dividend s.remainder)

  step_value : {G : List A} {s t : DivisionState A} → length s.quotients ≡ length G → Cancels P G s t ⊎ Moves P G s t →
      (value G s ≡ value G t) × (length t.quotients ≡ length G)
  unfolding value
  step_value {G} {s} {t} e (inl c) = (
    sym (rw (c.quotients, c.dividend, c.remainder)
        (ap (λ u. add u (add (subtract P.ring s.dividend (mul (term c.scalar c.monomial) c.divisor)) s.remainder))
        (combination_set s.quotients G c.place (term c.scalar c.monomial) c.divisor e c.in_list c.is_divisor)
        ∙ cancel P.ring (mul (term c.scalar c.monomial) c.divisor) (list_combination P.ring s.quotients G) s.dividend s.remainder)),
    rw c.quotients (length-set s.quotients c.place (add (get_or s.quotients c.place 𝟘) (term c.scalar c.monomial)) ∙ e),
  )
    where
      cancel : {A : Type 0} (R : CommutativeRing A) (t q d r : A) → R.add (R.add t q) (R.add (subtract R d t) r) ≡ R.add q (R.add d r)
      cancel R t q d r = simp ring_laws
  step_value {G} {s} {t} e (inr m) = (
    rw (m.quotients, m.dividend, m.remainder)
        (ap (add (list_combination P.ring s.quotients G)) (move P.ring s.dividend s.remainder (term (coefficient s.dividend m.lead) m.lead))),
    rw m.quotients e,
  )
    where
      move : {A : Type 0} (R : CommutativeRing A) (d r t : A) → R.add d r ≡ R.add (subtract R d t) (R.add r t)
      move R d r t = simp ring_laws

  -- A step keeps one quotient for each member.
  pub step_length : {G : List A} {s t : DivisionState A} → length s.quotients ≡ length G → Cancels P G s t ⊎ Moves P G s t → length t.quotients ≡ length G
  step_length e c = (step_value e c).1

  run_value : {G : List A} {t s : DivisionState A} → length s.quotients ≡ length G → DivisionRun P G t s →
      (value G s ≡ value G t) × (length t.quotients ≡ length G)
  run_value {G} e (done i) = (ap (value G) i, subst (λ s. length s.quotients ≡ length G) i e)
  run_value e (step c r) = let one = step_value e c in let rest = run_value one.1 r in (one.0 ∙ rest.0, rest.1)

  -- The identity of division: h is the combination of the list with the quotients, and the remainder. There is one quotient for each member.
  pub division_identity : {G : List A} {h : A} {t : DivisionState A} → IsDivision P G h t →
      (h ≡ add (list_combination P.ring t.quotients G) t.remainder) × (length t.quotients ≡ length G)
  unfolding value
  division_identity {G} {h} {t} d =
      let run = run_value (length-replicate (length G) 𝟘) d.run in (
        sym (ap (λ u. add u (add h 𝟘)) (combination_replicate G) ∙ zero_add P.ring (add h 𝟘) ∙ add_zero P.ring h) ∙ run.0
            ∙ ap (λ u. add (list_combination P.ring t.quotients G) (add u t.remainder)) d.finished
            ∙ ap (add (list_combination P.ring t.quotients G)) (zero_add P.ring t.remainder),
        run.1,
      )

  run_reduced : {G : List A} {t s : DivisionState A} → IsReduced P (Contains G) s.remainder → DivisionRun P G t s → IsReduced P (Contains G) t.remainder
  run_reduced {G} h (done i) = subst (λ s. IsReduced P (Contains G) s.remainder) i h
  run_reduced {G} h (step (inl c) r) = run_reduced (subst (IsReduced P (Contains G)) (sym c.remainder) h) r
  run_reduced {G} {s} h (step (inr m) r) =
      run_reduced (subst (IsReduced P (Contains G)) (sym m.remainder)
      (Supported-add P.polynomials h (Supported-term P (coefficient s.dividend m.lead) m.lead m.irreducible))) r

  -- A division ends in a remainder.
  pub division_remainder : {G : List A} {h : A} {t : DivisionState A} → IsDivision P G h t → IsRemainder P G h t.remainder
  division_remainder {G} {h} {t} d =
      record {
        reduced = run_reduced (Supported-zero P.polynomials _) d.run;
        difference = Member-same
            (ap (λ h. subtract P.ring h t.remainder) (division_identity d).0 ∙ drop_last P.ring (list_combination P.ring t.quotients G) t.remainder)
            (Member-from_list t.quotients G);
      }
    where
      drop_last : {A : Type 0} (R : CommutativeRing A) (q r : A) → subtract R (R.add q r) r ≡ q
      drop_last R q r = simp (subtract, ring_laws)

  -- What a run takes from the dividend is a sum of multiples whose heights are at most the monomials of the dividend.
  run_representation : {G : List A} {t s : DivisionState A} (d : M) → Supported P.polynomials (λ e. IsAtMost order e d) s.dividend →
      DivisionRun P G t s →
      Representation P (Contains G) (λ e. IsAtMost order e d) (subtract P.ring (add s.dividend s.remainder) (add t.dividend t.remainder))
  run_representation {t = t} d w (done i) =
      nothing (ap (λ s. subtract P.ring (add s.dividend s.remainder) (add t.dividend t.remainder)) i
      ∙ subtract_self P.ring (add t.dividend t.remainder))
  run_representation {G} {t} {s} d w (step {u = u} (inl c) r) =
      more c.scalar c.monomial c.divisor (c.place, c.in_list, c.is_divisor)
      (λ a k. subst (λ e. IsAtMost order e d) (sym (ap (times c.monomial) (lead_unique P k c.is_divisor_lead) ∙ c.height)) at_lead)
      (run_representation d
      (subst (Supported P.polynomials (λ e. IsAtMost order e d)) (sym c.dividend)
      (Supported-weaker P.polynomials (λ e l. at_most_trans order e c.lead d (inl l) at_lead)
      (under_cancel c.is_lead c.is_divisor_lead c.height c.cancels))) r)
      (taken P.ring (add t.dividend t.remainder) s.dividend s.remainder (mul (term c.scalar c.monomial) c.divisor) ∙ rw (c.dividend, c.remainder))
    where
      at_lead : IsAtMost order c.lead d
      at_lead = w.within c.lead c.is_lead.nonzero

      taken : {A : Type 0} (R : CommutativeRing A) (v p r t : A) → subtract R (R.add p r) v ≡ R.add t (subtract R (R.add (subtract R p t) r) v)
      taken R v p r t = simp (subtract, ring_laws)
  run_representation {G} {t} {s} d w (step {u = u} (inr m) r) =
      Representation-same P
      (taken P.ring (add t.dividend t.remainder) s.dividend s.remainder (term (coefficient s.dividend m.lead) m.lead)
      ∙ rw (m.dividend, m.remainder))
      (run_representation d (subst (Supported P.polynomials (λ e. IsAtMost order e d)) (sym m.dividend) (Supported-without P m.lead w)) r)
    where
      taken : {A : Type 0} (R : CommutativeRing A) (v p r t : A) → subtract R (R.add p r) v ≡ subtract R (R.add (subtract R p t) (R.add r t)) v
      taken R v p r t = ap (λ u. subtract R u v) (move R p r t)
        where
          move : {A : Type 0} (R : CommutativeRing A) (d r t : A) → R.add d r ≡ R.add (subtract R d t) (R.add r t)
          move R d r t = simp ring_laws

  -- The difference of h and its remainder is a sum of multiples whose heights are at most the lead of h.
  pub division_representation : {G : List A} {h : A} {t : DivisionState A} (d : M) → Supported P.polynomials (λ e. IsAtMost order e d) h →
      IsDivision P G h t → Representation P (Contains G) (λ e. IsAtMost order e d) (subtract P.ring h t.remainder)
  division_representation {h = h} {t = t} d w v =
      Representation-same P
      (sym (ap (λ u. subtract P.ring u (add t.dividend t.remainder)) (add_zero P.ring h)
      ∙ ap (subtract P.ring h) (ap (λ u. add u t.remainder) v.finished ∙ zero_add P.ring t.remainder))) (run_representation d w v.run)
