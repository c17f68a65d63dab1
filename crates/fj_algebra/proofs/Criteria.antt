-- When a pair is settled: by a representation at the least common multiple, by coprime leads, through a third member.
use Rattle.std.proofs.Common.{List, Contains, ◌⊎◌, inl, inr, ◌≡◌, refl, sym, ap, ◌∙◌, subst}
use Rattle.fj_algebra.specs.Ring.{CommutativeRing, subtract}
use Rattle.fj_algebra.specs.Order.{IsAtMost, Divides, IsBelow, IsLeastCommonMultiple}
use Rattle.fj_algebra.specs.Polynomial.{OrderedPolynomials, IsLead, IsMonic, Supported}
use Rattle.fj_algebra.specs.Representation.{Representation, nothing}
use Rattle.fj_algebra.specs.Buchberger.{AllMonic, Settled, CoversLeads, TreatedRemainder, vanishes, appended}
use Rattle.fj_algebra.specs.Division.{DivisionState, IsDivision}
use Rattle.fj_algebra.specs.Ideal.{Inside}
use Rattle.std.specs.List.{AllPairs}
use Rattle.fj_algebra.proofs.Pairs.{pair_of}
use Rattle.fj_algebra.proofs.Ideal.{Member-Inside}
use Rattle.fj_algebra.proofs.Buchberger.{Supported-from_representation, buchberger}
use Rattle.fj_algebra.proofs.Division.{under_cancel, division_representation, difference_back, restore}
use Rattle.fj_algebra.proofs.Ring.{ring_laws, subtract_self, zero_mul}
use Rattle.fj_algebra.proofs.Order.{at_most_times, below_at_most, below_times, below_irrefl, times_cancel, times_left_comm, one_times}
use Rattle.fj_algebra.proofs.Polynomial.{at_most_lead, without, with_term, under_without, monic_term_mul, term_zero, lead_from_monic, lead_unique, lead_or_zero, coefficient_outside, Supported-multiple, Supported-subtract}
use Rattle.fj_algebra.proofs.Representation.{Representation-weaker, Representation-same, Representation-add, Representation-subtract, Representation-neg, Representation-multiple, Representation-product, Representation-single, representation_from_Member}

module _ {A : Type 0} (R : CommutativeRing A) where
  open R use {add, mul, neg}

  swap : (x y : A) → subtract R y x ≡ neg (subtract R x y)
  swap x y = simp (subtract, ring_laws)

  through : (x y z : A) → subtract R x z ≡ add (subtract R x y) (subtract R y z)
  through x y z = simp (subtract, ring_laws)

  shift : (t x y g h : A) → subtract R (mul (mul t x) g) (mul (mul t y) h) ≡ mul t (subtract R (mul x g) (mul y h))
  shift t x y g h = simp (subtract, ring_laws)

  -- with g = a + p and h = b + q: b g - a h = p h - q g
  crossed : (a b p q : A) → subtract R (mul b (add a p)) (mul a (add b q)) ≡ subtract R (mul p (add b q)) (mul q (add a p))
  crossed a b p q = simp (subtract, ring_laws)

module _ {K M A : Type 0} (P : OrderedPolynomials K M A) where
  open P use {coefficient, term, ring.{zero as 𝟘, one as 𝟙, add, neg, mul}, field.ring as scalars, monomials.{one, times}, order}

  -- A settled pair stays settled where the members grow.
  pub Settled-weaker : {S T : A → Type 0} {g h : A} → ((k : A) → S k → T k) → Settled P S g h → Settled P T g h
  Settled-weaker u s = record { below = λ m n a b l k e. Representation-weaker P u (λ _ w. w) (s.below m n a b l k e) }

  pub Settled-refl : (S : A → Type 0) (g : A) → Settled P S g g
  Settled-refl S g = record { below = λ m n a b l k e. nothing (same m n a (e ∙ ap (times n) (lead_unique P k l))) }
    where
      same : (m n a : M) → times m a ≡ times n a → subtract P.ring (mul (term scalars.one m) g) (mul (term scalars.one n) g) ≡ 𝟘
      same m n a e =
          ap (λ n. subtract P.ring (mul (term scalars.one m) g) (mul (term scalars.one n) g))
          (times_cancel order a n m (P.monomials.times_comm a n ∙ sym e ∙ P.monomials.times_comm m a))
          ∙ subtract_self P.ring (mul (term scalars.one m) g)

  pub Settled-sym : {S : A → Type 0} {g h : A} → Settled P S g h → Settled P S h g
  Settled-sym {S} {g} {h} s =
      record {
        below = λ m n a b l k e. Representation-same P (swap P.ring (mul (term scalars.one n) g) (mul (term scalars.one m) h))
            (Representation-neg P
            (subst (λ d. Representation P S (λ c. IsBelow order c d) (subtract P.ring (mul (term scalars.one n) g) (mul (term scalars.one m) h))) (sym e)
            (s.below n m b a k l (sym e))));
      }

  -- It is enough to have the representation at the least common multiple.
  pub Settled-from_least : {S : A → Type 0} {g h : A} {a b c : M} → IsLead P g a → IsLead P h b → IsLeastCommonMultiple P.monomials a b c →
      (m n : M) → times m a ≡ c → times n b ≡ c
      → Representation P S (λ e. IsBelow order e c) (subtract P.ring (mul (term scalars.one m) g) (mul (term scalars.one n) h)) → Settled P S g h
  Settled-from_least {S} {g} {h} {a} {b} {c} l k least m n e d r =
      record { below = λ m' n' a' b' l' k' e'. at m' n' (ap (times m') (lead_unique P l l')) (e' ∙ ap (times n') (lead_unique P k' k)) }
    where
      factor : (m x m' q : M) → times m x ≡ c → times c q ≡ times m' x → times q m ≡ m'
      factor m x m' q e h =
          times_cancel order x (times q m) m'
          (times_left_comm P.monomials x q m ∙ ap (times q) (P.monomials.times_comm x m ∙ e) ∙ P.monomials.times_comm q c ∙ h
          ∙ P.monomials.times_comm m' x)

      moved : (m' n' q : M) → times q m ≡ m' → times q n ≡ n' →
          subtract P.ring (mul (term scalars.one m') g) (mul (term scalars.one n') h) ≡ mul (term scalars.one q)
          (subtract P.ring (mul (term scalars.one m) g) (mul (term scalars.one n) h))
      moved m' n' q u v =
          rw (← u, ← v, ← monic_term_mul P q m, ← monic_term_mul P q n)
          (shift P.ring (term scalars.one q) (term scalars.one m) (term scalars.one n) g h)

      at : (m' n' : M) {d : M} → times m' a ≡ d → d ≡ times n' b →
          Representation P S (λ e. IsBelow order e d) (subtract P.ring (mul (term scalars.one m') g) (mul (term scalars.one n') h))
      at m' n' {d = f} u v =
          go (least.least f (record { quotient = m'; product = P.monomials.times_comm a m' ∙ u })
          (record { quotient = n'; product = P.monomials.times_comm b n' ∙ sym v }))
        where
          go : Divides P.monomials c f →
              Representation P S (λ e. IsBelow order e f) (subtract P.ring (mul (term scalars.one m') g) (mul (term scalars.one n') h))
          go w =
              Representation-same P
              (moved m' n' w.quotient (factor m a m' w.quotient e (w.product ∙ sym u)) (factor n b n' w.quotient d (w.product ∙ v)))
              (Representation-multiple P scalars.one w.quotient
              (λ b' k. subst (IsBelow order (times w.quotient b')) (P.monomials.times_comm w.quotient c ∙ w.product)
              (below_times order w.quotient k)) r)

  -- A monic polynomial is its lead and a rest below it.
  monic_split : {g : A} {a : M} → IsMonic P g a → g ≡ add (term scalars.one a) (without P g a)
  monic_split {g} {a} is = with_term P g a ∙ ap (λ c. add (term c a) (without P g a)) is.monic

  -- Buchberger's first criterion: a pair with coprime leads is settled.
  pub Settled-coprime : {S : A → Type 0} {g h : A} {a b : M} → S g → S h → IsMonic P g a → IsMonic P h b →
      IsLeastCommonMultiple P.monomials a b (times a b) → Settled P S g h
  Settled-coprime {S} {g} {h} {a} {b} s t is is' least =
      Settled-from_least (lead_from_monic P is) (lead_from_monic P is') least b a (P.monomials.times_comm b a) refl
      (Representation-same P cross
      (Representation-subtract P
      (Representation-product P h t
      (λ e c l k. subst (λ c. IsBelow order (times e c) (times a b)) (lead_unique P (lead_from_monic P is') k) (below_right e a b l))
      (under_without P (lead_from_monic P is)))
      (Representation-product P g s
      (λ e c l k. subst (λ c. IsBelow order (times e c) (times a b)) (lead_unique P (lead_from_monic P is) k)
      (subst (IsBelow order (times e a)) (P.monomials.times_comm b a) (below_right e b a l))) (under_without P (lead_from_monic P is')))))
    where
      below_right : (e c d : M) → IsBelow order e c → IsBelow order (times e d) (times c d)
      below_right e c d l = rw (P.monomials.times_comm e d, P.monomials.times_comm c d) (below_times order d l)

      cross : subtract P.ring (mul (term scalars.one b) g) (mul (term scalars.one a) h) ≡ subtract P.ring (mul (without P g a) h) (mul (without P h b) g)
      cross =
          ap (λ g. subtract P.ring (mul (term scalars.one b) g) (mul (term scalars.one a) h)) (monic_split is)
          ∙ ap (λ h. subtract P.ring (mul (term scalars.one b) (add (term scalars.one a) (without P g a))) (mul (term scalars.one a) h))
          (monic_split is')
          ∙ crossed P.ring (term scalars.one a) (term scalars.one b) (without P g a) (without P h b)
          ∙ ap (λ u. subtract P.ring (mul (without P g a) u) (mul (without P h b) (add (term scalars.one a) (without P g a)))) (sym (monic_split is'))
          ∙ ap (λ u. subtract P.ring (mul (without P g a) h) (mul (without P h b) u)) (sym (monic_split is))

  -- The chain criterion, Buchberger's second: where the lead of k divides each common multiple of the leads of g and h, the
  -- pair of g and h is settled if those of g and k and of k and h are.
  pub Settled-chain : {S : A → Type 0} {g h k : A} {a b c : M} → IsLead P g a → IsLead P h b → IsLead P k c →
      ((d : M) → Divides P.monomials a d → Divides P.monomials b d → Divides P.monomials c d)
      → Settled P S g k → Settled P S k h → Settled P S g h
  Settled-chain {S} {g} {h} {k} {a} {b} {c} la lb lc divides s t =
      record {
        below = λ m n a' b' l l' e. go m n a' b' l l' e
            (divides (times m a') (record { quotient = m; product = P.monomials.times_comm a m ∙ ap (times m) (lead_unique P la l) })
            (record { quotient = n; product = P.monomials.times_comm b n ∙ ap (times n) (lead_unique P lb l') ∙ sym e }));
      }
    where
      go : (m n a' b' : M) → IsLead P g a' → IsLead P h b' → times m a' ≡ times n b' → Divides P.monomials c (times m a') →
          Representation P S (λ e. IsBelow order e (times m a')) (subtract P.ring (mul (term scalars.one m) g) (mul (term scalars.one n) h))
      go m n a' b' l l' e d =
          let q : times d.quotient c ≡ times m a' = P.monomials.times_comm d.quotient c ∙ d.product in
          Representation-same P (through P.ring (mul (term scalars.one m) g) (mul (term scalars.one d.quotient) k) (mul (term scalars.one n) h))
          (Representation-add P (s.below m d.quotient a' c l lc (sym q))
          (subst (λ f. Representation P S (λ e. IsBelow order e f)
          (subtract P.ring (mul (term scalars.one d.quotient) k) (mul (term scalars.one n) h))) q (t.below d.quotient n c b' lc l' (q ∙ e))))

  -- The difference of two monic multiples with one lead has its monomials below it.
  pub difference_under : {g h : A} {a b c : M} (m n : M) → IsMonic P g a → IsMonic P h b → times m a ≡ c → times n b ≡ c →
      Supported P.polynomials (λ e. IsBelow order e c) (subtract P.ring (mul (term scalars.one m) g) (mul (term scalars.one n) h))
  difference_under {g} {h} {a} {b} {c} m n is is' e d =
      under_cancel P is_lead (lead_from_monic P is') d (ap (scalars.mul scalars.one) is'.monic ∙ scalars.mul_one scalars.one ∙ sym at_lead)
    where
      at_lead : coefficient (mul (term scalars.one m) g) c ≡ scalars.one
      at_lead =
          subst (λ c. coefficient (mul (term scalars.one m) g) c ≡ scalars.one) e
          (P.coefficient_multiple scalars.one m g a ∙ ap (scalars.mul scalars.one) is.monic ∙ scalars.mul_one scalars.one)

      is_lead : IsLead P (mul (term scalars.one m) g) c
      is_lead = record {
        nonzero = λ z. P.field.one_is_not_zero (sym at_lead ∙ z);
        top =
            λ f l. coefficient_outside P.polynomials {B = λ e. IsAtMost order e (times m a)}
            (Supported-multiple P.polynomials scalars.one m (λ f k. at_most_times order m f a k) (at_most_lead P is.top)) f
            (λ k. below_irrefl order (below_at_most order f (times m a) f k (subst (λ c. IsBelow order c f) (sym e) l)));
      }

  -- A pair is settled by dividing its difference at the least common multiple of the leads by members of S, where the
  -- remainder is zero or, made monic, a member of S.
  pub Settled-by_division : {S : A → Type 0} {G : List A} {g h : A} {a b c m n : M} {t : DivisionState A} → AllMonic P (Contains G) →
      ((k : A) → Contains G k → S k) → IsMonic P g a → IsMonic P h b → IsLeastCommonMultiple P.monomials a b c → times m a ≡ c → times n b ≡ c
      → IsDivision P G (subtract P.ring (mul (term scalars.one m) g) (mul (term scalars.one n) h)) t → TreatedRemainder P S t.remainder → Settled P S g h
  Settled-by_division {S} {G} {g} {h} {a} {b} {c} {m} {n} {t} monic inside is is' least e d division remains =
      Settled-from_least (lead_from_monic P is) (lead_from_monic P is') least m n e d (represented (lead_or_zero P difference))
    where
      difference : A
      difference = subtract P.ring (mul (term scalars.one m) g) (mul (term scalars.one n) h)

      under : Supported P.polynomials (λ e. IsBelow order e c) difference
      under = difference_under m n is is' e d

      left : (f : M) → IsBelow order f c → Supported P.polynomials (λ e. IsAtMost order e f) difference → TreatedRemainder P S t.remainder →
          Representation P S (λ e. IsBelow order e c) t.remainder
      left f l w (vanishes z) = nothing z
      left f l w (appended u k x s q i) = elim (P.field.is_zero u) [
        | yes z ↦ nothing (i ∙ ap (λ u. mul (term u one) k) z ∙ ap (λ v. mul v k) (term_zero P one) ∙ zero_mul P.ring k)
        | no v ↦ Representation-same P i
            (Representation-single P u one k s
            (λ y o. subst (λ y. IsBelow order y c) (sym (one_times P.monomials y ∙ lead_unique P o (lead_from_monic P q)))
            (remainder_under.within x
            (λ z. v (sym (ap (λ r. coefficient r x) i
            ∙ subst (λ y. coefficient (mul (term u one) k) y ≡ scalars.mul u (coefficient k x)) (one_times P.monomials x)
            (P.coefficient_multiple u one k x) ∙ ap (scalars.mul u) q.monic ∙ scalars.mul_one u) ∙ z)))))
      ]
        where
          remainder_under : Supported P.polynomials (λ e. IsBelow order e c) t.remainder
          remainder_under =
              subst (Supported P.polynomials (λ e. IsBelow order e c)) (sym (difference_back P.ring difference t.remainder))
              (Supported-subtract P.polynomials under
              (Supported-from_representation P monic
              (Representation-weaker P (λ _ o. o) (λ e o. below_at_most order e f c o l) (division_representation P f w division))))

      represented : (difference ≡ 𝟘) ⊎ ((f : M) × IsLead P difference f) → Representation P S (λ e. IsBelow order e c) difference
      represented (inl z) = nothing z
      represented (inr (f, k)) =
          Representation-same P (restore P.ring difference t.remainder)
          (Representation-add P
          (Representation-weaker P inside (λ e o. below_at_most order e f c o (under.within f k.nonzero))
          (division_representation P f (at_most_lead P k.top) division)) (left f (under.within f k.nonzero) (at_most_lead P k.top) remains))

  -- Pairs in the order of the list are enough.
  pub settled_pairs : (G : List A) → AllPairs (Settled P (Contains G)) G → (g h : A) → Contains G g → Contains G h → Settled P (Contains G) g h
  settled_pairs G all g h c d =
      elim (pair_of (Settled P (Contains G)) G all g h c d)
      [ inl e ↦ subst (Settled P (Contains G) g) e (Settled-refl (Contains G) g) | inr (inl s) ↦ s | inr (inr s) ↦ Settled-sym s ]

  -- Buchberger's criterion for lists: where all pairs of a list are settled, its leads divide the leads of all nonzero members of its ideal.
  pub covers_from_settled : {L G : List A} → AllMonic P (Contains G) → AllPairs (Settled P (Contains G)) G → Inside P.ring L G → CoversLeads P L (Contains G)
  covers_from_settled {L} {G} monic all inside =
      record {
        covers = λ h m n. elim
            (buchberger P monic (settled_pairs G all) (representation_from_Member P (Member-Inside inside m))) [ inl z ↦ absurd (n z) | inr k ↦ k ];
      }
