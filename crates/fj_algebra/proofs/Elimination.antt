-- Elimination of a variable: the members without it of a basis for an elimination order, meets, and quotients by one element.
use Rattle.std.proofs.Common.{◌≡◌, ◌≢◌, ℕ, zero, suc, ◌+◌, ◌≤◌, List, [], ◌∷◌, All, Contains, filter, Bool, Decides, inl, inr, ◌↔◌, sym, ap, ap₂, ◌∙◌, subst, arith}
use native.Mathlib.Decide.{ℕ_discrete}
use Rattle.fj_algebra.specs.Ring.{CommutativeRing, subtract}
use Rattle.fj_algebra.specs.Ideal.{Member, Inside, multiples}
use Rattle.fj_algebra.specs.Colon.{Meet, Colon}
use Rattle.fj_algebra.specs.Order.{MonomialOrder, Divides, IsBelow}
use Rattle.fj_algebra.specs.Polynomial.{OrderedPolynomials, IsLead, IsMonic, Supported}
use Rattle.fj_algebra.specs.Buchberger.{IsReducible, LeadIsReducible, CoversLeads}
use Rattle.fj_algebra.specs.ReducedBasis.{LeadsRise, IsFreeOf, AreReduced, IsReducedBasis}
use Rattle.fj_algebra.proofs.Polynomial.{lead_induction, lead_nonzero, lead_unique, lead_or_zero, lead_from_monic, coefficient_outside, Supported-subtract, Supported-multiple}
use Rattle.fj_algebra.proofs.Division.{under_cancel, quotient_scalar, restore}
use Rattle.fj_algebra.proofs.Pairs.{AllPairs-weaker, filter_contains, contains_filter, All-from_elements}
use Rattle.fj_algebra.specs.Variable.{monomial_power, Variable, Lacks, IsPowerCoefficient, Eliminates, AgreeWithout}
use Rattle.fj_algebra.specs.Elimination.{elimination_list}
use Rattle.fj_algebra.proofs.Ring.{ring_laws, add_zero, equal_from_subtract}
use Rattle.fj_algebra.proofs.Ideal.{Member-zero, Member-add, Member-mul, Member-same, Member-append_left, Member-append_right, Member-append_split, Member-multiples, Member-multiples_split, Member-subtract, Member-Contains, Member-Inside, Inside-Contains, Inside-refl}
use Rattle.fj_algebra.proofs.Order.{trichotomy, below_irrefl, below_trans, below_times, Divides-trans}
use Rattle.std.proofs.lemmas.List.Kept.{AllPairs-filter}
use Rattle.std.proofs.lemmas.List.Elements.{All-nil, All-cons}
use Rattle.fj_algebra.proofs.Colon.{Colon-single, Meet-unique}
use Rattle.fj_algebra.proofs.ReducedBasis.{reduced_basis_same_ideal}
use Rattle.fj_algebra.proofs.Leads.{product_cancel}
use Rattle.fj_algebra.proofs.Variable.{exponent_divides, power_coefficient, power_coefficient_unique, coefficient_of_sum, coefficient_of_difference, coefficient_of_lacking, no_coefficient_of_lacking, coefficient_of_shift, no_coefficient_of_shift, coefficients_end, coefficient_member, member_from_coefficients}

module _ {A : Type 0} (R : CommutativeRing A) where
  -- t a + (1 - t) b = b + t (a - b)
  gathered : (t a b : A) → R.add (R.mul t a) (R.mul (subtract R R.one t) b) ≡ R.add b (R.mul t (subtract R a b))
  gathered t a b = simp (subtract, ring_laws)

  divided : (t h : A) → h ≡ R.add (R.mul t h) (R.mul (subtract R R.one t) h)
  divided t h = simp (subtract, ring_laws)

  -- b' in terms of 0 = b' + (a - b)
  solved : (a b b' : A) → R.zero ≡ R.add b' (subtract R a b) → b ≡ R.add b' a
  solved a b b' e = sym (equal_from_subtract R (R.add b' a) b (R.add_assoc b' a (R.neg b) ∙ sym e))

module _ {K M A : Type 0} (P : OrderedPolynomials K M A) (t : Variable P.monomials) where
  open P use {coefficient, term, ring.{zero as 𝟘, one as 𝟙, add, neg, mul}, field.ring as scalars, monomials.{one, times}, order}
  open t use {exponent, rest, variable}

  -- The variable as a polynomial.
  abbrev element : A
  element = term scalars.one variable

  power_one : monomial_power P.monomials variable 1 ≡ variable
  unfolding monomial_power
  power_one = P.monomials.times_one variable

  -- The coefficients of t f are those of f, moved by one.
  shift_once : {f g : A} (k : ℕ) → IsPowerCoefficient P.polynomials t k f g → IsPowerCoefficient P.polynomials t (suc k) (mul element f) g
  shift_once {f} {g} k u =
      subst (λ v. IsPowerCoefficient P.polynomials t (suc k) (mul (term scalars.one v) f) g) power_one
      (subst (λ k. IsPowerCoefficient P.polynomials t k (mul (term scalars.one (monomial_power P.monomials variable 1)) f) g) (omega arith)
      (coefficient_of_shift P t k 1 u))

  shift_start : (f : A) → IsPowerCoefficient P.polynomials t 0 (mul element f) 𝟘
  shift_start f = subst (λ v. IsPowerCoefficient P.polynomials t 0 (mul (term scalars.one v) f) 𝟘) power_one (no_coefficient_of_shift P t 0 1 (omega arith))

  -- Where h without the variable is t a + (1 - t) b with a in (I) and b in (J), it is in both.
  module _ {I J : List A} (lacks_I : All (Lacks P.polynomials t) I) (lacks_J : All (Lacks P.polynomials t) J) {h a b : A}
      (lacks : Lacks P.polynomials t h) (in_I : Member P.ring I a) (in_J : Member P.ring J b)
      (is : h ≡ add b (mul element (subtract P.ring a b))) where
    at_b : (k : ℕ) → (g : A) × IsPowerCoefficient P.polynomials t k b g
    at_b k = power_coefficient P t k b

    h_at_start : h ≡ (at_b 0).0
    h_at_start =
        power_coefficient_unique P t (coefficient_of_lacking P t lacks)
        (subst (λ f. IsPowerCoefficient P.polynomials t 0 f (at_b 0).0) (sym is)
        (subst (IsPowerCoefficient P.polynomials t 0 (add b (mul element (subtract P.ring a b)))) (add_zero P.ring (at_b 0).0)
        (coefficient_of_sum P t (at_b 0).1 (shift_start (subtract P.ring a b)))))

    in_second : Member P.ring J h
    in_second = Member-same h_at_start (coefficient_member P t lacks_J in_J (at_b 0).1)

    next : (k : ℕ) → 𝟘 ≡ add (at_b (suc k)).0 (subtract P.ring (power_coefficient P t k a).0 (at_b k).0)
    next k =
        power_coefficient_unique P t (no_coefficient_of_lacking P t k lacks)
        (subst (λ f. IsPowerCoefficient P.polynomials t (suc k) f (add (at_b (suc k)).0 (subtract P.ring (power_coefficient P t k a).0 (at_b k).0)))
        (sym is) (coefficient_of_sum P t (at_b (suc k)).1 (shift_once k (coefficient_of_difference P t (power_coefficient P t k a).1 (at_b k).1))))

    down : (m k : ℕ) → (coefficients_end P t b).0 ≤ m + k → Member P.ring I (at_b k).0
    down zero k l = Member-same (power_coefficient_unique P t (at_b k).1 ((coefficients_end P t b).1 k (omega arith))) (Member-zero I)
    down (suc m) k l =
        Member-same (solved P.ring (power_coefficient P t k a).0 (at_b k).0 (at_b (suc k)).0 (next k))
        (Member-add (down m (suc k) (omega arith)) (coefficient_member P t lacks_I in_I (power_coefficient P t k a).1))

    in_first : Member P.ring I h
    in_first = Member-same h_at_start (down (coefficients_end P t b).0 0 (omega arith))

  -- A polynomial without the variable is in the ideal of the elimination list exactly where it is in both ideals.
  pub elimination_member : {I J : List A} → All (Lacks P.polynomials t) I → All (Lacks P.polynomials t) J → {h : A} → Lacks P.polynomials t h
      → Member P.ring (elimination_list P.polynomials t I J) h ↔ (Member P.ring I h × Member P.ring J h)
  elimination_member {I} {J} lacks_I lacks_J {h} lacks = (
    λ m. split (Member-append_split (multiples P.ring element I) (multiples P.ring (subtract P.ring 𝟙 element) J) m),
    λ m. Member-same (divided P.ring element h)
        (Member-add (Member-append_left (multiples P.ring (subtract P.ring 𝟙 element) J) (Member-multiples element m.0))
        (Member-append_right (multiples P.ring element I) (Member-multiples (subtract P.ring 𝟙 element) m.1))),
  )
    where
      split : (x : A) × (y : A) × Member P.ring (multiples P.ring element I) x × Member P.ring (multiples P.ring (subtract P.ring 𝟙 element) J) y ×
          (h ≡ add x y) → Member P.ring I h × Member P.ring J h
      split (x, y, in_x, in_y, e) =
          let first = Member-multiples_split element I in_x in
          let second = Member-multiples_split (subtract P.ring 𝟙 element) J in_y in
          let is : h ≡ add second.0 (mul element (subtract P.ring first.0 second.0)) = e ∙ ap₂ add first.2 second.2
          ∙ gathered P.ring element first.0 second.0 in
          (in_first lacks_I lacks_J lacks first.1 second.1 is, in_second lacks_I lacks_J lacks first.1 second.1 is)

  -- Under an elimination order a polynomial whose lead is without the variable is without it.
  pub lacks_from_lead : Eliminates order t → {f : A} {a : M} → IsLead P f a → exponent a ≡ 0 → Lacks P.polynomials t f
  lacks_from_lead eliminates {f} {a} l z = record { within = λ b n. go b n (ℕ_discrete (exponent b) 0) }
    where
      go : (b : M) → coefficient f b ≢ scalars.zero → Dec (exponent b ≡ 0) → exponent b ≡ 0
      go b n (yes e) = e
      go b n (no m) = absurd (n (l.top b (eliminates.greater a b (omega arith))))

  module _ (eliminates : Eliminates order t) (test : A → Bool) (decides : (f : A) → Decides (test f) (Lacks P.polynomials t f)) where
    eliminated_contains : (G : List A) (g : A) → Contains G g → Lacks P.polynomials t g → Contains (filter test G) g
    eliminated_contains G g c l = filter_contains test G g c ((decides g).1 l)

    pub eliminated_lacks : (G : List A) → All (Lacks P.polynomials t) (filter test G)
    eliminated_lacks G = All-from_elements (Lacks P.polynomials t) (filter test G) (λ g c. (decides g).0 ((contains_filter test G g c).1))

    -- The members without the variable generate the part of the ideal without it.
    pub eliminated_member : {E G : List A} → Inside P.ring G E → CoversLeads P E (Contains G) → (h : A) → Lacks P.polynomials t h →
        Member P.ring E h → Member P.ring (filter test G) h
    eliminated_member {E} {G} inside covers =
        lead_induction P (λ h. Lacks P.polynomials t h → Member P.ring E h → Member P.ring (filter test G) h) (λ _ _. Member-zero (filter test G))
        (λ f a l lower lacks m. step f a l lower lacks m (covers.covers f m (lead_nonzero P l)))
      where
        step : (f : A) (a : M) → IsLead P f a →
            ((g : A) → Supported P.polynomials (λ b. IsBelow order b a) g → Lacks P.polynomials t g → Member P.ring E g →
            Member P.ring (filter test G) g) → Lacks P.polynomials t f → Member P.ring E f → LeadIsReducible P (Contains G) f →
            Member P.ring (filter test G) f
        step f a l lower lacks m k = reduced (subst (IsReducible P (Contains G)) (lead_unique P k.is_lead l) k.reducible)
          where
            reduced : IsReducible P (Contains G) a → Member P.ring (filter test G) f
            reduced r =
                let c : K = scalars.mul (coefficient f a) (P.field.inverse (coefficient r.divisor r.lead)) in
                let height : times r.divides.quotient r.lead ≡ a = P.monomials.times_comm r.divides.quotient r.lead ∙ r.divides.product in
                let lead_lacks : exponent r.lead ≡ 0 = exponent_divides t r.lead a r.divides (lacks.within a l.nonzero) in
                let quotient_lacks : exponent r.divides.quotient ≡ 0 = exponent_divides t r.divides.quotient a
                (record { quotient = r.lead; product = height }) (lacks.within a l.nonzero) in
                let divisor_lacks : Lacks P.polynomials t r.divisor = lacks_from_lead eliminates r.is_lead lead_lacks in
                Member-same (restore P.ring f (mul (term c r.divides.quotient) r.divisor))
                (Member-add
                (lower (subtract P.ring f (mul (term c r.divides.quotient) r.divisor))
                (under_cancel P l r.is_lead height (quotient_scalar P r.is_lead (coefficient f a)))
                (Supported-subtract P.polynomials lacks
                (Supported-multiple P.polynomials c r.divides.quotient
                (λ b z. t.exponent_times r.divides.quotient b ∙ omega (arith, quotient_lacks, z)) divisor_lacks))
                (Member-subtract m (Member-mul (term c r.divides.quotient) (Inside-Contains inside r.member))))
                (Member-mul (term c r.divides.quotient) (Member-Contains (eliminated_contains G r.divisor r.member divisor_lacks))))

    -- The members without the variable of a basis of the elimination list generate the meet.
    pub eliminated_meet : {I J G : List A} → All (Lacks P.polynomials t) I → All (Lacks P.polynomials t) J →
        Inside P.ring G (elimination_list P.polynomials t I J) → CoversLeads P (elimination_list P.polynomials t I J) (Contains G) →
        Meet P.ring I J (filter test G)
    eliminated_meet {I} {J} {G} lacks_I lacks_J inside covers = record {
      left = λ h m. Member-Inside (record { each = All-from_elements (Member P.ring I) (filter test G) (λ g c. (in_both g c).0) }) m;
      right = λ h m. Member-Inside (record { each = All-from_elements (Member P.ring J) (filter test G) (λ g c. (in_both g c).1) }) m;
      both =
          λ h m n. member_from_coefficients P t h
          (λ k g u. eliminated_member inside covers g u.lacks
          ((elimination_member lacks_I lacks_J u.lacks).1 (coefficient_member P t lacks_I m u, coefficient_member P t lacks_J n u)));
    }
      where
        in_both : (g : A) → Contains (filter test G) g → Member P.ring I g × Member P.ring J g
        in_both g c =
            (elimination_member lacks_I lacks_J ((decides g).0 ((contains_filter test G g c).1))).0
            (Inside-Contains inside ((contains_filter test G g c).0))

    -- The members without the variable of a reduced basis for the elimination order are a reduced basis of the ideal that
    -- they generate, also for another order that agrees where the variable lacks.
    module _ (second : MonomialOrder P.monomials) (agree : AgreeWithout t order second) where
      -- the same polynomials in the second order
      abbrev pub in_second_order : OrderedPolynomials K M A
      in_second_order = record { polynomials = P.polynomials; order = second }

      agree_back : (a b : M) → exponent a ≡ 0 → exponent b ≡ 0 → IsBelow second a b → IsBelow order a b
      agree_back a b y z l = elim (trichotomy order a b) [
        | inl m ↦ m
        | inr (inl e) ↦ absurd (below_irrefl second (subst (IsBelow second a) (sym e) l))
        | inr (inr m) ↦ absurd (below_irrefl second (below_trans second l (agree.agree b a z y m)))
      ]

      lead_forth : {f : A} {a : M} → Lacks P.polynomials t f → IsLead P f a → IsLead in_second_order f a
      lead_forth {f} {a} lacks l =
          record {
            nonzero = l.nonzero;
            top = λ b m. elim (P.field.is_zero (coefficient f b))
                [ yes z ↦ z | no n ↦ absurd (n (l.top b (agree_back a b (lacks.within a l.nonzero) (lacks.within b n) m))) ];
          }

      lead_back : {f : A} {a : M} → Lacks P.polynomials t f → IsLead in_second_order f a → IsLead P f a
      lead_back {f} {a} lacks l =
          record {
            nonzero = l.nonzero;
            top = λ b m. elim (P.field.is_zero (coefficient f b))
                [ yes z ↦ z | no n ↦ absurd (n (l.top b (agree.agree a b (lacks.within a l.nonzero) (lacks.within b n) m))) ];
          }

      pub eliminated_basis : {E G : List A} → IsReducedBasis P E G → IsReducedBasis in_second_order (filter test G) (filter test G)
      eliminated_basis {E} {G} basis = record {
        members = Inside-refl (filter test G);
        monic = record { lead = λ g c. monic_of g (lacks_of g c) (basis.monic.lead g ((contains_filter test G g c).0)) };
        rising =
            AllPairs-weaker (LeadsRise P) (LeadsRise in_second_order) (filter test G)
            (λ g h c d r. record {
              below = λ a b l k. agree.agree a b ((lacks_of g c).within a l.nonzero) ((lacks_of h d).within b k.nonzero)
                  (r.below a b (lead_back (lacks_of g c) l) (lead_back (lacks_of h d) k));
            }) (AllPairs-filter (LeadsRise P) test G basis.rising);
        reduced =
            AllPairs-weaker (AreReduced P) (AreReduced in_second_order) (filter test G)
            (λ g h c d r. record { first = free_of g h (lacks_of h d) r.first; second = free_of h g (lacks_of g c) r.second })
            (AllPairs-filter (AreReduced P) test G basis.reduced);
        covers = record { covers = λ h m n. elim (lead_or_zero in_second_order h) [ inl z ↦ absurd (n z) | inr (a, l) ↦ covered h m a l ] };
      }
        where
          lacks_of : (g : A) → Contains (filter test G) g → Lacks P.polynomials t g
          lacks_of g c = (decides g).0 ((contains_filter test G g c).1)

          monic_of : (g : A) → Lacks P.polynomials t g → (a : M) × IsMonic P g a → (a : M) × IsMonic in_second_order g a
          monic_of g lacks (a, is) = (a, record { monic = is.monic; top = (lead_forth lacks (lead_from_monic P is)).top })

          free_of : (g h : A) → Lacks P.polynomials t h → IsFreeOf P g h → IsFreeOf in_second_order g h
          free_of g h lacks f = record { free = λ a b n l d. f.free a b n (lead_back lacks l) d }

          covered : (h : A) → Member P.ring (filter test G) h → (a : M) → IsLead in_second_order h a →
              LeadIsReducible in_second_order (Contains (filter test G)) h
          covered h m a l = record { lead = a; is_lead = l; reducible = reducible (basis.covers.covers g in_E (lead_nonzero in_second_order g_lead)) }
            where
              g : A
              g = (power_coefficient P t (exponent a) h).0

              is : IsPowerCoefficient P.polynomials t (exponent a) h g
              is = (power_coefficient P t (exponent a) h).1

              in_E : Member P.ring E g
              in_E =
                  Member-Inside (record {
                    each = All-from_elements (Member P.ring E) (filter test G)
                        (λ g c. Inside-Contains basis.members ((contains_filter test G g c).0));
                  }) (coefficient_member P t (eliminated_lacks G) m is)

              g_lead : IsLead in_second_order g (rest a)
              g_lead = record {
                nonzero = λ z. l.nonzero (sym (is.is (rest a) (t.exponent_rest a) ∙ ap (coefficient h) (t.split a)) ∙ z);
                top = λ b k. elim (ℕ_discrete (exponent b) 0) [
                  | yes z ↦ is.is b z ∙ l.top (times (monomial_power P.monomials variable (exponent a)) b)
                      (subst (λ c. IsBelow second c (times (monomial_power P.monomials variable (exponent a)) b)) (t.split a)
                      (below_times second (monomial_power P.monomials variable (exponent a)) k))
                  | no n ↦ coefficient_outside P.polynomials is.lacks b n
                ];
              }

              reducible : LeadIsReducible P (Contains G) g → IsReducible in_second_order (Contains (filter test G)) a
              reducible k =
                  let r = k.reducible in
                  let to_rest : Divides P.monomials r.lead (rest a) = subst (Divides P.monomials r.lead)
                  (lead_unique P k.is_lead (lead_back is.lacks g_lead)) r.divides in
                  let lacks : Lacks P.polynomials t r.divisor = lacks_from_lead eliminates r.is_lead
                  (exponent_divides t r.lead (rest a) to_rest (t.exponent_rest a)) in
                  record {
                    divisor = r.divisor;
                    member = eliminated_contains G r.divisor r.member lacks;
                    lead = r.lead;
                    is_lead = lead_forth lacks r.is_lead;
                    divides =
                        Divides-trans to_rest
                        (record {
                          quotient = monomial_power P.monomials variable (exponent a);
                          product = P.monomials.times_comm (rest a) (monomial_power P.monomials variable (exponent a)) ∙ t.split a;
                        });
                  }

      -- For the elimination list it is the reduced basis of the meet.
      pub eliminated_meet_basis : {I J G N : List A} → All (Lacks P.polynomials t) I → All (Lacks P.polynomials t) J →
          IsReducedBasis P (elimination_list P.polynomials t I J) G → Meet P.ring I J N → IsReducedBasis in_second_order N (filter test G)
      eliminated_meet_basis lacks_I lacks_J basis meet =
          reduced_basis_same_ideal in_second_order (Meet-unique (eliminated_meet lacks_I lacks_J basis.members basis.covers) meet)
          (eliminated_basis basis)

    -- The quotient by one polynomial: the members of the meet with its ideal are divided by it.
    pub eliminated_colon : {I G Q : List A} {g : A} → All (Lacks P.polynomials t) I → Lacks P.polynomials t g → g ≢ 𝟘 →
        Inside P.ring G (elimination_list P.polynomials t I (g ∷ [])) → CoversLeads P (elimination_list P.polynomials t I (g ∷ [])) (Contains G)
        → filter test G ≡ multiples P.ring g Q → Colon P.ring I (g ∷ []) Q
    eliminated_colon {I} {G} {Q} {g} lacks_I lacks nonzero inside covers divided =
        Colon-single (product_cancel P nonzero)
        (subst (Meet P.ring I (g ∷ [])) divided
        (eliminated_meet lacks_I (All-cons (Lacks P.polynomials t) g [] lacks (All-nil (Lacks P.polynomials t))) inside covers))
