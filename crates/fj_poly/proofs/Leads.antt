-- Polynomials and monomials that no term of theirs is above, and the leading term as the first of a falling list of terms.
use Rattle.std.proofs.Common.{All, ◌≡◌, ◌≢◌, ℕ, suc, ◌<◌, List, [], ◌∷◌, get_or, Option, Ordering, Less, Equal, Greater, Some, None, IsSome, slice_get, unwrap_or, refl, sym, ap, ap₂, ◌∙◌, subst, arith}
use Rattle.std.specs.FinMap.{empty, len}
use Rattle.std.specs.Option.{option_map}
use Rattle.std.proofs.lemmas.List.Elements.{All-head}
use Rattle.fj_coeff.specs.Field.{Field, IsField}
use Rattle.fj_algebra.specs.Ring.{CommutativeRing, subtract}
use Rattle.fj_algebra.proofs.Ring.{ring_laws as ring_rules}
use Rattle.fj_theory.specs.Exponents.{IsExponents, origin}
use Rattle.fj_theory.specs.Lead.{lead_coefficient, lead_exponents}
use Rattle.fj_theory.specs.MonomialOrder.{IsMonomialOrder, compare_by}
use Rattle.fj_theory.specs.Polynomial.{Polynomial, IsPolynomial, IsTerm, IsFalling, coefficient, difference, lead, sum, term, terms_falling}
use Rattle.fj_theory.proofs.Field.{zero_below}
use Rattle.fj_theory.proofs.IdealBridge.{over}
use Rattle.fj_theory.proofs.Lead.{IsExponents-lead, coefficient-lead, above_lead, lead_coefficient-nonzero, is_zero_map}
use Rattle.fj_theory.proofs.MonomialOrder.{compare_by_exact}
use Rattle.fj_theory.proofs.Polynomial.{coefficient-empty, coefficient-sum, IsPolynomial-empty, IsPolynomial-term}
use Rattle.fj_theory.proofs.PolynomialRing.{polynomial_ring, map_add, map_subtract, sum_comm, sum_empty}
use Rattle.fj_theory.proofs.Terms.{terms_falling-IsFalling, from_entries-terms_falling, falling_coefficients, IsTerm-terms_falling}
use Rattle.fj_poly.specs.Slots.{IsBelow, IsUpTo, without_lead}
use Rattle.fj_poly.specs.Terms.{AreTerms}
use Rattle.fj_poly.proofs.Changed.{terms_from_each}
use Rattle.fj_poly.proofs.Falling.{above_trans, above_from_below, below_from_above, falling-places}
use Rattle.fj_poly.proofs.Polynomials.{polynomial_of, IsPolynomial-polynomial_of, polynomial_of-term, sum-first, term-zero, each_term}
use Rattle.fj_poly.proofs.View.{lead-polynomial_of, len-polynomial_of, coefficient-untied}

-- The parts of a lead.
pub lead_exponents-is : (key : List ℕ → List ℕ) (f : Polynomial) (t : List ℕ × ℕ) → lead key f ≡ Some t → lead_exponents key f ≡ t.0
unfolding lead_exponents
lead_exponents-is key f t e = ap (λ o. (unwrap_or {T = List ℕ × ℕ} o (origin, 0)).0) e

pub lead_coefficient-is : (key : List ℕ → List ℕ) (f : Polynomial) (t : List ℕ × ℕ) → lead key f ≡ Some t → lead_coefficient key f ≡ t.1
unfolding lead_coefficient
lead_coefficient-is key f t e = ap (λ o. (unwrap_or {T = List ℕ × ℕ} o (origin, 0)).1) e

first_out : {A : Type 0} (R : CommutativeRing A) (a b : A) → b ≡ subtract R (R.add a b) a
first_out R a b = simp (subtract, ring_rules)

nothing_out : {A : Type 0} (R : CommutativeRing A) → subtract R R.zero R.zero ≡ R.zero
nothing_out R = simp (subtract, ring_rules)

module _ {F : Field} (L : IsField F) where
  -- The sum less its first part.
  pub sum-less_first : {f g : Polynomial} → IsPolynomial F f → IsPolynomial F g → g ≡ difference F (sum F f g) f
  sum-less_first P Q =
      let f = over P in
      let g = over Q in
      let R = polynomial_ring L in
      ap (λ h. h.map) (first_out R f g) ∙ map_subtract L (R.add f g) f ∙ ap (λ h. difference F h f.map) (map_add L f g)

  -- A term with the coefficient zero adds nothing.
  pub sum-zero_term : {f : Polynomial} → IsPolynomial F f → (c : ℕ) (m : List ℕ) → c ≡ 0 → sum F (term c m) f ≡ f
  sum-zero_term {f} P c m e = ap (λ p. sum F p f) (ap (λ d. term d m) e ∙ term-zero m) ∙ sum_comm L (IsPolynomial-empty F) P ∙ sum_empty L P

  module _ {key : List ℕ → List ℕ} (O : IsMonomialOrder key) where
    pub lead-nothing : lead key empty ≡ None
    lead-nothing = lead-polynomial_of O F [] tt tt

    -- A polynomial with a lead isn't zero, and one without is.
    pub nonzero-lead : {f : Polynomial} (t : List ℕ × ℕ) → lead key f ≡ Some t → f ≢ empty
    nonzero-lead t e z = let o = sym e ∙ ap (lead key) z ∙ lead-nothing in cc

    -- A polynomial with falling terms, all below a monomial.
    pub IsBelow-list : (m : List ℕ) (ts : List (List ℕ × ℕ)) → IsFalling key ts → AreTerms F ts → All (λ s. compare_by key m s.0 ≡ Greater) ts → IsBelow key m (polynomial_of ts)
    IsBelow-list m ts falls terms all = record {
      none = λ u U c. coefficient-untied O F ts falls terms u (λ i d l tied.
          let same : u ≡ (get_or ts i d).0 = compare_by_exact O U (each_term {F = F} ts terms i d l).exponents tied in
          c (subst (λ a. compare_by key m a ≡ Greater) (sym same) (all i d l)));
    }

    -- The first term of a falling list taken out.
    module _ (t : List ℕ × ℕ) (ts : List (List ℕ × ℕ)) (falls : IsFalling key (t ∷ ts)) (terms : AreTerms F (t ∷ ts)) where
      pub popped-lead : lead key (polynomial_of (t ∷ ts)) ≡ Some t
      popped-lead = lead-polynomial_of O F (t ∷ ts) falls terms

      pub popped-value : polynomial_of (t ∷ ts) ≡ sum F (term t.1 t.0) (polynomial_of ts)
      popped-value = sum-first L key t ts falls terms ∙ ap (λ p. sum F p (polynomial_of ts)) (polynomial_of-term L t.0 t.1 terms.0.1)

      pub popped-falls : IsFalling key ts
      popped-falls = tail ts falls
        where
          tail : (us : List (List ℕ × ℕ)) → IsFalling key (t ∷ us) → IsFalling key us
          tail [] h = tt
          tail (u ∷ us) h = h.1

      pub popped-below : IsBelow key t.0 (polynomial_of ts)
      popped-below = IsBelow-list t.0 ts popped-falls terms.1 (λ k d l. falling-places key (t ∷ ts) falls 0 (suc k) d (omega arith) (omega arith))

      pub popped-fewer : len (polynomial_of ts) < len (polynomial_of (t ∷ ts))
      popped-fewer =
          let all = len-polynomial_of O F (t ∷ ts) falls terms in
          let rest = len-polynomial_of O F ts popped-falls terms.1 in
          omega (arith, all, rest)

    -- The terms of a polynomial below a monomial.
    above_terms : {m : List ℕ} {r : Polynomial} → IsPolynomial F r → IsBelow key m r → All (λ s. compare_by key m s.0 ≡ Greater) (terms_falling key r)
    above_terms {m} {r} P B k d l = by (compare_by key m s.0) refl
      where
        s : List ℕ × ℕ
        s = get_or (terms_falling key r) k d

        T : IsTerm F (get_or (terms_falling key r) k d)
        T = IsTerm-terms_falling key P k d l

        own : coefficient r (get_or (terms_falling key r) k d).0 ≡ (get_or (terms_falling key r) k d).1
        own = subst (λ f. coefficient f (get_or (terms_falling key r) k d).0 ≡ (get_or (terms_falling key r) k d).1) (from_entries-terms_falling O P)
            (falling_coefficients O (terms_falling key r) (terms_falling-IsFalling O P) k d l)

        refuted : compare_by key m (get_or (terms_falling key r) k d).0 ≢ Greater → ⊥
        refuted n = let z = B.none _ T.exponents n in let p = T.nonzero in absurd (omega (arith, z, own, p))

        by : (o : Ordering) → compare_by key m (get_or (terms_falling key r) k d).0 ≡ o → compare_by key m (get_or (terms_falling key r) k d).0 ≡ Greater
        by Greater e = e
        by Less e = absurd (refuted (λ h. cc))
        by Equal e = absurd (refuted (λ h. cc))

    falling-cons : (t : List ℕ × ℕ) (ts : List (List ℕ × ℕ)) → IsFalling key ts → All (λ s. compare_by key t.0 s.0 ≡ Greater) ts → IsFalling key (t ∷ ts)
    falling-cons t [] falls above = tt
    falling-cons t (s ∷ ts) falls above = (All-head (λ s. compare_by key t.0 s.0 ≡ Greater) s ts above, falls)

    -- A term put before a polynomial below it leads.
    module _ {m : List ℕ} (M : IsExponents m) (c : ℕ) (positive : 0 < c) (small : c < F.size) {r : Polynomial} (P : IsPolynomial F r) (B : IsBelow key m r) where
      abbrev ts : List (List ℕ × ℕ)
      ts = terms_falling key r

      whole_falls : IsFalling key ((m, c) ∷ ts)
      whole_falls = falling-cons (m, c) ts (terms_falling-IsFalling O P) (above_terms P B)

      whole_terms : AreTerms F ((m, c) ∷ ts)
      whole_terms = ((M.eight, positive, small), terms_from_each ts (IsTerm-terms_falling key P))

      whole_value : polynomial_of ((m, c) ∷ ts) ≡ sum F (term c m) r
      whole_value = popped-value (m, c) ts whole_falls whole_terms ∙ ap (sum F (term c m)) (from_entries-terms_falling O P)

      pub lead-sum_below : lead key (sum F (term c m) r) ≡ Some (m, c)
      lead-sum_below = ap (lead key) (sym whole_value) ∙ popped-lead (m, c) ts whole_falls whole_terms

      pub without_lead-sum_below : without_lead F key (sum F (term c m) r) ≡ r
      unfolding without_lead
      without_lead-sum_below =
          ap₂ (λ d a. difference F (sum F (term c m) r) (term d a)) (lead_coefficient-is key _ _ lead-sum_below) (lead_exponents-is key _ _ lead-sum_below)
          ∙ sym (sum-less_first (IsPolynomial-term c small M) P)

    -- A falling list without its first term.
    pub without_lead-first : (t : List ℕ × ℕ) (ts : List (List ℕ × ℕ)) → IsFalling key (t ∷ ts) → AreTerms F (t ∷ ts) → without_lead F key (polynomial_of (t ∷ ts)) ≡ polynomial_of ts
    without_lead-first t ts falls terms =
        ap (without_lead F key) (popped-value t ts falls terms)
        ∙ without_lead-sum_below (record { eight = terms.0.0 }) t.1 terms.0.1 terms.0.2 (IsPolynomial-polynomial_of ts terms.1) (popped-below t ts falls terms)

    pub without_lead-empty : without_lead F key empty ≡ empty
    unfolding without_lead lead_coefficient
    without_lead-empty =
        let R = polynomial_ring L in
        let none : lead_coefficient key empty ≡ 0 = ap (λ o. (unwrap_or {T = List ℕ × ℕ} o (origin, 0)).1) lead-nothing in
        ap (difference F empty) (ap (λ c. term c (lead_exponents key empty)) none ∙ term-zero (lead_exponents key empty))
        ∙ sym (sum-less_first (IsPolynomial-empty F) (IsPolynomial-empty F) ∙ ap (λ h. difference F h empty) (sum_empty L (IsPolynomial-empty F)))

    -- A polynomial below a monomial is up to it.
    pub IsUpTo-below : {m : List ℕ} {f : Polynomial} → IsBelow key m f → IsUpTo key m f
    IsUpTo-below {m} B = record { none = λ u U c. B.none u U (λ h. cc) }

    pub IsUpTo-empty : (m : List ℕ) {f : Polynomial} → f ≡ empty → IsUpTo key m f
    IsUpTo-empty m e = record { none = λ u U c. ap (λ h. coefficient h u) e ∙ coefficient-empty u }

    pub IsBelow-empty : (m : List ℕ) {f : Polynomial} → f ≡ empty → IsBelow key m f
    IsBelow-empty m e = record { none = λ u U c. ap (λ h. coefficient h u) e ∙ coefficient-empty u }

    -- A polynomial is up to its lead, and to each monomial above.
    pub IsUpTo-lead : {f : Polynomial} → IsPolynomial F f → f ≢ empty → IsUpTo key (lead_exponents key f) f
    IsUpTo-lead P n = record { none = λ u U c. above_lead O P n u c }

    pub IsUpTo-above : {m n : List ℕ} {f : Polynomial} → compare_by key m n ≡ Greater → IsUpTo key n f → IsUpTo key m f
    IsUpTo-above {m} {n} h up = record {
      none = λ u U c. up.none u U (below_from_above key u n (above_trans key u m n (above_from_below key m u c) h));
    }

    pub IsUpTo-not_above : {m n : List ℕ} {f : Polynomial} → IsExponents m → IsExponents n → compare_by key m n ≢ Greater → IsUpTo key m f → IsUpTo key n f
    IsUpTo-not_above {m} {n} {f} M N h up = by (compare_by key m n) refl
      where
        by : (o : Ordering) → compare_by key m n ≡ o → IsUpTo key n f
        by Greater e = absurd (h e)
        by Equal e = subst (λ a. IsUpTo key a f) (compare_by_exact O M N e) up
        by Less e = IsUpTo-above (above_from_below key m n e) up

    -- A polynomial up to a monomial that isn't its lead is below it.
    pub IsBelow-not_lead : {m : List ℕ} {f : Polynomial} → IsExponents m → IsPolynomial F f → IsUpTo key m f → (f ≢ empty → lead_exponents key f ≢ m) → f ≢ empty → IsBelow key m f
    IsBelow-not_lead {m} {f} M P up apart n = record { none = λ u U c. by u U c (compare_by key m u) refl }
      where
        A : IsExponents (lead_exponents key f)
        A = IsExponents-lead O P

        at_lead : (o : Ordering) → compare_by key (lead_exponents key f) m ≡ o → coefficient f m ≡ 0
        at_lead Less e = above_lead O P n m e
        at_lead Equal e = absurd (apart n (compare_by_exact O A M e))
        at_lead Greater e =
            let z = up.none (lead_exponents key f) A (below_from_above key (lead_exponents key f) m e) in
            let own = coefficient-lead O P in
            let p = lead_coefficient-nonzero O P n in
            absurd (omega (arith, z, own, p))

        by : (u : List ℕ) → IsExponents u → compare_by key m u ≢ Greater → (o : Ordering) → compare_by key m u ≡ o → coefficient f u ≡ 0
        by u U c Less e = up.none u U e
        by u U c Equal e = ap (coefficient f) (sym (compare_by_exact O M U e)) ∙ at_lead (compare_by key (lead_exponents key f) m) refl
        by u U c Greater e = absurd (c e)

    -- Sums stay below.
    pub IsBelow-sum : {m : List ℕ} {f g : Polynomial} → IsBelow key m f → IsBelow key m g → IsBelow key m (sum F f g)
    IsBelow-sum {m} {f} {g} B C = record {
      none = λ u U c. coefficient-sum L f g u ∙ ap₂ F.add (B.none u U c) (C.none u U c) ∙ L.add_zero 0 (zero_below L);
    }

    -- A polynomial without a lead is zero.
    pub empty-no_lead : {f : Polynomial} → IsPolynomial F f → lead key f ≡ None → f ≡ empty
    unfolding lead
    empty-no_lead {f} P e = by (terms_falling key f) refl e
      where
        by : (ts : List (List ℕ × ℕ)) → terms_falling key f ≡ ts → slice_get (terms_falling key f) 0 ≡ None → f ≡ empty
        by [] h n = sym (from_entries-terms_falling O P) ∙ ap polynomial_of h
        by (t ∷ ts) h n = let s : slice_get (terms_falling key f) 0 ≡ Some t = ap (λ us. slice_get us 0) h in let z = sym n ∙ s in cc

    -- What the monomial of a lead says.
    pub empty-no_monomial : {f : Polynomial} → IsPolynomial F f → option_map {T = List ℕ × ℕ} {U = List ℕ} (λ t. t.0) (lead key f) ≡ None → f ≡ empty
    empty-no_monomial {f} P e = by (lead key f) refl e
      where
        by : (o : Option (List ℕ × ℕ)) → lead key f ≡ o → option_map {T = List ℕ × ℕ} {U = List ℕ} (λ t. t.0) (lead key f) ≡ None → f ≡ empty
        by None h n = empty-no_lead P h
        by (Some t) h n = let s = sym n ∙ ap (option_map {T = List ℕ × ℕ} {U = List ℕ} (λ t. t.0)) h in cc

    pub record HasMonomial (f : Polynomial) (a : List ℕ) : Type 0 where
      pub nonzero : f ≢ empty
      pub exponents : lead_exponents key f ≡ a

    same_some : (a b : List ℕ) → Some a ≡ Some b → a ≡ b
    same_some a b e = ap (λ o. unwrap_or o a) e

    pub has_monomial : {f : Polynomial} (a : List ℕ) → option_map {T = List ℕ × ℕ} {U = List ℕ} (λ t. t.0) (lead key f) ≡ Some a → HasMonomial f a
    has_monomial {f} a e = by (lead key f) refl e
      where
        by : (o : Option (List ℕ × ℕ)) → lead key f ≡ o → option_map {T = List ℕ × ℕ} {U = List ℕ} (λ t. t.0) (lead key f) ≡ Some a → HasMonomial f a
        by None h s = let z = sym s ∙ ap (option_map {T = List ℕ × ℕ} {U = List ℕ} (λ t. t.0)) h in cc
        by (Some t) h s = record {
          nonzero = nonzero-lead t h;
          exponents = lead_exponents-is key f t h ∙ same_some t.0 a (sym (ap (option_map {T = List ℕ × ℕ} {U = List ℕ} (λ t. t.0)) h) ∙ s);
        }

    pub monomial_lead : {f : Polynomial} → IsPolynomial F f → f ≢ empty → option_map {T = List ℕ × ℕ} {U = List ℕ} (λ t. t.0) (lead key f) ≡ Some (lead_exponents key f)
    monomial_lead {f} P n = by (lead key f) refl
      where
        by : (o : Option (List ℕ × ℕ)) → lead key f ≡ o → option_map {T = List ℕ × ℕ} {U = List ℕ} (λ t. t.0) (lead key f) ≡ Some (lead_exponents key f)
        by None h = absurd (n (empty-no_lead P h))
        by (Some t) h = ap (option_map {T = List ℕ × ℕ} {U = List ℕ} (λ t. t.0)) h ∙ ap Some (sym (lead_exponents-is key f t h))

    pub some_lead : {A : Type 0} (g : A → List ℕ) (o : Option A) {f : Polynomial} → IsPolynomial F f → f ≢ empty
        → option_map g o ≡ option_map {T = List ℕ × ℕ} {U = List ℕ} (λ t. t.0) (lead key f) → IsSome o
    some_lead g None P n e = absurd (n (empty-no_monomial P (sym e)))
    some_lead g (Some x) P n e = refl

    pub IsBelow-other_lead : {m : List ℕ} {f : Polynomial} → IsExponents m → IsPolynomial F f → IsUpTo key m f
        → (option_map {T = List ℕ × ℕ} {U = List ℕ} (λ t. t.0) (lead key f) ≡ Some m → ⊥) → IsBelow key m f
    IsBelow-other_lead {m} M P up other = elim (is_zero_map O P) [
      | yes e ↦ IsBelow-empty m e
      | no n ↦ IsBelow-not_lead M P up (λ k e. other (monomial_lead P k ∙ ap Some e)) n
    ]

-- A polynomial whose first term is taken out of its list of terms.
pub record IsPopped (F : Field) (key : List ℕ → List ℕ) (f : Polynomial) (t : List ℕ × ℕ) (ts : List (List ℕ × ℕ)) : Type 0 where
  pub lead : lead key f ≡ Some t
  pub value : f ≡ sum F (term t.1 t.0) (polynomial_of ts)
  pub below : IsBelow key t.0 (polynomial_of ts)
  pub fewer : len (polynomial_of ts) < len f
  pub falls : IsFalling key ts
  pub terms : AreTerms F ts

pub popped : {F : Field} (L : IsField F) {key : List ℕ → List ℕ} (O : IsMonomialOrder key) (us : List (List ℕ × ℕ)) {f : Polynomial} (t : List ℕ × ℕ) (ts : List (List ℕ × ℕ))
    → IsFalling key us → AreTerms F us → polynomial_of us ≡ f → us ≡ t ∷ ts → IsPopped F key f t ts
popped {F} L {key} O us t ts falls terms seen e =
    let down : IsFalling key (t ∷ ts) = subst (IsFalling key) e falls in
    let all : AreTerms F (t ∷ ts) = subst (AreTerms F) e terms in
    subst (λ g. IsPopped F key g t ts) (ap polynomial_of (sym e) ∙ seen) (record {
      lead = popped-lead L O t ts down all;
      value = popped-value L O t ts down all;
      below = popped-below L O t ts down all;
      fewer = popped-fewer L O t ts down all;
      falls = popped-falls L O t ts down all;
      terms = all.1;
    })
