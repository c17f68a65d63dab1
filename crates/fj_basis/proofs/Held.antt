-- A dividend whose leading term is taken out, and the steps of a division on what is left.
use Rattle.std.proofs.Common.{◌≡◌, ◌≢◌, ◌⊎◌, inl, inr, ℕ, ◌+◌, ◌<◌, max, List, [], ◌∷◌, get_or, set, IsTrue, Some, None, refl, sym, ap, ap₂, ◌∙◌, subst, arith, ⊎_elim, eq-zero-or-pos}
use Rattle.std.specs.FinMap.{empty}
use Rattle.fj_coeff.specs.Field.{Field, IsField}
use Rattle.fj_algebra.specs.Ring.{CommutativeRing, subtract}
use Rattle.fj_algebra.proofs.Ring.{ring_laws as ring_rules}
use Rattle.fj_theory.specs.Exponents.{IsExponents, total, minus, divides}
use Rattle.fj_theory.specs.Lead.{lead_coefficient, lead_exponents}
use Rattle.fj_theory.specs.MonomialOrder.{IsMonomialOrder}
use Rattle.fj_theory.specs.Polynomial.{Polynomial, IsPolynomial, IsFalling, coefficient, difference, lead, negation, product, sum, term, terms_falling}
use Rattle.fj_theory.proofs.Exponents.{IsExponents-minus, plus-minus, plus_comm}
use Rattle.fj_theory.proofs.Field.{zero_below}
use Rattle.fj_theory.proofs.IdealBridge.{over}
use Rattle.fj_theory.proofs.Lead.{IsExponents-lead, coefficient-lead, lead_coefficient-below, lead_coefficient-nonzero}
use Rattle.fj_theory.proofs.Monomial.{product_terms}
use Rattle.fj_theory.proofs.Polynomial.{IsPolynomial-term}
use Rattle.fj_theory.proofs.PolynomialRing.{polynomial_ring, map_add, map_neg, map_subtract, product_sum, coefficient-negation, neg_zero_rank}
use Rattle.fj_theory.proofs.Product.{IsPolynomial-product}
use Rattle.fj_theory.proofs.Terms.{terms_falling-IsFalling, from_entries-terms_falling, IsTerm-terms_falling}
use Rattle.fj_groebner.specs.Division.{DegreeAtMost, Division, cancel_lead, move_lead}
use Rattle.fj_poly.specs.Slots.{IsBelow, without_lead}
use Rattle.fj_poly.specs.Terms.{AreTerms}
use Rattle.fj_poly.proofs.Changed.{terms_from_each}
use Rattle.fj_poly.proofs.Leads.{lead_coefficient-is, lead_exponents-is, popped, sum-less_first, without_lead-empty, without_lead-first}
use Rattle.fj_poly.proofs.Polynomials.{polynomial_of, IsPolynomial-polynomial_of}
use Rattle.fj_basis.specs.Quotients.{with_lead}
use Rattle.fj_basis.proofs.DivisionState.{lead-none}
use Rattle.fj_basis.proofs.Multiples.{product_term-negation}
use Rattle.fj_basis.proofs.RowBounds.{sum-positive, term-positive}

-- The state of these fields.
abbrev pub state : Polynomial → List Polynomial → Polynomial → ℕ → Division
state f qs r n = record { dividend = f; quotients = qs; remainder = r; sugar = n }

-- Equal fields make equal states.
pub state_same : {f g : Polynomial} {ps qs : List Polynomial} (r : Polynomial) {m n : ℕ} → f ≡ g → ps ≡ qs → m ≡ n → state f ps r m ≡ state g qs r n
state_same r e h l = λ i. record { dividend = e i; quotients = h i; remainder = r; sugar = l i }

cancelled : {A : Type 0} (R : CommutativeRing A) (t r q : A) → R.add r (R.neg q) ≡ subtract R (R.add t r) (R.add t q)
cancelled R t r q = simp (subtract, ring_rules)

-- A polynomial and its leading term.
pub record IsSplit (F : Field) (key : List ℕ → List ℕ) (f : Polynomial) : Type 0 where
  pub value : f ≡ sum F (term (lead_coefficient key f) (lead_exponents key f)) (without_lead F key f)
  pub rest : IsPolynomial F (without_lead F key f)
  pub below : IsBelow key (lead_exponents key f) (without_lead F key f)

module _ {F : Field} (L : IsField F) {key : List ℕ → List ℕ} (O : IsMonomialOrder key) where
  pub split : {f : Polynomial} → IsPolynomial F f → f ≢ empty → IsSplit F key f
  split {f} P n = by (terms_falling key f) refl (terms_falling-IsFalling O P) (terms_from_each (terms_falling key f) (IsTerm-terms_falling key P)) (from_entries-terms_falling O P)
    where
      by : (ts : List (List ℕ × ℕ)) → terms_falling key f ≡ ts → IsFalling key (terms_falling key f) → AreTerms F (terms_falling key f) → polynomial_of (terms_falling key f) ≡ f → IsSplit F key f
      by [] e falls terms seen = absurd (n (sym seen ∙ ap polynomial_of e))
      by (t ∷ ts) e falls terms seen =
          let p = popped L O (terms_falling key f) t ts falls terms seen e in
          let a = lead_exponents-is key f t p.lead in
          let c = lead_coefficient-is key f t p.lead in
          let own : without_lead F key f ≡ polynomial_of ts =
          ap (without_lead F key) (sym seen ∙ ap polynomial_of e) ∙ without_lead-first L O t ts (subst (IsFalling key) e falls) (subst (AreTerms F) e terms) in
          record {
            value = p.value ∙ ap₂ (λ d r. sum F d r) (ap₂ term (sym c) (sym a)) (sym own);
            rest = subst (IsPolynomial F) (sym own) (IsPolynomial-polynomial_of ts p.terms);
            below = subst (λ r. IsBelow key (lead_exponents key f) r) (sym own) (subst (λ b. IsBelow key b (polynomial_of ts)) (sym a) p.below);
          }

  -- The rest is within the bounds of the whole.
  pub rest-within : {f : Polynomial} → IsPolynomial F f → f ≢ empty → (n : ℕ) → DegreeAtMost n f → DegreeAtMost n (without_lead F key f)
  unfolding without_lead difference
  rest-within {f} P some n within = record { within = λ a p. within.within a (by a (sum-positive L f (negation F leading) a p)) }
    where
      leading : Polynomial
      leading = term (lead_coefficient key f) (lead_exponents key f)

      nothing : (a : List ℕ) → coefficient leading a ≡ 0 → coefficient (negation F leading) a ≡ 0
      nothing a z = coefficient-negation L leading a ∙ ap F.neg z ∙ neg_zero_rank L

      own : 0 < coefficient f (lead_exponents key f)
      own = let positive = lead_coefficient-nonzero O P some in let same = coefficient-lead O P in omega (arith, positive, same)

      by : (a : List ℕ) → (0 < coefficient f a) ⊎ (0 < coefficient (negation F leading) a) → 0 < coefficient f a
      by a (inl p) = p
      by a (inr p) =
          ⊎_elim (λ z. let none = nothing a z in absurd (omega (arith, none, p)))
          (λ q. subst (λ b. 0 < coefficient f b) (sym (term-positive (lead_coefficient key f) (lead_exponents key f) a q)) own)
          (eq-zero-or-pos (coefficient leading a))

  -- The negative of an element that isn't zero isn't zero.
  pub negative-nonzero : (c : ℕ) → c < F.size → 0 < c → F.neg c ≢ 0
  negative-nonzero c h p z =
      let none : c ≡ 0 = sym (L.add_zero c h) ∙ ap (F.add c) (sym z) ∙ L.add_neg c h in
      absurd (omega (arith, none, p))

  -- The lead put back.
  pub with_lead-taken : {s : Division} → IsPolynomial F s.dividend → (m : List ℕ) (c : ℕ) → lead key s.dividend ≡ Some (m, c) → (t : Division) → t ≡ record s { dividend = without_lead F key s.dividend }
      → s.dividend ≢ empty → with_lead F c m t ≡ s
  with_lead-taken {s} P m c is t e n =
      let whole : sum F (term c m) (without_lead F key s.dividend) ≡ s.dividend =
      ap₂ (λ d b. sum F (term d b) (without_lead F key s.dividend)) (sym (lead_coefficient-is key s.dividend (m, c) is)) (sym (lead_exponents-is key s.dividend (m, c) is)) ∙ sym (split P n).value in
      ap (with_lead F c m) e ∙ (λ i. record { dividend = whole i; quotients = s.quotients; remainder = s.remainder; sugar = s.sugar })

  -- Where there is no lead, nothing is taken out.
  pub nothing-taken : {s t : Division} → IsPolynomial F s.dividend → lead key s.dividend ≡ None → t ≡ record s { dividend = without_lead F key s.dividend } → s ≡ t
  nothing-taken {s} P none e =
      let zero = lead-none O P none in
      let same : s.dividend ≡ without_lead F key s.dividend = zero ∙ sym (without_lead-empty L O) ∙ ap (without_lead F key) (sym zero) in
      state_same s.remainder same refl refl ∙ sym e

  module _ (s : Division) (P : IsPolynomial F s.dividend) {m : List ℕ} (M : IsExponents m) (c : ℕ) (small : c < F.size) (is : lead key (with_lead F c m s).dividend ≡ Some (m, c)) where
    abbrev before : Division
    before = with_lead F c m s

    own : lead_exponents key before.dividend ≡ m
    own = lead_exponents-is key before.dividend (m, c) is

    own_coefficient : lead_coefficient key before.dividend ≡ c
    own_coefficient = lead_coefficient-is key before.dividend (m, c) is

    -- The lead moves.
    pub move_lead-taken : (r : Polynomial) → r ≡ sum F s.remainder (term c m) → record s { remainder = r } ≡ move_lead F key before
    unfolding move_lead
    move_lead-taken r e =
        let leading : term c m ≡ term (lead_coefficient key before.dividend) (lead_exponents key before.dividend) = ap₂ term (sym own_coefficient) (sym own) in
        λ i. record {
          dividend = (sum-less_first L (IsPolynomial-term c small M) P ∙ ap (difference F before.dividend) leading) i;
          quotients = s.quotients;
          remainder = (e ∙ ap (sum F s.remainder) leading) i;
          sugar = s.sugar;
        }

    module _ {g : Polynomial} (Q : IsPolynomial F g) (some : g ≢ empty) (divisor : IsTrue (divides (lead_exponents key g) m)) where
      abbrev a : List ℕ
      a = minus m (lead_exponents key g)

      abbrev e : ℕ
      e = F.mul c (F.inverse (lead_coefficient key g))

      B : IsExponents (lead_exponents key g)
      B = IsExponents-lead O Q

      A : IsExponents a
      A = IsExponents-minus M B

      below : lead_coefficient key g < F.size
      below = lead_coefficient-below O Q (zero_below L)

      positive : 0 < lead_coefficient key g
      positive = lead_coefficient-nonzero O Q some

      inverse_below : F.inverse (lead_coefficient key g) < F.size
      inverse_below = L.inverse_below _ positive below

      pub factor_small : e < F.size
      factor_small = L.mul_below c _ small inverse_below

      -- The leading term of the multiple is the lead.
      leads : product F (term e a) (term (lead_coefficient key g) (lead_exponents key g)) ≡ term c m
      leads =
          product_terms L e (lead_coefficient key g) factor_small below A B
          ∙ ap₂ term (L.mul_assoc c _ _ small inverse_below below ∙ ap (F.mul c) (L.mul_comm _ _ inverse_below below ∙ L.mul_inverse _ positive below) ∙ L.mul_one c small)
          (plus_comm a (lead_exponents key g) ∙ plus-minus B M divisor)

      abbrev rest : Polynomial
      rest = without_lead F key g

      whole : product F (term e a) g ≡ sum F (term c m) (product F (term e a) rest)
      whole =
          let x = split Q some in
          let T = IsPolynomial-term e factor_small A in
          let lead_term = IsPolynomial-term (lead_coefficient key g) below B in
          ap (product F (term e a)) x.value ∙ product_sum L T lead_term x.rest ∙ ap (λ h. sum F h (product F (term e a) rest)) leads

      dividend : sum F s.dividend (product F (term (F.neg e) a) rest) ≡ difference F before.dividend (product F (term e a) g)
      dividend =
          let R = polynomial_ring L in
          let x = split Q some in
          let T = over (IsPolynomial-term c small M) in
          let r = over P in
          let q = over (IsPolynomial-product L (IsPolynomial-term e factor_small A) x.rest) in
          ap (sum F s.dividend) (product_term-negation L x.rest e factor_small A ∙ sym (map_neg L q)) ∙ sym (map_add L r (R.neg q)) ∙ ap (λ h. h.map) (cancelled R T r q)
          ∙ map_subtract L (R.add T r) (R.add T q) ∙ ap₂ (difference F) (map_add L T r) (map_add L T q ∙ sym whole)

      -- The multiple that cancels the lead is subtracted.
      pub cancel_lead-taken : (k n : ℕ)
          → state (sum F s.dividend (product F (term (F.neg e) a) rest)) (set s.quotients k (sum F (get_or s.quotients k empty) (term e a))) s.remainder (max s.sugar (total a + n))
          ≡ cancel_lead F key k (record { polynomial = g; sugar = n }) before
      unfolding cancel_lead
      cancel_lead-taken k n =
          let monomial : a ≡ minus (lead_exponents key before.dividend) (lead_exponents key g) = ap (λ x. minus x (lead_exponents key g)) (sym own) in
          let coefficient : e ≡ F.mul (lead_coefficient key before.dividend) (F.inverse (lead_coefficient key g)) = ap (λ x. F.mul x (F.inverse (lead_coefficient key g))) (sym own_coefficient) in
          let factor = ap₂ term coefficient monomial in
          λ i. record {
            dividend = (dividend ∙ ap (λ f. difference F before.dividend (product F f g)) factor) i;
            quotients = set s.quotients k (sum F (get_or s.quotients k empty) (factor i));
            remainder = s.remainder;
            sugar = max s.sugar (total (monomial i) + n);
          }
