-- Where a list lacks a variable, so does each reduced basis of its ideal.
use Rattle.std.proofs.Common.{◌≡◌, ◌≢◌, ◌⊎◌, inl, inr, ℕ, zero, ◌<◌, ◌≤◌, List, get_or, All, Contains, sym, ap, ap₂, ◌∙◌, subst, arith}
use native.Mathlib.Decide.{ℕ_discrete}
use Rattle.std.proofs.lemmas.List.Elements.{All-map}
use Rattle.fj_coeff.specs.Field.{Field, IsField}
use Rattle.fj_algebra.specs.Ring.{subtract}
use Rattle.fj_algebra.specs.Ideal.{Member}
use Rattle.fj_algebra.specs.Colon.{Meet, Colon}
use Rattle.fj_algebra.specs.Order.{Divides}
use Rattle.fj_algebra.specs.Polynomial.{PolynomialRing, OrderedPolynomials, IsLead}
use Rattle.fj_algebra.specs.Buchberger.{IsReducible}
use Rattle.fj_algebra.specs.ReducedBasis as basis
use Rattle.fj_algebra.specs.Variable.{Variable, Eliminates, monomial_power, Lacks, IsPowerCoefficient}
use Rattle.fj_algebra.proofs.Lists.{All-map_back}
use Rattle.fj_algebra.proofs.Ring.{equal_from_subtract, subtract_self}
use Rattle.fj_algebra.proofs.Ideal.{Member-same, Member-subtract, Inside-Contains}
use Rattle.fj_algebra.proofs.Order.{not_below_multiple, one_times, Divides-trans, Divides-refl}
use Rattle.fj_algebra.proofs.Pairs.{pair_of, All-from_elements}
use Rattle.fj_algebra.proofs.Polynomial.{Supported-zero, coefficient_zero, at_most_lead, coefficient_subtract, coefficient_outside, lead_from_monic, lead_or_zero, lead_nonzero, lead_unique}
use Rattle.fj_algebra.proofs.Variable.{power_coefficient, coefficient_member, coefficient_of_product, exponent_divides}
use Rattle.fj_theory.specs.MonomialOrder.{IsMonomialOrder}
use Rattle.fj_theory.specs.Polynomial.{Polynomial, IsPolynomial, product}
use Rattle.fj_theory.specs.Ideal.{ArePolynomials, multiples}
use Rattle.fj_theory.specs.Colon.{IsMeet, IsColon}
use Rattle.fj_theory.specs.PointIdeal.{UsesFirst}
use Rattle.fj_groebner.specs.ReducedBasis.{IsReducedBasis}
use Rattle.std.specs.FinMap.{empty}
use Rattle.fj_algebra.proofs.Leads.{lead_product}
use Rattle.fj_algebra.proofs.Elimination.{lacks_from_lead}
use Rattle.fj_theory.proofs.Keys.{first_key-IsMonomialOrder}
use Rattle.fj_theory.proofs.PolynomialRing.{PolynomialOver, polynomial_ring, map_zero, map_mul}
use Rattle.fj_theory.proofs.OrderedPolynomials.{ordered_polynomials, polynomials}
use Rattle.fj_theory.proofs.IdealBridge.{over, in_ring}
use Rattle.fj_theory.proofs.Colon.{Meet_over, Colon_over}
use Rattle.fj_groebner.proofs.ReducedBasis.{IsReducedBasis_polynomials, IsReducedBasis_over}
use Rattle.fj_theory.proofs.UsesFirst.{variable_over, Lacks-UsesFirst, UsesFirst-Lacks, Lacks-InRing}
use Rattle.fj_theory.proofs.Variables.{first_key_eliminates}

-- The ideal has the coefficients of its members at each power of the variable.
record HasCoefficients {K M A : Type 0} (P : PolynomialRing K M A) (t : Variable P.monomials) (L : List A) : Type 0 where
  member : {k : ℕ} {h g : A} → Member P.ring L h → IsPowerCoefficient P t k h g → Member P.ring L g

module _ {K M A : Type 0} (P : OrderedPolynomials K M A) (t : Variable P.monomials) where
  open P use {coefficient, ring.{zero as 𝟘}, field.ring as scalars, monomials.{times}, order}
  open t use {variable, exponent, rest}

  -- An ideal of polynomials without the variable has them, and so have meets and quotients of such ideals.
  lacking-HasCoefficients : {L : List A} → All (Lacks P.polynomials t) L → HasCoefficients P.polynomials t L
  lacking-HasCoefficients lacks = record { member = λ m c. coefficient_member P t lacks m c }

  meet-HasCoefficients : {I J N : List A} → HasCoefficients P.polynomials t I → HasCoefficients P.polynomials t J → Meet P.ring I J N → HasCoefficients P.polynomials t N
  meet-HasCoefficients X Y S = record { member = λ {k} {h} {g} m c. S.both g (X.member (S.left h m) c) (Y.member (S.right h m) c) }

  colon-HasCoefficients : {I J N : List A} → HasCoefficients P.polynomials t I → All (Lacks P.polynomials t) J → Colon P.ring I J N → HasCoefficients P.polynomials t N
  colon-HasCoefficients X lacks S = record {
    member = λ {k} {h} {g} m c.
        let C = S.sound h m in
        S.complete g (record {
          each = λ i d l. Member-same (P.ring.mul_comm g _) (X.member (Member-same (P.ring.mul_comm _ h) (C.each i d l)) (coefficient_of_product P t (lacks i d l) c));
        });
  }

  module _ {L G : List A} (has : HasCoefficients P.polynomials t L) (reduced : basis.IsReducedBasis P L G) where
    -- The lead of a member divides no monomial of another one.
    only : (b c : A) → Contains G b → Contains G c → (x y : M) → coefficient b x ≢ scalars.zero → IsLead P c y → Divides P.monomials y x → c ≡ b
    only b c i j x y n l d = elim (pair_of (basis.AreReduced P) G reduced.reduced b c i j) [
      | inl e ↦ sym e
      | inr (inl r) ↦ absurd (r.first.free x y n l d)
      | inr (inr r) ↦ absurd (r.second.free x y n l d)
    ]

    -- A lead that divides a monomial of a member is the member's own.
    own : (b : A) → Contains G b → (a : M) → IsLead P b a → (x : M) → coefficient b x ≢ scalars.zero → (e : M) → Divides P.monomials e x → IsReducible P (Contains G) e
        → Divides P.monomials a e
    own b i a l x n e d r =
        let same = only b r.divisor i r.member x r.lead n r.is_lead (Divides-trans r.divides d) in
        subst (λ y. Divides P.monomials y e) (lead_unique P (subst (λ c. IsLead P c r.lead) same r.is_lead) l) r.divides

    module _ (b : A) (i : Contains G b) (a : M) (l : IsLead P b a) where
      -- The lead of a member lacks the variable.
      lead_lacks : exponent a ≡ 0
      lead_lacks = go (power_coefficient P t (exponent a) b)
        where
          go : (g : A) × IsPowerCoefficient P.polynomials t (exponent a) b g → exponent a ≡ 0
          go (g, c) = at (lead_or_zero P g)
            where
              here : coefficient g (rest a) ≡ coefficient b a
              here = c.is (rest a) (t.exponent_rest a) ∙ ap (coefficient b) (t.split a)

              at : (g ≡ 𝟘) ⊎ ((e : M) × IsLead P g e) → exponent a ≡ 0
              at (inl z) = absurd (l.nonzero (sym here ∙ ap (λ f. coefficient f (rest a)) z ∙ coefficient_zero P.polynomials (rest a)))
              at (inr (e, k)) =
                  let r = reduced.covers.covers g (has.member (Inside-Contains reduced.members i) c) (lead_nonzero P k) in
                  let z = c.lacks.within e k.nonzero in
                  let x = times (monomial_power P.monomials variable (exponent a)) e in
                  exponent_divides t a e
                  (own b i a l x (λ n. k.nonzero (c.is e z ∙ n)) e (record { quotient = monomial_power P.monomials variable (exponent a); product = P.monomials.times_comm e _ })
                  (subst (IsReducible P (Contains G)) (lead_unique P r.is_lead k) r.reducible)) z

      rest_lacks : Lacks P.polynomials t b
      unfolding monomial_power
      rest_lacks = go (power_coefficient P t zero b)
        where
          go : (g : A) × IsPowerCoefficient P.polynomials t zero b g → Lacks P.polynomials t b
          go (g, c) = at (lead_or_zero P (subtract P.ring b g))
            where
              refuted : (e : M) → IsLead P (subtract P.ring b g) e → Dec (exponent e ≡ 0) → ⊥
              refuted e k (yes z) =
                  k.nonzero (coefficient_subtract P.polynomials b g e
                  ∙ ap (λ y. subtract scalars (coefficient b e) y) (c.is e z ∙ ap (coefficient b) (one_times P.monomials e)) ∙ subtract_self scalars (coefficient b e))
              refuted e k (no n) =
                  let none : coefficient g e ≡ scalars.zero = coefficient_outside P.polynomials c.lacks e n in
                  let some : coefficient b e ≢ scalars.zero = (λ z. k.nonzero (coefficient_subtract P.polynomials b g e ∙ ap₂ (subtract scalars) z none
                  ∙ subtract_self scalars scalars.zero)) in
                  let inside = Inside-Contains reduced.members i in
                  let r = reduced.covers.covers (subtract P.ring b g) (Member-subtract inside (has.member inside c)) (lead_nonzero P k) in
                  let d = own b i a l e some e (Divides-refl P.monomials e) (subst (IsReducible P (Contains G)) (lead_unique P r.is_lead k) r.reducible) in
                  elim ((at_most_lead P l.top).within e some) [
                    | inl below ↦ not_below_multiple order d below
                    | inr same ↦ n (ap exponent same ∙ lead_lacks)
                  ]

              at : (subtract P.ring b g ≡ 𝟘) ⊎ ((e : M) × IsLead P (subtract P.ring b g) e) → Lacks P.polynomials t b
              at (inl z) = subst (Lacks P.polynomials t) (sym (equal_from_subtract P.ring b g z)) c.lacks
              at (inr (e, k)) = absurd (refuted e k (ℕ_discrete (exponent e) 0))

    reduced_basis_lacks : All (Lacks P.polynomials t) G
    reduced_basis_lacks = All-from_elements (Lacks P.polynomials t) G (λ b i. let m = reduced.monic.lead b i in rest_lacks b i m.0 (lead_from_monic P m.1))

  -- A factor of a polynomial without the variable lacks it.
  factor_lacks : Eliminates order t → {f g : A} → f ≢ 𝟘 → Lacks P.polynomials t (P.ring.mul f g) → Lacks P.polynomials t g
  factor_lacks eliminates {f} {g} n l = go (lead_or_zero P f) (lead_or_zero P g)
    where
      go : (f ≡ 𝟘) ⊎ ((a : M) × IsLead P f a) → (g ≡ 𝟘) ⊎ ((b : M) × IsLead P g b) → Lacks P.polynomials t g
      go (inl z) h = absurd (n z)
      go (inr h) (inl z) = subst (Lacks P.polynomials t) (sym z) (Supported-zero P.polynomials _)
      go (inr (a, h)) (inr (b, k)) =
          let whole = l.within (times a b) (lead_product P h k).nonzero in
          let sum = t.exponent_times a b in
          lacks_from_lead P t eliminates k (omega (arith, whole, sum))

-- The ideal has the coefficients of its members at each power of each variable past the first n.
record HasAll {F : Field} (L : IsField F) (n : ℕ) (N : List (PolynomialOver F)) : Type 0 where
  at : (i : ℕ) (b : i < 8) → n ≤ i → HasCoefficients (polynomials L) (variable_over L i b) N

module _ {key : List ℕ → List ℕ} (K : IsMonomialOrder key) {F : Field} (L : IsField F) {n : ℕ} where
  -- Then its reduced bases use the first n variables alone.
  uses_first : {M G : List Polynomial} (A : ArePolynomials F M) → HasAll L n (in_ring A).list → IsReducedBasis F key M G → All (UsesFirst n) G
  unfolding ordered_polynomials
  uses_first {M} {G} A has S =
      let X = in_ring A in
      let Y = in_ring (IsReducedBasis_polynomials K L A S) in
      subst (All (UsesFirst n)) Y.are (All-map (UsesFirst n) (λ f. f.map) Y.list
      (λ k d h. UsesFirst-Lacks L (get_or Y.list k d) (λ i b l.
      reduced_basis_lacks (ordered_polynomials L K) (variable_over L i b) (has.at i b l) (IsReducedBasis_over K L X Y S) k d h)))

  list_has : {M : List Polynomial} (A : ArePolynomials F M) → All (UsesFirst n) M → HasAll L n (in_ring A).list
  unfolding ordered_polynomials
  list_has A uses = record { at = λ i b l. lacking-HasCoefficients (ordered_polynomials L K) (variable_over L i b) (Lacks-InRing L i b l (in_ring A) uses) }

  -- A reduced basis of polynomials that use the first n variables uses them alone.
  pub IsReducedBasis-UsesFirst : {M G : List Polynomial} → ArePolynomials F M → All (UsesFirst n) M → IsReducedBasis F key M G → All (UsesFirst n) G
  IsReducedBasis-UsesFirst A uses S = uses_first A (list_has A uses) S

  module _ {I J : List Polynomial} (A : ArePolynomials F I) (B : ArePolynomials F J) (uses_I : All (UsesFirst n) I) (uses_J : All (UsesFirst n) J) where
    -- So does one of a meet, and of a quotient, of ideals of such polynomials.
    pub IsMeet-UsesFirst : {M G : List Polynomial} → IsMeet F I J M → IsReducedBasis F key M G → All (UsesFirst n) G
    unfolding ordered_polynomials polynomials
    IsMeet-UsesFirst meet S =
        uses_first meet.polynomials (record {
          at = λ i b l. meet-HasCoefficients (ordered_polynomials L K) (variable_over L i b) ((list_has A uses_I).at i b l) ((list_has B uses_J).at i b l)
              (Meet_over L (in_ring A) (in_ring B) (in_ring meet.polynomials) meet);
        }) S

    pub IsColon-UsesFirst : {M G : List Polynomial} → IsColon F I J M → IsReducedBasis F key M G → All (UsesFirst n) G
    unfolding ordered_polynomials polynomials
    IsColon-UsesFirst colon S =
        uses_first colon.polynomials (record {
          at = λ i b l. colon-HasCoefficients (ordered_polynomials L K) (variable_over L i b) ((list_has A uses_I).at i b l) (Lacks-InRing L i b l (in_ring B) uses_J)
              (Colon_over L (in_ring A) (in_ring B) (in_ring colon.polynomials) colon);
        }) S

-- A factor of a polynomial that uses the first n variables uses them alone.
pub UsesFirst-factor : {F : Field} (L : IsField F) {n : ℕ} {f g : Polynomial} → IsPolynomial F f → IsPolynomial F g → f ≢ empty → UsesFirst n (product F f g) → UsesFirst n g
unfolding ordered_polynomials polynomials variable_over
UsesFirst-factor L {n} A B nonzero u =
    let whole : UsesFirst n ((polynomial_ring L).mul (over A) (over B)).map = subst (UsesFirst n) (sym (map_mul L (over A) (over B))) u in
    UsesFirst-Lacks L (over B) (λ i h l.
    factor_lacks (ordered_polynomials L (first_key-IsMonomialOrder i)) (variable_over L i h) (first_key_eliminates i h) (λ e. nonzero (ap (λ f. f.map) e ∙ map_zero L))
    (Lacks-UsesFirst L i h l ((polynomial_ring L).mul (over A) (over B)) whole))

pub UsesFirst-factors : {F : Field} (L : IsField F) {n : ℕ} {f : Polynomial} {M : List Polynomial} → IsPolynomial F f → ArePolynomials F M → f ≢ empty
    → All (UsesFirst n) (multiples F f M) → All (UsesFirst n) M
UsesFirst-factors {F} L {n} {f} {M} A P nonzero all k d h = UsesFirst-factor L A (P.each k d h) nonzero (All-map_back (UsesFirst n) (product F f) M all k d h)
