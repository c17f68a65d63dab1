-- Where a division is high by its sugar: exactly where it subtracts a product with a term above the limit.
use Rattle.std.proofs.Common.{◌≡◌, ◌≢◌, ℕ, ◌+◌, ◌<◌, ◌≤◌, List, [], ◌∷◌, ◌++◌, map, All, Option, Some, None, unwrap_or, refl, sym, ap, ◌∙◌, subst, arith}
use Rattle.std.specs.FinMap.{empty}
use native.Mathlib.Decide.{dec_le}
use Rattle.std.proofs.lemmas.List.Elements.{All-map}
use Rattle.fj_coeff.specs.Field.{Field, IsField}
use Rattle.fj_algebra.proofs.Lists.{All-map_back}
use Rattle.fj_theory.specs.Exponents.{IsExponents, total, minus}
use Rattle.fj_theory.specs.MonomialOrder.{IsMonomialOrder}
use Rattle.fj_theory.specs.Polynomial.{Polynomial, IsPolynomial, degree, product}
use Rattle.fj_theory.specs.Ideal.{ArePolynomials}
use Rattle.fj_theory.specs.Lead.{lead_exponents, lead_coefficient}
use Rattle.fj_theory.specs.Steps.{StepsTo}
use Rattle.fj_groebner.specs.DegreeOrder.{IsDegreeOrder}
use Rattle.fj_groebner.specs.Division.{degree_limit, Sugared, polynomials_of, Division, first_divisor, member_at, cancelling_factor, cancel_lead, move_lead, step_by, IsDivisionStep, division_start, IsHighDivision, SubtractsHigh, DegreeAtMost}
use Rattle.fj_groebner.specs.Run.{given}
use Rattle.fj_theory.proofs.Exponents.{IsExponents-minus}
use Rattle.fj_theory.proofs.Field.{zero_below}
use Rattle.fj_theory.proofs.Polynomial.{IsPolynomial-term, get-coefficient}
use Rattle.fj_theory.proofs.Product.{IsPolynomial-product}
use Rattle.fj_theory.proofs.Roots.{mul_positive, inverse_positive}
use Rattle.fj_theory.proofs.Degree.{degree_bounds, degree_attained, degree-term, degree-product, empty_from_degree}
use Rattle.fj_theory.proofs.Lead.{IsExponents-lead, lead_coefficient-below, lead_coefficient-nonzero}
use Rattle.fj_theory.proofs.Steps.{StepsTo-keeps, StepsTo-more}
use Rattle.fj_groebner.proofs.Division.{first_divisor-Some, IsDivisionStep-polynomial}
use Rattle.fj_groebner.proofs.DegreeOrder.{polynomials_of-given, IsHighDivision-degree}

module _ {key : List ℕ → List ℕ} (K : IsMonomialOrder key) {F : Field} (L : IsField F) where
  -- The factor is a polynomial, a term that isn't zero.
  module _ {f g : Polynomial} (P : IsPolynomial F f) (Q : IsPolynomial F g) (m : g ≢ empty) where
    lead_below : lead_coefficient key g < F.size
    lead_below = lead_coefficient-below K Q (zero_below L)

    lead_positive : 0 < lead_coefficient key g
    lead_positive = lead_coefficient-nonzero K Q m

    scalar_below : F.mul (lead_coefficient key f) (F.inverse (lead_coefficient key g)) < F.size
    scalar_below = L.mul_below _ _ (lead_coefficient-below K P (zero_below L)) (L.inverse_below _ lead_positive lead_below)

    quotient_exponents : IsExponents (minus (lead_exponents key f) (lead_exponents key g))
    quotient_exponents = IsExponents-minus (IsExponents-lead K P) (IsExponents-lead K Q)

    IsPolynomial-factor : IsPolynomial F (cancelling_factor F key f g)
    IsPolynomial-factor = IsPolynomial-term _ scalar_below quotient_exponents

    scalar_positive : f ≢ empty → 0 < F.mul (lead_coefficient key f) (F.inverse (lead_coefficient key g))
    scalar_positive n =
        mul_positive L _ _ (lead_coefficient-nonzero K P n) (lead_coefficient-below K P (zero_below L)) (inverse_positive L _ lead_positive lead_below)
        (L.inverse_below _ lead_positive lead_below)

  -- The degree of the product that cancels the lead of f.
  degree_of_product : {f g : Polynomial} (P : IsPolynomial F f) (Q : IsPolynomial F g) → f ≢ empty → g ≢ empty
      → degree (product F (cancelling_factor F key f g) g) ≡ Some (total (minus (lead_exponents key f) (lead_exponents key g)) + (given g).sugar)
  unfolding given
  degree_of_product {f} {g} P Q n m = go (degree g) refl
    where
      go : (o : Option ℕ) → degree g ≡ o
          → degree (product F (cancelling_factor F key f g) g) ≡ Some (total (minus (lead_exponents key f) (lead_exponents key g)) + unwrap_or (degree g) 0)
      go None e = absurd (m (empty_from_degree L Q e))
      go (Some k) e =
          degree-product L (IsPolynomial-factor P Q m) Q (degree-term F _ (scalar_positive P Q m n) (scalar_below P Q m) (quotient_exponents P Q m)) e
          ∙ ap (λ o. Some (total (minus (lead_exponents key f) (lead_exponents key g)) + unwrap_or o 0)) (sym e)

  module _ (M : List Polynomial) (A : ArePolynomials F M) (some : All (λ g. g ≢ empty) M) where
    abbrev G : List Sugared
    G = map given M

    abbrev Step : Division → Division → Type 0
    Step = IsDivisionStep F key G

    polynomials : ArePolynomials F (polynomials_of G)
    polynomials = subst (ArePolynomials F) (sym (polynomials_of-given M)) A

    nonzero : All (λ g. g ≢ empty) (polynomials_of G)
    nonzero = subst (All (λ g. g ≢ empty)) (sym (polynomials_of-given M)) some

    -- The divisor at a place.
    record IsDivisor (k : ℕ) : Type 0 where
      polynomial : IsPolynomial F (member_at G k).polynomial
      nonzero : (member_at G k).polynomial ≢ empty
      sugar : (member_at G k).sugar ≡ (given (member_at G k).polynomial).sugar

    divisor_at : (a : List ℕ) (k : ℕ) → first_divisor key G a ≡ Some k → IsDivisor k
    unfolding member_at given
    divisor_at a k e =
        let none : Sugared = record { polynomial = empty; sugar = 0 } in
        let found = first_divisor-Some key G a k e in
        record {
          polynomial = All-map_back (IsPolynomial F) (λ g. g.polynomial) G polynomials.each k none found.0;
          nonzero = All-map_back (λ g. g ≢ empty) (λ g. g.polynomial) G nonzero k none found.0;
          sugar = All-map (λ s. s.sugar ≡ (given s.polynomial).sugar) given M (λ j d h. refl) k none found.0;
        }

    -- The product that a step subtracts, and its degree.
    abbrev subtracted : Division → ℕ → Polynomial
    subtracted s k = product F (cancelling_factor F key s.dividend (member_at G k).polynomial) (member_at G k).polynomial

    abbrev risen : Division → ℕ → ℕ
    risen s k = total (minus (lead_exponents key s.dividend) (lead_exponents key (member_at G k).polynomial)) + (member_at G k).sugar

    -- In the state s, which is under way, the divisor is at the place k.
    record IsAt (s : Division) (k : ℕ) : Type 0 where
      polynomial : IsPolynomial F s.dividend
      unfinished : s.dividend ≢ empty
      divisor : first_divisor key G (lead_exponents key s.dividend) ≡ Some k

    module _ {s : Division} {k : ℕ} (at : IsAt s k) where
      IsPolynomial-subtracted : IsPolynomial F (subtracted s k)
      IsPolynomial-subtracted =
          let d = divisor_at (lead_exponents key s.dividend) k at.divisor in
          IsPolynomial-product L (IsPolynomial-factor at.polynomial d.polynomial d.nonzero) d.polynomial

      degree-subtracted : degree (subtracted s k) ≡ Some (risen s k)
      degree-subtracted =
          let d = divisor_at (lead_exponents key s.dividend) k at.divisor in
          degree_of_product at.polynomial d.polynomial at.unfinished d.nonzero
          ∙ ap (λ n. Some (total (minus (lead_exponents key s.dividend) (lead_exponents key (member_at G k).polynomial)) + n)) (sym d.sugar)

    -- From the state s on a multiple rises above the limit.
    record RisesFrom (s : Division) : Type 0 where
      states : List Division
      reached : Division
      steps : StepsTo Step s states reached
      place : ℕ
      at : IsAt reached place
      high : degree_limit < risen reached place

    -- Where the sugar ends above the limit, a multiple has risen above it.
    first_rise : (states : List Division) (s last : Division) → IsPolynomial F s.dividend → s.sugar ≤ degree_limit → StepsTo Step s states last → degree_limit < last.sugar
        → RisesFrom s
    unfolding step_by cancel_lead move_lead
    first_rise [] s last P low e high = let q = ap (λ (d : Division). d.sugar) e in absurd (omega (arith, q, low, high))
    first_rise (t ∷ states) s last P low h high =
        by (λ l. first_rise states t last (IsDivisionStep-polynomial K L G polynomials nonzero P h.0) l h.1 high) (dec_le t.sugar degree_limit)
      where
        now : (o : Option ℕ) → first_divisor key G (lead_exponents key s.dividend) ≡ o → t ≡ step_by F key G o s → (t.sugar ≤ degree_limit → ⊥) → RisesFrom s
        now None o e n = let q = ap (λ (d : Division). d.sugar) e in absurd (n (omega (arith, q, low)))
        now (Some k) o e n =
            let q = ap (λ (d : Division). d.sugar) e in
            record {
              states = [];
              reached = s;
              steps = refl;
              place = k;
              at = record { polynomial = P; unfinished = (h.0).nonzero; divisor = o };
              high = omega (arith, q, low, n);
            }

        by : (t.sugar ≤ degree_limit → RisesFrom t) → Dec (t.sugar ≤ degree_limit) → RisesFrom s
        by later (yes l) =
            let rest = later l in
            record { states = t ∷ rest.states; reached = rest.reached; steps = (h.0, rest.steps); place = rest.place; at = rest.at; high = rest.high }
        by later (no n) = now (first_divisor key G (lead_exponents key s.dividend)) refl (h.0).next n

    module _ {h : Polynomial} (H : IsPolynomial F h) where
      low_given : DegreeAtMost degree_limit h → (given h).sugar ≤ degree_limit
      unfolding given
      low_given low = go (degree h) refl
        where
          go : (o : Option ℕ) → degree h ≡ o → unwrap_or (degree h) 0 ≤ degree_limit
          go None e = let z = ap (λ o. unwrap_or o 0) e in omega (arith, z)
          go (Some n) e =
              let top = degree_attained L H e in
              let z = ap (λ o. unwrap_or o 0) e in
              let b = low.within top.0 top.2 in
              let t = top.3 in
              omega (arith, z, b, t)

      -- A sugar above the limit comes from a product with a term above it.
      pub IsHighDivision-SubtractsHigh : DegreeAtMost degree_limit h → IsHighDivision F key G (given h) → SubtractsHigh F key G (given h)
      unfolding given division_start
      IsHighDivision-SubtractsHigh low u =
          let r = first_rise u.states (division_start G (given h)) u.reached H (low_given low) u.steps u.high in
          let top = degree_attained L (IsPolynomial-subtracted r.at) (degree-subtracted r.at) in
          let t = top.3 in
          let above = r.high in
          record {
            states = r.states;
            reached = r.reached;
            steps = r.steps;
            unfinished = (r.at).unfinished;
            place = r.place;
            divisor = (r.at).divisor;
            exponents = top.0;
            in_product = top.2;
            high = omega (arith, t, above);
          }

      -- A product with a term above the limit raises the sugar above it.
      pub SubtractsHigh-IsHighDivision : SubtractsHigh F key G (given h) → IsHighDivision F key G (given h)
      unfolding given division_start step_by cancel_lead
      SubtractsHigh-IsHighDivision u =
          let s = u.reached in
          let P : IsPolynomial F s.dividend = StepsTo-keeps Step (λ s. IsPolynomial F s.dividend) (λ s t e P. IsDivisionStep-polynomial K L G polynomials nonzero P e)
          u.states (division_start G (given h)) s u.steps H in
          let at : IsAt s u.place = record { polynomial = P; unfinished = u.unfinished; divisor = u.divisor } in
          let Q = IsPolynomial-subtracted at in
          let bound = degree_bounds L Q (degree-subtracted at) u.exponents (Q.exponents u.exponents _ (get-coefficient (subtracted s u.place) u.exponents u.in_product)) u.in_product in
          let t : Division = step_by F key G (first_divisor key G (lead_exponents key s.dividend)) s in
          let sugar = ap (λ o. (step_by F key G o s).sugar) u.divisor in
          let above = u.high in
          record {
            states = u.states ++ t ∷ [];
            reached = t;
            steps = StepsTo-more Step u.states (division_start G (given h)) s t u.steps (record { nonzero = u.unfinished; next = refl });
            high = omega (arith, bound, sugar, above);
          }

      -- In a degree order there is none.
      pub SubtractsHigh-degree_order : IsDegreeOrder key → DegreeAtMost degree_limit h → SubtractsHigh F key G (given h) → ⊥
      SubtractsHigh-degree_order D low u =
          let above = IsHighDivision-degree K D L M A some H (SubtractsHigh-IsHighDivision u) in
          let within = low_given low in
          absurd (omega (arith, above, within))
