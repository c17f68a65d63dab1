-- In a degree order a division never raises the sugar above the degree of what is divided.
use Rattle.std.proofs.Common.{◌≡◌, ◌≢◌, ℕ, ◌≤◌, ◌<◌, List, [], ◌∷◌, map, All, Option, Some, None, unwrap_or, nat_cmp, Ordering, Less, refl, sym, ap, ◌∙◌, subst, arith}
use Rattle.std.specs.FinMap.{empty}
use Rattle.std.specs.Cmp.Lexicographic.{slice_cmp}
use Rattle.std.specs.Ordering.{ordering_then}
use Rattle.std.proofs.lemmas.Bool.Decides.{nat_tests}
use Rattle.std.proofs.lemmas.Cmp.{tied_itself}
use Rattle.std.proofs.lemmas.List.Elements.{All-map, All-weaker}
use Rattle.fj_coeff.specs.Field.{Field, IsField}
use Rattle.fj_algebra.proofs.Lists.{All-map_back}
use Rattle.fj_theory.specs.Exponents.{IsExponents, total}
use Rattle.fj_theory.specs.MonomialOrder.{IsMonomialOrder, compare_by, grlex_key, grevlex_key}
use Rattle.fj_theory.specs.Polynomial.{Polynomial, IsPolynomial, coefficient, degree}
use Rattle.fj_theory.specs.Ideal.{ArePolynomials}
use Rattle.fj_theory.specs.Lead.{lead_exponents}
use Rattle.fj_groebner.specs.DegreeOrder.{IsDegreeOrder}
use Rattle.fj_groebner.specs.Division.{degree_limit, Sugared, polynomials_of, Division, first_divisor, member_at, cancel_lead, move_lead, step_by, IsDivisionStep, division_start, IsHighDivision}
use Rattle.fj_groebner.specs.Run.{given}
use Rattle.fj_theory.proofs.Exponents.{total-plus_exponents, plus-minus, IsExponents-minus, total_origin}
use Rattle.fj_theory.proofs.MonomialOrder.{compare_by_total}
use Rattle.fj_theory.proofs.Degree.{degree_from, degree-empty}
use native.Mathlib.Decide.{dec_le}
use Rattle.fj_theory.proofs.Polynomial.{coefficient-empty}
use Rattle.fj_theory.proofs.OrderedPolynomials.{monomial_order}
use Rattle.fj_theory.proofs.EighthVariable.{grevlex_degree}
use Rattle.fj_theory.proofs.Lead.{IsExponents-lead, coefficient-lead, lead_coefficient-nonzero, lead_exponents-empty, is_zero_map, above_lead}
use Rattle.fj_theory.proofs.Steps.{StepsTo-keeps}
use Rattle.fj_groebner.proofs.Division.{first_divisor-Some, IsDivisionStep-falls, IsDivisionStep-polynomial}

-- Grlex and Grevlex are degree orders.
pub grlex_key-IsDegreeOrder : IsDegreeOrder grlex_key
unfolding grlex_key
grlex_key-IsDegreeOrder = record { lower = λ a b A B h. first_less (total a) (total b) (slice_cmp nat_cmp a b) h }
  where
    first_less : (x y : ℕ) (o : Ordering) → x < y → ordering_then (nat_cmp x y) o ≡ Less
    first_less x y o h = grind (arith, nat_tests)

pub grevlex_key-IsDegreeOrder : IsDegreeOrder grevlex_key
unfolding monomial_order
grevlex_key-IsDegreeOrder = record { lower = λ a b A B h. (grevlex_degree.lower (record { list = a; is_exponents = A }) (record { list = b; is_exponents = B }) h).is_less }

-- The polynomials of a list with their degrees as sugars.
pub polynomials_of-given : (M : List Polynomial) → polynomials_of (map given M) ≡ M
unfolding given
polynomials_of-given [] = refl
polynomials_of-given (f ∷ M) = ap (λ l. f ∷ l) (polynomials_of-given M)

module _ {key : List ℕ → List ℕ} (K : IsMonomialOrder key) (D : IsDegreeOrder key) {F : Field} (L : IsField F) where
  -- No term has a greater total than the lead.
  total-lead : {f : Polynomial} → IsPolynomial F f → (a : List ℕ) → IsExponents a → 0 < coefficient f a → total a ≤ total (lead_exponents key f)
  total-lead {f} P a A p = go (dec_le (total a) (total (lead_exponents key f)))
    where
      go : Dec (total a ≤ total (lead_exponents key f)) → total a ≤ total (lead_exponents key f)
      go (yes h) = h
      go (no n) =
          let some : f ≢ empty = (λ e. let z = ap (λ g. coefficient g a) e ∙ coefficient-empty a in absurd (omega (arith, z, p))) in
          let z = above_lead K P some a (D.lower (lead_exponents key f) a (IsExponents-lead K P) A (omega (arith, n))) in
          absurd (omega (arith, z, p))

  -- The degree is the total of the lead.
  pub degree-lead : {f : Polynomial} → IsPolynomial F f → unwrap_or (degree f) 0 ≡ total (lead_exponents key f)
  degree-lead {f} P = go (is_zero_map K P)
    where
      go : Dec (f ≡ empty) → unwrap_or (degree f) 0 ≡ total (lead_exponents key f)
      go (yes e) =
          ap (λ g. unwrap_or (degree g) 0) e ∙ ap (λ o. unwrap_or o 0) degree-empty
          ∙ sym (ap (λ g. total (lead_exponents key g)) e ∙ ap total (lead_exponents-empty key) ∙ total_origin)
      go (no n) =
          let c = coefficient-lead K P in
          let p = lead_coefficient-nonzero K P n in
          ap (λ o. unwrap_or o 0) (degree_from P (lead_exponents key f) (omega (arith, c, p)) (λ b B q. total-lead P b B q))

  module _ (G : List Sugared) (A : ArePolynomials F (polynomials_of G)) (nonzero : All (λ g. g ≢ empty) (polynomials_of G))
      (plain : All (λ g. g.sugar ≡ total (lead_exponents key g.polynomial)) G) (n : ℕ) where
    -- The dividend's degree is at most n, and its sugar is n.
    record IsLevel (s : Division) : Type 0 where
      polynomial : IsPolynomial F s.dividend
      degree : total (lead_exponents key s.dividend) ≤ n
      sugar : s.sugar ≡ n

    step_degree : (s t : Division) → IsDivisionStep F key G s t → IsLevel s → total (lead_exponents key t.dividend) ≤ n
    step_degree s t h l = go (is_zero_map K (IsDivisionStep-polynomial K L G A nonzero l.polynomial h))
      where
        go : Dec (t.dividend ≡ empty) → total (lead_exponents key t.dividend) ≤ n
        go (yes e) = let z = ap (λ g. total (lead_exponents key g)) e ∙ ap total (lead_exponents-empty key) ∙ total_origin in omega (arith, z)
        go (no m) = lower (dec_le (total (lead_exponents key t.dividend)) (total (lead_exponents key s.dividend)))
          where
            lower : Dec (total (lead_exponents key t.dividend) ≤ total (lead_exponents key s.dividend)) → total (lead_exponents key t.dividend) ≤ n
            lower (yes q) = let d = l.degree in omega (arith, q, d)
            lower (no q) = absurd (clash (IsDivisionStep-falls K L G A nonzero l.polynomial h m)
                (D.lower _ _ (IsExponents-lead K l.polynomial) (IsExponents-lead K (IsDivisionStep-polynomial K L G A nonzero l.polynomial h)) (omega (arith, q))))
              where
                clash : compare_by key (lead_exponents key t.dividend) (lead_exponents key s.dividend) ≡ Less
                    → compare_by key (lead_exponents key s.dividend) (lead_exponents key t.dividend) ≡ Less → ⊥
                clash e f = let tied = (compare_by_total key).trans _ _ _ e f in let r = tied_itself (compare_by_total key) (lead_exponents key t.dividend) in cc

    step_sugar : (s t : Division) → IsDivisionStep F key G s t → IsLevel s → t.sugar ≡ n
    unfolding step_by cancel_lead move_lead member_at
    step_sugar s t h l = go (first_divisor key G (lead_exponents key s.dividend)) refl h.next
      where
        go : (o : Option ℕ) → first_divisor key G (lead_exponents key s.dividend) ≡ o → t ≡ step_by F key G o s → t.sugar ≡ n
        go None o e = ap (λ d. d.sugar) e ∙ l.sugar
        go (Some k) o e =
            let found = first_divisor-Some key G (lead_exponents key s.dividend) k o in
            let none : Sugared = record { polynomial = empty; sugar = 0 } in
            let own = plain k none found.0 in
            let B = IsExponents-lead K (All-map_back (IsPolynomial F) (λ g. g.polynomial) G A.each k none found.0) in
            let C = IsExponents-lead K l.polynomial in
            let whole = sym (total-plus_exponents B (IsExponents-minus C B)) ∙ ap total (plus-minus B C found.1) in
            let now = ap (λ d. d.sugar) e in
            let bound = l.degree in
            let before = l.sugar in
            omega (arith, own, whole, now, bound, before)

    level : (s t : Division) → IsDivisionStep F key G s t → IsLevel s → IsLevel t
    level s t h l = record { polynomial = IsDivisionStep-polynomial K L G A nonzero l.polynomial h; degree = step_degree s t h l; sugar = step_sugar s t h l }

  given_degree : (M : List Polynomial) → ArePolynomials F M → All (λ g. g.sugar ≡ total (lead_exponents key g.polynomial)) (map given M)
  unfolding given
  given_degree M A = All-map (λ g. g.sugar ≡ total (lead_exponents key g.polynomial)) given M (All-weaker (IsPolynomial F) (λ f. (given f).sugar ≡ total (lead_exponents key f)) (λ f P. degree-lead P) M A.each)

  -- In a degree order a division is high only where what is divided has a degree above the limit.
  pub IsHighDivision-degree : (M : List Polynomial) → ArePolynomials F M → All (λ g. g ≢ empty) M → {h : Polynomial} → IsPolynomial F h
      → IsHighDivision F key (map given M) (given h)
      → degree_limit < (given h).sugar
  unfolding given division_start
  IsHighDivision-degree M A nonzero {h} H u =
      let same = polynomials_of-given M in
      let B = subst (ArePolynomials F) (sym same) A in
      let some = subst (All (λ g. g ≢ empty)) (sym same) nonzero in
      let d = degree-lead H in
      let end = StepsTo-keeps (IsDivisionStep F key (map given M)) (IsLevel (map given M) B some (given_degree M A) (given h).sugar)
      (λ s t e l. level (map given M) B some (given_degree M A) (given h).sugar s t e l) u.states (division_start (map given M) (given h)) u.reached u.steps
      (record { polynomial = H; degree = omega (arith, d); sugar = refl }) in
      let last = end.sugar in
      let high = u.high in
      omega (arith, last, high)
