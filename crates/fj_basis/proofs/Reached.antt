-- The states that a division reaches, and its end.
use Rattle.std.proofs.Common.{◌≡◌, ◌≢◌, ℕ, ◌^◌, ◌<◌, ◌≤◌, List, [], ◌∷◌, ◌++◌, length, map, replicate, All, Less, Some, None, refl, sym, ap, ◌∙◌, subst, subst₂, arith}
use Rattle.std.specs.FinMap.{empty}
use Rattle.std.proofs.lemmas.List.{length-map, length-replicate, get_or-replicate}
use Rattle.fj_coeff.specs.Field.{Field, IsField}
use Rattle.fj_theory.specs.Exponents.{IsExponents, total}
use Rattle.fj_theory.specs.MonomialOrder.{IsMonomialOrder, compare_by}
use Rattle.fj_theory.specs.Polynomial.{Polynomial, IsPolynomial, coefficient, lead}
use Rattle.fj_theory.specs.Ideal.{ArePolynomials}
use Rattle.fj_theory.specs.Lead.{lead_exponents}
use Rattle.fj_theory.specs.Steps.{StepsTo}
use Rattle.fj_groebner.specs.Division.{Sugared, Division, polynomials_of, AreWithinSugars, DegreeAtMost, IsDivisionStep, IsLowDivision, IsHighDivision, division_start, degree_limit, first_divisor, step_by}
use Rattle.fj_groebner.proofs.Division.{IsDivisionStep-falls}
use Rattle.fj_theory.proofs.Lead.{IsExponents-lead, coefficient-lead, lead_coefficient-nonzero}
use Rattle.fj_theory.proofs.Polynomial.{coefficient-empty, IsPolynomial-empty}
use Rattle.fj_groebner.proofs.Sugar.{StepsTo-IsWithinSugar}
use Rattle.fj_basis.specs.Quotients.{IsUnderWay}
use Rattle.fj_basis.proofs.DivisionState.{lead-none, lead-parts, some-lead}
use Rattle.fj_basis.proofs.Height.{height, height-less}
use Rattle.fj_theory.proofs.Steps.{StepsTo-more}
use Rattle.fj_basis.proofs.UnderWay.{IsUnderWay-step}

-- The division of h leads to the state, with no sugar above the limit.
pub record Reached (F : Field) (key : List ℕ → List ℕ) (G : List Sugared) (h : Sugared) (s : Division) : Type 0 where
  pub states : List Division
  pub steps : StepsTo (IsDivisionStep F key G) (division_start G h) states s
  pub under_way : IsUnderWay F key G s
  pub low : s.sugar ≤ degree_limit

-- The start over a list that is seen by a function.
pub start-is : {D : Type 0} (f : D → Sugared) (list : List D) (h : Polynomial) (n : ℕ)
    → record { dividend = h; quotients = replicate (length list) empty; remainder = empty; sugar = n } ≡ division_start (map f list) (record { polynomial = h; sugar = n })
unfolding division_start
start-is f list h n = λ i. record { dividend = h; quotients = replicate (sym (length-map list f) i) empty; remainder = empty; sugar = n }

module _ {F : Field} (L : IsField F) {key : List ℕ → List ℕ} (O : IsMonomialOrder key) (G : List Sugared) (A : ArePolynomials F (polynomials_of G))
    (nonzero : All (λ g. g ≢ empty) (polynomials_of G)) (h : Sugared) (H : IsPolynomial F h.polynomial) where
  -- The start is reached.
  pub Reached-start : (s : Division) → s ≡ division_start G h → h.sugar ≤ degree_limit → Reached F key G h s
  unfolding division_start
  Reached-start s e low = record {
    states = [];
    steps = sym e;
    under_way = subst (IsUnderWay F key G) (sym e) (record {
      dividend = H;
      quotients = record { each = λ k d l. subst (IsPolynomial F) (sym (get_or-replicate (length G) k empty d (omega (arith, l, length-replicate (length G) (empty_map))))) (IsPolynomial-empty F) };
      long = length-replicate (length G) empty;
      above = λ n k l a p.
          let none = ap (λ f. coefficient f a) (get_or-replicate (length G) k empty_map empty (omega (arith, l, length-replicate (length G) (empty_map)))) ∙ coefficient-empty a in
          absurd (omega (arith, none, p));
      remainder = IsPolynomial-empty F;
      remainder_above = λ n a p. let none = coefficient-empty a in absurd (omega (arith, none, p));
    });
    low = let n = ap (λ x. x.sugar) e in omega (arith, n, low);
  }
    where
      empty_map : Polynomial
      empty_map = empty

  -- One step on.
  pub Reached-step : {s t : Division} → Reached F key G h s → IsDivisionStep F key G s t → t.sugar ≤ degree_limit → Reached F key G h t
  Reached-step {s} {t} r step low = record {
    states = r.states ++ t ∷ [];
    steps = StepsTo-more (IsDivisionStep F key G) r.states _ s t r.steps step;
    under_way = IsUnderWay-step L O G A nonzero r.under_way step;
    low = low;
  }

  -- Where nothing is left, it is the division.
  pub Reached-end : {s : Division} → Reached F key G h s → lead key s.dividend ≡ None → IsLowDivision F key G h s
  Reached-end {s} r none = record { division = record { states = r.states; steps = r.steps; finished = lead-none O r.under_way.dividend none }; low = r.low }

  -- A step that would pass the limit.
  pub Reached-high : {s t : Division} → Reached F key G h s → IsDivisionStep F key G s t → degree_limit < t.sugar → IsHighDivision F key G h
  Reached-high {s} {t} r step high = record { states = r.states ++ t ∷ []; reached = t; steps = StepsTo-more (IsDivisionStep F key G) r.states _ s t r.steps step; high = high }

  -- The state after the next step.
  pub after : Division → Division
  after s = step_by F key G (first_divisor key G (lead_exponents key s.dividend)) s

  pub after-step : {s : Division} {m : List ℕ × ℕ} → lead key s.dividend ≡ Some m → IsDivisionStep F key G s (after s)
  unfolding after
  after-step {s} {m} is = record { nonzero = some-lead F O is; next = refl }

  pub after-sugar : (s : Division) {m : List ℕ × ℕ} → lead key s.dividend ≡ Some m → (after s).sugar ≡ (step_by F key G (first_divisor key G m.0) s).sugar
  unfolding after
  after-sugar s {m} is = ap (λ x. (step_by F key G (first_divisor key G x) s).sugar) (lead-parts key s.dividend m is).0

  pub next-sugar : {s t : Division} {m : List ℕ × ℕ} → lead key s.dividend ≡ Some m → IsDivisionStep F key G s t → t.sugar ≡ (step_by F key G (first_divisor key G m.0) s).sugar
  next-sugar {s} {t} {m} is h = ap (λ x. x.sugar) h.next ∙ ap (λ x. (step_by F key G (first_divisor key G x) s).sugar) (lead-parts key s.dividend m is).0

  module _ (within : AreWithinSugars G) (bound : DegreeAtMost h.sugar h.polynomial) where
    -- The height falls with each step.
    pub Reached-falls : {s t : Division} {m : List ℕ × ℕ} → Reached F key G h s → Reached F key G h t → IsDivisionStep F key G s t → lead key s.dividend ≡ Some m
        → height key t.dividend < height key s.dividend
    Reached-falls {s} {t} {m} r q step is =
        let own = (lead-parts key s.dividend m is).0 in
        height-less O s.dividend t.dividend m is (subst IsExponents own (IsExponents-lead O r.under_way.dividend))
        (λ u e.
        let parts = lead-parts key t.dividend u e in
        let some = some-lead F O e in
        let P = q.under_way.dividend in
        let exponents = IsExponents-lead O P in
        let inside = StepsTo-IsWithinSugar O L G A nonzero within h H bound q.states t q.steps in
        let positive = lead_coefficient-nonzero O P some in
        let own_coefficient = coefficient-lead O P in
        let top = inside.dividend.within (lead_exponents key t.dividend) (omega (arith, positive, own_coefficient)) in
        let low = q.low in
        let degree : total u.0 ≤ 2 ^ 40 = (let same = ap total parts.0 in omega (arith, same, top, low)) in
        (subst IsExponents parts.0 exponents, degree, subst₂ (λ x y. compare_by key x y ≡ Less) parts.0 own (IsDivisionStep-falls O L G A nonzero r.under_way.dividend step some)))
