-- The member that a pair of a run gives.
use Rattle.std.proofs.Common.{◌≡◌, ◌≢◌, ℕ, zero, suc, ◌+◌, ◌-◌, ◌<◌, ◌≤◌, Option, Some, None, List, [], ◌∷◌, get_or, length, map, replicate, All, IsTrue, refl, sym, ap, ap₂, ◌∙◌, subst, subst₂, arith}
use Rattle.std.specs.FinMap.{empty}
use Rattle.std.proofs.lemmas.List.Elements.{All-cons, All-nil}
use Rattle.fj_coeff.specs.Field.{Field, IsField}
use Rattle.fj_theory.specs.Exponents.{IsExponents, divides, minus, origin, total}
use Rattle.fj_theory.specs.MonomialOrder.{IsMonomialOrder}
use Rattle.fj_theory.specs.Polynomial.{difference, Polynomial, IsPolynomial, coefficient, negation, product, sum, term}
use Rattle.fj_theory.specs.Ideal.{ArePolynomials}
use Rattle.fj_theory.specs.Lead.{lead_coefficient, lead_exponents, made_monic}
use Rattle.fj_groebner.specs.Rows.{IsRow, add_multiple}
use Rattle.fj_theory.specs.Steps.{StepsTo}
use Rattle.fj_groebner.specs.Division.{DegreeAtMost, Division, IsDivisionStep, IsHighDivision, IsLowDivision, IsWithinSugar, Sugared, cancel_lead, degree_limit, division_start, first_divisor, member_at, move_lead, step_by}
use Rattle.fj_groebner.specs.Run.{lead_of, monic_member, pair_multiple, s_polynomial}
use Rattle.fj_theory.proofs.Degree.{product_nonzero}
use Rattle.fj_groebner.proofs.Division.{IsDivision-length, IsDivision-quotients, IsDivision-remainder, IsDivision-remainder_polynomial}
use Rattle.fj_theory.proofs.Exponents.{IsExponents-minus, IsExponents-origin, plus-minus, total_origin, total-plus_exponents}
use Rattle.fj_theory.proofs.Field.{one_below, zero_below}
use Rattle.fj_theory.proofs.IdealBridge.{ArePolynomials-head, ArePolynomials-tail}
use Rattle.fj_theory.proofs.Lead.{lead_coefficient-below, lead_coefficient-nonzero}
use Rattle.fj_groebner.proofs.Multiple.{length-least_common_multiple}
use Rattle.fj_theory.proofs.Polynomial.{coefficient-empty, coefficient-term_same, IsPolynomial-empty, IsPolynomial-term}
use Rattle.fj_theory.proofs.PolynomialRing.{IsPolynomial-negation, sum_comm, sum_empty}
use Rattle.fj_theory.proofs.Product.{IsPolynomial-product}
use Rattle.fj_groebner.proofs.Rows.{IsRow-add_multiple, IsRow-zero, list_combination-negation}
use Rattle.fj_theory.proofs.Steps.{StepsTo-keeps}
use Rattle.fj_groebner.proofs.Sugar.{StepsTo-IsWithinSugar}
use Rattle.fj_basis.specs.declared.members.Member.{Member}
use Rattle.fj_basis.specs.Members.{sugared_members}
use Rattle.fj_basis.specs.declared.history.Summand.{Summand}
use Rattle.fj_basis.specs.declared.history.Making.{Making}
use Rattle.fj_basis.specs.History.{ArePairSummands, IsMaking, IsSourceOf, IsSummand, IsWithNegatives, combined, polynomial_at, subtracted}
use Rattle.fj_basis.proofs.Combined.{IsSummand-at, combined-two, member_at-IsPolynomial, subtracted-is}
use Rattle.fj_basis.proofs.Rows.{negation-positive}
use Rattle.fj_basis.proofs.UnderWay.{member-polynomial}
use Rattle.fj_basis.proofs.Leading.{AreGood, first-divides, lead-exponents, lead-total, places, s-polynomial, s-sugar, second-divides}
use Rattle.fj_basis.proofs.Multiples.{product_term-negation, quotient_nonzero}
use Rattle.fj_basis.proofs.RowBounds.{term-positive}

-- The sugar of a division doesn't fall.
module _ (F : Field) (key : List ℕ → List ℕ) (G : List Sugared) where
  step-sugar : (s t : Division) → IsDivisionStep F key G s t → s.sugar ≤ t.sugar
  unfolding step_by cancel_lead move_lead
  step-sugar s t h = by (first_divisor key G (lead_exponents key s.dividend)) h.next
    where
      by : (o : Option ℕ) → t ≡ step_by F key G o s → s.sugar ≤ t.sugar
      by None e = let is = ap (λ d. d.sugar) e in omega (arith, is)
      by (Some k) e = let is = ap (λ d. d.sugar) e in omega (arith, is)

  pub sugar-rises : (h : Sugared) (states : List Division) (last : Division) → StepsTo (IsDivisionStep F key G) (division_start G h) states last → h.sugar ≤ last.sugar
  unfolding division_start
  sugar-rises h states last steps =
      StepsTo-keeps (IsDivisionStep F key G) (λ d. h.sugar ≤ d.sugar) (λ s t step l. let rises = step-sugar s t step in omega (arith, rises, l)) states (division_start G h) last steps (omega arith)

-- A row times a factor is its multiple added to zeros.
pub zero-sum : {F : Field} (L : IsField F) {f : Polynomial} → IsPolynomial F f → sum F empty f ≡ f
zero-sum {F} L P = sum_comm L (IsPolynomial-empty F) P ∙ sum_empty L P

module _ {F : Field} (L : IsField F) {c : Polynomial} (C : IsPolynomial F c) where
  add-zeros : (n : ℕ) (row : List Polynomial) → length row ≡ n → ArePolynomials F row → add_multiple F c (replicate n empty) row ≡ map (product F c) row
  unfolding add_multiple
  add-zeros zero [] l A = refl
  add-zeros zero (y ∷ row) l A = absurd (omega (arith, l))
  add-zeros (suc n) [] l A = absurd (omega (arith, l))
  add-zeros (suc n) (y ∷ row) l A = ap₂ ◌∷◌ (zero-sum L (IsPolynomial-product L C (ArePolynomials-head A))) (add-zeros n row (omega (arith, l)) (ArePolynomials-tail A))

  pub IsRow-scaled : {N : List Polynomial} → ArePolynomials F N → {f : Polynomial} {row : List Polynomial} → IsPolynomial F f → IsRow F N f row → IsRow F N (product F c f) (map (product F c) row)
  IsRow-scaled {N} A {f} {row} P r =
      subst₂ (IsRow F N) (zero-sum L (IsPolynomial-product L C P)) (add-zeros (length N) row r.long r.polynomials) (IsRow-add_multiple L A C (IsRow-zero L N A) r)

-- The constant that makes a polynomial monic.
pub IsPolynomial-constant : {F : Field} (L : IsField F) {key : List ℕ → List ℕ} (O : IsMonomialOrder key) {f : Polynomial} → IsPolynomial F f → f ≢ empty
    → IsPolynomial F (term (F.inverse (lead_coefficient key f)) origin)
IsPolynomial-constant L O P some =
    IsPolynomial-term _ (L.inverse_below _ (lead_coefficient-nonzero O P some) (lead_coefficient-below O P (zero_below L))) IsExponents-origin

pub constant-degree : (c : ℕ) → DegreeAtMost 0 (term c origin)
constant-degree c = record { within = λ a p. let e = ap total (term-positive c origin a p) in omega (arith, e, total_origin) }

-- How the next member is made.
module _ {K R : Type 0} {F : Field} (L : IsField F) {key : List ℕ → List ℕ} (O : IsMonomialOrder key) (members : List (Member K R))
    (good : AreGood F key (sugared_members members)) (i j : ℕ) (l : i < length members) (m : j < length members) where
  abbrev G : List Sugared
  G = sugared_members members

  abbrev s : Sugared
  s = s_polynomial F key G (i, j)

  abbrev multiple : List ℕ
  multiple = pair_multiple key G (i, j)

  abbrev factor : ℕ → ℕ → Polynomial
  factor c k = term c (minus multiple (lead_of key G k))

  Multiple : IsExponents multiple
  unfolding pair_multiple
  Multiple =
      let B = lead-exponents L O G good i (places members i l) in
      let C = lead-exponents L O G good j (places members j m) in
      record { eight = length-least_common_multiple (lead_of key G i) (lead_of key G j) (B.eight ∙ sym C.eight) ∙ B.eight }

  factor-IsPolynomial : (c k : ℕ) → c < F.size → k < length members → IsPolynomial F (factor c k)
  factor-IsPolynomial c k b n = IsPolynomial-term c b (IsExponents-minus Multiple (lead-exponents L O G good k (places members k n)))

  -- The totals of a factor leave room for its member's sugar.
  factor-low : (c k : ℕ) → k < length members → IsTrue (divides (lead_of key G k) multiple) → ((member_at G k).sugar - total (lead_of key G k)) + total multiple ≤ s.sugar
      → (a : List ℕ) → 0 < coefficient (factor c k) a → total a + (member_at G k).sugar ≤ s.sugar
  factor-low c k n d low a p =
      let B = lead-exponents L O G good k (places members k n) in
      let whole = sym (total-plus_exponents B (IsExponents-minus Multiple B)) ∙ ap total (plus-minus B Multiple d) in
      let bound = lead-total L O G good k (places members k n) in
      let is = ap total (term-positive c (minus multiple (lead_of key G k)) a p) in
      omega (arith, whole, bound, low, is)

  first-low : ((member_at G i).sugar - total (lead_of key G i)) + total multiple ≤ s.sugar
  first-low = omega (arith, s-sugar F key G i j)

  second-low : ((member_at G j).sugar - total (lead_of key G j)) + total multiple ≤ s.sugar
  second-low = omega (arith, s-sugar F key G i j)

  member-IsPolynomial : (k : ℕ) → k < length members → IsPolynomial F (member_at G k).polynomial
  member-IsPolynomial k n = member-polynomial L O G good.polynomials good.nonzero k (places members k n)

  both-is : sum F (sum F empty (product F (factor 1 i) (member_at G i).polynomial)) (product F (factor (F.neg 1) j) (member_at G j).polynomial) ≡ s.polynomial
  unfolding difference
  both-is =
      let C = lead-exponents L O G good j (places members j m) in
      ap₂ (sum F) (zero-sum L (IsPolynomial-product L (factor-IsPolynomial 1 i (one_below L) l) (member-IsPolynomial i l)))
      (product_term-negation L (member-IsPolynomial j m) 1 (one_below L) (IsExponents-minus Multiple C))
      ∙ sym (s-polynomial F key G i j)

  module _ (last : Division) (D : IsLowDivision F key G s last) (both all : List (Summand K R)) (pair : ArePairSummands F key G (i, j) both) (with : IsWithNegatives F both 0 last.quotients all) where
    inside : IsWithinSugar G last
    inside =
        StepsTo-IsWithinSugar O L G good.polynomials good.nonzero good.within s (good.s_is i j) (good.s_within i j (places members i l) (places members j m)) D.division.states last D.division.steps

    Q : ArePolynomials F last.quotients
    Q = IsDivision-quotients O L G good.polynomials good.nonzero (good.s_is i j) D.division

    both-sum : combined F (polynomial_at G) empty both ≡ s.polynomial
    both-sum =
        ap (combined F (polynomial_at G) empty) pair.are ∙ combined-two F (polynomial_at G) empty pair.first pair.second
        ∙ ap₂ (sum F) (ap (sum F empty) (ap₂ (λ f k. product F f (member_at G k).polynomial) pair.first_factor pair.first_place))
        (ap₂ (λ f k. product F f (member_at G k).polynomial) pair.second_factor pair.second_place)
        ∙ both-is

    -- The sum of the multiples is the remainder.
    pub all-sum : last.remainder ≡ combined F (polynomial_at G) empty all
    unfolding difference
    all-sum =
        let S = good.s_is i j in
        IsDivision-remainder O L G good.polynomials good.nonzero S D.division
        ∙ ap (sum F s.polynomial) (sym (list_combination-negation L Q good.polynomials))
        ∙ sym (with.sum_is (polynomial_at G) empty (member_at-IsPolynomial G good.polynomials) (subst (IsPolynomial F) (sym both-sum) S)
        ∙ ap (λ h. subtracted F (polynomial_at G) h 0 last.quotients) both-sum
        ∙ subtracted-is L (polynomial_at G) G good.polynomials last.quotients Q (IsDivision-length O L G good.polynomials good.nonzero S D.division) 0 s.polynomial S
        (λ k n. ap (λ x. (member_at G x).polynomial) (omega arith)))

    pub each-summand : All (IsSummand F G last.sugar) all
    each-summand =
        let rises = sugar-rises F key G s D.division.states last D.division.steps in
        let divides_i = first-divides L O G good i j (places members i l) (places members j m) in
        let divides_j = second-divides L O G good i j (places members i l) (places members j m) in
        let first = IsSummand-at {G = G} pair.first i (factor 1 i) pair.first_place pair.first_factor (places members i l) (factor-IsPolynomial 1 i (one_below L) l)
        (λ a p. let low = factor-low 1 i l divides_i first-low a p in omega (arith, low, rises)) in
        let second = IsSummand-at {G = G} pair.second j (factor (F.neg 1) j) pair.second_place pair.second_factor (places members j m)
        (factor-IsPolynomial (F.neg 1) j (L.neg_below 1 (one_below L)) m) (λ a p. let low = factor-low (F.neg 1) j m divides_j second-low a p in omega (arith, low, rises)) in
        with.each G last.sugar (subst (All (IsSummand F G last.sugar)) (sym pair.are) (All-cons (IsSummand F G last.sugar) pair.first (pair.second ∷ []) first (All-cons (IsSummand F G last.sugar) pair.second [] second (All-nil (IsSummand F G last.sugar)))))
        (λ t k n place is.
        let long = IsDivision-length O L G good.polynomials good.nonzero (good.s_is i j) D.division in
        IsSummand-at {G = G} t k (negation F (get_or last.quotients k empty)) (place ∙ omega arith) is (omega (arith, n, long)) (IsPolynomial-negation L (Q.each k empty n))
        (λ a p. inside.quotients k n a (negation-positive L (get_or last.quotients k empty) a p)))

    -- The next member is made so.
    pub next-IsMaking : (N : List Polynomial) → last.remainder ≢ empty → (making : Making K R) → making.constant ≡ term (F.inverse (lead_coefficient key last.remainder)) origin
        → IsSourceOf F N G last.sugar last.remainder making.source → IsMaking F N G (monic_member F key (record { polynomial = last.remainder; sugar = last.sugar })) making
    unfolding monic_member made_monic
    next-IsMaking N some making constant source =
        let P = IsDivision-remainder_polynomial O L G good.polynomials good.nonzero (good.s_is i j) D.division in
        record {
          made_of = last.remainder;
          source = source;
          constant = subst (IsPolynomial F) (sym constant) (IsPolynomial-constant L O P some);
          degree = subst (DegreeAtMost 0) (sym constant) (constant-degree (F.inverse (lead_coefficient key last.remainder)));
          is = ap (λ c. product F c last.remainder) (sym constant);
          low = D.low;
        }

-- A polynomial and its sugar as a member made monic.
pub monic-is : (F : Field) (key : List ℕ → List ℕ) (g : Sugared) (f : Polynomial) (n c : ℕ) → c ≡ F.inverse (lead_coefficient key g.polynomial) → f ≡ product F (term c origin) g.polynomial
    → n ≡ g.sugar → record { polynomial = f; sugar = n } ≡ monic_member F key g
unfolding monic_member made_monic
monic-is F key g f n c inverse is sugar =
    let whole = is ∙ ap (λ d. product F (term d origin) g.polynomial) inverse in
    λ i. record { polynomial = whole i; sugar = sugar i }

-- Where the sugar is high from the start, so is the division.
pub high-start : (F : Field) (key : List ℕ → List ℕ) (G : List Sugared) (h : Sugared) → degree_limit < h.sugar → IsHighDivision F key G h
unfolding division_start
high-start F key G h high = record { states = []; reached = division_start G h; steps = refl; high = high }

-- A polynomial made monic isn't zero.
pub made_monic-nonzero : {F : Field} (L : IsField F) {key : List ℕ → List ℕ} (O : IsMonomialOrder key) {f : Polynomial} → IsPolynomial F f → f ≢ empty → made_monic F key f ≢ empty
unfolding made_monic
made_monic-nonzero {F} L {key} O {f} P some =
    let d = lead_coefficient key f in
    let positive = lead_coefficient-nonzero O P some in
    let below = lead_coefficient-below O P (zero_below L) in
    let small = L.inverse_below d positive below in
    let quotient = quotient_nonzero L 1 d (one_below L) below (omega arith) positive in
    let is = L.mul_comm 1 (F.inverse d) (one_below L) small ∙ L.mul_one (F.inverse d) small in
    product_nonzero L (IsPolynomial-term (F.inverse d) small IsExponents-origin) P
    (λ e. let zero = sym (coefficient-term_same (F.inverse d) origin) ∙ ap (λ g. coefficient g origin) e ∙ coefficient-empty origin in absurd (omega (arith, quotient, is, zero))) some
