-- Division of polynomials is that of the abstract theory: its identity, its remainder, and what its sugar bounds.
use Rattle.std.proofs.Common.{◌≡◌, ◌≢◌, inl, inr, ◌↔◌, ℕ, zero, suc, ◌+◌, ◌<◌, ◌≤◌, max, Bool, true, false, cond, IsTrue, List, [], ◌∷◌, length, get_or, set, replicate, map, All, Contains, Option, Some, None, true≢false, refl, sym, ap, ◌∙◌, subst, arith, ap₂, Less, subst₂}
use Rattle.std.specs.Option.{option_map}
use Rattle.std.specs.FinMap.{empty}
use Rattle.std.proofs.lemmas.Option.{none-some, same_Some}
use Rattle.std.proofs.lemmas.List.Elements.{All-nil, All-cons, All-contains, Contains-get_or, All-head}
use Rattle.fj_coeff.specs.Field.{Field, IsField}
use Rattle.fj_algebra.specs.Ring.{CommutativeRing, subtract}
use Rattle.fj_algebra.specs.Order as order
use Rattle.fj_algebra.specs.Polynomial as abstract
use Rattle.fj_algebra.specs.Buchberger as buchberger
use Rattle.fj_algebra.specs.Division as ring_division
use Rattle.fj_algebra.specs.Sugar as ring_sugar
use Rattle.fj_algebra.specs.Ideal as ring_ideal
use Rattle.fj_algebra.proofs.Ring.{ring_laws as ring_rules}
use Rattle.fj_algebra.proofs.ExactDivision.{exact_division, exact_remainder}
use Rattle.fj_algebra.proofs.Division as ring_laws
use Rattle.fj_algebra.proofs.Sugar as ring_sugar_laws
use Rattle.fj_theory.specs.MonomialOrder.{IsMonomialOrder, compare_by}
use Rattle.fj_theory.specs.Exponents.{IsExponents, total, minus, divides}
use Rattle.fj_theory.specs.Polynomial.{difference, Polynomial, IsPolynomial, coefficient, term, sum, product}
use Rattle.fj_theory.specs.Ideal.{ArePolynomials, list_combination, Member}
use Rattle.fj_groebner.specs.ReducedBasis.{LeadDivides, IsReducedBasis}
use Rattle.fj_theory.specs.Lead.{lead_exponents, lead_coefficient}
use Rattle.fj_theory.specs.Steps.{StepsTo}
use Rattle.fj_groebner.specs.Division.{Sugared, polynomials_of, Division, DegreeAtMost, IsWithinSugar, first_divisor, member_at, step_by, IsDivisionStep, IsDivision, IsLowDivision, IsHighDivision, division_start, cancel_lead, move_lead}
use Rattle.std.proofs.Math.ListN.{get_or-map}
use Rattle.std.proofs.lemmas.List.{length-map, length-replicate, map-set, get_or_default}
use Rattle.fj_algebra.proofs.Lists.{All-map_back}
use Rattle.fj_algebra.proofs.ReducedBasis as basis_laws
use Rattle.fj_algebra.proofs.Pairs.{contains_map, contains_map_back}
use Rattle.fj_theory.proofs.Exponents.{total-plus_exponents, plus_comm, plus-minus, IsExponents-minus}
use Rattle.fj_algebra.proofs.Polynomial.{under_without}
use Rattle.fj_theory.proofs.Field.{zero_below, Element, element_equal, rank_mul}
use Rattle.fj_theory.proofs.PolynomialRing.{map_subtract, PolynomialOver, over_equal, polynomial_ring, map_zero, map_add, map_mul}
use Rattle.fj_theory.proofs.OrderedPolynomials.{positive, positive_back, exponents_of, Exponents, exponents_equal, times, monomials, scalars, coefficient_at, term_at, polynomials, ordered_polynomials, monomial_order}
use Rattle.fj_theory.proofs.IdealBridge.{over, maps, InRing, in_ring, ArePolynomials-maps, list_combination_map, Member_map, Member_over}
use Rattle.fj_theory.proofs.Lead.{lead_at, IsLead-from_lead, lead_from_IsLead, IsExponents-lead, coefficient-lead, lead_coefficient-below, lead_coefficient-nonzero, divides-from_Divides}
use Rattle.fj_groebner.proofs.ReducedBasis.{IsReducible-from_LeadDivides, IsReducedBasis_over}
use Rattle.fj_theory.proofs.Steps.{StepsTo-end, StepsTo-through, StepsTo-keeps}

-- The first divisor is one, and where there is none no lead divides.
pub first_divisor-Some : (key : List ℕ → List ℕ) (G : List Sugared) (a : List ℕ) (k : ℕ) → first_divisor key G a ≡ Some k → (k < length G)
    × IsTrue (divides (lead_exponents key (member_at G k).polynomial) a)
unfolding first_divisor member_at
first_divisor-Some key [] a k e = absurd (none-some k e)
first_divisor-Some key (g ∷ G) a k e = go (divides (lead_exponents key g.polynomial) a) refl (first_divisor key G a) (first_divisor-Some key G a) e
  where
    go : (t : Bool) → divides (lead_exponents key g.polynomial) a ≡ t → (o : Option ℕ)
        → ((j : ℕ) → o ≡ Some j → (j < length G) × IsTrue (divides (lead_exponents key (get_or G j (record { polynomial = empty; sugar = 0 })).polynomial) a))
        → cond t (Some 0) (option_map suc o) ≡ Some k → (k < suc (length G))
        × IsTrue (divides (lead_exponents key (get_or (g ∷ G) k (record { polynomial = empty; sugar = 0 })).polynomial) a)
    go true d o f h = let z = same_Some 0 k h in subst (λ k. (k < suc (length G))
        × IsTrue (divides (lead_exponents key (get_or (g ∷ G) k (record { polynomial = empty; sugar = 0 })).polynomial) a)) z (omega arith, d)
    go false d None f h = absurd (none-some k h)
    go false d (Some j) f h =
        let z = same_Some (suc j) k h in
        let rest = f j refl in
        subst (λ k. (k < suc (length G)) × IsTrue (divides (lead_exponents key (get_or (g ∷ G) k (record { polynomial = empty; sugar = 0 })).polynomial) a)) z (omega (arith, rest.0), rest.1)

pub first_divisor-None : (key : List ℕ → List ℕ) (G : List Sugared) (a : List ℕ) → first_divisor key G a ≡ None
    → All (λ g. divides (lead_exponents key g.polynomial) a ≡ false) G
unfolding first_divisor
first_divisor-None key [] a e = All-nil (λ g. divides (lead_exponents key g.polynomial) a ≡ false)
first_divisor-None key (g ∷ G) a e = go (divides (lead_exponents key g.polynomial) a) refl (first_divisor key G a) (first_divisor-None key G a) e
  where
    go : (t : Bool) → divides (lead_exponents key g.polynomial) a ≡ t → (o : Option ℕ) → (o ≡ None → All (λ g. divides (lead_exponents key g.polynomial) a ≡ false) G)
        → cond t (Some 0) (option_map suc o) ≡ None → All (λ g. divides (lead_exponents key g.polynomial) a ≡ false) (g ∷ G)
    go true d o f h = absurd (none-some 0 (sym h))
    go false d (Some j) f h = absurd (none-some (suc j) (sym h))
    go false d None f h = All-cons (λ g. divides (lead_exponents key g.polynomial) a ≡ false) g G d (f refl)

module _ {F : Field} {key : List ℕ → List ℕ} {G : List Sugared} where
  IsDivisionStep-unique : (s t u : Division) → IsDivisionStep F key G s t → IsDivisionStep F key G s u → t ≡ u
  IsDivisionStep-unique s t u h k = h.next ∙ sym k.next

  none_at_zero : {s : Division} → s.dividend ≡ empty → (t : Division) → IsDivisionStep F key G s t → ⊥
  none_at_zero e t h = h.nonzero e

  -- A division ends in one state.
  pub IsDivision-unique : {h : Sugared} {last end : Division} → IsDivision F key G h last → IsDivision F key G h end → last ≡ end
  IsDivision-unique d e = StepsTo-end (IsDivisionStep F key G) IsDivisionStep-unique d.states e.states _ _ _ d.steps e.steps (none_at_zero d.finished) (none_at_zero e.finished)

  -- The sugar only rises.
  sugar_rises : (s t : Division) → IsDivisionStep F key G s t → s.sugar ≤ t.sugar
  unfolding step_by cancel_lead move_lead
  sugar_rises s t h = go (first_divisor key G (lead_exponents key s.dividend)) h.next
    where
      go : (o : Option ℕ) → t ≡ step_by F key G o s → s.sugar ≤ t.sugar
      go (Some k) e = let f = ap (λ x. x.sugar) e in omega (arith, f)
      go None e = let f = ap (λ x. x.sugar) e in omega (arith, f)

  -- No division is both low and high.
  pub IsLowDivision-IsHighDivision : {h : Sugared} {last : Division} → IsLowDivision F key G h last → IsHighDivision F key G h → ⊥
  IsLowDivision-IsHighDivision {last = last} l u =
      let rest = StepsTo-through (IsDivisionStep F key G) IsDivisionStep-unique u.states l.division.states _ _ _ u.steps l.division.steps (none_at_zero l.division.finished) in
      let rises : u.reached.sugar ≤ last.sugar = StepsTo-keeps (IsDivisionStep F key G) (λ s. u.reached.sugar ≤ s.sugar) (λ s t h k. let r = sugar_rises s t h in omega (arith, r, k)) rest.0 _ _ rest.1 (omega arith) in
      let low = l.low in
      let high = u.high in
      absurd (omega (arith, rises, low, high))

map-replicate : {X Y : Type 0} (f : X → Y) (n : ℕ) (x : X) → map f (replicate n x) ≡ replicate n (f x)
map-replicate f zero x = refl
map-replicate f (suc n) x = ap (λ l. f x ∷ l) (map-replicate f n x)

left_over : {A : Type 0} (R : CommutativeRing A) (q r : A) → r ≡ subtract R (R.add q r) q
left_over R q r = simp (subtract, ring_rules)

single : {F : Field} {g : Polynomial} (N : List (PolynomialOver F)) → maps N ≡ g ∷ [] → (f : PolynomialOver F) × (N ≡ f ∷ []) × (f.map ≡ g)
single {g = g} [] e = let n : 0 ≡ 1 = ap length e in absurd (omega (arith, n))
single {g = g} (f ∷ []) e = (f, refl, ap (λ l. get_or l 0 f.map) e)
single {g = g} (f ∷ (k ∷ N)) e = let n : suc (suc (length (maps N))) ≡ 1 = ap length e in absurd (omega (arith, n))

-- A state of a division in the ring of polynomials, as a state of maps.
unfoldable pub forget : {F : Field} → ring_division.DivisionState (PolynomialOver F) → ℕ → Division
forget s sugar = record { dividend = s.dividend.map; quotients = maps s.quotients; remainder = s.remainder.map; sugar = sugar }

module _ {key : List ℕ → List ℕ} (K : IsMonomialOrder key) {F : Field} (L : IsField F) where
  abbrev P : abstract.OrderedPolynomials (Element F) Exponents (PolynomialOver F)
  P = ordered_polynomials L K

  total_degree : ring_sugar.IsDegree monomials (λ a. total a.list)
  unfolding monomials times
  total_degree = record { degree_times = λ a b. total-plus_exponents a.is_exponents b.is_exponents }

  abbrev State : Type 0
  State = ring_division.DivisionState (PolynomialOver F)

  member_zero : (qs : List (PolynomialOver F)) (k : ℕ) → get_or (maps qs) k empty ≡ (get_or qs k (polynomial_ring L).zero).map
  member_zero qs k = ap (get_or (maps qs) k) (sym (map_zero L)) ∙ get_or-map (λ q. q.map) qs k (polynomial_ring L).zero

  -- A step of a division in the ring, with its sugar.
  data StepOver (G : List Sugared) (M : List (PolynomialOver F)) (s : State) (sugar : ℕ) (t : Division) : Type 0 where
    cancels : (u : State) (c : ring_division.Cancels P M s u) → t ≡ forget u (max sugar (total c.monomial.list + (member_at G c.place).sugar)) → StepOver G M s sugar t
    moves : (u : State) → ring_division.Moves P M s u → t ≡ forget u sugar → StepOver G M s sugar t

  -- The factor times d is c.
  factor_cancels : (c d : ℕ) → c < F.size → d < F.size → 0 < d → F.mul (F.mul c (F.inverse d)) d ≡ c
  factor_cancels c d hc hd p =
      let hi = L.inverse_below d p hd in
      L.mul_assoc c (F.inverse d) d hc hi hd ∙ ap (F.mul c) (L.mul_comm (F.inverse d) d hi hd ∙ L.mul_inverse d p hd) ∙ L.mul_one c hc

  cancel_over : (G : List Sugared) (M : List (PolynomialOver F)) (s : State) (sugar k : ℕ) (g : PolynomialOver F) → s.dividend.map ≢ empty → g.map ≢ empty → k < length M
      → get_or M k g ≡ g
      → IsTrue (divides (lead_exponents key g.map) (lead_exponents key s.dividend.map))
      → StepOver G M s sugar (cancel_lead F key k (record { polynomial = g.map; sugar = (member_at G k).sugar }) (forget s sugar))
  unfolding forget cancel_lead ordered_polynomials polynomials scalars coefficient_at term_at lead_at monomials times
  cancel_over G M s sugar k g n m l e d =
      cancels next (record {
        place = k;
        divisor = g;
        in_list = l;
        is_divisor = e;
        lead = lead_at K s.dividend.is_polynomial;
        is_lead = IsLead-from_lead K L s.dividend n;
        divisor_lead = lead_at K g.is_polynomial;
        is_divisor_lead = IsLead-from_lead K L g m;
        monomial = monomial;
        height = exponents_equal _ _ (plus_comm _ _ ∙ plus-minus A B d);
        scalar = scalar;
        cancels = element_equal _ _ (rank_mul L scalar _ ∙ ap (F.mul scalar.rank) (coefficient-lead K g.is_polynomial) ∙ factor_cancels _ _ hc hd hp
            ∙ sym (coefficient-lead K s.dividend.is_polynomial));
        dividend = refl;
        quotients = refl;
        remainder = refl;
      }) (λ i. record {
        dividend = sym (map_subtract L s.dividend (ring.mul (term_at L scalar monomial) g)
            ∙ ap (difference F s.dividend.map) (map_mul L (term_at L scalar monomial) g)) i;
        quotients = sym (map-set (λ q. q.map) s.quotients k (ring.add (get_or s.quotients k ring.zero) (term_at L scalar monomial))
            ∙ ap (set (maps s.quotients) k) (map_add L (get_or s.quotients k ring.zero) (term_at L scalar monomial)
            ∙ ap (λ q. sum F q (term_at L scalar monomial).map) (sym (member_zero s.quotients k)))) i;
        remainder = s.remainder.map;
        sugar = max sugar (total monomial.list + (member_at G k).sugar);
      })
    where
      ring : CommutativeRing (PolynomialOver F)
      ring = polynomial_ring L

      hc : lead_coefficient key s.dividend.map < F.size
      hc = lead_coefficient-below K s.dividend.is_polynomial (zero_below L)

      hd : lead_coefficient key g.map < F.size
      hd = lead_coefficient-below K g.is_polynomial (zero_below L)

      hp : 0 < lead_coefficient key g.map
      hp = lead_coefficient-nonzero K g.is_polynomial m

      A : IsExponents (lead_exponents key g.map)
      A = IsExponents-lead K g.is_polynomial

      B : IsExponents (lead_exponents key s.dividend.map)
      B = IsExponents-lead K s.dividend.is_polynomial

      scalar : Element F
      scalar = record { rank = F.mul (lead_coefficient key s.dividend.map) (F.inverse (lead_coefficient key g.map)); below = L.mul_below _ _ hc (L.inverse_below _ hp hd) }

      monomial : Exponents
      monomial = record { list = minus (lead_exponents key s.dividend.map) (lead_exponents key g.map); is_exponents = IsExponents-minus B A }

      next : State
      next = record {
        dividend = subtract ring s.dividend (ring.mul (term_at L scalar monomial) g);
        quotients = set s.quotients k (ring.add (get_or s.quotients k ring.zero) (term_at L scalar monomial));
        remainder = s.remainder;
      }

  move_over : (G : List Sugared) (M : List (PolynomialOver F)) (s : State) (sugar : ℕ) → s.dividend.map ≢ empty → maps M ≡ polynomials_of G
      → All (λ g. divides (lead_exponents key g.polynomial) (lead_exponents key s.dividend.map) ≡ false) G → StepOver G M s sugar (move_lead F key (forget s sugar))
  unfolding forget move_lead ordered_polynomials polynomials scalars coefficient_at term_at lead_at monomials times
  move_over G M s sugar n e none =
      moves next (record {
        lead = lead_at K s.dividend.is_polynomial;
        is_lead = IsLead-from_lead K L s.dividend n;
        irreducible = irreducible;
        dividend = refl;
        quotients = refl;
        remainder = refl;
      }) (λ i. record {
        dividend = sym (map_subtract L s.dividend (term_at L scalar lead)
            ∙ ap (λ c. difference F s.dividend.map (term c lead.list)) (coefficient-lead K s.dividend.is_polynomial)) i;
        quotients = maps s.quotients;
        remainder = sym (map_add L s.remainder (term_at L scalar lead)
            ∙ ap (λ c. sum F s.remainder.map (term c lead.list)) (coefficient-lead K s.dividend.is_polynomial)) i;
        sugar = sugar;
      })
    where
      ring : CommutativeRing (PolynomialOver F)
      ring = polynomial_ring L

      lead : Exponents
      lead = lead_at K s.dividend.is_polynomial

      scalar : Element F
      scalar = coefficient_at L s.dividend lead

      next : State
      next = record {
        dividend = subtract ring s.dividend (term_at L scalar lead);
        quotients = s.quotients;
        remainder = ring.add s.remainder (term_at L scalar lead);
      }

      irreducible : buchberger.IsReducible P (Contains M) lead → ⊥
      irreducible r =
          let c = subst (λ l. Contains l r.divisor.map) e (contains_map (λ g. g.map) M r.divisor r.member) in
          let back = contains_map_back (λ g. g.polynomial) G r.divisor.map c in
          let d = divides-from_Divides (subst (λ b. order.Divides monomials b lead) (lead_from_IsLead K L r.is_lead) r.divides) in
          true≢false (sym d ∙ ap (λ p. divides (lead_exponents key p) (lead_exponents key s.dividend.map)) (sym back.2)
          ∙ All-contains (λ g. divides (lead_exponents key g.polynomial) (lead_exponents key s.dividend.map) ≡ false) G back.0 none back.1)

  module _ (G : List Sugared) (X : InRing F (polynomials_of G)) (nonzero : All (λ g. g.map ≢ empty) X.list) where
    pub member_map : (k : ℕ) → (member_at G k).polynomial ≡ (get_or X.list k (polynomial_ring L).zero).map
    unfolding member_at
    member_map k =
        sym (get_or-map (λ g. g.polynomial) G k (record { polynomial = empty; sugar = 0 })) ∙ ap (λ l. get_or l k empty) (sym X.are) ∙ member_zero X.list k

    pub same_length : length X.list ≡ length G
    same_length = sym (length-map X.list (λ g. g.map)) ∙ ap length X.are ∙ length-map G (λ g. g.polynomial)

    step_over : (s : State) (sugar : ℕ) (t : Division) → IsDivisionStep F key G (forget s sugar) t → StepOver G X.list s sugar t
    unfolding forget step_by
    step_over s sugar t h = go (first_divisor key G (lead_exponents key s.dividend.map)) refl h.next
      where
        go : (o : Option ℕ) → first_divisor key G (lead_exponents key s.dividend.map) ≡ o → t ≡ step_by F key G o (forget s sugar) → StepOver G X.list s sugar t
        go None o e = subst (StepOver G X.list s sugar) (sym e) (move_over G X.list s sugar h.nonzero X.are (first_divisor-None key G (lead_exponents key s.dividend.map) o))
        go (Some k) o e =
            let found = first_divisor-Some key G (lead_exponents key s.dividend.map) k o in
            let g : PolynomialOver F = get_or X.list k (polynomial_ring L).zero in
            let l : k < length X.list = omega (arith, found.0, same_length) in
            subst (StepOver G X.list s sugar) (sym e)
            (subst (λ p. StepOver G X.list s sugar (cancel_lead F key k (record { polynomial = p; sugar = (member_at G k).sugar }) (forget s sugar))) (sym (member_map k))
            (cancel_over G X.list s sugar k g h.nonzero (All-contains (λ g. g.map ≢ empty) X.list g nonzero (Contains-get_or X.list k (polynomial_ring L).zero l)) l
            (get_or_default X.list k g (polynomial_ring L).zero l) (subst (λ p. IsTrue (divides (lead_exponents key p) (lead_exponents key s.dividend.map))) (member_map k) found.1)))

    -- A run of steps in the ring, and what it does to the sugar.
    record RunOver (s : State) (sugar : ℕ) (last : Division) : Type 0 where
      state : State
      is : last ≡ forget state last.sugar
      run : ring_division.DivisionRun P X.list state s
      within : ((k : ℕ) → k < length X.list → ring_sugar.DegreeAtMost P.polynomials (λ a. total a.list) (get_or (map (λ g. g.sugar) G) k 0) (get_or X.list k (polynomial_ring L).zero))
          → length s.quotients ≡ length X.list → ring_sugar.IsWithinSugar P.polynomials (λ a. total a.list) (map (λ g. g.sugar) G) sugar s
          → ring_sugar.IsWithinSugar P.polynomials (λ a. total a.list) (map (λ g. g.sugar) G) last.sugar state

    -- After a step the dividend's lead is lower.
    step_falls : (s : State) (sugar : ℕ) (t : Division) → StepOver G X.list s sugar t → t.dividend ≢ empty
        → compare_by key (lead_exponents key t.dividend) (lead_exponents key s.dividend.map) ≡ Less
    unfolding forget ordered_polynomials polynomials monomial_order lead_at
    step_falls s sugar t h n = go h
      where
        below : (u : PolynomialOver F) (a : Exponents) → t.dividend ≡ u.map → abstract.IsLead P s.dividend a
            → abstract.Supported P.polynomials (λ e. order.IsBelow (monomial_order K) e a) u
            → compare_by key (lead_exponents key t.dividend) (lead_exponents key s.dividend.map) ≡ Less
        below u a e l w =
            subst₂ (λ p b. compare_by key (lead_exponents key p) b ≡ Less) (sym e) (ap (λ b. b.list) (lead_from_IsLead K L l))
            (w.within (lead_at K u.is_polynomial) (IsLead-from_lead K L u (λ z. n (e ∙ z))).nonzero).is_less

        go : StepOver G X.list s sugar t → compare_by key (lead_exponents key t.dividend) (lead_exponents key s.dividend.map) ≡ Less
        go (cancels u c e) =
            below u.dividend c.lead (ap (λ d. d.dividend) e) c.is_lead
            (subst (abstract.Supported P.polynomials (λ e. order.IsBelow (monomial_order K) e c.lead)) (sym c.dividend) (ring_laws.under_cancel P c.is_lead c.is_divisor_lead c.height c.cancels))
        go (moves u m e) =
            below u.dividend m.lead (ap (λ d. d.dividend) e) m.is_lead
            (subst (abstract.Supported P.polynomials (λ e. order.IsBelow (monomial_order K) e m.lead)) (sym m.dividend) (under_without P m.is_lead))

    step_polynomial : (s : State) (sugar : ℕ) (t : Division) → StepOver G X.list s sugar t → IsPolynomial F t.dividend
    unfolding forget
    step_polynomial s sugar t (cancels u c e) = subst (λ d. IsPolynomial F d.dividend) (sym e) u.dividend.is_polynomial
    step_polynomial s sugar t (moves u m e) = subst (λ d. IsPolynomial F d.dividend) (sym e) u.dividend.is_polynomial

    sugar_at : (k : ℕ) → get_or (map (λ g. g.sugar) G) k 0 ≡ (member_at G k).sugar
    unfolding member_at
    sugar_at k = get_or-map (λ g. g.sugar) G k (record { polynomial = empty; sugar = 0 })

    run_over : (states : List Division) (s : State) (sugar : ℕ) (last : Division) → StepsTo (IsDivisionStep F key G) (forget s sugar) states last → RunOver s sugar last
    unfolding forget ordered_polynomials polynomials
    run_over [] s sugar last h = record {
      state = s;
      is = sym h ∙ ap (forget s) (ap (λ d. d.sugar) h);
      run = ring_division.done refl;
      within = λ m l w. subst (λ n. ring_sugar.IsWithinSugar P.polynomials (λ a. total a.list) (map (λ g. g.sugar) G) n s) (ap (λ d. d.sugar) h) w;
    }
    run_over (t ∷ states) s sugar last h = elim (step_over s sugar t h.0) [
      | cancels u c e ↦ (
          let rest = run_over states u (max sugar (total c.monomial.list + (member_at G c.place).sugar)) last (subst (λ t. StepsTo (IsDivisionStep F key G) t states last) e h.1) in
          record {
            state = rest.state;
            is = rest.is;
            run = ring_division.step (inl c) rest.run;
            within = λ m l w. rest.within m (ring_laws.step_length P l (inl c))
                (subst (λ n. ring_sugar.IsWithinSugar P.polynomials (λ a. total a.list) (map (λ g. g.sugar) G) (max sugar (total c.monomial.list + n)) u) (sugar_at c.place)
                (ring_sugar_laws.sugar_cancels P total_degree (map (λ g. g.sugar) G) l m c w));
          })
      | moves u v e ↦ (
          let rest = run_over states u sugar last (subst (λ t. StepsTo (IsDivisionStep F key G) t states last) e h.1) in
          record {
            state = rest.state;
            is = rest.is;
            run = ring_division.step (inr v) rest.run;
            within = λ m l w. rest.within m (ring_laws.step_length P l (inr v)) (ring_sugar_laws.sugar_moves P total_degree (map (λ g. g.sugar) G) v w);
          })
    ]

    start_over : (h : Sugared) (H : IsPolynomial F h.polynomial)
        → division_start G h ≡ forget (record { dividend = over H; quotients = replicate (length X.list) (polynomial_ring L).zero; remainder = (polynomial_ring L).zero }) h.sugar
    unfolding forget division_start
    start_over h H = λ i. record {
      dividend = h.polynomial;
      quotients = (ap (λ n. replicate n empty) (sym same_length) ∙ ap (replicate (length X.list)) (sym (map_zero L))
          ∙ sym (map-replicate (λ f. f.map) (length X.list) (polynomial_ring L).zero)) i;
      remainder = sym (map_zero L) i;
      sugar = h.sugar;
    }

    -- A division in the ring.
    pub record DivisionOver (f : PolynomialOver F) (last : Division) : Type 0 where
      pub state : State
      pub is : last ≡ forget state last.sugar
      pub division : ring_division.IsDivision P X.list f state

    module _ (h : Sugared) (H : IsPolynomial F h.polynomial) (last : Division) where
      from_start : (states : List Division) → StepsTo (IsDivisionStep F key G) (division_start G h) states last
          → RunOver (record { dividend = over H; quotients = replicate (length X.list) (polynomial_ring L).zero; remainder = (polynomial_ring L).zero }) h.sugar last
      from_start states steps = run_over states _ h.sugar last (subst (λ s. StepsTo (IsDivisionStep F key G) s states last) (start_over h H) steps)

      pub division_over : IsDivision F key G h last → DivisionOver (over H) last
      unfolding forget ordered_polynomials polynomials
      division_over D =
          let r = from_start D.states D.steps in
          record {
            state = r.state;
            is = r.is;
            division = record { run = r.run; finished = over_equal _ _ (ap (λ d. d.dividend) (sym r.is) ∙ D.finished ∙ sym (map_zero L)) };
          }

      bounded_over : (f : PolynomialOver F) (n : ℕ) → DegreeAtMost n f.map → ring_sugar.DegreeAtMost P.polynomials (λ a. total a.list) n f
      unfolding ordered_polynomials polynomials
      bounded_over f n b = record { within = λ a p. b.within a.list (positive L f a p) }

      -- The sugar bounds each state.
      pub IsWithinSugar-StepsTo : ((k : ℕ) → k < length G → DegreeAtMost (member_at G k).sugar (member_at G k).polynomial) → DegreeAtMost h.sugar h.polynomial
          → (states : List Division) → StepsTo (IsDivisionStep F key G) (division_start G h) states last → IsWithinSugar G last
      unfolding forget ordered_polynomials polynomials
      IsWithinSugar-StepsTo bounds bound states steps =
          let r = from_start states steps in
          let w = r.within
          (λ k l. subst (λ n. ring_sugar.DegreeAtMost P.polynomials (λ a. total a.list) n (get_or X.list k (polynomial_ring L).zero)) (sym (sugar_at k))
          (bounded_over (get_or X.list k (polynomial_ring L).zero) (member_at G k).sugar (subst (DegreeAtMost (member_at G k).sugar) (member_map k) (bounds k (omega (arith, l, same_length))))))
          (length-replicate (length X.list) (polynomial_ring L).zero)
          (ring_sugar_laws.sugar_start P total_degree (map (λ g. g.sugar) G) h.sugar (length X.list) (over H) (bounded_over (over H) h.sugar bound)) in
          let s = r.state in
          subst (IsWithinSugar G) (sym r.is) (record {
            dividend = record { within = λ a p. w.dividend.within (record { list = a; is_exponents = exponents_of L s.dividend a p }) (positive_back L s.dividend (record { list = a; is_exponents = exponents_of L s.dividend a p }) p) };
            remainder = record { within = λ a p. w.remainder.within (record { list = a; is_exponents = exponents_of L s.remainder a p }) (positive_back L s.remainder (record { list = a; is_exponents = exponents_of L s.remainder a p }) p) };
            quotients = λ k l a p.
                let q = get_or s.quotients k (polynomial_ring L).zero in
                let p' = subst (λ f. 0 < coefficient f a) (member_zero s.quotients k) p in
                subst (λ n. total a + n ≤ last.sugar) (sugar_at k)
                ((w.quotients k (omega (arith, l, length-map s.quotients (λ f. f.map)))).within (record { list = a; is_exponents = exponents_of L q a p' }) (positive_back L q (record { list = a; is_exponents = exponents_of L q a p' }) p'));
          })

  module _ (G : List Sugared) (A : ArePolynomials F (polynomials_of G)) (nonzero : All (λ g. g ≢ empty) (polynomials_of G)) where
    nonzero_over : (X : InRing F (polynomials_of G)) → All (λ g. g.map ≢ empty) X.list
    nonzero_over X = All-map_back (λ g. g ≢ empty) (λ g. g.map) X.list (subst (All (λ g. g ≢ empty)) (sym X.are) nonzero)

    -- A step from a polynomial, in the ring.
    module _ {s t : Division} (A' : IsPolynomial F s.dividend) (h : IsDivisionStep F key G s t) where
      state : State
      state = record { dividend = over A'; quotients = []; remainder = (polynomial_ring L).zero }

      next : Division
      next = step_by F key G (first_divisor key G (lead_exponents key s.dividend)) (forget state s.sugar)

      next_is : t.dividend ≡ next.dividend
      unfolding forget step_by cancel_lead move_lead next state
      next_is = ap (λ d. d.dividend) h.next ∙ by (first_divisor key G (lead_exponents key s.dividend))
        where
          by : (o : Option ℕ) → (step_by F key G o s).dividend ≡ (step_by F key G o (forget state s.sugar)).dividend
          by (Some k) = refl
          by None = refl

      next_over : StepOver G (in_ring A).list state s.sugar next
      unfolding forget next state
      next_over = step_over G (in_ring A) (nonzero_over (in_ring A)) state s.sugar next (record { nonzero = h.nonzero; next = refl })

      -- The dividend stays a polynomial.
      pub IsDivisionStep-polynomial : IsPolynomial F t.dividend
      IsDivisionStep-polynomial = subst (IsPolynomial F) (sym next_is) (step_polynomial G (in_ring A) (nonzero_over (in_ring A)) state s.sugar next next_over)

      -- The lead of the dividend falls with each step, so a division ends.
      pub IsDivisionStep-falls : t.dividend ≢ empty → compare_by key (lead_exponents key t.dividend) (lead_exponents key s.dividend) ≡ Less
      unfolding state
      IsDivisionStep-falls n =
          subst (λ f. compare_by key (lead_exponents key f) (lead_exponents key s.dividend) ≡ Less) (sym next_is)
          (step_falls G (in_ring A) (nonzero_over (in_ring A)) state s.sugar next next_over (λ z. n (next_is ∙ z)))

    module _ {h : Sugared} (H : IsPolynomial F h.polynomial) {last : Division} (D : IsDivision F key G h last) where
      ring : InRing F (polynomials_of G)
      ring = in_ring A

      the : DivisionOver G ring (nonzero_over ring) (over H) last
      the = division_over G ring (nonzero_over ring) h H last D

      pub IsDivision-remainder_polynomial : IsPolynomial F last.remainder
      unfolding forget
      IsDivision-remainder_polynomial = subst (λ d. IsPolynomial F d.remainder) (sym the.is) the.state.remainder.is_polynomial

      -- There is one quotient for each member.
      pub IsDivision-quotients : ArePolynomials F last.quotients
      unfolding forget
      IsDivision-quotients = subst (λ d. ArePolynomials F d.quotients) (sym the.is) (ArePolynomials-maps the.state.quotients)

      pub IsDivision-length : length last.quotients ≡ length G
      unfolding forget
      IsDivision-length =
          ap (λ d. length d.quotients) the.is ∙ length-map the.state.quotients (λ f. f.map) ∙ (ring_laws.division_identity P the.division).1
          ∙ same_length G ring (nonzero_over ring)

      -- The identity of division: h is the sum of quotient * member, and the remainder.
      pub division_identity : h.polynomial ≡ sum F (list_combination F last.quotients (polynomials_of G)) last.remainder
      unfolding forget ordered_polynomials polynomials
      division_identity =
          ap (λ f. f.map) (ring_laws.division_identity P the.division).0 ∙ map_add L _ _
          ∙ ap (λ f. sum F f the.state.remainder.map) (list_combination_map L the.state.quotients ring.list ∙ ap (list_combination F (maps the.state.quotients)) ring.are)
          ∙ ap (λ d. sum F (list_combination F d.quotients (polynomials_of G)) d.remainder) (sym the.is)

      -- The remainder is what the quotients leave of h.
      pub IsDivision-remainder : last.remainder ≡ difference F h.polynomial (list_combination F last.quotients (polynomials_of G))
      unfolding forget ordered_polynomials polynomials
      IsDivision-remainder =
          let q = ring_ideal.list_combination (polynomial_ring L) the.state.quotients ring.list in
          ap (λ d. d.remainder) the.is
          ∙ ap (λ f. f.map) (left_over (polynomial_ring L) q the.state.remainder
          ∙ ap (λ f. subtract (polynomial_ring L) f q) (sym (ring_laws.division_identity P the.division).0))
          ∙ map_subtract L (over H) q
          ∙ ap (difference F h.polynomial) (list_combination_map L the.state.quotients ring.list ∙ ap (list_combination F (maps the.state.quotients)) ring.are
          ∙ ap (λ d. list_combination F d.quotients (polynomials_of G)) (sym the.is))

      -- No term of the remainder is divided by a lead.
      pub IsDivision-reduced : (a : List ℕ) → 0 < coefficient last.remainder a → LeadDivides key (polynomials_of G) a → ⊥
      unfolding forget ordered_polynomials polynomials
      IsDivision-reduced a p d =
          let r = the.state.remainder in
          let q = subst (λ d. 0 < coefficient d.remainder a) the.is p in
          let at : Exponents = record { list = a; is_exponents = exponents_of L r a q } in
          (ring_laws.division_remainder P the.division).reduced.within at (positive_back L r at q)
          (IsReducible-from_LeadDivides K L ring.list at (nonzero_over ring) (subst (λ l. LeadDivides key l a) (sym ring.are) d))

      -- A multiple of a polynomial g that is not zero is g times its quotient by g.
      pub IsDivision-exact : {g : Polynomial} → polynomials_of G ≡ g ∷ [] → Member F (g ∷ []) h.polynomial → h.polynomial ≡ product F g (get_or last.quotients 0 empty)
      unfolding forget ordered_polynomials polynomials
      IsDivision-exact {g} e m =
          let s = single ring.list (ring.are ∙ e) in
          let division = subst (λ N. ring_division.IsDivision P N (over H) the.state) s.1 the.division in
          let some : g ≢ empty = All-head (λ g. g ≢ empty) g [] (subst (All (λ g. g ≢ empty)) e nonzero) in
          ap (λ f. f.map) (exact_division P (λ z. some (sym s.2 ∙ ap (λ f. f.map) z
          ∙ map_zero L)) (Member_over L (record { list = s.0 ∷ []; are = ap (λ x. x ∷ []) s.2 }) H m) division)
          ∙ map_mul L s.0 (get_or the.state.quotients 0 (polynomial_ring L).zero)
          ∙ ap₂ (product F) s.2 (sym (member_zero the.state.quotients 0) ∙ ap (λ d. get_or d.quotients 0 empty) (sym the.is))

      -- Nothing is left of it.
      pub IsDivision-exact_remainder : {g : Polynomial} → polynomials_of G ≡ g ∷ [] → Member F (g ∷ []) h.polynomial → last.remainder ≡ empty
      unfolding forget ordered_polynomials polynomials
      IsDivision-exact_remainder {g} e m =
          let s = single ring.list (ring.are ∙ e) in
          let division = subst (λ N. ring_division.IsDivision P N (over H) the.state) s.1 the.division in
          let some : g ≢ empty = All-head (λ g. g ≢ empty) g [] (subst (All (λ g. g ≢ empty)) e nonzero) in
          ap (λ d. d.remainder) the.is
          ∙ ap (λ f. f.map) (exact_remainder P (λ z. some (sym s.2 ∙ ap (λ f. f.map) z
          ∙ map_zero L)) (Member_over L (record { list = s.0 ∷ []; are = ap (λ x. x ∷ []) s.2 }) H m) division)
          ∙ map_zero L

      -- By a reduced basis the remainder is zero exactly where h is in the ideal.
      pub Member-IsDivision : {M : List Polynomial} → ArePolynomials F M → IsReducedBasis F key M (polynomials_of G) → Member F M h.polynomial ↔ (last.remainder ≡ empty)
      unfolding forget ordered_polynomials polynomials
      Member-IsDivision B S =
          let Y = in_ring B in
          let law = basis_laws.member_of_basis P (IsReducedBasis_over K L Y ring S) (ring_laws.division_remainder P the.division) in (
            λ m. ap (λ d. d.remainder) the.is ∙ ap (λ f. f.map) (law.0 (Member_over L Y H m)) ∙ map_zero L,
            λ e. Member_map L Y (law.1 (over_equal _ _ (ap (λ d. d.remainder) (sym the.is) ∙ e ∙ sym (map_zero L)))),
          )
