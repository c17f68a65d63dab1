-- Members of a run, their leads and their multiples.
use Rattle.std.proofs.Common.{◌≡◌, ◌≢◌, ℕ, ◌+◌, ◌-◌, ◌<◌, ◌≤◌, max, List, length, get_or, All, IsTrue, Option, Some, None, is_some, true, Result, Ok, Err, refl, sym, ap, ◌∙◌, subst, arith}
use Rattle.std.specs.FinMap.{empty}
use Rattle.std.proofs.lemmas.List.{length-map}
use Rattle.fj_algebra.proofs.Lists.{All-map_back}
use Rattle.fj_coeff.specs.Field.{Field, IsField}
use Rattle.fj_theory.specs.Exponents.{IsExponents, total, minus, divides}
use Rattle.fj_theory.specs.MonomialOrder.{IsMonomialOrder}
use Rattle.fj_theory.specs.Polynomial.{difference, Polynomial, IsPolynomial, product, term}
use Rattle.fj_theory.specs.Ideal.{ArePolynomials}
use Rattle.fj_theory.specs.Lead.{lead_exponents, lead_coefficient}
use Rattle.fj_groebner.specs.Division.{Sugared, polynomials_of, member_at, AreWithinSugars, DegreeAtMost, degree_limit}
use Rattle.fj_groebner.specs.Run.{lead_of, pair_multiple, s_polynomial, IsRun}
use Rattle.fj_groebner.specs.Run as definition
use Rattle.fj_theory.proofs.Exponents.{IsExponents-minus, plus-minus, total-plus_exponents}
use Rattle.fj_theory.proofs.Field.{one_below}
use Rattle.fj_theory.proofs.IdealBridge.{in_ring}
use Rattle.fj_theory.proofs.Lead.{IsExponents-lead, coefficient-lead, lead_coefficient-nonzero, nonzero-lead_coefficient}
use Rattle.fj_groebner.proofs.Multiple.{divides-least_common_multiple_left, divides-least_common_multiple_right}
use Rattle.fj_groebner.proofs.Run.{IsRun-IsKept, IsRun-polynomials, IsRun-monic, s_polynomial-IsPolynomial}
use Rattle.fj_groebner.proofs.Sugar.{IsRun-AreWithinSugars, s_polynomial-DegreeAtMost}
use Rattle.fj_mono.specs.Monomial.{Monomial}
use Rattle.fj_poly.specs.Limit.{IsHigh, IsHighWhere}
use Rattle.fj_poly.specs.declared.fault.PolyFault.{PolyFault}
use Rattle.fj_poly.specs.declared.fault.PolyFault.TheVariants.{High, Memory}
use Rattle.fj_basis.specs.declared.members.Member.{Member}
use Rattle.fj_basis.specs.Members.{sugared, sugared_members}
use Rattle.fj_basis.specs.Finished.{AreMembersOfRun}
use Rattle.fj_basis.specs.State.{IsPairOf}
use Rattle.fj_basis.specs.Place.{IsWithinLimit}
use Rattle.fj_basis.specs.declared.pairs.Pair.{Pair}
use Rattle.fj_basis.specs.Outcome.{IsHighOnlyWhere}
use Rattle.fj_basis.proofs.DivisionSteps.{member_at-map}
use Rattle.fj_basis.proofs.Multiples.{product_term-low}

-- Where no term is high no fault is.
pub never_high : (Q : Type 0) {T P : Type 0} (r : Result T PolyFault) → IsHighWhere P r → (P → ⊥) → IsHighOnlyWhere Q r
never_high Q (Ok x) h n = tt
never_high Q (Err High) h n = absurd (n h)
never_high Q (Err Memory) h n = tt

-- What is known of the members of a run.
pub record AreGood (F : Field) (key : List ℕ → List ℕ) (G : List Sugared) : Type 0 where
  pub polynomials : ArePolynomials F (polynomials_of G)
  pub monic : All (λ g. lead_coefficient key g ≡ 1) (polynomials_of G)
  pub nonzero : All (λ g. g ≢ empty) (polynomials_of G)
  pub within : AreWithinSugars G
  pub s_is : (i j : ℕ) → IsPolynomial F (s_polynomial F key G (i, j)).polynomial
  pub s_within : (i j : ℕ) → i < length G → j < length G → DegreeAtMost (s_polynomial F key G (i, j)).sugar (s_polynomial F key G (i, j)).polynomial

-- The member at a place of the code's list.
pub member_is : {K O : Type 0} (members : List (Member K O)) (k : ℕ) (m : Member K O) → k < length members → m ≡ get_or members k m → member_at (sugared_members members) k ≡ sugared m
member_is members k m l is = member_at-map sugared members k m l is

pub nonzero_members : {K O : Type 0} (members : List (Member K O)) → All (λ g. g ≢ empty) (polynomials_of (sugared_members members)) → All (λ m. m.polynomial ≢ empty) members
nonzero_members members all = All-map_back (λ g. g.polynomial ≢ empty) sugared members (All-map_back (λ g. g ≢ empty) (λ g. g.polynomial) (sugared_members members) all)

module _ {F : Field} (L : IsField F) {key : List ℕ → List ℕ} (O : IsMonomialOrder key) where
  pub IsRun-AreGood : {N : List Polynomial} → ArePolynomials F N → {turns : ℕ} {s : definition.Run} → IsRun F key N turns s → AreGood F key s.members
  IsRun-AreGood A {s = s} r =
      let monic = IsRun-monic O L A r in
      let within = IsRun-AreWithinSugars L O A r in
      let kept = IsRun-IsKept O L (in_ring A) r in
      let are = IsRun-polynomials O L A r in
      record {
        polynomials = are;
        monic = monic;
        nonzero = λ k d l e. nonzero-lead_coefficient O (are.each k d l) (let one = monic k d l in omega (arith, one)) e;
        within = within;
        s_is = s_polynomial-IsPolynomial O L (in_ring A).list s kept;
        s_within = s_polynomial-DegreeAtMost L O (in_ring A).list s kept within;
      }

  module _ (G : List Sugared) (good : AreGood F key G) where
    -- A lead's total is at most the sugar.
    pub lead-total : (k : ℕ) → k < length G → total (lead_of key G k) ≤ (member_at G k).sugar
    unfolding lead_of member_at
    lead-total k l =
        let d : Sugared = record { polynomial = empty; sugar = 0 } in
        let P = All-map_back (IsPolynomial F) (λ g. g.polynomial) G good.polynomials.each k d l in
        let some = All-map_back (λ g. g ≢ empty) (λ g. g.polynomial) G good.nonzero k d l in
        let own = coefficient-lead O P in
        let positive = lead_coefficient-nonzero O P some in
        (good.within k d l).within (lead_exponents key (get_or G k d).polynomial) (omega (arith, own, positive))

    -- The multiple of a member whose lead is the monomial is not high, where its sugar is not.
    pub multiple-low : (k : ℕ) → k < length G → (m : List ℕ) → IsExponents m → IsTrue (divides (lead_of key G k) m)
        → ((member_at G k).sugar - total (lead_of key G k)) + total m ≤ degree_limit → IsHigh (product F (term 1 (minus m (lead_of key G k))) (member_at G k).polynomial) → ⊥
    unfolding lead_of member_at
    multiple-low k l m M d low =
        let e : Sugared = record { polynomial = empty; sugar = 0 } in
        let P = All-map_back (IsPolynomial F) (λ g. g.polynomial) G good.polynomials.each k e l in
        let B = IsExponents-lead O P in
        let whole = sym (total-plus_exponents B (IsExponents-minus M B)) ∙ ap total (plus-minus B M d) in
        let bound = lead-total k l in
        product_term-low L P 1 (one_below L) (IsExponents-minus M B) (get_or G k e).sugar (good.within k e l) (omega (arith, whole, bound, low))

    pub lead-exponents : (k : ℕ) → k < length G → IsExponents (lead_of key G k)
    unfolding lead_of member_at
    lead-exponents k l = IsExponents-lead O (All-map_back (IsPolynomial F) (λ g. g.polynomial) G good.polynomials.each k (record { polynomial = empty; sugar = 0 }) l)

    -- The leads of a pair divide their least common multiple.
    pub first-divides : (i j : ℕ) → i < length G → j < length G → IsTrue (divides (lead_of key G i) (pair_multiple key G (i, j)))
    unfolding pair_multiple
    first-divides i j l m = divides-least_common_multiple_left _ _ ((lead-exponents i l).eight ∙ sym (lead-exponents j m).eight)

    pub second-divides : (i j : ℕ) → i < length G → j < length G → IsTrue (divides (lead_of key G j) (pair_multiple key G (i, j)))
    unfolding pair_multiple
    second-divides i j l m = divides-least_common_multiple_right _ _ ((lead-exponents i l).eight ∙ sym (lead-exponents j m).eight)

  -- The members of a state are good.
  pub state-good : {K R : Type 0} {members : List (Member K R)} → AreMembersOfRun F key members → AreGood F key (sugared_members members)
  state-good h = subst (AreGood F key) h.are (IsRun-AreGood h.given h.run)

pub places : {K R : Type 0} (members : List (Member K R)) (k : ℕ) → k < length members → k < length (sugared_members members)
places members k l = omega (arith, l, length-map members sugared)

-- The lead at a place of the code's list.
pub lead_of-is : {K R : Type 0} (key : List ℕ → List ℕ) (members : List (Member K R)) (k : ℕ) (m : Member K R) → k < length members → m ≡ get_or members k m
    → lead_of key (sugared_members members) k ≡ lead_exponents key m.polynomial
unfolding lead_of
lead_of-is key members k m l is = ap (λ x. lead_exponents key x.polynomial) (member_is members k m l is)

pub nonzero_at : {K R : Type 0} (members : List (Member K R)) → All (λ m. m.polynomial ≢ empty) members → (k : ℕ) (m : Member K R) → k < length members → m ≡ get_or members k m → m.polynomial ≢ empty
nonzero_at members all k m l is e = all k m l (ap (λ x. x.polynomial) (sym is) ∙ e)

-- The parts of an S-polynomial.
pub s-sugar : (F : Field) (key : List ℕ → List ℕ) (G : List Sugared) (i j : ℕ)
    → (s_polynomial F key G (i, j)).sugar ≡ max ((member_at G i).sugar - total (lead_of key G i)) ((member_at G j).sugar - total (lead_of key G j)) + total (pair_multiple key G (i, j))
unfolding s_polynomial
s-sugar F key G i j = refl

-- Where the sugar of an S-polynomial is within the limit, so is the least common multiple.
pub some_multiple : {R : Type 0} (F : Field) (key : List ℕ → List ℕ) (G : List Sugared) (p : Pair R) → IsPairOf key G p → (s_polynomial F key G (p.i, p.j)).sugar ≤ degree_limit
    → (o : Option Monomial) → o ≡ p.lcm → is_some o ≡ true
some_multiple F key G p own low (Some m) e = refl
some_multiple F key G p own low None e =
    let high : degree_limit < total (pair_multiple key G (p.i, p.j)) = subst (IsWithinLimit (pair_multiple key G (p.i, p.j))) (sym e) own.lcm in
    absurd (omega (arith, s-sugar F key G p.i p.j, high, low))

pub multiple_is : {R : Type 0} (key : List ℕ → List ℕ) (G : List Sugared) (p : Pair R) → IsPairOf key G p → (m : Monomial) → Some m ≡ p.lcm → m.exponents ≡ pair_multiple key G (p.i, p.j)
multiple_is key G p own m e = subst (IsWithinLimit (pair_multiple key G (p.i, p.j))) (sym e) own.lcm

-- Its polynomial.
pub s-polynomial : (F : Field) (key : List ℕ → List ℕ) (G : List Sugared) (i j : ℕ)
    → (s_polynomial F key G (i, j)).polynomial
    ≡ difference F (product F (term 1 (minus (pair_multiple key G (i, j)) (lead_of key G i))) (member_at G i).polynomial) (product F (term 1 (minus (pair_multiple key G (i, j)) (lead_of key G j))) (member_at G j).polynomial)
unfolding s_polynomial
s-polynomial F key G i j = refl

pub s-is : (F : Field) (key : List ℕ → List ℕ) (G : List Sugared) (i j : ℕ) (f : Polynomial) (n : ℕ) → f ≡ (s_polynomial F key G (i, j)).polynomial → n ≡ (s_polynomial F key G (i, j)).sugar
    → record { polynomial = f; sugar = n } ≡ s_polynomial F key G (i, j)
s-is F key G i j f n e h = λ x. record { polynomial = e x; sugar = h x }
