-- The lead of a polynomial is its greatest monomial, in the sense of the abstract theory too.
use Rattle.std.proofs.Common.{◌≡◌, ◌≢◌, ◌⊎◌, inl, inr, ℕ, zero, suc, ◌<◌, List, [], ◌∷◌, All, Some, None, unwrap_or, slice_get, nat_cmp, true, IsTrue, Less, Equal, Greater, refl, sym, ap, ◌∙◌, subst, arith}
use Rattle.std.proofs.lemmas.List.Elements.{All-cons, All-weaker, All-head}
use Rattle.std.proofs.lemmas.List.{nil_from_length}
use Rattle.std.proofs.lemmas.Cmp.{tied_itself}
use Rattle.std.specs.Cmp.Lexicographic.{slice_cmp}
use Rattle.std.specs.FinMap.{empty, len-entries, len-empty, entries, from_entries, find, get}
use Rattle.fj_coeff.specs.Field.{Field, IsField}
use Rattle.fj_algebra.specs.Order as order
use Rattle.fj_algebra.specs.Polynomial as abstract
use Rattle.fj_algebra.proofs.Polynomial.{lead_unique, lead_nonzero}
use Rattle.fj_theory.specs.Exponents.{IsExponents, origin, minus, divides}
use Rattle.fj_theory.specs.MonomialOrder.{IsMonomialOrder, compare_by}
use Rattle.fj_theory.specs.Polynomial.{Polynomial, IsPolynomial, IsFalling, coefficient, terms_falling, sort_falling, lead}
use Rattle.fj_theory.specs.Lead.{lead_exponents, lead_coefficient}
use Rattle.fj_theory.proofs.MonomialOrder.{compare_by_total}
use Rattle.fj_theory.proofs.Exponents.{IsExponents-origin, IsExponents-minus, plus-minus, divides-plus}
use Rattle.fj_theory.proofs.Field.{rank_zero, element_equal}
use Rattle.fj_theory.proofs.Polynomial.{coefficient_below, get-coefficient, coefficient-Some, coefficient-empty}
use Rattle.fj_theory.proofs.Terms.{Falls, Falls-from_IsFalling, find_All, terms_falling-IsFalling, terms_falling-exponents, find-terms_falling, terms_falling-get, from_entries-terms_falling}
use Rattle.fj_theory.proofs.PolynomialRing.{PolynomialOver, over_equal, polynomial_ring, map_zero}
use Rattle.fj_theory.proofs.OrderedPolynomials.{Exponents, exponents_equal, times, monomials, monomial_order, scalars, coefficient_at, polynomials, ordered_polynomials}

-- What the first of a falling list of terms is to the others.
record First (key : List ℕ → List ℕ) (f : Polynomial) (a : List ℕ) (c : ℕ) : Type 0 where
  exponents : IsExponents a
  there : coefficient f a ≡ c
  nonzero : 0 < c
  top : (b : List ℕ) → compare_by key a b ≡ Less → coefficient f b ≡ 0

-- u has the exponents a or is below them
abbrev At : (List ℕ → List ℕ) → List ℕ → List ℕ × ℕ → Type 0
At key a u = (a ≡ u.0) ⊎ (compare_by key a u.0 ≡ Greater)

lead_empty : (key : List ℕ → List ℕ) → lead key empty ≡ None
unfolding lead terms_falling sort_falling
lead_empty key = ap (λ es. slice_get (sort_falling key es) 0) (nil_from_length (entries empty) (sym (len-entries empty) ∙ len-empty (slice_cmp nat_cmp) ℕ))

pub lead_exponents-empty : (key : List ℕ → List ℕ) → lead_exponents key empty ≡ origin
unfolding lead_exponents
lead_exponents-empty key = ap (λ o. (unwrap_or {T = List ℕ × ℕ} o (origin, 0)).0) (lead_empty key)

pub lead_coefficient-empty : (key : List ℕ → List ℕ) → lead_coefficient key empty ≡ 0
unfolding lead_coefficient
lead_coefficient-empty key = ap (λ o. (unwrap_or {T = List ℕ × ℕ} o (origin, 0)).1) (lead_empty key)

module _ {key : List ℕ → List ℕ} (K : IsMonomialOrder key) {F : Field} where
  first : {f : Polynomial} → IsPolynomial F f → (t : List ℕ × ℕ) (ts : List (List ℕ × ℕ)) → terms_falling key f ≡ t ∷ ts → First key f t.0 t.1
  first {f} P t ts e = record {
    exponents = All-head (λ t. IsExponents t.0) t ts (subst (All (λ t. IsExponents t.0)) e (terms_falling-exponents K P));
    there = coefficient-Some f t.0 t.1 got;
    nonzero = P.nonzero t.0 t.1 got;
    top = λ b l. none b l (coefficient f b) refl;
  }
    where
      got : get f t.0 ≡ Some t.1
      got = All-head (λ t. get f t.0 ≡ Some t.1) t ts (subst (All (λ t. get f t.0 ≡ Some t.1)) e (terms_falling-get K P))

      falls : Falls key (t ∷ ts)
      falls = Falls-from_IsFalling key (t ∷ ts) (subst (IsFalling key) e (terms_falling-IsFalling K P))

      all : All (At key t.0) (t ∷ ts)
      all = All-cons (At key t.0) t ts (inl refl) (All-weaker (λ u. compare_by key t.0 u.0 ≡ Greater) (At key t.0) (λ u g. inr g) ts falls.0)

      refuted : (b : List ℕ) (c : ℕ) → compare_by key t.0 b ≡ Less → At key t.0 (b, c) → ⊥
      refuted b c l (inl same) = let tied : compare_by key t.0 b ≡ Equal = ap (compare_by key t.0) (sym same) ∙ tied_itself (compare_by_total key) t.0 in cc
      refuted b c l (inr g) = cc

      none : (b : List ℕ) → compare_by key t.0 b ≡ Less → (n : ℕ) → coefficient f b ≡ n → n ≡ 0
      none b l zero h = refl
      none b l (suc n) h =
          absurd (refuted b (coefficient f b) l (find_All (At key t.0) (t ∷ ts) b (coefficient f b) all
          (ap (find (slice_cmp nat_cmp) b) (sym e) ∙ find-terms_falling K P b ∙ get-coefficient f b (omega (arith, h)))))

  lead_cases : {f : Polynomial} → IsPolynomial F f → (f ≡ empty) ⊎ First key f (lead_exponents key f) (lead_coefficient key f)
  unfolding lead_exponents lead_coefficient lead
  lead_cases {f} P = go (terms_falling key f) refl
    where
      go : (ts : List (List ℕ × ℕ)) → terms_falling key f ≡ ts
          → (f ≡ empty) ⊎ First key f (unwrap_or {T = List ℕ × ℕ} (slice_get (terms_falling key f) 0) (origin, 0)).0 (unwrap_or {T = List ℕ
          × ℕ} (slice_get (terms_falling key f) 0) (origin, 0)).1
      go [] e = inl (sym (from_entries-terms_falling K P) ∙ ap from_entries e)
      go (t ∷ ts) e = inr (subst (λ us. First key f (unwrap_or {T = List ℕ × ℕ} (slice_get us 0) (origin, 0)).0 (unwrap_or {T = List ℕ
          × ℕ} (slice_get us 0) (origin, 0)).1) (sym e) (first P t ts e))

  module _ {f : Polynomial} (P : IsPolynomial F f) where
    pub IsExponents-lead : IsExponents (lead_exponents key f)
    IsExponents-lead = elim (lead_cases P) [
      | inl e ↦ subst IsExponents (sym (ap (lead_exponents key) e
          ∙ lead_exponents-empty key)) IsExponents-origin
      | inr f ↦ f.exponents
    ]

    -- The leading coefficient is the coefficient at the lead.
    pub coefficient-lead : coefficient f (lead_exponents key f) ≡ lead_coefficient key f
    coefficient-lead = elim (lead_cases P) [
      | inl e ↦ ap (λ g. coefficient g (lead_exponents key f)) e ∙ coefficient-empty (lead_exponents key f)
          ∙ sym (ap (lead_coefficient key) e ∙ lead_coefficient-empty key)
      | inr f ↦ f.there
    ]

    -- No monomial above the lead has a coefficient.
    pub above_lead : f ≢ empty → (b : List ℕ) → compare_by key (lead_exponents key f) b ≡ Less → coefficient f b ≡ 0
    above_lead n b l = elim (lead_cases P) [ inl e ↦ absurd (n e) | inr f ↦ f.top b l ]

    pub lead_coefficient-below : 0 < F.size → lead_coefficient key f < F.size
    lead_coefficient-below h = subst (λ c. c < F.size) coefficient-lead (coefficient_below P h (lead_exponents key f))

    pub lead_coefficient-nonzero : f ≢ empty → 0 < lead_coefficient key f
    lead_coefficient-nonzero n = elim (lead_cases P) [ inl e ↦ absurd (n e) | inr f ↦ f.nonzero ]

    pub nonzero-lead_coefficient : 0 < lead_coefficient key f → f ≢ empty
    nonzero-lead_coefficient h e = let z = ap (lead_coefficient key) e ∙ lead_coefficient-empty key in omega (arith, z, h)

    -- Whether a polynomial is zero is decided.
    pub is_zero_map : Dec (f ≡ empty)
    is_zero_map = elim (lead_cases P) [
      | inl e ↦ yes e
      | inr h ↦ no (λ e. let z = ap (λ g. coefficient g (lead_exponents key f)) e
          ∙ coefficient-empty (lead_exponents key f) in let t = h.there in let n = h.nonzero in absurd (omega (arith, z, t, n)))
    ]

    -- The lead, as a monomial.
    unfoldable pub lead_at : Exponents
    lead_at = record { list = lead_exponents key f; is_exponents = IsExponents-lead }

  module _ (L : IsField F) where
    -- The lead in the sense of the abstract theory, both ways.
    pub IsLead-from_lead : (f : PolynomialOver F) → f.map ≢ empty → abstract.IsLead (ordered_polynomials L K) f (lead_at f.is_polynomial)
    unfolding ordered_polynomials polynomials scalars coefficient_at monomial_order lead_at
    IsLead-from_lead f n = elim (lead_cases f.is_polynomial) [
      | inl e ↦ absurd (n e)
      | inr h ↦ record {
        nonzero = λ z. (let r = sym h.there ∙ ap (λ x. x.rank) z ∙ rank_zero L in let p = h.nonzero in absurd (omega (arith, r, p)));
        top = λ b l. element_equal _ _ (h.top b.list l.is_less ∙ sym (rank_zero L));
      }
    ]

    pub nonzero_map : {f : PolynomialOver F} → f ≢ (polynomial_ring L).zero → f.map ≢ empty
    nonzero_map {f} n e = n (over_equal f (polynomial_ring L).zero (e ∙ sym (map_zero L)))

    pub lead_from_IsLead : {f : PolynomialOver F} {a : Exponents} → abstract.IsLead (ordered_polynomials L K) f a → a ≡ lead_at f.is_polynomial
    unfolding ordered_polynomials polynomials
    lead_from_IsLead {f} {a} l = lead_unique (ordered_polynomials L K) l (IsLead-from_lead f (nonzero_map (lead_nonzero (ordered_polynomials L K) l)))

-- Whether a monomial divides another, in the sense of the abstract theory too.
pub Divides-from_divides : (a b : Exponents) → IsTrue (divides a.list b.list) → order.Divides monomials a b
unfolding monomials times
Divides-from_divides a b e = record {
  quotient = record { list = minus b.list a.list; is_exponents = IsExponents-minus b.is_exponents a.is_exponents };
  product = exponents_equal _ b (plus-minus a.is_exponents b.is_exponents e);
}

pub divides-from_Divides : {a b : Exponents} → order.Divides monomials a b → IsTrue (divides a.list b.list)
unfolding monomials times
divides-from_Divides {a} {b} d = subst (λ l. divides a.list l ≡ true) (ap (λ x. x.list) d.product) (divides-plus a.is_exponents d.quotient.is_exponents)
