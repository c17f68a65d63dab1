-- Rows of cofactors of polynomials, from the rows of what they are made of.
use Rattle.std.proofs.Common.{◌≡◌, ◌⊎◌, inl, inr, ℕ, ◌+◌, ◌^◌, ◌<◌, ◌≤◌, Bool, List, [], ◌∷◌, ◌++◌, length, length-append, map, take, drop, length-drop, Vec, Global, replicate, set, get_or, All, sym, ap, ◌∙◌, subst, subst₂, arith, add-one}
use Rattle.std.specs.FinMap.{empty}
use Rattle.std.proofs.Math.Seq.{take-suc}
use Rattle.std.proofs.lemmas.List.{get_or-drop, get_or-take, get_or_append_left, get_or_push, length-take-le}
use Rattle.std.proofs.lemmas.Bool.{cases_order}
use Rattle.std.proofs.lemmas.List.Elements.{All-map, All-replicate, All-set, All-weaker}
use Rattle.fj_coeff.specs.Field.{Field, IsField}
use Rattle.fj_theory.specs.Exponents.{origin}
use Rattle.fj_theory.specs.Polynomial.{Polynomial, IsPolynomial, product, sum, term}
use Rattle.fj_theory.specs.Ideal.{ArePolynomials}
use Rattle.fj_theory.proofs.Exponents.{total_origin}
use Rattle.fj_theory.proofs.IdealBridge.{IsPolynomial-one}
use Rattle.fj_theory.proofs.PolynomialRing.{product_comm, product_one}
use Rattle.fj_groebner.specs.Rows.{IsRow, add_multiple}
use Rattle.fj_groebner.specs.Division.{DegreeAtMost, Sugared, member_at}
use Rattle.fj_groebner.proofs.Rows.{IsPolynomial-list_combination, IsRow-add_multiple, IsRow-one, IsRow-zero}
use Rattle.fj_poly.specs.Limit.{IsHigh}
use Rattle.fj_basis.specs.declared.history.Summand.{Summand}
use Rattle.fj_basis.specs.declared.history.Source.{Source}
use Rattle.fj_basis.specs.declared.history.Source.TheVariants.{Given, Combined}
use Rattle.fj_basis.specs.declared.history.Making.{Making}
use Rattle.fj_basis.specs.Members.{IsRowWithin}
use Rattle.fj_basis.specs.History.{AreMade, IsMaking, IsSourceOf, IsSummand, combined, polynomial_at}
use Rattle.fj_basis.specs.Forming.{AllSummands, AreCombined, AreInOrder, AreMarked, AreNeeded, AreRowsFrom, IsMadeWithRows, IsMarked, UsesBelow}
use Rattle.fj_basis.proofs.Combined.{combined-more}
use Rattle.fj_basis.proofs.NextMember.{IsRow-scaled}
use Rattle.fj_basis.proofs.RowBounds.{DegreeAtMost-add_multiple, DegreeAtMost-empty, DegreeAtMost-product, DegreeAtMost-term}
use Rattle.fj_basis.proofs.Rows.{product-low}

-- The row of a sum of multiples, a summand at a time.
module _ (K O : Type 0) {F : Field} (laws : IsField F) {L : List Polynomial} (A : ArePolynomials F L) (G : List Sugared) (bound : ℕ) where
  abbrev pub partial : List (Summand K O) → Sugared
  partial ss = record { polynomial = combined F (polynomial_at G) empty ss; sugar = bound }

  pub partial-none : (row : List Polynomial) → row ≡ replicate (length L) empty → IsRowWithin F L (partial []) row
  unfolding combined
  partial-none row e = record {
    is = subst (IsRow F L empty) (sym e) (IsRow-zero laws L A);
    within = subst (All (DegreeAtMost bound)) (sym e) (All-replicate (DegreeAtMost bound) (length L) empty (DegreeAtMost-empty bound));
  }

  module _ (rows : List (List Polynomial)) (ss : List (Summand K O)) (c : AreCombined F L G bound rows ss) (i : ℕ) (l : i < length ss) (s : Summand K O) (at : s ≡ get_or ss i s) where
    summand-is : IsSummand F G bound s
    summand-is = subst (IsSummand F G bound) (sym at) (c.each i s l)

    pub summand-row : (s.place < length rows) × ((d : List Polynomial) → IsRowWithin F L (member_at G s.place) (get_or rows s.place d))
    summand-row = subst (λ t. (t.place < length rows) × ((d : List Polynomial) → IsRowWithin F L (member_at G t.place) (get_or rows t.place d))) (sym at) (c.have_rows i s l)

    module _ (other : List Polynomial) (is : other ≡ get_or rows s.place other) where
      other-is : IsRowWithin F L (member_at G s.place) other
      other-is = subst (IsRowWithin F L (member_at G s.place)) (sym is) (summand-row.1 other)

      pub other-polynomials : ArePolynomials F other
      other-polynomials = other-is.is.polynomials

      pub other-long : length other ≡ length L
      other-long = other-is.is.long

      -- No product is high.
      pub other-low : All (λ y. IsHigh (product F s.factor y) → ⊥) other
      other-low k d m =
          let low = c.low in
          product-low laws summand-is.factor (other-is.is.polynomials.each k d m) (member_at G s.place).sugar (λ a p. let one = summand-is.within a p in omega (arith, one, low)) (other-is.within k d m)

      pub partial-more : (row new : List Polynomial) → new ≡ add_multiple F s.factor row other → IsRowWithin F L (partial (take i ss)) row → IsRowWithin F L (partial (take (i + 1) ss)) new
      partial-more row new e w =
          let whole : combined F (polynomial_at G) empty (take (i + 1) ss) ≡ sum F (combined F (polynomial_at G) empty (take i ss)) (product F s.factor (polynomial_at G s.place)) =
          ap (λ n. combined F (polynomial_at G) empty (take n ss)) (add-one i) ∙ ap (combined F (polynomial_at G) empty) (take-suc ss i s l)
          ∙ ap (λ t. combined F (polynomial_at G) empty (take i ss ++ (t ∷ []))) (sym at) ∙ combined-more F (polynomial_at G) empty (take i ss) s in
          record {
            is = subst₂ (IsRow F L) (sym whole) (sym e) (IsRow-add_multiple laws A summand-is.factor w.is other-is.is);
            within = subst (All (DegreeAtMost bound)) (sym e)
                (DegreeAtMost-add_multiple laws summand-is.factor (member_at G s.place).sugar bound summand-is.within row other other-is.is.polynomials w.within other-is.within);
          }

-- What a source combines comes before it.
uses : {K O : Type 0} (F : Field) (L : List Polynomial) (G : List Sugared) (bound n : ℕ) (f : Polynomial) (source : Source K O) → length G ≤ n → IsSourceOf F L G bound f source → UsesBelow n source
uses F L G bound n f (Given j) l h = tt
uses F L G bound n f (Combined v) l h = All-weaker (IsSummand F G bound) (λ s. s.place < n) (λ s own. let place = own.place in omega (arith, place, l)) v.items h.0

module _ {K O : Type 0} {F : Field} {L : List Polynomial} (G : List Sugared) (makings : List (Making K O)) (made : AreMade F L G makings) where
  uses-below : (k : ℕ) (d : Making K O) → k < length makings → UsesBelow k (get_or makings k d).source
  uses-below k d l =
      let own = made.each k d l in
      let long = made.long in
      uses F L (take k G) (member_at G k).sugar k own.made_of (get_or makings k d).source (omega (arith, length-take-le k G (omega (arith, l, long)))) own.source

  pub made-AreInOrder : AreInOrder makings
  made-AreInOrder = record { each = uses-below }

  -- The rows that are formed, of those that are needed.
  pub record AreFormed (marks : List Bool) (rows : List (List Polynomial)) : Type 0 where
    pub each : (k : ℕ) (d : List Polynomial) → k < length rows → IsMarked marks k → IsRowWithin F L (member_at G k) (get_or rows k d)

  module _ (from : ℕ) (marks : List Bool) (needed : AreNeeded makings from marks) (rows : List (List Polynomial)) (formed : AreFormed marks rows) (k : ℕ) (count : length rows ≡ k) (l : k < length makings)
      (m : Making K O) (at : m ≡ get_or makings k m) (marked : IsMarked marks k) where
    have : (source : Source K O) → UsesBelow k source → AreMarked marks source
        → AllSummands (λ s. (s.place < length rows) × ((d : List Polynomial) → IsRowWithin F L (member_at (take k G) s.place) (get_or rows s.place d))) source
    unfolding member_at
    have (Given j) below own = tt
    have (Combined v) below own = λ i s n.
        let place = below i s n in
        let earlier = formed.each in
        let t = get_or v.items i s in (
          omega (arith, place, count),
          λ d. subst (λ g. IsRowWithin F L g (get_or rows t.place d)) (sym (get_or-take k G t.place (record { polynomial = empty; sugar = 0 }) place)) (earlier t.place d (omega (arith, place, count)) (own i s n)),
        )

    pub made-with-rows : IsMadeWithRows F L (take k G) (member_at G k) rows m
    made-with-rows = subst (IsMadeWithRows F L (take k G) (member_at G k) rows) (sym at) (record {
      is = made.each k m l;
      have_rows = have (get_or makings k m).source (uses-below k m l) (needed.closed k m l marked);
    })

  -- One row more.
  pub formed-more : (marks : List Bool) (rows new : List (List Polynomial)) (row : List Polynomial) → new ≡ rows ++ (row ∷ []) → AreFormed marks rows
      → (IsMarked marks (length rows) → IsRowWithin F L (member_at G (length rows)) row) → AreFormed marks new
  formed-more marks rows new row e old one = subst (AreFormed marks) (sym e) (record {
    each = λ k d l marked. by k d marked (cases_order k (length rows)) (omega (arith, l, length-append rows (row ∷ [])));
  })
    where
      by : (k : ℕ) (d : List Polynomial) → IsMarked marks k → (k ≡ length rows) ⊎ ((k < length rows) ⊎ (length rows < k)) → k < length rows + 1
          → IsRowWithin F L (member_at G k) (get_or (rows ++ (row ∷ [])) k d)
      by k d marked (inl e) l =
          subst (λ xs. IsRowWithin F L (member_at G k) xs) (sym (get_or_push rows row d k (sym e))) (subst (λ j. IsRowWithin F L (member_at G j) row) (sym e) (one (subst (IsMarked marks) e marked)))
      by k d marked (inr (inl h)) l = subst (IsRowWithin F L (member_at G k)) (sym (get_or_append_left rows (row ∷ []) d k h)) (old.each k d h marked)
      by k d marked (inr (inr h)) l = absurd (omega (arith, h, l))

  -- All rows are formed.
  pub formed-all : (from : ℕ) (marks : List Bool) (needed : AreNeeded makings from marks) (rows : List (List Polynomial)) → length rows ≡ length makings → from ≤ length makings → AreFormed marks rows
      → AreRowsFrom F L G from (drop from rows)
  formed-all from marks needed rows count within formed =
      let left = length-drop from rows in
      let made_long = made.long in
      record {
        long = omega (arith, left, count, within, made_long);
        each = λ k d l.
            subst (IsRowWithin F L (member_at G (from + k))) (sym (get_or-drop from rows k d))
            (formed.each (from + k) d (omega (arith, l, left)) (needed.asked (from + k) (omega arith) (omega (arith, l, left, count))));
      }

-- The row of a constant times a source.
module _ {F : Field} (laws : IsField F) {L : List Polynomial} (A : ArePolynomials F L) where
  pub source-given : (bound j : ℕ) (f : Polynomial) (row : List Polynomial) (c : ℕ) → c ≡ 1 → j < length L → f ≡ get_or L j empty → row ≡ set (replicate (length L) empty) j (term c origin)
      → IsRowWithin F L (record { polynomial = f; sugar = bound }) row
  source-given bound j f row c one l is e =
      let P = A.each j empty l in
      let whole = e ∙ ap (λ n. set (replicate (length L) empty) j (term n origin)) one in
      record {
        is = subst₂ (IsRow F L) (product_comm laws (IsPolynomial-one laws) P ∙ product_one laws P ∙ sym is) (sym whole) (IsRow-one laws (IsPolynomial-one laws) L j A l);
        within = subst (All (DegreeAtMost bound)) (sym whole)
            (All-set (DegreeAtMost bound) (replicate (length L) empty) j (term 1 origin) (DegreeAtMost-term bound 1 origin (omega (arith, total_origin)))
            (All-replicate (DegreeAtMost bound) (length L) empty (DegreeAtMost-empty bound)));
      }

  -- Products with a constant are not high.
  pub constant-low : (bound : ℕ) (c : Polynomial) (row : List Polynomial) → IsPolynomial F c → DegreeAtMost 0 c → bound ≤ 2 ^ 40 → ArePolynomials F row → All (DegreeAtMost bound) row
      → All (λ y. IsHigh (product F c y) → ⊥) row
  constant-low bound c row C degree low P within k d l =
      product-low laws C (P.each k d l) bound (λ a p. let one = degree.within a p in omega (arith, one, low)) (within k d l)

  pub times-constant : {K O : Type 0} (G : List Sugared) (g : Sugared) (m : Making K O) (h : IsMaking F L G g m) (row new : List Polynomial) → IsRowWithin F L (record { polynomial = h.made_of; sugar = g.sugar }) row
      → IsPolynomial F h.made_of → new ≡ map (product F m.constant) row → IsRowWithin F L g new
  times-constant G g m h row new w P e = record {
    is = subst₂ (IsRow F L) (sym h.is) (sym e) (IsRow-scaled laws h.constant A P w.is);
    within = subst (All (DegreeAtMost g.sugar)) (sym e)
        (All-map (DegreeAtMost g.sugar) (product F m.constant) row
        (λ k d n. DegreeAtMost-product laws h.constant (w.is.polynomials.each k d n) g.sugar g.sugar (λ a p. let one = h.degree.within a p in omega (arith, one)) (w.within k d n)));
  }

-- What is combined in a making that has its rows.
pub made-combined : {K O : Type 0} {F : Field} {L : List Polynomial} (G : List Sugared) (g : Sugared) (rows : List (List Polynomial)) (m : Making K O) (h : IsMadeWithRows F L G g rows m) (v : Vec (Summand K O) Global)
    → m.source ≡ Combined v → AreCombined F L G g.sugar rows v.items × (h.is.made_of ≡ combined F (polynomial_at G) empty v.items)
made-combined {F = F} {L = L} G g rows m h v e =
    let own = subst (IsSourceOf F L G g.sugar h.is.made_of) e h.is.source in (
      record {
        each = own.0;
        have_rows = subst (AllSummands (λ s. (s.place < length rows) × ((d : List Polynomial) → IsRowWithin F L (member_at G s.place) (get_or rows s.place d)))) e h.have_rows;
        low = h.is.low;
      },
      own.1,
    )

-- What has a row is a polynomial.
pub IsPolynomial-row : {F : Field} (laws : IsField F) {L : List Polynomial} → ArePolynomials F L → (g : Sugared) (row : List Polynomial) → IsRowWithin F L g row → IsPolynomial F g.polynomial
IsPolynomial-row {F} laws A g row w = subst (IsPolynomial F) (sym w.is.is) (IsPolynomial-list_combination laws w.is.polynomials A)
