-- The cofactors of a basis both ways, and the run that is finished with it.
use Rattle.std.proofs.Common.{◌≡◌, ℕ, ◌+◌, ◌<◌, suc, List, [], ◌∷◌, ◌++◌, length, length-append, get_or, map, All, Any, Contains, refl, sym, ap, ◌∙◌, subst, arith}
use Rattle.std.specs.FinMap.{empty}
use Rattle.std.specs.List.{range_with_len}
use Rattle.std.proofs.lemmas.List.{length-map}
use Rattle.std.proofs.lemmas.List.Elements.{All-nil, All-cons, All-head, All-tail}
use Rattle.fj_coeff.specs.Field.{Field, IsField}
use Rattle.fj_algebra.proofs.Pairs.{contains_head, contains_nil}
use Rattle.fj_theory.specs.MonomialOrder.{IsMonomialOrder}
use Rattle.fj_theory.specs.Polynomial.{Polynomial, IsPolynomial, sum}
use Rattle.fj_theory.specs.Ideal.{ArePolynomials, Member, list_combination}
use Rattle.fj_groebner.specs.ReducedBasis.{IsReducedBasis}
use Rattle.fj_groebner.specs.Rows.{AreRows, IsRow}
use Rattle.fj_groebner.specs.Division.{Division, IsHighDivision, IsLowDivision, Sugared, member_at, polynomials_of}
use Rattle.fj_groebner.specs.Run.{IsFinished, IsReplacing, given}
use Rattle.fj_groebner.specs.Run as definition
use Rattle.fj_groebner.proofs.Division.{IsDivision-length, IsDivision-quotients, Member-IsDivision, division_identity}
use Rattle.fj_groebner.proofs.Finishing.{IsFinished-IsReducedBasis}
use Rattle.fj_theory.proofs.Ideal.{Member-elements}
use Rattle.fj_theory.proofs.IdealBridge.{ArePolynomials-head, ArePolynomials-tail, IsPolynomial-one}
use Rattle.fj_theory.proofs.PolynomialRing.{product_comm, product_one, sum_empty}
use Rattle.fj_groebner.proofs.Rows.{IsPolynomial-list_combination, IsRow-one}
use Rattle.fj_basis.specs.declared.members.Member as code
use Rattle.fj_basis.specs.declared.run.Run as code_run
use Rattle.fj_basis.specs.Basis.{unit_row, unit_rows}
use Rattle.fj_basis.specs.Finished.{AreDivisors, AreMembersOfRun, AreQuotients, IsHighReplacing, IsQuotients}
use Rattle.fj_basis.specs.Members.{sugared_members}
use Rattle.fj_basis.specs.State.{ArePending, IsEnded}
use Rattle.fj_basis.specs.Forming.{AreRowsFrom}
use Rattle.fj_basis.proofs.Combined.{member_at-right}
use Rattle.fj_basis.proofs.ReplacingSteps.{IsReplacing-AreDivisors}

-- A table of rows has a row for each polynomial, and an entry for each of the list.
pub AreRows-long : (F : Field) (N : List Polynomial) (G : List Polynomial) (rows : List (List Polynomial)) → AreRows F N G rows → length rows ≡ length G
unfolding AreRows
AreRows-long F N [] [] all = refl
AreRows-long F N [] (row ∷ rows) all = absurd all
AreRows-long F N (g ∷ G) [] all = absurd all
AreRows-long F N (g ∷ G) (row ∷ rows) all = ap suc (AreRows-long F N G rows all.1)

pub AreRows-wide : (F : Field) (N : List Polynomial) (G : List Polynomial) (rows : List (List Polynomial)) → AreRows F N G rows → All (λ row. length row ≡ length N) rows
unfolding AreRows
AreRows-wide F N [] [] all = All-nil (λ row. length row ≡ length N)
AreRows-wide F N [] (row ∷ rows) all = absurd all
AreRows-wide F N (g ∷ G) [] all = absurd all
AreRows-wide F N (g ∷ G) (row ∷ rows) all = All-cons (λ row. length row ≡ length N) row rows all.0.long (AreRows-wide F N G rows all.1)

-- The polynomials of members without their sugars and their cofactors.
pub polynomials-sugared : {K O : Type 0} (members : List (code.Member K O)) → polynomials_of (sugared_members members) ≡ map (λ m. m.polynomial) members
polynomials-sugared [] = refl
polynomials-sugared (m ∷ members) = ap (λ fs. m.polynomial ∷ fs) (polynomials-sugared members)

module _ (F : Field) (key : List ℕ → List ℕ) (G : List Sugared) where
  pub AreQuotients-divisions : (N : List Polynomial) (rows : List (List Polynomial)) → AreQuotients F key G N rows → All (λ f. (d : Division) × IsLowDivision F key G (given f) d) N
  unfolding AreQuotients
  AreQuotients-divisions [] [] all = All-nil (λ f. (d : Division) × IsLowDivision F key G (given f) d)
  AreQuotients-divisions [] (row ∷ rows) all = absurd all
  AreQuotients-divisions (f ∷ N) [] all = absurd all
  AreQuotients-divisions (f ∷ N) (row ∷ rows) all =
      All-cons (λ f. (d : Division) × IsLowDivision F key G (given f) d) f N (all.0.last, all.0.division) (AreQuotients-divisions N rows all.1)

  pub AreQuotients-long : (N : List Polynomial) (rows : List (List Polynomial)) → AreQuotients F key G N rows → length rows ≡ length N
  unfolding AreQuotients
  AreQuotients-long [] [] all = refl
  AreQuotients-long [] (row ∷ rows) all = absurd all
  AreQuotients-long (f ∷ N) [] all = absurd all
  AreQuotients-long (f ∷ N) (row ∷ rows) all = ap suc (AreQuotients-long N rows all.1)

-- By a reduced basis the quotients of a polynomial of the ideal are its cofactors.
module _ {F : Field} (L : IsField F) {key : List ℕ → List ℕ} (R : IsMonomialOrder key) {M : List Polynomial} (A : ArePolynomials F M) (G : List Sugared)
    (divisors : AreDivisors F G) (basis : IsReducedBasis F key M (polynomials_of G)) where
  quotients-IsRow : {f : Polynomial} {row : List Polynomial} → IsPolynomial F f → Member F M f → IsQuotients F key G f row → IsRow F (polynomials_of G) f row
  unfolding given
  quotients-IsRow {f} {row} H member q =
      let B = divisors.polynomials in
      let some = divisors.nonzero in
      let D = q.division.division in
      let Q = IsDivision-quotients R L G B some {h = given f} H D in
      let none = (Member-IsDivision R L G B some {h = given f} H D A basis).0 member in
      record {
        polynomials = subst (ArePolynomials F) q.quotients Q;
        long = ap length (sym q.quotients) ∙ IsDivision-length R L G B some {h = given f} H D ∙ sym (length-map G (λ g. g.polynomial));
        is = division_identity R L G B some {h = given f} H D ∙ ap (sum F (list_combination F q.last.quotients (polynomials_of G))) none
            ∙ sum_empty L (IsPolynomial-list_combination L Q B) ∙ ap (λ qs. list_combination F qs (polynomials_of G)) q.quotients;
      }

  pub AreQuotients-AreRows : (N : List Polynomial) (rows : List (List Polynomial)) → ArePolynomials F N → All (Member F M) N → AreQuotients F key G N rows → AreRows F (polynomials_of G) N rows
  unfolding AreQuotients AreRows
  AreQuotients-AreRows [] [] P inside all = tt
  AreQuotients-AreRows [] (row ∷ rows) P inside all = absurd all
  AreQuotients-AreRows (f ∷ N) [] P inside all = absurd all
  AreQuotients-AreRows (f ∷ N) (row ∷ rows) P inside all =
      (quotients-IsRow (ArePolynomials-head P) (All-head (Member F M) f N inside) all.0, AreQuotients-AreRows N rows (ArePolynomials-tail P) (All-tail (Member F M) f N inside) all.1)

-- Where no pair of the code is pending, none is.
none-pending : {O : Type 0} {key : List ℕ → List ℕ} {s : definition.Run} → ArePending {O = O} key s [] → s.pending ≡ []
none-pending {O} {key} {s} h = by s.pending refl
  where
    by : (pairs : List (ℕ × ℕ)) → s.pending ≡ pairs → s.pending ≡ []
    by [] e = e
    by (p ∷ pairs) e = let found = h.complete p (subst (λ ps. Contains ps p) (sym e) (contains_head p pairs)) in absurd (contains_nil found.0 found.1)

-- The members of a run that has ended.
pub IsEnded-members : {K O : Type 0} {F : Field} {key : List ℕ → List ℕ} {M : List Polynomial} {budget : ℕ} {s : code_run.Run K O} → IsEnded F key M budget s
    → {members : List (code.Member K O)} → members ≡ s.members.items → AreMembersOfRun F key members
IsEnded-members {F} {key} {M} h e = subst (AreMembersOfRun F key) (sym e) (record {
  list = M;
  given = h.after.given;
  turns = h.turns;
  state = h.after.state;
  run = h.after.run;
  are = h.after.members;
  in_place = h.after.in_place;
})

-- A run that has ended, with a sugar above the limit in the second act.
pub ended-IsHighReplacing : {K O : Type 0} {F : Field} {key : List ℕ → List ℕ} {M : List Polynomial} {budget : ℕ} {s : code_run.Run K O} → IsEnded F key M budget s
    → {members : List (code.Member K O)} → members ≡ s.members.items → IsHighReplacing F key (sugared_members members) → definition.TooHigh F key M budget
ended-IsHighReplacing {F} {key} ended are high =
    definition.in_finishing ended.turns ended.after.state ended.after.run ended.within (none-pending (subst (ArePending key ended.after.state) ended.none ended.after.pending))
    (definition.replacing high.reached high.member high.rest
    (subst (λ G. IsReplacing F key G high.reached) (ap sugared_members are ∙ sym ended.after.members) high.replacing) high.next high.high)

-- A run that has ended and is finished.
module _ {K O : Type 0} {F : Field} (L : IsField F) {key : List ℕ → List ℕ} (R : IsMonomialOrder key) {M : List Polynomial} {budget : ℕ} {s : code_run.Run K O} (ended : IsEnded F key M budget s)
    {members : List (code.Member K O)} (are : members ≡ s.members.items) (basis : List (code.Member K O))
    (replacing : IsReplacing F key (sugared_members members) (record { replaced = sugared_members basis; rest = [] })) where
  -- Its members divide.
  pub ended-AreDivisors : AreDivisors F (sugared_members basis)
  ended-AreDivisors = IsReplacing-AreDivisors L R (IsEnded-members ended are) replacing

  -- Where a division of the third act is high, finishing is.
  pub ended-IsHighDividing : Any (λ f. IsHighDivision F key (sugared_members basis) (given f)) M → definition.TooHigh F key M budget
  ended-IsHighDividing any =
      definition.in_finishing ended.turns ended.after.state ended.after.run ended.within (none-pending (subst (ArePending key ended.after.state) ended.none ended.after.pending))
      (definition.dividing (sugared_members basis)
      (subst (λ G. IsReplacing F key G (record { replaced = sugared_members basis; rest = [] })) (ap sugared_members are ∙ sym ended.after.members) replacing) any)

  module _ (rows : List (List Polynomial)) (quotients : AreQuotients F key (sugared_members basis) M rows) where
    pub ended-IsFinished : IsFinished F key M budget (sugared_members basis)
    ended-IsFinished = record {
      turns = ended.turns;
      last = ended.after.state;
      run = ended.after.run;
      within = ended.within;
      none_pending = none-pending (subst (ArePending key ended.after.state) ended.none ended.after.pending);
      finishing = record {
        replacing = subst (λ G. IsReplacing F key G (record { replaced = sugared_members basis; rest = [] })) (ap sugared_members are ∙ sym ended.after.members) replacing;
        divisions = AreQuotients-divisions F key (sugared_members basis) M rows quotients;
      };
    }

    reduced : IsReducedBasis F key M (polynomials_of (sugared_members basis))
    reduced = IsFinished-IsReducedBasis R L ended.after.given ended-IsFinished

    pub ended-up : AreRows F (polynomials_of (sugared_members basis)) M rows
    ended-up = AreQuotients-AreRows L R ended.after.given (sugared_members basis) ended-AreDivisors reduced M rows ended.after.given (Member-elements L ended.after.given) quotients

-- A list is made of itself by the unit rows.
module _ {F : Field} (L : IsField F) (N : List Polynomial) (A : ArePolynomials F N) where
  IsRow-unit : (k : ℕ) → k < length N → IsRow F N (get_or N k empty) (unit_row (length N) k)
  IsRow-unit k l =
      let P = A.each k empty l in
      let U = IsPolynomial-one L in
      subst (λ f. IsRow F N f (unit_row (length N) k)) (product_comm L U P ∙ product_one L P) (IsRow-one L U N k A l)

  rows_from : (G : List Polynomial) (k : ℕ) → k + length G ≡ length N → ((i : ℕ) → i < length G → get_or G i empty ≡ get_or N (k + i) empty)
      → AreRows F N G (map (unit_row (length N)) (range_with_len k (length G)))
  unfolding AreRows
  rows_from [] k e same = tt
  rows_from (g ∷ G) k e same = (
    subst (λ f. IsRow F N f (unit_row (length N) k)) (sym (same 0 (omega arith) ∙ ap (λ n. get_or N n empty) (omega arith))) (IsRow-unit k (omega (arith, e))),
    rows_from G (k + 1) (omega (arith, e)) (λ i l. same (suc i) (omega (arith, l)) ∙ ap (λ n. get_or N n empty) (omega arith)),
  )

  pub AreRows-unit_rows : AreRows F N N (unit_rows (length N))
  AreRows-unit_rows = rows_from N 0 (omega arith) (λ i l. ap (λ n. get_or N n empty) (omega arith))

-- Rows that are formed are the cofactors of the polynomials from their place on.
table : {F : Field} {N : List Polynomial} (G : List Sugared) (rows : List (List Polynomial)) → length rows ≡ length G
    → ((k : ℕ) (d : List Polynomial) → k < length rows → IsRow F N (member_at G k).polynomial (get_or rows k d)) → AreRows F N (polynomials_of G) rows
unfolding AreRows member_at
table [] [] l each = tt
table [] (row ∷ rows) l each = absurd (omega (arith, l))
table (g ∷ G) [] l each = absurd (omega (arith, l))
table (g ∷ G) (row ∷ rows) l each = (each 0 [] (omega arith), table G rows (omega (arith, l)) (λ k d m. each (suc k) d (omega (arith, m))))

pub AreRows-formed : {F : Field} {N : List Polynomial} (before G : List Sugared) (from : ℕ) (rows : List (List Polynomial)) → length before ≡ from → AreRowsFrom F N (before ++ G) from rows
    → AreRows F N (polynomials_of G) rows
AreRows-formed {F} {N} before G from rows e h =
    let long = h.long in
    table G rows (omega (arith, e, long, length-append before G))
    (λ k d l. subst (λ (g : Sugared). IsRow F N g.polynomial (get_or rows k d)) (ap (λ n. member_at (before ++ G) (n + k)) (sym e) ∙ member_at-right before G k) (h.each k d l).is)
