-- The start of a run, a given polynomial at a time.
use Rattle.std.proofs.Common.{◌≡◌, ◌≢◌, ℕ, ◌+◌, ◌<◌, ◌≤◌, ◌==◌, not, Bool, true, false, cond, List, [], ◌∷◌, ◌++◌, length, length-append, map, filter, take, get_or, All, Contains, refl, sym, ap, ap₂, ◌∙◌, subst, subst₂, arith, add-one, eq-eqb}
use Rattle.std.specs.List.{flat_map, range_with_len}
use Rattle.std.specs.FinMap.{empty, len, len-empty, empty_of_len}
use Rattle.std.specs.Cmp.Lexicographic.{slice_cmp}
use Rattle.std.specs.Ordering.{nat_cmp}
use Rattle.std.proofs.Math.Seq.{take-suc}
use Rattle.std.proofs.lemmas.Bool.{ne_eqb}
use Rattle.std.proofs.lemmas.Grind.{flat_map-append}
use Rattle.std.proofs.lemmas.List.{append-nil, map-append, map-id, take_all}
use Rattle.std.proofs.lemmas.List.Elements.{All-nil, filter-append}
use Rattle.std.proofs.lemmas.List.FromFn.{map-range_with_len_more}
use Rattle.fj_algebra.proofs.Pairs.{contains_nil}
use Rattle.fj_coeff.specs.Field.{Field, IsField}
use Rattle.fj_theory.specs.Exponents.{origin}
use Rattle.fj_theory.specs.MonomialOrder.{IsMonomialOrder}
use Rattle.fj_theory.specs.Polynomial.{IsPolynomial, Polynomial, product, term}
use Rattle.fj_theory.specs.Ideal.{ArePolynomials}
use Rattle.fj_theory.specs.Lead.{lead_coefficient, lead_exponents, made_monic}
use Rattle.fj_groebner.specs.Division.{DegreeAtMost, Sugared, degree_limit}
use Rattle.fj_groebner.specs.Run as definition
use Rattle.fj_groebner.specs.Run.{AreRemovals, append_member, first_members, given, monic_member, pairs_with, run_start}
use Rattle.fj_groebner.proofs.Run.{of_all_pairs}
use Rattle.fj_basis.specs.declared.members.Member.{Member}
use Rattle.fj_basis.specs.declared.run.Run.{Run}
use Rattle.fj_basis.specs.declared.history.Making.{Making}
use Rattle.fj_basis.specs.declared.history.Source.TheVariants.{Given}
use Rattle.fj_basis.specs.History.{AreMade, IsHistoryOf, IsMaking, IsSourceOf}
use Rattle.fj_basis.specs.Members.{AreInPlace, sugared, sugared_members}
use Rattle.fj_basis.specs.Pending.{HasPairsWith}
use Rattle.fj_basis.specs.State.{IsAfter, IsPendingOf}
use Rattle.fj_basis.proofs.Combined.{AreMade-none, HasRecordedOver, IsHistoryOf-over, in_place-none, in_place-push}
use Rattle.fj_basis.proofs.Gathered.{gathered_all}
use Rattle.fj_basis.proofs.NextMember.{IsPolynomial-constant, constant-degree, made_monic-nonzero}
use Rattle.fj_basis.proofs.PendingPairs.{IsPendingOf-append}

-- The start of the run on the first n polynomials of L.
pub record IsStarted {K R : Type 0} (F : Field) (key : List ℕ → List ℕ) (L : List Polynomial) (n : ℕ) (s : Run K R) : Type 0 where
  pub members : (run_start F key (take n L)).members ≡ sugared_members s.members.items
  pub pending : IsPendingOf key (run_start F key (take n L)) s.pending
  pub in_place : AreInPlace s.members.items
  pub history : IsHistoryOf F L (sugared_members s.members.items) s.history
  pub nonzero : All (λ m. m.polynomial ≢ empty) s.members.items

range-more : (n : ℕ) → range_with_len 0 (n + 1) ≡ range_with_len 0 n ++ (n ∷ [])
range-more n =
    sym (map-id (range_with_len 0 (n + 1))) ∙ map-range_with_len_more (λ (x : ℕ). x) 0 n n (omega arith) ∙ ap (λ xs. xs ++ (n ∷ [])) (map-id (range_with_len 0 n))

pairs-more : (n : ℕ) → flat_map pairs_with (range_with_len 0 (n + 1)) ≡ flat_map pairs_with (range_with_len 0 n) ++ pairs_with n
pairs-more n =
    ap (flat_map pairs_with) (range-more n) ∙ flat_map-append pairs_with (range_with_len 0 n) (n ∷ []) ∙ ap (λ xs. flat_map pairs_with (range_with_len 0 n) ++ xs) (append-nil (pairs_with n))

module _ (F : Field) (key : List ℕ → List ℕ) where
  test : Polynomial → Bool
  test f = not (len f == 0)

  member : Polynomial → Sugared
  member f = monic_member F key (given f)

  -- The start with these members.
  start_of : List Sugared → definition.Run
  start_of G = record { members = G; pending = flat_map pairs_with (range_with_len 0 (length G)) }

  start-is : (N : List Polynomial) → run_start F key N ≡ start_of (first_members F key N)
  unfolding run_start start_of
  start-is N = refl

  first-is : (N : List Polynomial) → first_members F key N ≡ map member (filter test N)
  unfolding first_members member test
  first-is N = refl

  first-more : (N : List Polynomial) (f : Polynomial) → first_members F key (N ++ (f ∷ [])) ≡ first_members F key N ++ map member (cond (test f) (f ∷ []) [])
  first-more N f =
      first-is (N ++ (f ∷ [])) ∙ ap (map member) (filter-append test N (f ∷ [])) ∙ map-append member (filter test N) (filter test (f ∷ [])) ∙ ap (λ G. G ++ map member (filter test (f ∷ []))) (sym (first-is N))

  start-zero : (N : List Polynomial) (f : Polynomial) → f ≡ empty → run_start F key (N ++ (f ∷ [])) ≡ run_start F key N
  unfolding test
  start-zero N f e =
      let none : (len f == 0) ≡ true = eq-eqb (len f) 0 (ap len e ∙ len-empty (slice_cmp nat_cmp) ℕ) in
      start-is (N ++ (f ∷ []))
      ∙ ap start_of (first-more N f ∙ ap (λ t. first_members F key N ++ map member (cond (not t) (f ∷ []) [])) none ∙ append-nil (first_members F key N)) ∙ sym (start-is N)

  start_of-more : (G : List Sugared) (g : Sugared) → start_of (G ++ (g ∷ [])) ≡ append_member (start_of G) g
  unfolding start_of append_member
  start_of-more G g =
      let pairs = ap (λ n. flat_map pairs_with (range_with_len 0 n)) (length-append G (g ∷ [])) ∙ pairs-more (length G) in
      λ i. record { members = G ++ (g ∷ []); pending = pairs i }

  start-more : (N : List Polynomial) (f : Polynomial) → f ≢ empty → run_start F key (N ++ (f ∷ [])) ≡ append_member (run_start F key N) (monic_member F key (given f))
  unfolding test member
  start-more N f some =
      let nonzero : (len f == 0) ≡ false = ne_eqb (len f) 0 (λ z. some (empty_of_len f z)) in
      start-is (N ++ (f ∷ [])) ∙ ap start_of (first-more N f ∙ ap (λ t. first_members F key N ++ map member (cond (not t) (f ∷ []) [])) nonzero)
      ∙ start_of-more (first_members F key N) (monic_member F key (given f)) ∙ ap (λ s. append_member s (monic_member F key (given f))) (sym (start-is N))

  start-places : (N : List Polynomial) (i j : ℕ) → Contains (run_start F key N).pending (i, j) → (i < j) × (j < length (run_start F key N).members)
  unfolding run_start
  start-places N i j c = of_all_pairs (length (first_members F key N)) i j c

  none-pending : {R : Type 0} → IsPendingOf {O = R} key (run_start F key []) (record { leads = []; pairs = [] })
  unfolding run_start first_members
  none-pending {R} = record { leads = refl; pairs = record { sound = All-nil _; complete = λ pair c. absurd (contains_nil pair c) } }

  none-members : (run_start F key []).members ≡ []
  unfolding run_start first_members
  none-members = refl

one-more : (L : List Polynomial) (n : ℕ) → n < length L → take (n + 1) L ≡ take n L ++ (get_or L n empty ∷ [])
one-more L n l = ap (λ m. take m L) (add-one n) ∙ take-suc L n empty l

module _ {K R : Type 0} {F : Field} {key : List ℕ → List ℕ} (L : List Polynomial) where
  -- Nothing is read.
  pub started-none : (s : Run K R) → s.members.items ≡ [] → s.pending.leads ≡ [] → s.pending.pairs ≡ [] → s.history.makings.items ≡ [] → IsStarted F key L 0 s
  started-none s members leads pairs makings = record {
    members = none-members F key ∙ ap sugared_members (sym members);
    pending = subst (IsPendingOf key (run_start F key [])) (λ i. record { leads = sym leads i; pairs = sym pairs i }) (none-pending F key);
    in_place = subst AreInPlace (sym members) in_place-none;
    history = record { made = λ kept. subst₂ (AreMade F L) (ap sugared_members (sym members)) (sym makings) AreMade-none };
    nonzero = subst (All (λ (m : Member K R). m.polynomial ≢ empty)) (sym members) (All-nil (λ m. m.polynomial ≢ empty));
  }

  -- A polynomial that is zero.
  pub started-zero : (n : ℕ) (s : Run K R) → n < length L → get_or L n empty ≡ empty → IsStarted F key L n s → IsStarted F key L (n + 1) s
  started-zero n s l e before =
      let same = sym (ap (run_start F key) (one-more L n l) ∙ start-zero F key (take n L) (get_or L n empty) e) in
      record {
        members = sym (ap (λ t. t.members) same) ∙ before.members;
        pending = subst (λ t. IsPendingOf key t s.pending) same before.pending;
        in_place = before.in_place;
        history = before.history;
        nonzero = before.nonzero;
      }

  -- One that isn't.
  pub started-more : (n : ℕ) (s new : Run K R) (m : Member K R) → n < length L → get_or L n empty ≢ empty → sugared m ≡ monic_member F key (given (get_or L n empty)) → m.place ≡ length s.members.items → m.sugar ≤ degree_limit
      → HasRecordedOver F L (sugared_members s.members.items) (sugared m) s.history new.history → m.polynomial ≢ empty
      → new.members.items ≡ s.members.items ++ (m ∷ []) → new.pending.leads ≡ s.pending.leads ++ (lead_exponents key m.polynomial ∷ [])
      → HasPairsWith new.pending.leads (length s.pending.leads) s.pending.pairs new.pending.pairs
      → IsStarted F key L n s → IsStarted F key L (n + 1) new
  unfolding append_member
  started-more n s new m l some is place low recorded nonzero whole grown pairs before =
      let old = run_start F key (take n L) in
      let g = monic_member F key (given (get_or L n empty)) in
      let same : run_start F key (take (n + 1) L) ≡ append_member old g = ap (run_start F key) (one-more L n l) ∙ start-more F key (take n L) (get_or L n empty) some in
      let are : sugared_members new.members.items ≡ old.members ++ (g ∷ []) =
      ap sugared_members whole ∙ map-append sugared s.members.items (m ∷ []) ∙ ap₂ (λ G h. G ++ (h ∷ [])) (sym before.members) is in
      record {
        members = ap (λ t. t.members) same ∙ sym are;
        pending = subst (λ t. IsPendingOf key t new.pending) (sym same)
            (IsPendingOf-append key old g s.pending new.pending (start-places F key (take n L)) before.pending
            (grown ∙ ap (λ h. s.pending.leads ++ (lead_exponents key h.polynomial ∷ [])) is) pairs);
        in_place = subst AreInPlace (sym whole) (in_place-push s.members.items m before.in_place place low);
        history = subst (λ G. IsHistoryOf F L G new.history) (sym (ap sugared_members whole ∙ map-append sugared s.members.items (m ∷ [])))
            (IsHistoryOf-over (sugared_members s.members.items) (sugared m) s.history new.history recorded before.history);
        nonzero = gathered_all (λ (g : Member K R). g.polynomial ≢ empty) s.members.items new.members.items m before.nonzero nonzero whole;
      }

  -- All are read, and the removals of the start are made.
  pub started-all : ArePolynomials F L → (n : ℕ) (s new : Run K R) → length L ≤ n → IsStarted F key L n s → new.members.items ≡ s.members.items → new.history ≡ s.history
      → ((t : definition.Run) → IsPendingOf key t s.pending → (u : definition.Run) × AreRemovals key t u × (u.members ≡ t.members) × IsPendingOf key u new.pending)
      → IsAfter F key L 0 new
  started-all A n s new l before same kept removed =
      let whole = ap (run_start F key) (take_all n L l) in
      let end = removed (run_start F key L) (subst (λ t. IsPendingOf key t s.pending) whole before.pending) in
      record {
        given = A;
        state = end.0;
        run = record { first = end.0; removals = end.1; states = []; steps = refl; made = refl };
        members = end.2 ∙ ap (λ t. t.members) (sym whole) ∙ before.members ∙ ap sugared_members (sym same);
        leads = end.3.leads;
        pending = end.3.pairs;
        in_place = subst AreInPlace (sym same) before.in_place;
        history = subst₂ (λ ms h. IsHistoryOf F L (sugared_members ms) h) (sym same) (sym kept) before.history;
      }

  -- A first member isn't zero.
  pub first-nonzero : (laws : IsField F) → IsMonomialOrder key → ArePolynomials F L → (j : ℕ) → j < length L → (m : Member K R) → get_or L j empty ≢ empty
      → sugared m ≡ monic_member F key (given (get_or L j empty)) → m.polynomial ≢ empty
  unfolding given monic_member
  first-nonzero laws O A j l m some is e = made_monic-nonzero laws O (A.each j empty l) some (sym (ap (λ g. g.polynomial) is) ∙ e)

  -- A first member is made so.
  pub first-IsMaking : (laws : IsField F) → IsMonomialOrder key → ArePolynomials F L → (j : ℕ) → j < length L → (G : List Sugared) (m : Member K R) → get_or L j empty ≢ empty
      → sugared m ≡ monic_member F key (given (get_or L j empty)) → m.sugar ≤ degree_limit
      → (making : Making K R) → making.constant ≡ term (F.inverse (lead_coefficient key (get_or L j empty))) origin → making.source ≡ Given j → IsMaking F L G (sugared m) making
  unfolding given monic_member made_monic
  first-IsMaking laws O A j l G m some is low making constant source =
      let f = get_or L j empty in
      record {
        made_of = f;
        source = subst (IsSourceOf F L G m.sugar f) (sym source) (l, refl);
        constant = subst (IsPolynomial F) (sym constant) (IsPolynomial-constant laws O (A.each j empty l) some);
        degree = subst (DegreeAtMost 0) (sym constant) (constant-degree (F.inverse (lead_coefficient key f)));
        is = ap (λ g. g.polynomial) is ∙ ap (λ c. product F c f) (sym constant);
        low = low;
      }
