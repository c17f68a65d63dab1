-- Turns of a run, as the code makes them.
use Rattle.std.proofs.Common.{◌≡◌, ◌≢◌, ℕ, suc, ◌<◌, ◌==◌, ◌&&◌, not, true, false, cond, Some, None, Less, List, [], ◌∷◌, ◌++◌, length, length-append, All, Contains, refl, sym, ap, ap₂, ◌∙◌, subst, subst₂, arith, eq-eqb}
use Rattle.std.specs.FinMap.{empty, len, len-empty, empty_of_len}
use Rattle.std.specs.Cmp.Lexicographic.{slice_cmp}
use Rattle.std.specs.Ordering.{nat_cmp}
use Rattle.std.proofs.lemmas.List.{length-map, map-append}
use Rattle.std.proofs.lemmas.List.Elements.{All-head}
use Rattle.std.proofs.lemmas.Bool.{ne_eqb}
use Rattle.fj_algebra.proofs.Pairs.{contains_filter}
use Rattle.fj_coeff.specs.Field.{Field, IsField}
use Rattle.fj_theory.specs.MonomialOrder.{IsMonomialOrder}
use Rattle.fj_theory.specs.Polynomial.{Polynomial}
use Rattle.fj_theory.specs.Ideal.{ArePolynomials}
use Rattle.fj_theory.specs.Lead.{lead_exponents}
use Rattle.fj_groebner.specs.Division.{Division, IsHighDivision, IsLowDivision}
use Rattle.fj_groebner.specs.Run as definition
use Rattle.fj_groebner.specs.Run.{AreRemovals, IsHighTurn, IsNext, IsRound, IsRun, IsTurn, append_member, drop_pair, dropped, has_coprime_leads, monic_member, s_polynomial, treat_pair, treated}
use Rattle.fj_groebner.proofs.Division.{IsDivision-remainder_polynomial, same_length}
use Rattle.fj_theory.proofs.IdealBridge.{in_ring}
use Rattle.fj_groebner.proofs.Run.{IsRun-IsKept, nonzero}
use Rattle.fj_basis.specs.declared.members.Member.{Member}
use Rattle.fj_basis.specs.declared.pairs.Pair.{Pair}
use Rattle.fj_basis.specs.declared.run.Run.{Run}
use Rattle.fj_basis.specs.Finished.{AreMembersOfRun}
use Rattle.fj_basis.specs.Members.{AreInPlace, sugared, sugared_members}
use Rattle.fj_basis.specs.Pending.{HasPairsWith, PendingPairs}
use Rattle.fj_basis.specs.History.{IsHistoryOf}
use Rattle.fj_basis.specs.declared.history.History.{History}
use Rattle.fj_basis.specs.State.{ArePending, IsAfter, IsNextMember, IsPairOf, IsPendingOf, IsTurned}
use Rattle.fj_basis.proofs.Combined.{IsHistoryOf-push, in_place-push}
use Rattle.fj_basis.proofs.Leading.{nonzero_members, state-good}
use Rattle.fj_basis.proofs.NextMember.{made_monic-nonzero}
use Rattle.fj_basis.proofs.PendingPairs.{ArePending-drop, IsNext-first, IsPendingOf-append, order_of_pairs}
use Rattle.fj_theory.proofs.Steps.{StepsTo-more}

-- The members of a state.
pub members-of : {K R : Type 0} {F : Field} {key : List ℕ → List ℕ} {N : List Polynomial} {turns : ℕ} {s : Run K R} → IsAfter F key N turns s → AreMembersOfRun F key s.members.items
members-of {N = N} {turns = turns} after = record { list = N; given = after.given; turns = turns; state = after.state; run = after.run; are = after.members; in_place = after.in_place }

module _ {K R : Type 0} {F : Field} (L : IsField F) {key : List ℕ → List ℕ} (O : IsMonomialOrder key) where
  pub after-nonzero : {N : List Polynomial} {turns : ℕ} {s : Run K R} → IsAfter F key N turns s → All (λ m. m.polynomial ≢ empty) s.members.items
  after-nonzero {s = s} after = nonzero_members s.members.items (state-good L O (members-of after)).nonzero

  -- The next member isn't zero.
  pub next-nonzero : (members : List (Member K R)) → AreMembersOfRun F key members → (i j : ℕ) (m : Member K R) (before new : History K R) → IsNextMember F key members (i, j) before new (Some m) → m.polynomial ≢ empty
  unfolding monic_member
  next-nonzero members state i j m before new found e =
      let good = state-good L O state in
      let P = IsDivision-remainder_polynomial O L (sugared_members members) good.polynomials good.nonzero (good.s_is i j) found.division.division in
      made_monic-nonzero L O P found.found.0 (sym (ap (λ g. g.polynomial) found.found.1) ∙ e)

IsRun-more : {F : Field} {key : List ℕ → List ℕ} {N : List Polynomial} {turns : ℕ} {s t : definition.Run} → IsRun F key N turns s → IsRound F key s t → IsRun F key N (suc turns) t
IsRun-more {F} {key} {s = s} {t = t} r round = record {
  first = r.first;
  removals = r.removals;
  states = r.states ++ (t ∷ []);
  steps = StepsTo-more (IsRound F key) r.states r.first s t r.steps round;
  made = let made = r.made in let long = length-append r.states (t ∷ []) in omega (arith, made, long);
}

-- The removals behind a turn.
pub after-removals : {K R : Type 0} {F : Field} {key : List ℕ → List ℕ} {N : List Polynomial} {turns : ℕ} (old new : Run K R) → IsTurned F key N turns old → new.members.items ≡ old.members.items → new.history ≡ old.history
    → ((s : definition.Run) → IsPendingOf key s old.pending → (t : definition.Run) × AreRemovals key s t × (t.members ≡ s.members) × IsPendingOf key t new.pending)
    → IsAfter F key N (suc turns) new
after-removals {F = F} {key = key} {N = N} old new turned same kept removed =
    let end = removed turned.state turned.pending in
    record {
      given = turned.given;
      state = end.0;
      run = IsRun-more turned.run (record { turned = turned.state; turn = turned.turn; removals = end.1 });
      members = end.2 ∙ turned.members ∙ ap sugared_members (sym same);
      leads = end.3.leads;
      pending = end.3.pairs;
      in_place = subst AreInPlace (sym same) turned.in_place;
      history = subst₂ (λ ms h. IsHistoryOf F N (sugared_members ms) h) (sym same) (sym kept) turned.history;
    }

module _ {F : Field} (L : IsField F) {key : List ℕ → List ℕ} (O : IsMonomialOrder key) {N : List Polynomial} (A : ArePolynomials F N) {turns : ℕ} {s : definition.Run} (r : IsRun F key N turns s) where
  -- The pending pairs of a run are of places of members, the first before the second.
  pending-places : (i j : ℕ) → Contains s.pending (i, j) → (i < j) × (j < length s.members)
  pending-places i j c =
      let X = in_ring A in
      let kept = IsRun-IsKept O L X r in
      let both = kept.places i j c in
      let long = same_length O L s.members kept.over (nonzero O L X.list s kept) in
      (both.0, omega (arith, both.1, long))

module _ {K R : Type 0} {F : Field} (L : IsField F) {key : List ℕ → List ℕ} (O : IsMonomialOrder key) {N : List Polynomial} {turns : ℕ} {old : Run K R} (after : IsAfter F key N turns old) (p : Pair R)
    (rest : PendingPairs R) (removal : old.pending.pairs ≡ p ∷ rest.pairs) where
  abbrev items : List (Member K R)
  items = old.members.items

  pending : ArePending key after.state (p ∷ rest.pairs)
  pending = subst (ArePending key after.state) removal after.pending

  -- The places of the first pair.
  pub first-places : (p.i < p.j) × (p.j < length items)
  first-places =
      let own = (All-head (λ q. IsPairOf key after.state.members q × Contains after.state.pending (q.i, q.j)) p rest.pairs pending.sound).1 in
      let both = pending-places L O after.given after.run p.i p.j own in
      (both.0, omega (arith, both.1, ap length after.members, length-map items sugared))

  module _ (above : All (λ q. order_of_pairs key p q ≡ Less) rest.pairs) (leads : rest.leads ≡ old.pending.leads) where
    abbrev s : definition.Run
    s = after.state

    next : IsNext key s (p.i, p.j)
    next = IsNext-first key s p rest.pairs pending above

    -- What is pending without the pair.
    left : IsPendingOf key (drop_pair s (p.i, p.j)) rest
    unfolding drop_pair
    left = record { leads = leads ∙ after.leads; pairs = ArePending-drop key s p rest.pairs pending above }

    -- A turn in which the pair is dropped.
    pub after-dropped : (new : Run K R) → new.members.items ≡ items → new.pending ≡ rest → new.history ≡ old.history → has_coprime_leads key (sugared_members items) (p.i, p.j) ≡ true → IsTurned F key N turns new
    unfolding drop_pair
    after-dropped new same are kept coprime = record {
      given = after.given;
      before = s;
      run = after.run;
      state = drop_pair s (p.i, p.j);
      turn = dropped (p.i, p.j) next (ap (λ G. has_coprime_leads key G (p.i, p.j)) after.members ∙ coprime) refl;
      members = after.members ∙ ap sugared_members (sym same);
      pending = subst (IsPendingOf key (drop_pair s (p.i, p.j))) (sym are) left;
      in_place = subst AreInPlace (sym same) after.in_place;
      history = subst₂ (λ ms h. IsHistoryOf F N (sugared_members ms) h) (sym same) (sym kept) after.history;
    }

    module _ (common : has_coprime_leads key (sugared_members items) (p.i, p.j) ≡ false) where
      common_state : has_coprime_leads key s.members (p.i, p.j) ≡ false
      common_state = ap (λ G. has_coprime_leads key G (p.i, p.j)) after.members ∙ common

      -- A turn in which the division is high.
      pub next-high : IsHighDivision F key (sugared_members items) (s_polynomial F key (sugared_members items) (p.i, p.j)) → IsHighTurn F key s
      next-high high = record {
        pair = (p.i, p.j);
        next = next;
        treated = common_state;
        high = subst (λ G. IsHighDivision F key G (s_polynomial F key G (p.i, p.j))) (sym after.members) high;
      }

      low-state : {d : Division} → IsLowDivision F key (sugared_members items) (s_polynomial F key (sugared_members items) (p.i, p.j)) d → IsLowDivision F key s.members (s_polynomial F key s.members (p.i, p.j)) d
      low-state {d} D = subst (λ G. IsLowDivision F key G (s_polynomial F key G (p.i, p.j)) d) (sym after.members) D

      -- A turn in which nothing remains.
      pub after-empty : (new : Run K R) → new.members.items ≡ items → new.pending ≡ rest → IsNextMember F key items (p.i, p.j) old.history new.history None → IsTurned F key N turns new
      unfolding drop_pair treat_pair
      after-empty new same are found =
          let kept = found.found.1 in
          let none : (len found.last.remainder == 0) ≡ true = eq-eqb (len found.last.remainder) 0 (ap len found.found.0 ∙ len-empty (slice_cmp nat_cmp) ℕ) in
          record {
            given = after.given;
            before = s;
            run = after.run;
            state = drop_pair s (p.i, p.j);
            turn = treated (p.i, p.j) found.last next common_state (low-state found.division)
                (ap (λ t. cond t (drop_pair s (p.i, p.j)) (append_member (drop_pair s (p.i, p.j)) (monic_member F key (record { polynomial = found.last.remainder; sugar = found.last.sugar })))) (sym none));
            members = after.members ∙ ap sugared_members (sym same);
            pending = subst (IsPendingOf key (drop_pair s (p.i, p.j))) (sym are) left;
            in_place = subst AreInPlace (sym same) after.in_place;
            history = subst₂ (λ ms h. IsHistoryOf F N (sugared_members ms) h) (sym same) (sym kept) after.history;
          }

      -- A turn in which a member is appended.
      pub after-appended : (new : Run K R) (m : Member K R) → new.members.items ≡ items ++ (m ∷ []) → new.pending.leads ≡ rest.leads ++ (lead_exponents key m.polynomial ∷ [])
          → HasPairsWith new.pending.leads (length rest.leads) rest.pairs new.pending.pairs → IsNextMember F key items (p.i, p.j) old.history new.history (Some m) → IsTurned F key N turns new
      unfolding drop_pair treat_pair append_member monic_member
      after-appended new m whole grown pairs found =
          let d = found.last in
          let member = monic_member F key (record { polynomial = d.remainder; sugar = d.sugar }) in
          let some : (len d.remainder == 0) ≡ false = ne_eqb (len d.remainder) 0 (λ z. found.found.0 (empty_of_len d.remainder z)) in
          let are : sugared_members new.members.items ≡ s.members ++ (member ∷ []) =
          ap sugared_members whole ∙ map-append sugared items (m ∷ []) ∙ ap₂ (λ G g. G ++ (g ∷ [])) (sym after.members) found.found.1 in
          record {
            given = after.given;
            before = s;
            run = after.run;
            state = append_member (drop_pair s (p.i, p.j)) member;
            turn = treated (p.i, p.j) d next common_state (low-state found.division) (ap (λ t. cond t (drop_pair s (p.i, p.j)) (append_member (drop_pair s (p.i, p.j)) member)) (sym some));
            members = sym are;
            pending = IsPendingOf-append key (drop_pair s (p.i, p.j)) member rest new.pending
                (λ i j c. pending-places L O after.given after.run i j (contains_filter (λ other. not (other.0 == p.i && other.1 == p.j)) s.pending (i, j) c).0) left
                (grown ∙ ap (λ g. rest.leads ++ (lead_exponents key g.polynomial ∷ [])) found.found.1) pairs;
            in_place = subst AreInPlace (sym whole) (in_place-push items m after.in_place found.found.2 (let low = found.division.low in let sugar = ap (λ g. g.sugar) found.found.1 in omega (arith, low, sugar)));
            history = subst (λ G. IsHistoryOf F N G new.history) (sym (ap sugared_members whole ∙ map-append sugared items (m ∷ [])))
                (IsHistoryOf-push (sugared_members items) (sugared m) old.history new.history found.found.3 after.history);
          }
