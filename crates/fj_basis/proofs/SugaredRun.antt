-- A run by the sugar strategy, a member at a time.
use Rattle.std.proofs.Common.{◌≡◌, ◌≢◌, ℕ, ◌<◌, true, Some, List, [], ◌∷◌, ◌++◌, length, get_or, refl, sym, ap, ap₂, ◌∙◌, subst, subst₂}
use Rattle.std.specs.FinMap.{empty}
use Rattle.std.proofs.lemmas.List.{map-append}
use Rattle.fj_coeff.specs.Field.{Field, IsField}
use Rattle.fj_theory.specs.Exponents.{least_common_multiple, origin}
use Rattle.fj_theory.specs.MonomialOrder.{IsMonomialOrder}
use Rattle.fj_theory.specs.Polynomial.{IsPolynomial, Polynomial, term}
use Rattle.fj_theory.specs.Ideal.{ArePolynomials}
use Rattle.fj_theory.specs.Lead.{lead_exponents}
use Rattle.fj_groebner.specs.Division.{DegreeAtMost, Division, IsLowDivision, Sugared}
use Rattle.fj_groebner.specs.Run.{given, lead_of, monic_member, pair_multiple, s_polynomial}
use Rattle.fj_groebner.proofs.Division.{IsDivision-remainder_polynomial}
use Rattle.fj_groebner.proofs.Sugar.{StepsTo-IsWithinSugar, given-DegreeAtMost}
use Rattle.fj_basis.specs.declared.members.Member.{Member}
use Rattle.fj_basis.specs.declared.history.History.{History}
use Rattle.fj_basis.specs.declared.history.Making.{Making}
use Rattle.fj_basis.specs.declared.history.Source.TheVariants.{Given}
use Rattle.fj_basis.specs.declared.pairs.Pair.{Pair}
use Rattle.fj_basis.specs.declared.sugared_run.SugaredRun.{SugaredRun}
use Rattle.fj_basis.specs.History.{AreMade, HasRecorded, IsHistoryOf}
use Rattle.fj_basis.specs.Members.{AreMonicMembers, sugared, sugared_members}
use Rattle.fj_basis.specs.Place.{IsWithinLimit}
use Rattle.fj_basis.specs.State.{IsFirstMember, IsNextMember, IsPairOf}
use Rattle.fj_basis.specs.SugaredRun.{IsSugaredRun}
use Rattle.fj_basis.proofs.Combined.{AreMade-none, HasRecordedOver, IsHistoryOf-over}
use Rattle.fj_basis.proofs.Leading.{lead_of-is, places}
use Rattle.fj_basis.proofs.MonicMembers.{monic-AreGood, monic-none, monic-push}
use Rattle.fj_basis.proofs.NextMember.{made_monic-nonzero}
use Rattle.fj_basis.proofs.Starting.{first-IsMaking}

module _ {K R : Type 0} {F : Field} (L : IsField F) {key : List ℕ → List ℕ} (O : IsMonomialOrder key) where
  -- No member.
  pub sugared-none : {N : List Polynomial} → ArePolynomials F N → (s : SugaredRun K R) → s.members.items ≡ [] → s.history.is_kept ≡ true → s.history.makings.items ≡ [] → IsSugaredRun F key N s
  sugared-none {N} A s members kept makings = record {
    given = A;
    members = subst (λ ms. AreMonicMembers F key (sugared_members ms)) (sym members) (monic-none L O);
    kept = kept;
    history = record { made = λ is. subst₂ (AreMade F N) (ap sugared_members (sym members)) (sym makings) AreMade-none };
  }

  -- The same members, made so.
  pub sugared-same : {N : List Polynomial} (s new : SugaredRun K R) → new.members.items ≡ s.members.items → new.history ≡ s.history → IsSugaredRun F key N s → IsSugaredRun F key N new
  sugared-same {N} s new members history old = record {
    given = old.given;
    members = subst (λ ms. AreMonicMembers F key (sugared_members ms)) (sym members) old.members;
    kept = ap (λ h. h.is_kept) history ∙ old.kept;
    history = subst₂ (λ ms h. IsHistoryOf F N (sugared_members ms) h) (sym members) (sym history) old.history;
  }

  -- One member more.
  sugared-more : {N : List Polynomial} (s new : SugaredRun K R) (h : Sugared) (m : Member K R) → IsPolynomial F h.polynomial → h.polynomial ≢ empty → DegreeAtMost h.sugar h.polynomial
      → sugared m ≡ monic_member F key h → HasRecordedOver F N (sugared_members s.members.items) (sugared m) s.history new.history → new.members.items ≡ s.members.items ++ (m ∷ [])
      → IsSugaredRun F key N s → IsSugaredRun F key N new
  sugared-more {N} s new h m P some bound is recorded grown old =
      let G = sugared_members s.members.items in
      let whole : sugared_members new.members.items ≡ G ++ (sugared m ∷ []) = ap sugared_members grown ∙ map-append sugared s.members.items (m ∷ []) in
      record {
        given = old.given;
        members = subst (AreMonicMembers F key) (sym whole) (monic-push L O G h (sugared m) old.members P some bound is);
        kept = recorded.kept ∙ old.kept;
        history = subst (λ H. IsHistoryOf F N H new.history) (sym whole) (IsHistoryOf-over G (sugared m) s.history new.history recorded old.history);
      }

  -- The member that a polynomial of the list gives.
  pub sugared-first : {N : List Polynomial} (s new : SugaredRun K R) (rank : K → ℕ) (j place : ℕ) → j < length N → (m : Member K R) (c : K) → IsFirstMember F key rank N j place (Some (m, c))
      → (pushed : History K R) → HasRecorded (term (rank c) origin) (Given j) s.history pushed → new.history ≡ pushed → new.members.items ≡ s.members.items ++ (m ∷ [])
      → IsSugaredRun F key N s → IsSugaredRun F key N new
  unfolding given
  sugared-first {N} s new rank j place l m c first pushed one same grown old =
      let G = sugared_members s.members.items in
      let P = old.given.each j empty l in
      let found = first.found in
      let making : Making K R = record { constant = term (rank c) origin; source = Given j } in
      sugared-more s new (given (get_or N j empty)) m P found.0 (given-DegreeAtMost L P) found.1
      (record {
        kept = ap (λ h. h.is_kept) same ∙ one.kept;
        making = λ was. (making, ap (λ h. h.makings.items) same ∙ one.recorded was, first-IsMaking N L O old.given j l G m found.0 found.1 found.2 making (ap (λ n. term n origin) found.4) refl);
      })
      grown old

  -- The member that a pair gives.
  pub sugared-found : {N : List Polynomial} (s new : SugaredRun K R) (i j : ℕ) → i < length s.members.items → j < length s.members.items → (m : Member K R)
      → IsNextMember F key s.members.items (i, j) s.history new.history (Some m) → new.members.items ≡ s.members.items ++ (m ∷ []) → IsSugaredRun F key N s → IsSugaredRun F key N new
  sugared-found {N} s new i j l n m next grown old =
      let items = s.members.items in
      let G = sugared_members items in
      let good = monic-AreGood L O old.members in
      let last = next.last in
      let found = next.found in
      let S = good.s_is i j in
      let inside =
      StepsTo-IsWithinSugar O L G good.polynomials good.nonzero good.within (s_polynomial F key G (i, j)) S (good.s_within i j (places items i l) (places items j n)) next.division.division.states last
      next.division.division.steps in
      sugared-more s new (record { polynomial = last.remainder; sugar = last.sugar }) m (IsDivision-remainder_polynomial O L G good.polynomials good.nonzero S next.division.division) found.0 inside.remainder found.1
      (record { kept = found.3.kept; making = λ was. let one = found.3.making was in (one.0, one.1, one.2 N) }) grown old

  -- It isn't zero.
  pub found-nonzero : (members : List (Member K R)) → AreMonicMembers F key (sugared_members members) → (i j : ℕ) (m : Member K R) (before new : History K R)
      → IsNextMember F key members (i, j) before new (Some m) → m.polynomial ≢ empty
  unfolding monic_member
  found-nonzero members monic i j m before new next e =
      let good = monic-AreGood L O monic in
      let P = IsDivision-remainder_polynomial O L (sugared_members members) good.polynomials good.nonzero (good.s_is i j) next.division.division in
      made_monic-nonzero L O P next.found.0 (sym (ap (λ g. g.polynomial) next.found.1) ∙ e)

-- A pair of two places, made of their leads.
pub pair-of : {K R : Type 0} (key : List ℕ → List ℕ) (members : List (Member K R)) (first second : ℕ) (p : Pair R) (m n : Member K R) (a b : List ℕ) → first < length members → second < length members
    → m ≡ get_or members first m → n ≡ get_or members second n → a ≡ lead_exponents key m.polynomial → b ≡ lead_exponents key n.polynomial → p.i ≡ first → p.j ≡ second
    → IsWithinLimit (least_common_multiple a b) p.lcm → IsPairOf key (sugared_members members) p
unfolding pair_multiple
pair-of key members first second p m n a b l k at there own other i j lcm = record {
  lcm = subst (λ x. IsWithinLimit x p.lcm)
      (ap₂ least_common_multiple (own ∙ sym (lead_of-is key members first m l at) ∙ ap (lead_of key (sugared_members members)) (sym i))
      (other ∙ sym (lead_of-is key members second n k there) ∙ ap (lead_of key (sugared_members members)) (sym j))) lcm;
}
