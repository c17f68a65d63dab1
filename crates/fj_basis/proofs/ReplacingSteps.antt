-- The second act of finishing, as the code goes through it: members are replaced in turn.
use Rattle.std.proofs.Common.{◌≡◌, ℕ, ◌+◌, true, length-append, append_assoc, ◌<◌, ◌≤◌, List, [], ◌∷◌, ◌++◌, length, All, Contains, refl, sym, ap, ◌∙◌, subst, arith}
use Rattle.std.proofs.lemmas.List.{append-nil, map-append}
use Rattle.std.proofs.lemmas.List.Elements.{All-head, All-tail, All-contains}
use Rattle.fj_algebra.proofs.Lists.{All-map_back}
use Rattle.fj_coeff.specs.Field.{Field, IsField}
use Rattle.fj_theory.specs.MonomialOrder.{IsMonomialOrder}
use Rattle.fj_theory.specs.Polynomial.{Polynomial, IsPolynomial}
use Rattle.fj_groebner.specs.Division.{DegreeAtMost, IsHighDivision, Sugared, degree_limit, member_at}
use Rattle.fj_groebner.specs.Run.{IsReplacement, IsReplacing, Replacing, kept_members, sort_by_lead}
use Rattle.fj_theory.proofs.IdealBridge.{ArePolynomials-head}
use Rattle.fj_theory.proofs.Lead.{nonzero-lead_coefficient}
use Rattle.fj_groebner.proofs.Replacing.{IsReplacing-AreWithinSugars, IsReplacing-monic, IsReplacing-polynomials, IsReplacing-rest_polynomials}
use Rattle.fj_basis.specs.declared.members.Member.{Member}
use Rattle.fj_basis.specs.Finished.{AreDivisors, AreMembersOfRun, IsHighReplacing, IsReplacementOf}
use Rattle.fj_basis.specs.Members.{sugared, sugared_members}
use Rattle.fj_basis.specs.declared.history.History.{History}
use Rattle.fj_basis.specs.History.{HasRecordedMember, IsHistoryOf}
use Rattle.fj_basis.proofs.Combined.{IsHistoryOf-push}
use Rattle.fj_basis.proofs.Leading.{state-good}
use Rattle.fj_basis.proofs.Subtracted.{member_at-sugared}
use Rattle.fj_theory.proofs.Steps.{StepsTo-more}

-- The members that are replaced so far, and the rest of those that are kept.
pub record IsReplaced {K O : Type 0} (F : Field) (key : List ℕ → List ℕ) (members before rest : List (Member K O)) : Type 0 where
  pub replacing : IsReplacing F key (sugared_members members) (record { replaced = sugared_members before; rest = sugared_members rest })
  pub among : All (Contains members) rest

-- What the next replacement asks.
pub record IsReady {K O : Type 0} (F : Field) (members before : List (Member K O)) (m : Member K O) : Type 0 where
  pub divisors : AreDivisors F (sugared_members before)
  pub polynomial : IsPolynomial F m.polynomial
  pub bound : DegreeAtMost m.sugar m.polynomial
  pub low : m.sugar ≤ degree_limit
  pub place : m.place < length members
  pub at_place : member_at (sugared_members members) m.place ≡ sugared m

module _ {K O : Type 0} (F : Field) (key : List ℕ → List ℕ) where
  -- None is replaced at first.
  pub IsReplaced-start : (members sorted : List (Member K O)) → sugared_members sorted ≡ sort_by_lead key (kept_members key (sugared_members members))
      → All (Contains members) sorted → IsReplaced F key members [] sorted
  IsReplaced-start members sorted is among =
      let state : List Sugared → Replacing = λ rest. record { replaced = []; rest = rest } in
      record {
        replacing = record { states = []; steps = ap state (sym is) };
        among = among;
      }

  replacement-is : (before : List (Member K O)) (m next : Member K O) (rest : List Sugared) → IsReplacementOf F key before m next
      → IsReplacement F key (record { replaced = sugared_members before; rest = sugared m ∷ rest }) (record { replaced = sugared_members (before ++ (next ∷ [])); rest = rest })
  replacement-is before m next rest h =
      let same : sugared next ≡ record { polynomial = h.last.remainder; sugar = h.last.sugar } = (λ i. record { polynomial = h.polynomial i; sugar = h.sugar i }) in
      let state : List Sugared → Replacing = λ replaced. record { replaced = replaced; rest = rest } in
      record {
        member = sugared m;
        rest = rest;
        first = refl;
        last = h.last;
        division = h.division;
        next = ap state (map-append sugared before (next ∷ []) ∙ ap (λ s. sugared_members before ++ (s ∷ [])) same);
      }

  -- Where the division of the next member is high, the second act is.
  pub IsHighReplacing-here : {members before rest : List (Member K O)} {m : Member K O} → IsReplaced F key members before (m ∷ rest)
      → IsHighDivision F key (sugared_members before) (sugared m) → IsHighReplacing F key (sugared_members members)
  IsHighReplacing-here {before} {rest} {m} h high = record {
    reached = record { replaced = sugared_members before; rest = sugared m ∷ sugared_members rest };
    member = sugared m;
    rest = sugared_members rest;
    replacing = h.replacing;
    next = refl;
    high = high;
  }

module _ {K O : Type 0} {F : Field} (L : IsField F) {key : List ℕ → List ℕ} (R : IsMonomialOrder key) where
  module _ {members : List (Member K O)} (run : AreMembersOfRun F key members) where
    -- In each state the replaced members divide.
    pub IsReplacing-AreDivisors : {r : Replacing} → IsReplacing F key (sugared_members members) r → AreDivisors F r.replaced
    IsReplacing-AreDivisors {r} h =
        let here : IsReplacing F key run.state.members r = subst (λ G. IsReplacing F key G r) (sym run.are) h in
        let P = IsReplacing-polynomials R L run.given run.run here in
        let monic = IsReplacing-monic R L run.given run.run here in
        record {
          polynomials = P;
          nonzero = λ k d l e. nonzero-lead_coefficient R (P.each k d l) (let one = monic k d l in omega (arith, one)) e;
          within = IsReplacing-AreWithinSugars R L run.given run.run here;
        }

    module _ {before rest : List (Member K O)} {m : Member K O} (h : IsReplaced F key members before (m ∷ rest)) where
      next-polynomial : IsPolynomial F m.polynomial
      next-polynomial =
          ArePolynomials-head (IsReplacing-rest_polynomials R L run.given run.run
          (subst (λ G. IsReplacing F key G (record { replaced = sugared_members before; rest = sugared m ∷ sugared_members rest })) (sym run.are) h.replacing))

      own : (P : Member K O → Type 0) → All P members → P m
      own P all = All-contains P members m all (All-head (Contains members) m rest h.among)

      at_place : All (λ x. (x.place < length members) × (member_at (sugared_members members) x.place ≡ sugared x)) members
      at_place k d l =
          let is = run.in_place.places k d l in
          (omega (arith, is, l), ap (member_at (sugared_members members)) is ∙ member_at-sugared members k d l)

      pub IsReplaced-IsReady : IsReady F members before m
      IsReplaced-IsReady =
          let here = own (λ x. (x.place < length members) × (member_at (sugared_members members) x.place ≡ sugared x)) at_place in
          let good = state-good L R run in
          record {
            divisors = IsReplacing-AreDivisors h.replacing;
            polynomial = next-polynomial;
            bound = own (λ x. DegreeAtMost x.sugar x.polynomial) (All-map_back (λ g. DegreeAtMost g.sugar g.polynomial) sugared members good.within);
            low = own (λ x. x.sugar ≤ degree_limit) run.in_place.low;
            place = here.0;
            at_place = here.1;
          }

      -- One member more.
      pub IsReplaced-more : {next : Member K O} → IsReplacementOf F key before m next → IsReplaced F key members (before ++ (next ∷ [])) rest
      IsReplaced-more {next} one = record {
        replacing = record {
          states = h.replacing.states ++ (record { replaced = sugared_members (before ++ (next ∷ [])); rest = sugared_members rest } ∷ []);
          steps = StepsTo-more (IsReplacement F key) h.replacing.states _ _ _ h.replacing.steps (replacement-is F key before m next (sugared_members rest) one);
        };
        among = All-tail (Contains members) m rest h.among;
      }

-- The members that are replaced so far are recorded after those of the run.
pub record AreRecorded {K O : Type 0} (F : Field) (members before : List (Member K O)) (from : ℕ) (start now : History K O) : Type 0 where
  pub from_is : from ≡ length members
  pub kept : now.is_kept ≡ start.is_kept
  pub long : start.is_kept ≡ true → length now.makings.items ≡ from + length before
  pub history : (N : List Polynomial) → IsHistoryOf F N (sugared_members members) start → IsHistoryOf F N (sugared_members members ++ sugared_members before) now

module _ {K O : Type 0} {F : Field} (members : List (Member K O)) (start : History K O) where
  pub AreRecorded-start : (from : ℕ) → from ≡ length members → (start.is_kept ≡ true → length start.makings.items ≡ length members) → AreRecorded F members [] from start start
  AreRecorded-start from e long = record {
    from_is = e;
    kept = refl;
    long = λ was. long was ∙ omega (arith, e);
    history = λ N own. subst (λ G. IsHistoryOf F N G start) (sym (append-nil (sugared_members members))) own;
  }

  pub AreRecorded-more : (before : List (Member K O)) (from : ℕ) (now next : History K O) (m : Member K O) (new : List (Member K O)) → HasRecordedMember F (sugared_members members ++ sugared_members before) (sugared m) now next
      → new ≡ before ++ (m ∷ []) → AreRecorded F members before from start now → AreRecorded F members new from start next
  AreRecorded-more before from now next m new one e h = subst (λ b. AreRecorded F members b from start next) (sym e) (record {
    from_is = h.from_is;
    kept = one.kept ∙ h.kept;
    long = λ was.
        let making = one.making (h.kept ∙ was) in
        let long = h.long was in
        ap length making.1 ∙ omega (arith, long, length-append now.makings.items (making.0 ∷ []), length-append before (m ∷ []));
    history = λ N own.
        subst (λ G. IsHistoryOf F N G next) (append_assoc (sugared_members members) (sugared_members before) (sugared m ∷ []) ∙ ap (λ G. sugared_members members ++ G) (sym (map-append sugared before (m ∷ []))))
        (IsHistoryOf-push (sugared_members members ++ sugared_members before) (sugared m) now next one (h.history N own));
  })
