use Rattle.std.proofs.Common.{◌≡◌, ◌+◌, ◌++◌, ◌∷◌, [], List, ℕ, length, sym, ap, ◌∙◌, subst, subst₂, arith}
use Rattle.std.proofs.lemmas.List.{length-map}
use Rattle.std.proofs.lemmas.Result.{err_from_is_err_and}
use Rattle.fj_coeff.specs.Field.{Field, IsField}
use Rattle.fj_theory.specs.MonomialOrder.{IsMonomialOrder}
use Rattle.fj_groebner.specs.Division.{IsHighDivision}
use Rattle.fj_basis.specs.declared.members.Member.{Member}
use Rattle.fj_basis.specs.Finished.{AreMembersOfRun, IsHighReplacing, IsReplacementOf}
use Rattle.fj_basis.specs.History.{HasRecordedMember}
use Rattle.fj_basis.specs.Members.{sugared, sugared_members}
use Rattle.fj_basis.proofs.HighOnly.{only_only}
use Rattle.fj_basis.proofs.Leading.{nonzero_members, state-good}
use Rattle.fj_basis.proofs.ReplacingSteps.{AreRecorded, AreRecorded-more, AreRecorded-start, IsReady, IsReplaced, IsReplaced-IsReady, IsReplaced-more, IsReplaced-start, IsHighReplacing-here}
use Rattle.fj_basis.proofs.finishing.replaced.Goals as goal

-- The next member, as the code has it.
module _ {K O : Type 0} {F : Field} (L : IsField F) {key : List ℕ → List ℕ} (R : IsMonomialOrder key) {members : List (Member K O)} (run : AreMembersOfRun F key members)
    {before items : List (Member K O)} (h : IsReplaced F key members before items) {rest slice : List (Member K O)} {m : Member K O} (is : items ≡ m ∷ rest) (same : slice ≡ before) where
  here : IsReplaced F key members before (m ∷ rest)
  here = subst (IsReplaced F key members before) is h

  ready : IsReady F members slice m
  ready = subst (λ b. IsReady F members b m) (sym same) (IsReplaced-IsReady L R run here)

  more : {next : Member K O} {new : List (Member K O)} → IsReplacementOf F key slice m next → new ≡ before ++ (next ∷ []) → IsReplaced F key members new rest
  more {next} one e =
      subst (λ b. IsReplaced F key members b rest) (sym e) (IsReplaced-more L R run here (subst (λ b. IsReplacementOf F key b m next) same one))

  high : IsHighDivision F key (sugared_members slice) (sugared m) → IsHighReplacing F key (sugared_members members)
  high u = IsHighReplacing-here F key here (subst (λ b. IsHighDivision F key (sugared_members b) (sugared m)) same u)

pub sorted_by_lead-requires : goal.sorted_by_lead-requires
sorted_by_lead-requires g c = nonzero_members c.args.members.items (state-good g.met.K.Coeff.lawful g.met.O.Order.monomial_order c.requires.run).nonzero

pub loop-member-init : goal.loop-member-init
loop-member-init g c =
    let F = g.K.Coeff.field in
    let key = g.O.Order.key in
    let members = c.args.members.items in
    let ok = c.args.members.ok.0 in
    record {
      replaced = subst₂ (IsReplaced F key members) (sym c.new-replaced.ensures.items) (sym c.into_iter-member-iterator.ensures.into_iter_gives.0)
          (IsReplaced-start F key members c.in_ok-member-items.member-items.items c.in_ok-member-items.ensures.value c.in_ok-member-items.ensures.among);
      recorded = subst (λ before. AreRecorded F members before c.len-from.result c.args.history.now c.args.history.now) (sym c.new-replaced.ensures.items)
          (AreRecorded-start members c.args.history.now c.len-from.result (c.len-from.ensures ∙ ok) c.requires.recorded);
    }

pub replacement-requires-clause-recorded : goal.replacement-requires-clause-recorded
replacement-requires-clause-recorded g c = λ was.
    let recorded = c.loop-member.invariant.recorded in
    recorded.long (sym recorded.kept ∙ was) ∙ ap (λ before. c.len-from.result + length before) (sym c.deref.ensures.value)

pub replacement-requires-clause-polynomials : goal.replacement-requires-clause-polynomials
replacement-requires-clause-polynomials g c =
    (ready g.met.K.Coeff.lawful g.met.O.Order.monomial_order c.requires.run c.loop-member.invariant.replaced c.in-Some.ensures.steps.0 c.deref.ensures.value).divisors.polynomials

pub replacement-requires-clause-nonzero : goal.replacement-requires-clause-nonzero
replacement-requires-clause-nonzero g c =
    (ready g.met.K.Coeff.lawful g.met.O.Order.monomial_order c.requires.run c.loop-member.invariant.replaced c.in-Some.ensures.steps.0 c.deref.ensures.value).divisors.nonzero

pub replacement-requires-clause-within : goal.replacement-requires-clause-within
replacement-requires-clause-within g c =
    (ready g.met.K.Coeff.lawful g.met.O.Order.monomial_order c.requires.run c.loop-member.invariant.replaced c.in-Some.ensures.steps.0 c.deref.ensures.value).divisors.within

pub replacement-requires-clause-polynomial : goal.replacement-requires-clause-polynomial
replacement-requires-clause-polynomial g c =
    (ready g.met.K.Coeff.lawful g.met.O.Order.monomial_order c.requires.run c.loop-member.invariant.replaced c.in-Some.ensures.steps.0 c.deref.ensures.value).polynomial

pub replacement-requires-clause-bound : goal.replacement-requires-clause-bound
replacement-requires-clause-bound g c =
    (ready g.met.K.Coeff.lawful g.met.O.Order.monomial_order c.requires.run c.loop-member.invariant.replaced c.in-Some.ensures.steps.0 c.deref.ensures.value).bound

pub replacement-requires-clause-low : goal.replacement-requires-clause-low
replacement-requires-clause-low g c =
    (ready g.met.K.Coeff.lawful g.met.O.Order.monomial_order c.requires.run c.loop-member.invariant.replaced c.in-Some.ensures.steps.0 c.deref.ensures.value).low

pub returns-in_err-next-clause-high : goal.returns-in_err-next-clause-high
returns-in_err-next-clause-high g c =
    let p = err_from_is_err_and c.from_residual-in_err-next.result c.from_residual-in_err-next.ensures.1 in
    only_only (Unit {0}) _ _ _ _ p.0 c.in_err-next.field-0.0 p.1 p.2
    (λ u. high g.met.K.Coeff.lawful g.met.O.Order.monomial_order c.requires.run c.loop-member.invariant.replaced c.in-Some.ensures.steps.0 c.deref.ensures.value u)
    c.in_err-next.ensures.high

pub loop-member-preserved : goal.loop-member-preserved
loop-member-preserved g c =
    let F = g.K.Coeff.field in
    let L = g.met.K.Coeff.lawful in
    let R = g.met.O.Order.monomial_order in
    let members = c.args.members.items in
    let before = c.loop-member.replaced.items in
    let recorded = c.loop-member.invariant.recorded in
    let own = ready L R c.requires.run c.loop-member.invariant.replaced c.in-Some.ensures.steps.0 c.deref.ensures.value in
    let place = own.place in
    let from = recorded.from_is in
    record {
      replaced = more L R c.requires.run c.loop-member.invariant.replaced c.in-Some.ensures.steps.0 c.deref.ensures.value c.in_ok-next.ensures.value c.in_ok-append_member.ensures;
      recorded = AreRecorded-more members c.args.history.now before c.len-from.result c.loop-member.history c.replacement.new.history c.in_ok-next.next _
          (subst (λ b. HasRecordedMember F (sugared_members members ++ sugared_members b) (sugared c.in_ok-next.next) c.loop-member.history c.replacement.new.history) c.deref.ensures.value
          (c.in_ok-next.ensures.recorded (sugared_members members) (length-map members sugared ∙ sym from) (state-good L R c.requires.run).polynomials (omega (arith, place, from)) own.at_place))
          c.in_ok-append_member.ensures recorded;
    }
