use Rattle.std.proofs.Common.{length, map, Any, sym, ap, ◌∙◌, subst, subst₂}
use Rattle.std.proofs.lemmas.List.{length-map}
use Rattle.std.proofs.lemmas.Result.{err_from_is_err_and}
use Rattle.fj_groebner.specs.Division.{IsHighDivision}
use Rattle.fj_groebner.specs.Run.{given}
use Rattle.fj_basis.specs.Finished.{AreDivisors, AreQuotients}
use Rattle.fj_basis.specs.History.{IsHistoryOf}
use Rattle.fj_basis.specs.Members.{sugared, sugared_members}
use Rattle.fj_basis.proofs.MadeRows.{IsEnded-members, ended-AreDivisors, ended-IsFinished, ended-IsHighDividing, ended-IsHighReplacing, ended-up}
use Rattle.fj_basis.proofs.Stops.{product_handed}
use Rattle.fj_basis.proofs.buchberger.finished.Goals as goal

pub replaced-requires-clause-run : goal.replaced-requires-clause-run
replaced-requires-clause-run g c = IsEnded-members c.in_ok-run_to_end.ensures.value (ap (λ v. v.items) c.into_parts-found.ensures.members)

pub replaced-requires-clause-recorded : goal.replaced-requires-clause-recorded
replaced-requires-clause-recorded g c = λ was.
    let ended = c.in_ok-run_to_end.ensures.value in
    let history = c.into_parts-found.ensures.history in
    ap (λ h. length h.makings.items) history ∙ (ended.after.history.made (sym (ap (λ h. h.is_kept) history) ∙ was)).long ∙ length-map _ sugared
    ∙ sym (ap (λ v. length v.items) c.into_parts-found.ensures.members)

pub returns-in_err-members-clause-fault : goal.returns-in_err-members-clause-fault
returns-in_err-members-clause-fault g c =
    let p = err_from_is_err_and c.from_residual-in_err-members.result c.from_residual-in_err-members.ensures.1 in
    product_handed (Unit {0}) _ _ _ _ _ p.0 c.in_err-members.field-0.0 p.1 p.2
    (λ u. ended-IsHighReplacing c.in_ok-run_to_end.ensures.value (ap (λ v. v.items) c.into_parts-found.ensures.members) u) c.in_err-members.ensures.high

pub given_rows-requires-clause-polynomials : goal.given_rows-requires-clause-polynomials
given_rows-requires-clause-polynomials g c =
    (subst (λ ms. AreDivisors g.K.Coeff.field (sugared_members ms)) (sym c.deref.ensures.value)
    (ended-AreDivisors g.met.K.Coeff.lawful g.met.O.Order.monomial_order c.in_ok-run_to_end.ensures.value (ap (λ v. v.items) c.into_parts-found.ensures.members) c.in_ok-members.members.items
    c.in_ok-members.ensures.value)).polynomials

pub given_rows-requires-clause-nonzero : goal.given_rows-requires-clause-nonzero
given_rows-requires-clause-nonzero g c =
    (subst (λ ms. AreDivisors g.K.Coeff.field (sugared_members ms)) (sym c.deref.ensures.value)
    (ended-AreDivisors g.met.K.Coeff.lawful g.met.O.Order.monomial_order c.in_ok-run_to_end.ensures.value (ap (λ v. v.items) c.into_parts-found.ensures.members) c.in_ok-members.members.items
    c.in_ok-members.ensures.value)).nonzero

pub given_rows-requires-clause-within : goal.given_rows-requires-clause-within
given_rows-requires-clause-within g c =
    (subst (λ ms. AreDivisors g.K.Coeff.field (sugared_members ms)) (sym c.deref.ensures.value)
    (ended-AreDivisors g.met.K.Coeff.lawful g.met.O.Order.monomial_order c.in_ok-run_to_end.ensures.value (ap (λ v. v.items) c.into_parts-found.ensures.members) c.in_ok-members.members.items
    c.in_ok-members.ensures.value)).within

pub returns-in_err-up-clause-fault : goal.returns-in_err-up-clause-fault
returns-in_err-up-clause-fault g c =
    let p = err_from_is_err_and c.from_residual-in_err-up.result c.from_residual-in_err-up.ensures.1 in
    product_handed (Unit {0}) _ _ _ _ _ p.0 c.in_err-up.field-0.0 p.1 p.2
    (λ any. ended-IsHighDividing g.met.K.Coeff.lawful g.met.O.Order.monomial_order c.in_ok-run_to_end.ensures.value (ap (λ v. v.items) c.into_parts-found.ensures.members) c.in_ok-members.members.items
    c.in_ok-members.ensures.value
    (subst (λ ms. Any (λ f. IsHighDivision g.K.Coeff.field g.O.Order.key (sugared_members ms) (given f)) c.args.list.now) c.deref.ensures.value any)) c.in_err-up.ensures.high

pub returns-clause-value : goal.returns-clause-value
returns-clause-value g c =
    let F = g.K.Coeff.field in
    let L = g.met.K.Coeff.lawful in
    let R = g.met.O.Order.monomial_order in
    let ended = c.in_ok-run_to_end.ensures.value in
    let found = c.into_parts-found.result.0 in
    let are = ap (λ v. v.items) c.into_parts-found.ensures.members in
    let basis = c.in_ok-members.members.items in
    let rows = map (λ row. row.items) c.in_ok-up.up.items in
    let quotients = subst (λ ms. AreQuotients F g.O.Order.key (sugared_members ms) c.args.list.now rows) c.deref.ensures.value c.in_ok-up.ensures.rows in
    record {
      given = ended.after.given;
      finished = ended-IsFinished L R ended are basis c.in_ok-members.ensures.value rows quotients;
      up = ended-up L R ended are basis c.in_ok-members.ensures.value rows quotients;
      before = sugared_members found.items;
      from = length-map found.items sugared ∙ sym (c.len-from.ensures ∙ found.ok.0);
      history = c.in_ok-members.ensures.history c.args.list.now
          (subst₂ (λ ms h. IsHistoryOf F c.args.list.now (sugared_members ms) h) (sym are) (sym c.into_parts-found.ensures.history) ended.after.history);
    }
