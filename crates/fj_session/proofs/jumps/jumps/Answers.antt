use Rattle.std.proofs.Common.{◌≡◌, ◌≢◌, ◌∙◌, ℕ, List, [], Any, All, IsTrue, ◌↔◌, map, inl, inr, subst}
use Rattle.fj_theory.specs.Fraction.{Fraction, IsInUnitInterval, SameValue}
use Rattle.fj_theory.specs.Polynomial.{Polynomial, IsPolynomial}
use Rattle.fj_plain.specs.declared.order_name.OrderName.TheVariants.{Grevlex}
use Rattle.fj_ideal.specs.Lists.{NoProduct, RunFor}
use Rattle.fj_ideal.specs.Stop.{IsCauseOf, IsWritten}
use Rattle.fj_ideal.proofs.Stops.{only_handed_on}
use Rattle.fj_testideal.specs.Jump.{IsJump}
use Rattle.fj_testideal.specs.JumpList.{AreJumps, AreOpenGaps}
use Rattle.fj_jump.specs.Lists.{IsHighInSearch, IsSearchList}
use Rattle.fj_jump.specs.Rows.{gap_of, jump_of}
use Rattle.fj_jump.specs.Search.{IsMadeOfLastList}
use Rattle.fj_shell.specs.Named.{polynomial_at}
use Rattle.fj_session.specs.Jumps.{IsListOfJumps}
use Rattle.fj_session.proofs.JumpRows.{all_shown, certificates_hold, printed_row, rows_certified}
use Rattle.fj_session.proofs.jumps.jumps.Goals as goal

pub returns-in_err-found-clause-stop : goal.returns-in_err-found-clause-stop
returns-in_err-found-clause-stop g c =
    let F = g.K.Coeff.field in
    let e = c.args.e in
    let f = polynomial_at c.args.env.now c.args.f in
    let order = c.args.asked.now.order in
    let budget = c.args.asked.now.budget in
    let s = c.in_err-found.field-0.0 in
    let IsIt : Polynomial → ℕ → Type 0 = λ h b. IsCauseOf F (RunFor Grevlex (IsSearchList F h e)) (IsHighInSearch F h e) b s × IsWritten F s in
    let cause = subst (λ (h : Polynomial). IsIt h budget) (c.of-limits.ensures.f ∙ c.in_ok-polynomial.ensures.value) (subst (λ (b : ℕ). IsIt c.of-limits.result.f b) c.of-limits.ensures.pairs c.in_err-found.ensures.stop) in
    only_handed_on F budget (RunFor Grevlex (IsSearchList F f e)) (IsListOfJumps F order f e) (IsHighInSearch F f e) (IsHighInSearch F f e)
    (λ o M h. inl h) (λ M h. h) s c.from_residual-in_err-found.result c.from_residual-in_err-found.ensures.1 cause

pub returns-in_err-jumps-clause-stop : goal.returns-in_err-jumps-clause-stop
returns-in_err-jumps-clause-stop g c =
    let F = g.K.Coeff.field in
    let e = c.args.e in
    let f = polynomial_at c.args.env.now c.args.f in
    let order = c.args.asked.now.order in
    let found = c.in_ok-found.found in
    let same = c.of-limits.ensures.f ∙ c.in_ok-polynomial.ensures.value in
    let are = subst (λ (h : Polynomial). AreJumps F h e (map jump_of found.jumps)) same c.in_ok-found.ensures.jumps in
    let made = subst (λ (h : Polynomial). All (IsMadeOfLastList F h) found.jumps) same c.in_ok-found.ensures.ideals in
    only_handed_on F c.args.asked.now.budget (RunFor order (λ L. (order ≢ Grevlex) × Any (λ row. L ≡ row.ideal.members) found.jumps)) (IsListOfJumps F order f e) NoProduct (IsHighInSearch F f e)
    (λ o M h. inr (h.0, printed_row found.jumps are order made M h.1)) (λ M none. absurd none) c.in_err-jumps.field-0.0 c.from_residual-in_err-jumps.result c.from_residual-in_err-jumps.ensures.1 c.in_err-jumps.ensures.stop

pub returns-clause-answer : goal.returns-clause-answer
returns-clause-answer g c =
    let F = g.K.Coeff.field in
    let e = c.args.e in
    let order = c.args.asked.now.order in
    let found = c.in_ok-found.found in
    let told = c.in_ok-found.ensures in
    let shown = c.in_ok-jumps in
    let same = c.of-limits.ensures.f ∙ c.in_ok-polynomial.ensures.value in
    let A = subst (IsPolynomial F) c.in_ok-polynomial.ensures.value c.is_zero.ensures.polynomial in
    let are = subst (λ (h : Polynomial). AreJumps F h e (map jump_of found.jumps)) same told.jumps in
    let made = subst (λ (h : Polynomial). All (IsMadeOfLastList F h) found.jumps) same told.ideals in
    let open_gaps = subst (λ (h : Polynomial). AreOpenGaps F h e (map gap_of found.unsettled)) same told.unsettled in
    let all = subst (λ (h : Polynomial). IsTrue found.complete → (t : Fraction) → IsInUnitInterval t → IsJump F h t ↔ Any (λ row. SameValue t row.at) found.jumps) same told.all in
    all_shown found.jumps are g.met.K.Coeff.lawful A made order shown.jumps shown.certificates.items shown.ensures.numbers shown.ensures.rows found.unsettled found.complete open_gaps told.complete all

pub returns-clause-certificates : goal.returns-clause-certificates
returns-clause-certificates g c =
    let F = g.K.Coeff.field in
    let found = c.in_ok-found.found in
    let told = c.in_ok-found.ensures in
    let shown = c.in_ok-jumps in
    let same = c.of-limits.ensures.f ∙ c.in_ok-polynomial.ensures.value in
    let A = subst (IsPolynomial F) c.in_ok-polynomial.ensures.value c.is_zero.ensures.polynomial in
    let are = subst (λ (h : Polynomial). AreJumps F h c.args.e (map jump_of found.jumps)) same told.jumps in
    let made = subst (λ (h : Polynomial). All (IsMadeOfLastList F h) found.jumps) same told.ideals in
    rows_certified found.jumps are g.met.K.Coeff.lawful A made c.args.asked.now.order shown.jumps shown.certificates.items shown.ensures.numbers shown.ensures.rows

pub returns-clause-hold : goal.returns-clause-hold
returns-clause-hold g c =
    let F = g.K.Coeff.field in
    let found = c.in_ok-found.found in
    let told = c.in_ok-found.ensures in
    let shown = c.in_ok-jumps in
    let same = c.of-limits.ensures.f ∙ c.in_ok-polynomial.ensures.value in
    let A = subst (IsPolynomial F) c.in_ok-polynomial.ensures.value c.is_zero.ensures.polynomial in
    let are = subst (λ (h : Polynomial). AreJumps F h c.args.e (map jump_of found.jumps)) same told.jumps in
    let made = subst (λ (h : Polynomial). All (IsMadeOfLastList F h) found.jumps) same told.ideals in
    certificates_hold found.jumps are g.met.K.Coeff.lawful A made c.args.asked.now.order shown.jumps shown.certificates.items shown.ensures.numbers shown.ensures.rows
