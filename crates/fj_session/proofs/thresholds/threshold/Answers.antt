use Rattle.std.proofs.Common.{inl, inr, refl, subst, sym, List}
use Rattle.fj_theory.specs.Polynomial.{Polynomial}
use Rattle.fj_plain.specs.declared.order_name.OrderName.TheVariants.{Grevlex}
use Rattle.fj_ideal.specs.Lists.{RunFor}
use Rattle.fj_ideal.specs.Stop.{IsCauseOf, IsWritten}
use Rattle.fj_ideal.proofs.Stops.{only_handed_on}
use Rattle.fj_shell.specs.Named.{polynomial_at}
use Rattle.fj_thresh.specs.Answer.{IsThresholdAnswer}
use Rattle.fj_thresh.specs.Lists.{IsHighInThreshold, IsThresholdList}
use Rattle.fj_session.specs.Thresholds.{IsListOfThreshold, IsShownThreshold}
use Rattle.fj_session.proofs.Numbers.{shown_threshold}
use Rattle.fj_session.specs.Names.{standing_in}
use Rattle.fj_session.proofs.Standings.{there}
use Rattle.fj_session.proofs.OwnStops.{own_handed_on}
use Rattle.fj_session.proofs.thresholds.threshold.Goals as goal

pub returns-in_err-ideal-clause-stop : goal.returns-in_err-ideal-clause-stop
returns-in_err-ideal-clause-stop g c =
    let F = g.K.Coeff.field in
    let f = polynomial_at c.args.names.now.env.now c.args.f in
    let J = standing_in c.args.names.now c.args.j in
    own_handed_on F c.args.budget (IsListOfThreshold F c.args.e f J) (IsHighInThreshold F c.args.e f J.list) J (λ M d. inl d) c.in_err-ideal.field-0.0 c.from_residual.result c.from_residual.ensures.1 c.in_err-ideal.ensures.stop

pub returns-in_err-found-clause-stop : goal.returns-in_err-found-clause-stop
returns-in_err-found-clause-stop g c =
    let F = g.K.Coeff.field in
    let e = c.args.e in
    let f = polynomial_at c.args.names.now.env.now c.args.f in
    let J = standing_in c.args.names.now c.args.j in
    let s = c.in_err-found.field-0.0 in
    let cause = subst (λ (h : Polynomial). IsCauseOf F (RunFor Grevlex (IsThresholdList F e h J.list)) (IsHighInThreshold F e h J.list) c.args.budget s × IsWritten F s) c.in_ok-polynomial.ensures.value
    (subst (λ (K : List Polynomial). IsCauseOf F (RunFor Grevlex (IsThresholdList F e c.in_ok-polynomial.polynomial K)) (IsHighInThreshold F e c.in_ok-polynomial.polynomial K) c.args.budget s × IsWritten F s) (there c.in_ok-ideal.ideal c.ideal.ensures c.in_ok-ideal.ensures.ideal).given c.in_err-found.ensures.stop) in
    only_handed_on F c.args.budget (RunFor Grevlex (IsThresholdList F e f J.list)) (RunFor Grevlex (IsListOfThreshold F e f J)) (IsHighInThreshold F e f J.list) (IsHighInThreshold F e f J.list)
    (λ o N h. (h.0, inr h.1)) (λ N h. h) s c.from_residual-in_err-found.result c.from_residual-in_err-found.ensures.1 cause

pub returns-clause-answer : goal.returns-clause-answer
returns-clause-answer g c =
    let F = g.K.Coeff.field in
    let e = c.args.e in
    let f = polynomial_at c.args.names.now.env.now c.args.f in
    let J = standing_in c.args.names.now c.args.j in
    let found = c.in_ok-found.found in
    let told = subst (λ (h : Polynomial). IsThresholdAnswer F e h J.list found) c.in_ok-polynomial.ensures.value
    (subst (λ (K : List Polynomial). IsThresholdAnswer F e c.in_ok-polynomial.polynomial K found) (there c.in_ok-ideal.ideal c.ideal.ensures c.in_ok-ideal.ensures.ideal).given c.in_ok-found.ensures.value) in
    subst (IsShownThreshold (IsThresholdAnswer F e f J.list)) (sym c.shown_threshold.ensures) (shown_threshold (IsThresholdAnswer F e f J.list) found told)
