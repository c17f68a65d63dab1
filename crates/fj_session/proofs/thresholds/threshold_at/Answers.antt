use Rattle.std.proofs.Common.{ℕ, ◌∙◌, List, length, subst, sym}
use Rattle.fj_theory.specs.PointIdeal.{UsesFirst}
use Rattle.fj_theory.specs.Polynomial.{Polynomial}
use Rattle.fj_plain.specs.declared.order_name.OrderName.TheVariants.{Grevlex}
use Rattle.fj_ideal.specs.Lists.{RunFor}
use Rattle.fj_ideal.specs.Stop.{IsCauseOf, IsWritten}
use Rattle.fj_ideal.proofs.Stops.{only_handed_on}
use Rattle.fj_shell.specs.Named.{point_at, polynomial_at}
use Rattle.fj_thresh.specs.Answer.{IsPointAnswer}
use Rattle.fj_thresh.specs.Lists.{IsHighInPointThreshold, IsPointThresholdList}
use Rattle.fj_session.specs.Thresholds.{IsShownThreshold}
use Rattle.fj_session.proofs.Declared.{polynomial_named}
use Rattle.fj_session.proofs.Numbers.{shown_threshold}
use Rattle.fj_session.proofs.thresholds.threshold_at.Goals as goal

pub threshold_at-requires-clause-uses : goal.threshold_at-requires-clause-uses
threshold_at-requires-clause-uses g c =
    let named = c.requires.named in
    let variables = subst (UsesFirst (length c.args.env.now.vars)) (sym (c.in_ok-polynomial.ensures.value ∙ polynomial_named c.args.env.now c.args.f named.poly)) named.poly.variables in
    subst (λ (n : ℕ). UsesFirst n c.in_ok-polynomial.polynomial) (sym c.len-vars.ensures.count) variables

pub returns-in_err-found-clause-stop : goal.returns-in_err-found-clause-stop
returns-in_err-found-clause-stop g c =
    let F = g.K.Coeff.field in
    let e = c.args.e in
    let f = polynomial_at c.args.env.now c.args.f in
    let n = length c.args.env.now.vars in
    let P = point_at c.args.env.now c.args.at in
    let s = c.in_err-found.field-0.0 in
    let IsIt : Polynomial → ℕ → List ℕ → Type 0 = λ h m Q. IsCauseOf F (RunFor Grevlex (IsPointThresholdList F e h m Q)) (IsHighInPointThreshold F e h m Q) c.args.budget s × IsWritten F s in
    let cause = subst (λ (h : Polynomial). IsIt h n P) c.in_ok-polynomial.ensures.value
    (subst (λ (m : ℕ). IsIt c.in_ok-polynomial.polynomial m P) c.len-vars.ensures.count
    (subst (λ (Q : List ℕ). IsIt c.in_ok-polynomial.polynomial c.len-vars.result Q) c.in_ok-zero.ensures c.in_err-found.ensures.stop)) in
    only_handed_on F c.args.budget (RunFor Grevlex (IsPointThresholdList F e f n P)) (RunFor Grevlex (IsPointThresholdList F e f n P)) (IsHighInPointThreshold F e f n P) (IsHighInPointThreshold F e f n P)
    (λ o N h. h) (λ N h. h) s c.from_residual-in_err-found.result c.from_residual-in_err-found.ensures.1 cause

pub returns-clause-answer : goal.returns-clause-answer
returns-clause-answer g c =
    let F = g.K.Coeff.field in
    let e = c.args.e in
    let f = polynomial_at c.args.env.now c.args.f in
    let n = length c.args.env.now.vars in
    let P = point_at c.args.env.now c.args.at in
    let found = c.in_ok-found.found in
    let told = subst (λ (h : Polynomial). IsPointAnswer F e h n P found) c.in_ok-polynomial.ensures.value
    (subst (λ (m : ℕ). IsPointAnswer F e c.in_ok-polynomial.polynomial m P found) c.len-vars.ensures.count
    (subst (λ (Q : List ℕ). IsPointAnswer F e c.in_ok-polynomial.polynomial c.len-vars.result Q found) c.in_ok-zero.ensures c.in_ok-found.ensures.value)) in
    subst (IsShownThreshold (IsPointAnswer F e f n P)) (sym c.shown_threshold.ensures) (shown_threshold (IsPointAnswer F e f n P) found told)
