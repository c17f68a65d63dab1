use Rattle.std.proofs.Common.{◌≡◌, ◌∙◌}
use Rattle.std.proofs.lemmas.Result.{IfOk-weaker}
use Rattle.fj_theory.specs.Plain.{polynomial}
use Rattle.fj_chain.specs.Admissible.{IsAdmissible}
use Rattle.fj_session.proofs.Declared.{admissible}
use Rattle.fj_session.proofs.limits.nonconstant.Goals as goal

pub polynomial_at-requires : goal.polynomial_at-requires
polynomial_at-requires g c = c.requires.named.poly

pub returns-clause-admissible : goal.returns-clause-admissible
returns-clause-admissible g c =
    IfOk-weaker c.from_plain.result (λ p. p ≡ polynomial c.polynomial_at.result.now) IsAdmissible
    (λ p is. admissible c.args.env.now c.len.ensures.names.few c.args.f c.requires.named p (is ∙ c.polynomial_at.ensures.value)) c.from_plain.ensures.value
