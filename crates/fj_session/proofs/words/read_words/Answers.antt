use Rattle.std.proofs.Common.{sym, ◌∙◌}
use Rattle.std.proofs.lemmas.Bool.{true≢false}
use Rattle.fj_session.proofs.Forms.{no_form}
use Rattle.fj_session.proofs.words.read_words.Goals as goal

pub returns-clause-none : goal.returns-clause-none
returns-clause-none c = λ none. no_form _
    (λ run. true≢false (sym (c.is_run.ensures.1 run) ∙ c.if-is_run.false))
    (λ audit. true≢false (sym (c.is_audit.ensures.1 audit) ∙ c.if-is_audit.false))
    (c.generated.ensures.none none)
