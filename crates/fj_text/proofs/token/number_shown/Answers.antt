use Rattle.std.proofs.Common.{◌+◌, ◌-◌, ◌*◌, ◌^◌, get_or, min, ap, ◌∙◌}
use Rattle.fj_text.proofs.Numbers.{shown_more}
use Rattle.fj_text.proofs.token.number_shown.Goals as goal

pub loop-digit-preserved : goal.loop-digit-preserved
loop-digit-preserved c =
    c.min-number.ensures
    ∙ ap (λ d. min (c.loop-digit.number * 10 + d) (2 ^ 32)) c.from.ensures
    ∙ ap (λ n. min (n * 10 + (get_or c.args.digits.now c.loop-digit.digit-index 0 - 48)) (2 ^ 32)) c.loop-digit.invariant
    ∙ shown_more c.args.digits.now c.loop-digit.digit-index c.requires c.loop-digit-test.true
