use Rattle.std.proofs.Common.{sym, ◌∙◌}
use Rattle.std.proofs.lemmas.Bool.{true≢false}
use Rattle.fj_poly.proofs.poly.Poly.pow.Goals as goal

pub power_within-requires-clause-within : goal.power_within-requires-clause-within
power_within-requires-clause-within g c = λ h. absurd (true≢false (sym (c.power_is_high.ensures.high.1 h) ∙ c.if-power_is_high.false))
