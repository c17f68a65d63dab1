use Rattle.std.proofs.Common.{sym, ◌∙◌}
use Rattle.std.proofs.lemmas.Bool.{true≢false}
use Rattle.fj_poly.proofs.poly.Poly.shift.Goals as goal

pub times_term-requires-clause-within : goal.times_term-requires-clause-within
times_term-requires-clause-within g c = rw c.one.ensures (λ h. absurd (true≢false (sym (c.shift_is_high.ensures.high.1 h) ∙ c.if-shift_is_high.false)))
