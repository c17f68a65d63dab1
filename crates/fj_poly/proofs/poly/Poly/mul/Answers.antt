use Rattle.std.proofs.Common.{sym, ◌∙◌}
use Rattle.std.proofs.lemmas.Bool.{true≢false}
use Rattle.fj_poly.proofs.poly.Poly.mul.Goals as goal

pub product_within-requires : goal.product_within-requires
product_within-requires g c = λ h. absurd (true≢false (sym (c.product_is_high.ensures.high.1 h) ∙ c.if-product_is_high.false))
