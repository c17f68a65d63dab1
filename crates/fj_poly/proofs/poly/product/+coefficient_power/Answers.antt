use Rattle.std.proofs.Common.{ap, ap₂, sym, ◌∙◌}
use Rattle.fj_coeff.specs.Field.{power}
use Rattle.fj_poly.proofs.Values.{power-even, power-odd}
use Rattle.fj_poly.proofs.poly.product.+coefficient_power.Goals as goal

pub returns-then-k-eq0 : goal.returns-then-k-eq0
unfolding power
returns-then-k-eq0 g t c = c.one.ensures ∙ sym (ap (power g.K.Coeff.field (g.K.Coeff.rank c.args.c)) c.if-k-eq0.true)

pub returns-then-k-eq0-2 : goal.returns-then-k-eq0-2
returns-then-k-eq0-2 g t c =
    c.mul-square.ensures ∙ ap₂ g.K.Coeff.field.mul c.coefficient_power-half.ensures c.coefficient_power-half.ensures
    ∙ power-even g.met.K.Coeff.lawful (g.K.Coeff.rank c.args.c) c.args.k (g.met.K.Coeff.rank_below c.args.c) c.if-k-eq0-2.true

pub returns-else-k-eq0-2 : goal.returns-else-k-eq0-2
returns-else-k-eq0-2 g t c =
    c.mul.ensures ∙ ap (g.K.Coeff.field.mul (g.K.Coeff.rank c.args.c)) (c.mul-square.ensures ∙ ap₂ g.K.Coeff.field.mul c.coefficient_power-half.ensures c.coefficient_power-half.ensures)
    ∙ power-odd g.met.K.Coeff.lawful (g.K.Coeff.rank c.args.c) c.args.k (g.met.K.Coeff.rank_below c.args.c) c.if-k-eq0-2.false
