use Rattle.std.proofs.Common.{◌≡◌, Some}
use Rattle.fj_text.specs.Expression.{power_within}
use Rattle.fj_text.proofs.power.power_by_products.Given as goal

-- so many products were formed
abbrev pub invariant-products : goal.invariant-products
invariant-products g l = power_within g.K.Coeff.field l.f l._formed ≡ Some l.power
