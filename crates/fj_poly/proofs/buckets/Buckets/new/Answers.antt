use Rattle.std.proofs.Common.{ap}
use Rattle.fj_poly.specs.Slots.{sum_all}
use Rattle.fj_poly.proofs.buckets.Buckets.new.Goals as goal

pub returns : goal.returns
unfolding sum_all
returns g c = ap (sum_all g.K.Coeff.field) c.new.ensures.items
