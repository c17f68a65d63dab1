use Rattle.std.proofs.Common.{◌≡◌}
use Rattle.fj_plain.specs.declared.order_name.OrderName.TheVariants.{Grevlex}
use Rattle.fj_ideal.specs.Lists.{NoProduct, RunFor}
use Rattle.fj_ideal.proofs.Stops.{only_from_exactly}
use Rattle.fj_ideal.proofs.reduced.Reduced.by_thinning.Goals as goal

pub returns-in-None-clause-stop : goal.returns-in-None-clause-stop
returns-in-None-clause-stop g c = only_from_exactly g.K.Coeff.field c.args.pairs (RunFor Grevlex (λ L. L ≡ c.args.given.items)) NoProduct c.of_owned.result c.of_owned.ensures.stop
