use Rattle.std.proofs.Common.{◌≡◌, List, subst}
use Rattle.fj_theory.specs.Polynomial.{Polynomial}
use Rattle.fj_plain.specs.declared.order_name.OrderName.TheVariants.{Grevlex}
use Rattle.fj_ideal.specs.Lists.{NoProduct, RunFor}
use Rattle.fj_ideal.specs.Stop.{StopsExactlyWith}
use Rattle.fj_ideal.proofs.reduced.Reduced.of.Goals as goal

pub returns-clause-stop : goal.returns-clause-stop
returns-clause-stop g c =
    subst (λ (L : List Polynomial). StopsExactlyWith g.K.Coeff.field (RunFor Grevlex (λ M. M ≡ L)) NoProduct c.args.pairs c.of_owned.result) c.in_ok-given.ensures.value c.of_owned.ensures.stop
