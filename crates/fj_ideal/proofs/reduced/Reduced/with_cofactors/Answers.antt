use Rattle.std.proofs.Common.{◌≡◌, List, ap, subst}
use Rattle.fj_theory.specs.Polynomial.{Polynomial}
use Rattle.fj_plain.specs.declared.order_name.OrderName.TheVariants.{Grevlex}
use Rattle.fj_ideal.specs.Lists.{NoProduct, RunFor}
use Rattle.fj_ideal.specs.Stop.{StopsExactlyWith}
use Rattle.fj_ideal.proofs.reduced.Reduced.with_cofactors.Goals as goal

pub returns-clause-stop : goal.returns-clause-stop
returns-clause-stop g c =
    let same : c.self.inside.given.items ≡ c.args.self.given = ap (λ v. v.given) c.self.view_is in
    subst (λ (M : List Polynomial). StopsExactlyWith g.K.Coeff.field (RunFor Grevlex (λ L. L ≡ M)) NoProduct c.args.pairs c.of_owned.result) same c.of_owned.ensures.stop
