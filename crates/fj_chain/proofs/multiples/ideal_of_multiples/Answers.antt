use Rattle.std.proofs.Common.{List, subst}
use Rattle.fj_theory.specs.Polynomial.{Polynomial}
use Rattle.fj_plain.specs.declared.order_name.OrderName.TheVariants.{Grevlex}
use Rattle.fj_ideal.proofs.Stops.{run_only_as}
use Rattle.fj_frobenius.specs.Lists.{IsHighMultiple}
use Rattle.fj_chain.specs.Lists.{IsMultipleList}
use Rattle.fj_chain.proofs.multiples.ideal_of_multiples.Goals as goal

pub returns-clause-stop : goal.returns-clause-stop
returns-clause-stop g c =
    let F = g.K.Coeff.field in
    let L = c.in_ok-list.list.items in
    let G = c.args.ideal.now.members in
    run_only_as F c.args.pairs Grevlex L (IsMultipleList F c.args.k c.args.f.now G) (IsHighMultiple F c.args.k c.args.f.now G)
    (subst (λ (H : List Polynomial). IsMultipleList F c.args.k c.args.f.now H L) c.members.ensures.value c.in_ok-list.ensures.list) c.of_owned.result c.of_owned.ensures.stop
