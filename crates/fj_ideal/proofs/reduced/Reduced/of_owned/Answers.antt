use Rattle.std.proofs.Common.{◌≡◌, List, Ok, Err, subst}
use Rattle.fj_theory.specs.Polynomial.{Polynomial}
use Rattle.fj_plain.specs.declared.order_name.OrderName.TheVariants.{Grevlex}
use Rattle.fj_ideal.specs.Lists.{NoProduct, RunFor}
use Rattle.fj_ideal.specs.Stop.{NothingStops, StopsExactlyWith}
use Rattle.fj_ideal.proofs.Stops.{exactly_handed_on, run_exactly}
use Rattle.fj_ideal.proofs.reduced.Reduced.of_owned.Goals as goal

pub returns-in_err-members-clause-stop : goal.returns-in_err-members-clause-stop
returns-in_err-members-clause-stop g c =
    let F = g.K.Coeff.field in
    let L = c.deref-2.result.now in
    subst (λ (M : List Polynomial). StopsExactlyWith F (RunFor Grevlex (λ N. N ≡ M)) NoProduct c.args.pairs c.from_residual.result) c.deref-2.ensures.value
    (exactly_handed_on F c.args.pairs (List Polynomial) _ (RunFor Grevlex (λ N. N ≡ L)) NoProduct c.in_err-members.field-0.0 c.from_residual.result c.from_residual.ensures.1
    (run_exactly F c.args.pairs {T = List Polynomial} Grevlex L (Err c.in_err-members.field-0.0) c.in_err-members.ensures.stop))

pub returns-clause-stop : goal.returns-clause-stop
returns-clause-stop g c =
    let F = g.K.Coeff.field in
    subst (λ (M : List Polynomial). NothingStops F (RunFor Grevlex (λ N. N ≡ M)) NoProduct c.args.pairs) c.deref-2.ensures.value
    (run_exactly F c.args.pairs {T = List Polynomial} Grevlex c.deref-2.result.now (Ok c.in_ok-members.members.items) c.in_ok-members.ensures.stop)
