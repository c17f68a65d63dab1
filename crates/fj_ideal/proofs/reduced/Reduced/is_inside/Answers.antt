use Rattle.std.proofs.Common.{IsTrue, ◌↔◌, List, subst}
use Rattle.std.proofs.lemmas.Result.{IfOk-weaker}
use Rattle.fj_theory.specs.Ideal.{Inside}
use Rattle.fj_theory.specs.Polynomial.{Polynomial}
use Rattle.fj_ideal.proofs.ReducedBasis.{Inside-basis}
use Rattle.fj_ideal.proofs.reduced.Reduced.is_inside.Goals as goal

pub returns : goal.returns
returns g c =
    let F = g.K.Coeff.field in
    let ideal = c.members.ensures.ideal in
    let law = Inside-basis g.met.K.Coeff.lawful ideal.polynomials ideal.reduced c.given.ensures.ideal.polynomials in
    IfOk-weaker c.has_all.result _ _
    (λ b test.
    let here = subst (λ (M : List Polynomial). IsTrue b ↔ Inside F M c.args.o.now.given) c.members.ensures.value test in
    (λ t. law.1 (here.0 t), λ inside. here.1 (law.0 inside)))
    c.has_all.ensures
