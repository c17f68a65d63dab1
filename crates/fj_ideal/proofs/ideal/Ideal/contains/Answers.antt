use Rattle.std.proofs.Common.{IsTrue, ◌↔◌, List, subst}
use Rattle.std.proofs.lemmas.Result.{IfOk-weaker}
use Rattle.fj_theory.specs.Ideal.{Inside}
use Rattle.fj_theory.specs.Polynomial.{Polynomial}
use Rattle.fj_ideal.proofs.ReducedBasis.{Inside-members}
use Rattle.fj_ideal.proofs.ideal.Ideal.contains.Goals as goal

pub returns : goal.returns
returns g c =
    let F = g.K.Coeff.field in
    let law = Inside-members g.met.K.Coeff.lawful c.given.ensures.ideal c.members.ensures.ideal in
    IfOk-weaker c.has_all.result _ _
    (λ b test.
    let here = subst (λ (M : List Polynomial). IsTrue b ↔ Inside F M c.args.self.now.given) c.members.ensures.value test in
    (λ t. law.1 (here.0 t).each, λ inside. here.1 (record { each = law.0 inside })))
    c.has_all.ensures
