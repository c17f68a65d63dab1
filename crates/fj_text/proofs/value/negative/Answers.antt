use Rattle.std.proofs.Common.{ap, ◌∙◌}
use Rattle.fj_theory.specs.Exponents.{origin}
use Rattle.fj_theory.specs.Polynomial.{product, term}
use Rattle.fj_text.proofs.Values.{if_ok, minus_one_times}
use Rattle.fj_text.proofs.value.negative.Goals as goal

pub returns : goal.returns
returns g c =
    let F = g.K.Coeff.field in
    if_ok c.scale.result _ _ (λ p is. is ∙ ap (λ n. product F (term n origin) c.args.f.now) (c.neg.ensures ∙ ap F.neg c.one.ensures) ∙ minus_one_times g.met.K.Coeff.lawful c.scale.ensures.factor) c.scale.ensures.value
