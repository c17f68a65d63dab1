use Rattle.std.proofs.Common.{ap₂, ◌∙◌}
use Rattle.fj_theory.specs.Polynomial.{term}
use Rattle.fj_text.proofs.Values.{if_ok, value_of_ok, variable_is}
use Rattle.fj_text.proofs.expression.variable_at.Goals as goal

pub returns : goal.returns
returns g c =
    if_ok c.term.result _ _ (λ p is. is ∙ ap₂ term c.one.ensures (variable_is _ c.args.place (value_of_ok c.new.result c.unwrap.result _ c.unwrap.ensures c.new.ensures.value))) c.term.ensures.value
