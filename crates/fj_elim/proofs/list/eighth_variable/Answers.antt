use Rattle.std.proofs.Common.{◌≡◌, ◌∙◌}
use Rattle.std.proofs.lemmas.Result.{IfOk-weaker}
use Rattle.fj_elim.proofs.Eighth.{eighth_exponents, eighth_variable-is, value_of_ok}
use Rattle.fj_elim.proofs.list.eighth_variable.Goals as goal

pub returns : goal.returns
returns g c =
    let exponents = eighth_exponents c.unwrap-t.result.exponents (value_of_ok c.new.result c.unwrap-t.result _ c.unwrap-t.ensures c.new.ensures.value) in
    IfOk-weaker c.term.result _ _ (λ p is. is ∙ eighth_variable-is _ _ c.one.ensures exponents) c.term.ensures.value
