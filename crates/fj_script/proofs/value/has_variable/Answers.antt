use Rattle.std.proofs.Common.{nat_lt, ◌∙◌, rules, tests}
use Rattle.std.proofs.lemmas.Iterator.{YieldsList-from_slice}
use Rattle.std.proofs.lemmas.Iterator.Search.{any_from_yields_List}
use Rattle.fj_script.proofs.Values.{above_zero}
use Rattle.fj_script.proofs.value.has_variable.Goals as goal

pub returns : goal.returns
returns c =
    any_from_yields_List (λ e. nat_lt 0 e) _ _ c.any.result c.any.ensures.ran (YieldsList-from_slice c.args.term.now.exps c.iter.ensures.rest) (λ x b q k. search (rules, tests))
    ∙ above_zero c.args.term.now.exps
