use Rattle.std.proofs.Common.{sym, ◌≡◌, ◌∙◌, rules, tests}
use Rattle.std.specs.List.{position}
use Rattle.std.proofs.lemmas.Iterator.{YieldsList-from_slice}
use Rattle.std.proofs.lemmas.Iterator.Search.{position_from_yields_List}
use Rattle.fj_script.proofs.FirstLine.{first_line, is_end, one_line}
use Rattle.fj_script.proofs.reading.split_line.Goals as goal

pub returns-in-Some-clause-first : goal.returns-in-Some-clause-first
returns-in-Some-clause-first c =
    let found : c.position.result ≡ position is_end c.args.bytes.now = position_from_yields_List is_end _ _ c.position.result c.position.ensures.ran (YieldsList-from_slice c.args.bytes.now c.iter.ensures.rest) (λ x b q k. search (rules, tests)) in
    first_line c.args.bytes.now c.in-Some.end (sym c.in-Some.is ∙ found)

pub returns-in-None-clause-first : goal.returns-in-None-clause-first
returns-in-None-clause-first c =
    let found : c.position.result ≡ position is_end c.args.bytes.now = position_from_yields_List is_end _ _ c.position.result c.position.ensures.ran (YieldsList-from_slice c.args.bytes.now c.iter.ensures.rest) (λ x b q k. search (rules, tests)) in
    one_line c.args.bytes.now (sym c.in-None.is ∙ found)
