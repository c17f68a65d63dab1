use Rattle.fj_text.proofs.Completeness.{expression-complete}
use Rattle.fj_text.proofs.laws.expression_is_read.Goals as goal

pub returns : goal.returns
returns c F L meaning s ts rest f d e h = expression-complete L meaning s ts rest f d e h
