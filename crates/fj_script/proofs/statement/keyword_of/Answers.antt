use Rattle.std.proofs.Common.{codes, arith, refl}
use Rattle.std.proofs.lemmas.Slice.Eq.{text_from_reads}
use Rattle.fj_script.specs.Statement.{keyword_of}
use Rattle.fj_script.proofs.statement.keyword_of.Goals as goal

pub returns-in-budget : goal.returns-in-budget
unfolding keyword_of
returns-in-budget c = rw (text_from_reads c.args.word.now (codes "budget") (omega arith) (omega arith, (omega arith, (omega arith, (omega arith, (omega arith, (omega arith, tt))))))) refl
