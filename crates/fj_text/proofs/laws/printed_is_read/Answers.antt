use Rattle.fj_text.proofs.PrintedLaw.{printed_is_read}
use Rattle.fj_text.proofs.laws.printed_is_read.Goals as goal

pub returns : goal.returns
returns c = printed_is_read
