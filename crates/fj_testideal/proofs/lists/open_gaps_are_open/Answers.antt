use Rattle.fj_testideal.proofs.OpenGaps.{open_gaps-are_open}
use Rattle.fj_testideal.proofs.lists.open_gaps_are_open.Goals as goal

pub returns : goal.returns
returns c F L f A E open_gaps are = open_gaps-are_open L A E are
