use Rattle.fj_testideal.proofs.CompleteList.{listed_or_in_open_gap}
use Rattle.fj_testideal.proofs.lists.jumps_are_listed_or_in_open_gaps.Goals as goal

pub returns : goal.returns
returns c F L f A E some jumps are open_gaps gaps_are t unit jump = listed_or_in_open_gap L A E some are gaps_are t unit jump
