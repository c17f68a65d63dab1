use Rattle.fj_testideal.proofs.CompleteList.{complete_list}
use Rattle.fj_testideal.proofs.lists.complete_lists_have_all_jumps.Goals as goal

pub returns : goal.returns
returns c F L f A E some jumps are complete t unit = complete_list L A E some are complete t unit
