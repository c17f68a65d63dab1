use Rattle.fj_testideal.proofs.OpenGaps.{constant_on_gap}
use Rattle.fj_testideal.proofs.lists.complete_lists_leave_no_change.Goals as goal

pub returns : goal.returns
returns c F L f A E some complete candidates C gap among = constant_on_gap L A E some complete candidates C gap among
