use Rattle.fj_testideal.proofs.JumpGaps.{constant_between}
use Rattle.fj_testideal.proofs.lists.complete_lists_are_constant_between.Goals as goal

pub returns : goal.returns
returns c F L f A E some jumps are complete gap among = constant_between L A E some are complete gap among
