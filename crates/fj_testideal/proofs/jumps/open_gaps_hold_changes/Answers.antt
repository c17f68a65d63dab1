use Rattle.fj_testideal.proofs.Jump.{change_from_open}
use Rattle.fj_testideal.proofs.jumps.open_gaps_hold_changes.Goals as goal

pub returns : goal.returns
returns c F L f A s t less S T I J is_open = change_from_open L A s t less I J is_open
