use Rattle.fj_testideal.proofs.Jump.{jump_differs, jump_from_difference}
use Rattle.fj_testideal.proofs.jumps.jumps_are_differences.Goals as goal

pub returns : goal.returns
returns c F L f A t above S T I J = (jump_differs L A t above I J, jump_from_difference L A t above I J)
