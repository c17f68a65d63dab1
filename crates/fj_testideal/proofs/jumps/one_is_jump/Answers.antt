use Rattle.fj_testideal.proofs.Jump.{one_is_jump}
use Rattle.fj_testideal.proofs.jumps.one_is_jump.Goals as goal

pub returns : goal.returns
returns c F L f A n D positive t one = one_is_jump L A n D positive t one
