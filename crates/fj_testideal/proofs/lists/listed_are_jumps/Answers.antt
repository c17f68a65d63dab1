use Rattle.fj_testideal.proofs.CompleteList.{listed_is_jump, jump_is_listed}
use Rattle.fj_testideal.proofs.lists.listed_are_jumps.Goals as goal

pub returns : goal.returns
returns c F L f A E jumps are t candidate = (λ jump. jump_is_listed L A are t candidate jump, λ listed. listed_is_jump L A are t listed)
