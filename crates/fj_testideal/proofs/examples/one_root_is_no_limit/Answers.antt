use Rattle.fj_testideal.proofs.PowersOfVariable.{one_root_is_no_limit}
use Rattle.fj_testideal.proofs.examples.one_root_is_no_limit.Goals as goal

pub returns : goal.returns
returns c F L two = one_root_is_no_limit L two
