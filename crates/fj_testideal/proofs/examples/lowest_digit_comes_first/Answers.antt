use Rattle.fj_testideal.proofs.PowersOfVariable.{lowest_digit_comes_first}
use Rattle.fj_testideal.proofs.examples.lowest_digit_comes_first.Goals as goal

pub returns : goal.returns
returns c F L two = lowest_digit_comes_first L two
