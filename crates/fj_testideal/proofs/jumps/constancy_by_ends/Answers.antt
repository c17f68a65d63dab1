use Rattle.fj_testideal.proofs.Jump.{left_limit_from_constant, constant_from_ends, constant_from_equal, equal_from_constant}
use Rattle.fj_testideal.proofs.jumps.constancy_by_ends.Goals as goal

pub returns : goal.returns
returns c F L f A s t less = record {
  one_list = (λ C. (C.ideal, C.at_start, left_limit_from_constant L A s t less C), λ ends. constant_from_ends L A s t less ends.1 ends.2);
  two_lists = λ S T I J. (equal_from_constant L A s t less I J, constant_from_equal L A s t less I J);
}
