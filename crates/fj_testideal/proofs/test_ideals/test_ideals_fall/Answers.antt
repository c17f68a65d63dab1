use Rattle.fj_testideal.proofs.TestIdeal.{test_ideal-falls, left_limit-falls, test_ideal-inside, left_limit-inside}
use Rattle.fj_testideal.proofs.test_ideals.test_ideals_fall.Goals as goal

pub returns : goal.returns
returns c F L f A = record {
  test_ideals = λ s t S T h I J. test_ideal-falls L A s t h I J;
  left_limits = λ s t S T h I J. left_limit-falls L A s t h I J;
  at_one_place = λ t S T I J. test_ideal-inside L A t I J;
  below = λ s t S T less I J. left_limit-inside L A s t less I J;
}
