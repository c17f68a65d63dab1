use Rattle.fj_testideal.proofs.TestIdeal.{test_ideal-zero, test_ideal-plus_whole, left_limit-plus_whole}
use Rattle.fj_testideal.proofs.test_ideals.whole_numbers_in_exponents.Goals as goal

pub returns : goal.returns
returns c F L f A = record {
  at_zero = λ t none. test_ideal-zero L A t none;
  test_ideal = λ t k T I. test_ideal-plus_whole L A t k I;
  left_limit = λ t k T above I. left_limit-plus_whole L A t k above I;
}
