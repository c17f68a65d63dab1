use Rattle.fj_testideal.proofs.ChainLimit.{test_ideal-from_root, left_limit-from_root, test_ideal-from_digits, left_limit-from_digits}
use Rattle.fj_testideal.proofs.chains.digits_reach_limits.Goals as goal

pub returns : goal.returns
returns c F L f A t unit d expansion = record {
  root_is_test_ideal = λ J T limit root. test_ideal-from_root L A t unit d expansion limit root;
  root_is_left_limit = λ J T limit root. left_limit-from_root L A t unit d expansion limit root;
  test_ideal = λ J T limit follows. test_ideal-from_digits L A t unit d expansion limit follows;
  left_limit = λ J T limit follows. left_limit-from_digits L A t unit d expansion limit follows;
}
