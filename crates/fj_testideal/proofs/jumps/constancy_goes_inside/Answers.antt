use Rattle.fj_testideal.proofs.ConstantInside.{test_ideal-inside_constant, left_limit-inside_constant, constant-smaller, no_jump-inside_constant}
use Rattle.fj_testideal.proofs.jumps.constancy_goes_inside.Goals as goal

pub returns : goal.returns
returns c F L f A s t less C = record {
  test_ideal = λ r from below. test_ideal-inside_constant L A s t less C r from below;
  left_limit = λ r above to. left_limit-inside_constant L A s t less C r above to;
  smaller = λ r u from rising to. constant-smaller L A s t less C r u from rising to;
  no_jump = λ r above below jump. no_jump-inside_constant L A s t less C r above below jump;
}
