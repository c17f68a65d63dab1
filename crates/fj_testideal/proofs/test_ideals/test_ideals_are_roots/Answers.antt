use Rattle.fj_testideal.proofs.LeftLimit.{root_from_test_ideal, test_ideal_from_root}
use Rattle.fj_testideal.proofs.test_ideals.test_ideals_are_roots.Goals as goal

pub returns : goal.returns
returns c F L f A e m t value T = (root_from_test_ideal L A e m t value, test_ideal_from_root L A e m t value)
