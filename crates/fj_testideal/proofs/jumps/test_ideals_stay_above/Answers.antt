use Rattle.fj_testideal.proofs.RightLimit.{constant_after}
use Rattle.fj_testideal.proofs.jumps.test_ideals_stay_above.Goals as goal

pub returns : goal.returns
returns c F L f A n D t T I = constant_after L A D t I
