use Rattle.fj_testideal.proofs.NumberOfPeriods.{few_periods}
use Rattle.fj_testideal.proofs.periods.periods_are_few.Goals as goal

pub returns : goal.returns
returns c F L f A d of_degree period below = few_periods L A period of_degree below
