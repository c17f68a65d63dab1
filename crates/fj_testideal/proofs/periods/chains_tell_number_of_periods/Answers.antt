use Rattle.fj_testideal.proofs.NumberOfPeriods.{tells_number}
use Rattle.fj_testideal.proofs.periods.chains_tell_number_of_periods.Goals as goal

pub returns : goal.returns
returns c F L f A period lists last next = tells_number L A period lists last next
