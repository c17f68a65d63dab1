use Rattle.fj_testideal.proofs.Chain.{repeats_stay}
use Rattle.fj_testideal.proofs.chains.repeats_stay.Goals as goal

pub returns : goal.returns
returns c F L f A period J next P follows E lists last chain = repeats_stay L A period P follows E lists chain
