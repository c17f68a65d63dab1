use Rattle.fj_testideal.proofs.BoundedPeriod.{repeats_from_f, repeats_from_one}
use Rattle.fj_testideal.proofs.leads.periods_repeat.Goals as goal

pub returns : goal.returns
returns c F L f A d of_degree period below = (repeats_from_f L A of_degree period below, repeats_from_one L A of_degree period below)
