use Rattle.fj_testideal.proofs.BoundedPeriod.{period_moves_leads}
use Rattle.fj_testideal.proofs.leads.each_period_moves_leads.Goals as goal

pub returns : goal.returns
returns c F L f A d of_degree period below = period_moves_leads L A of_degree period below
