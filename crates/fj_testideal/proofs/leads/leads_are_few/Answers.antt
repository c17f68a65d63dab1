use Rattle.fj_testideal.proofs.BoundedChain.{AreLeads-few}
use Rattle.fj_testideal.proofs.leads.leads_are_few.Goals as goal

pub returns : goal.returns
returns c F vars bound L leads are = AreLeads-few are
