use Rattle.fj_testideal.proofs.BoundedIdeal.{SameIdeal-by_leads}
use Rattle.fj_testideal.proofs.leads.equal_by_leads.Goals as goal

pub returns : goal.returns
returns c F L vars bound M N A B small large inside leads = SameIdeal-by_leads L A B small large inside leads
