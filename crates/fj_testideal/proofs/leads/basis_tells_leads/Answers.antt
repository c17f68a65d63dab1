use Rattle.fj_testideal.proofs.BoundedChain.{leads_up_to, AreLeads-leads_up_to}
use Rattle.fj_testideal.proofs.leads.basis_tells_leads.Goals as goal

pub returns : goal.returns
returns c F L vars bound M G A basis = (leads_up_to vars bound G, AreLeads-leads_up_to L vars bound A basis)
