use Rattle.fj_testideal.proofs.BoundedChain.{strict_step}
use Rattle.fj_testideal.proofs.leads.strict_step_counts.Goals as goal

pub returns : goal.returns
returns c F L vars bound M N A B small large inside leads more few many = strict_step L A B small large inside few many
