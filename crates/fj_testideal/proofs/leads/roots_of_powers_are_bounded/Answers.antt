use Rattle.fj_testideal.proofs.BoundedParts.{power_root_bounded}
use Rattle.fj_testideal.proofs.leads.roots_of_powers_are_bounded.Goals as goal

pub returns : goal.returns
returns c F L e m d f M Q of_degree small R = power_root_bounded L e m d Q of_degree small R
