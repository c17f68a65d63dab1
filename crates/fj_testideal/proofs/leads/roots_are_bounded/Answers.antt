use Rattle.fj_testideal.proofs.BoundedParts.{root_bounded}
use Rattle.fj_testideal.proofs.leads.roots_are_bounded.Goals as goal

pub returns : goal.returns
returns c F L vars e D M N small R = root_bounded L e D small R
