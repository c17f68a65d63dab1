use Rattle.fj_testideal.proofs.BoundedParts.{parts_bounded}
use Rattle.fj_testideal.proofs.leads.parts_are_bounded.Goals as goal

pub returns : goal.returns
returns c F L vars e bound D h S small parts K = parts_bounded L e bound D S small K
