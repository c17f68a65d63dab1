use Rattle.std.proofs.Common.{◌∙◌}
use Rattle.fj_plain.specs.PlainCode.{same_plain}
use Rattle.fj_audit.proofs.copy.poly_copy.Goals as goal

pub returns-in-Some : goal.returns-in-Some
returns-in-Some c = same_plain _ _ (c.in-Some.ensures.same ∙ c.in_ok-terms.ensures)
