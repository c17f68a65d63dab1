use Rattle.fj_groebner.proofs.Elimination.{elimination_divides_out}
use Rattle.fj_groebner.proofs.eliminations.elimination_gives_colon.Goals as goal

pub returns : goal.returns
returns c F L I G g A P nonzero lacks_I lacks basis = elimination_divides_out L A P basis lacks_I lacks nonzero
