use Rattle.fj_groebner.proofs.Turns.{Unfinished-TooHigh, IsFinished-Unfinished, IsFinished-TooHigh}
use Rattle.fj_groebner.proofs.bases.runs_have_one_outcome.Goals as goal

pub returns : goal.returns
returns c F key L budget = record {
  unfinished_too_high = λ u h. Unfinished-TooHigh u h;
  finished_unfinished = λ basis f u. IsFinished-Unfinished f u;
  finished_too_high = λ basis f h. IsFinished-TooHigh f h;
}
