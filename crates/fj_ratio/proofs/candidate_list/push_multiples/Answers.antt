use Rattle.std.proofs.Common.{arith}
use Rattle.fj_ratio.proofs.Rows.{AddsMultiples-more}
use Rattle.fj_ratio.proofs.candidate_list.push_multiples.Goals as goal

pub multiples-preserved : goal.multiples-preserved
multiples-preserved c =
    rw c.in_ok-push.ensures.items (AddsMultiples-more _ _ _ _ _ (omega arith) (omega arith) c.multiples.invariant c.of.ensures)
