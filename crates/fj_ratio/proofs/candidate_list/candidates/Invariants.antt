use Rattle.std.proofs.Common.{◌≡◌, ◌^◌}
use Rattle.fj_ratio.proofs.Rows.{HasRows}
use Rattle.fj_ratio.proofs.candidate_list.candidates.Given as goal

-- the rows so far, and the next power of p
abbrev pub invariant-rows : goal.invariant-rows
invariant-rows l = record {
  rows : HasRows l.p l.e l.counter l.list.items;
  power_is : l.power ≡ l.p ^ l.counter;
}
