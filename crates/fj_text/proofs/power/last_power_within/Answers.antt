use Rattle.std.proofs.Common.{sym}
use Rattle.fj_text.proofs.Values.{high_is_large}
use Rattle.fj_text.proofs.power.last_power_within.Goals as goal

pub returns-in-Err-High : goal.returns-in-Err-High
returns-in-Err-High g c = sym (high_is_large _ (rw c.in-Err-High.field-0-is at c.in-Err-High.ensures.high))
