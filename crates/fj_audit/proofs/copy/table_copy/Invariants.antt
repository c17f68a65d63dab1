use Rattle.std.proofs.Common.{◌≡◌, take}
use Rattle.fj_audit.proofs.copy.table_copy.Given as goal

-- the copies so far
abbrev pub invariant-loop-i : goal.invariant-loop-i
invariant-loop-i l = l.copies.items ≡ take l.i l.rows
