use Rattle.std.proofs.Common.{All, take}
use Rattle.fj_plain.specs.Holds.{Holds}
use Rattle.fj_audit_tests.proofs.handing.all_hold.Given as goal

-- the certificates so far hold
abbrev pub invariant-loop-c : goal.invariant-loop-c
invariant-loop-c l = All Holds (take l.c-index l.certs)
