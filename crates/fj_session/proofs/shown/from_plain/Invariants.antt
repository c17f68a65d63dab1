use Rattle.std.proofs.Common.{◌≡◌, take}
use Rattle.fj_shell.specs.Named.{polynomials}
use Rattle.fj_session.proofs.shown.from_plain.Given as goal

-- the first polynomials are made
abbrev pub invariant-loop-place : goal.invariant-loop-place
invariant-loop-place g l = l.made.items ≡ polynomials (take l.place l.list)
