use Rattle.std.proofs.Common.{◌≡◌, ◌++◌, take, map, codes}
use Rattle.fj_text.specs.Printed.{joined, polynomial_bytes}
use Rattle.fj_text.proofs.printed.push_members.Given as goal

-- the first members are printed
abbrev pub invariant-loop-place : goal.invariant-loop-place
invariant-loop-place l = l.out.items ≡ l.fn.out.items ++ joined (codes ", ") (map (polynomial_bytes l.vars) (take l.place l.l))
