use Rattle.std.proofs.Common.{◌≡◌, ◌++◌, take, map, codes, decimal}
use Rattle.fj_text.specs.Printed.{joined}
use Rattle.fj_session.proofs.printing.push_residue.Given as goal

-- the first numbers are printed
abbrev pub invariant-loop-place : goal.invariant-loop-place
invariant-loop-place l = l.out.items ≡ (l.fn.out.items ++ codes "(") ++ joined (codes ",") (map decimal (take l.place (take l.count l.residue.exponents)))
