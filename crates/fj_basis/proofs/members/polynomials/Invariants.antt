use Rattle.std.proofs.Common.{◌≡◌, map}
use Rattle.fj_basis.proofs.members.polynomials.Given as goal

-- the members so far
abbrev pub invariant-loop-member : goal.invariant-loop-member
invariant-loop-member g l = l.polynomials.items ≡ map (λ m. m.polynomial) l.yielded
