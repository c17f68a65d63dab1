use Rattle.std.proofs.Common.{◌^◌, zip}
use Rattle.fj_theory.specs.Certificate.{HasParts}
use Rattle.fj_plain.proofs.Each.{EachBefore}
use Rattle.fj_plain.proofs.identity.are_sums_of_parts.Given as goal

-- the members so far are the sums of their parts
abbrev pub invariant-loop-i : goal.invariant-loop-i
invariant-loop-i l = EachBefore (λ r. HasParts l.p (l.p ^ l.e) r.0 r.1.0 r.1.1) (zip l.members (zip l.residues l.parts)) l.i
