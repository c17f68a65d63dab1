use Rattle.std.proofs.Common.{◌≡◌, map, take}
use Rattle.fj_theory.specs.Certificate.{AllRanksBelow}
use Rattle.fj_theory.specs.Plain.{polynomial}
use Rattle.fj_root.specs.Part.{part_of}
use Rattle.fj_frobenius.proofs.certificate.plain_parts.Given as goal

-- the polynomials so far
abbrev pub invariant-loop-part : goal.invariant-loop-part
invariant-loop-part g l =
    (map polynomial l.plain.items ≡ map (λ part. (part_of part).polynomial) (take l.part-index l.found)) × AllRanksBelow g.K.Coeff.field.size l.plain.items
