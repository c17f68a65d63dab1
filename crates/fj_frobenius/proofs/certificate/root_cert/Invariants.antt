use Rattle.std.proofs.Common.{◌^◌, take}
use Rattle.fj_frobenius.proofs.PlainParts.{Aligned, ArePlainParts}
use Rattle.fj_frobenius.proofs.certificate.root_cert.Given as goal

-- the rows so far
abbrev pub invariant-loop-f : goal.invariant-loop-f
invariant-loop-f g l =
    Aligned (ArePlainParts g.K.Coeff.field.size g.K.Coeff.field.characteristic (g.K.Coeff.field.characteristic ^ l.e)) (take l.f-index l.list) l.residues.items l.part_rows.items
