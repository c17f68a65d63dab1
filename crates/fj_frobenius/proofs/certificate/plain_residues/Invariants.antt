use Rattle.std.proofs.Common.{◌≡◌, ◌∷◌, [], map, take}
use Rattle.fj_theory.specs.Certificate.{AllRanksBelow}
use Rattle.fj_theory.specs.Plain.{polynomial}
use Rattle.fj_theory.specs.Polynomial.{term}
use Rattle.fj_root.specs.Part.{part_of}
use Rattle.fj_frobenius.proofs.certificate.plain_residues.Given as goal

-- the residues so far
abbrev pub invariant-loop-part : goal.invariant-loop-part
invariant-loop-part g l =
    (map (λ f. f.terms) l.residues.items ≡ map (λ part. ((part_of part).residue, 1) ∷ []) (take l.part-index l.found))
    × (map polynomial l.residues.items ≡ map (λ part. term 1 (part_of part).residue) (take l.part-index l.found))
    × AllRanksBelow g.K.Coeff.field.size l.residues.items
