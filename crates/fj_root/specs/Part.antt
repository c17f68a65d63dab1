-- A part as contracts see it.
use Rattle.std.specs.Prelude.{List, map}
use Rattle.fj_theory.specs.Parts as theory
use Rattle.fj_root.specs.declared.part.Part.{Part}

-- The residue's exponents and the polynomial.
abbrev pub part_of : {K O : Type 0} → Part K O → theory.Part
part_of part = record { residue = part.residue.exponents; polynomial = part.poly }

abbrev pub parts_of : {K O : Type 0} → List (Part K O) → List theory.Part
parts_of parts = map part_of parts
