use Rattle.std.proofs.Common.{◌≡◌, map}
use Rattle.fj_root.specs.Part.{parts_of}
use Rattle.fj_root.proofs.part.list.Given as goal

abbrev pub invariant-loop-residue : goal.invariant-loop-residue
invariant-loop-residue g l = parts_of l.parts.items ≡ map (λ group. record { residue = group.0.exponents; polynomial = group.1 }) l.yielded
