use Rattle.std.proofs.Common.{◌≡◌, ◌++◌, map}
use Rattle.fj_root.specs.Part.{parts_of}
use Rattle.fj_root.proofs.root.push_parts.Given as goal

abbrev pub invariant-loop-part : goal.invariant-loop-part
invariant-loop-part g l = l.root.items ≡ l.fn.root.items ++ map (λ part. part.polynomial) (parts_of l.yielded)
