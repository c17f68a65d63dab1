use Rattle.std.proofs.Common.{◌^◌, take}
use Rattle.fj_root.specs.Root.{ArePartsOf}
use Rattle.fj_root.proofs.root.root_list.Given as goal

-- the list has the parts of the polynomials that have been gone through
abbrev pub invariant-loop-h : goal.invariant-loop-h
invariant-loop-h g l = ArePartsOf g.K.Coeff.field (g.K.Coeff.field.characteristic ^ l.e) (take l.h-index l.list) l.root.items
