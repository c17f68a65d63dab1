use Rattle.std.proofs.Common.{◌≡◌, ◌*◌, ◌^◌, ◌<◌, take}
use Rattle.fj_basis.specs.Leads.{mask_after}
use Rattle.fj_basis.proofs.leads.mask_of.Given as goal

abbrev pub invariant-loop-i : goal.invariant-loop-i
invariant-loop-i l = (l.mask ≡ mask_after 0 (take l.i l.m.exponents)) × (l.mask < 2 ^ (8 * l.i))
