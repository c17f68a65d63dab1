use Rattle.std.proofs.Common.{◌≡◌, drop}
use Rattle.fj_groebner.specs.Run.{are_coprime}
use Rattle.fj_basis.proofs.pair_member.are_coprime.Given as goal

abbrev pub invariant-loop-i : goal.invariant-loop-i
invariant-loop-i l = are_coprime l.a.exponents l.b.exponents ≡ are_coprime (drop l.i l.a.exponents) (drop l.i l.b.exponents)
