use Rattle.std.proofs.Common.{length, ap, arith}
use Rattle.fj_ideal.proofs.ReducedBasis.{length-AreRows}
use Rattle.fj_ideal.proofs.ideal.Ideal.up.Goals as goal

pub up-requires-clause-given : goal.up-requires-clause-given
up-requires-clause-given g c =
    let long = length-AreRows g.K.Coeff.field _ _ _ c.self.invariant.made.up in
    let same = ap (λ v. length v.given) c.self.view_is in
    omega (arith, long, same, c.requires.given)
