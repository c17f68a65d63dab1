use Rattle.std.proofs.Common.{refl}
use Rattle.fj_groebner.specs.Run.{given}
use Rattle.fj_basis.proofs.sugar.PolyDivisor.polynomial.Goals as goal

pub returns : goal.returns
unfolding given
returns g c = refl
