use Rattle.std.proofs.Common.{sym, subst}
use Rattle.fj_theory.specs.Exponents.{least_common_multiple}
use Rattle.fj_basis.specs.Place.{IsWithinLimit}
use Rattle.fj_basis.proofs.Places.{within_limit}
use Rattle.fj_basis.proofs.pairs.Pair.new.Goals as goal

pub returns-clause-lcm : goal.returns-clause-lcm
returns-clause-lcm g c =
    let a = least_common_multiple c.args.a.now.exponents c.args.b.now.exponents in
    subst (IsWithinLimit a) (sym c.ok.ensures.value) (within_limit a c.lcm.result c.lcm.ensures.value c.lcm.ensures.high.0)
