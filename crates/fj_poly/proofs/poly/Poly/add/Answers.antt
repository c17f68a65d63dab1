use Rattle.fj_poly.proofs.View.{polynomial_seen}
use Rattle.fj_poly.proofs.poly.Poly.add.Goals as goal

pub returns-clause-first : goal.returns-clause-first
returns-clause-first g c = polynomial_seen _ c.self.invariant.1 c.self.view_is

pub returns-clause-second : goal.returns-clause-second
returns-clause-second g c = polynomial_seen _ c.o.invariant.1 c.o.view_is
