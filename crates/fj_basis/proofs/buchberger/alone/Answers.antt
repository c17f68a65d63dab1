use Rattle.std.proofs.Common.{sym, ◌∙◌, subst}
use Rattle.fj_groebner.specs.ReducedBasis.{IsReducedBasis}
use Rattle.fj_groebner.proofs.Finishing.{IsFinished-IsReducedBasis}
use Rattle.fj_basis.specs.Members.{sugared_members}
use Rattle.fj_basis.proofs.MadeRows.{polynomials-sugared}
use Rattle.fj_basis.proofs.buchberger.alone.Goals as goal

pub returns-clause-value : goal.returns-clause-value
returns-clause-value g c =
    let members = c.in_ok-found.found.members.items in
    record { basis = sugared_members members; finished = c.in_ok-found.ensures.value.finished; are = polynomials-sugared members ∙ sym c.in_ok-polynomials.ensures }

pub returns-clause-reduced : goal.returns-clause-reduced
returns-clause-reduced g c =
    let run = c.in_ok-found.ensures.value in
    subst (IsReducedBasis g.K.Coeff.field g.O.Order.key c.args.list.now) (polynomials-sugared c.in_ok-found.found.members.items ∙ sym c.in_ok-polynomials.ensures)
    (IsFinished-IsReducedBasis g.met.O.Order.monomial_order g.met.K.Coeff.lawful run.given run.finished)
