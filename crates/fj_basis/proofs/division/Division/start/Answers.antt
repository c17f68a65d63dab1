use Rattle.std.proofs.Common.{ap₂, ◌∙◌}
use Rattle.fj_theory.specs.Polynomial.{sum}
use Rattle.fj_theory.proofs.Polynomial.{IsPolynomial-empty}
use Rattle.fj_theory.proofs.PolynomialRing.{sum_comm, sum_empty}
use Rattle.fj_basis.proofs.division.Division.start.Goals as goal

pub returns-clause-value : goal.returns-clause-value
returns-clause-value g c =
    let F = g.K.Coeff.field in
    let L = g.met.K.Coeff.lawful in
    let P = c.in_ok-copy.ensures.polynomial in
    let left = c.left-2.view_is ∙ c.in_ok-add.ensures.value ∙ ap₂ (sum F) c.new-left.ensures c.in_ok-copy.ensures.value ∙ sum_comm L (IsPolynomial-empty F) P ∙ sum_empty L P in
    λ i. record { dividend = left i; quotients = c.in_ok-zero_row.ensures i; remainder = c.zero.ensures i; sugar = c.args.sugar }
