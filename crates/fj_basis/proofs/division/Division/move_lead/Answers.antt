use Rattle.std.proofs.Common.{ap, ◌∙◌, subst, arith}
use Rattle.std.proofs.lemmas.Result.{on_ok_weaker}
use Rattle.fj_theory.specs.Exponents.{IsExponents}
use Rattle.fj_theory.specs.Polynomial.{IsPolynomial, lead}
use Rattle.fj_theory.proofs.Polynomial.{IsPolynomial-sum, IsPolynomial-term}
use Rattle.fj_groebner.specs.Division.{Division, move_lead}
use Rattle.fj_basis.specs.Quotients.{with_lead}
use Rattle.fj_basis.proofs.DivisionState.{lead-positive}
use Rattle.fj_basis.proofs.Held.{state, move_lead-taken}
use Rattle.fj_basis.proofs.division.Division.move_lead.Goals as goal

pub push_term-requires-clause-nonzero : goal.push_term-requires-clause-nonzero
push_term-requires-clause-nonzero g c =
    let F = g.K.Coeff.field in
    let L = g.met.K.Coeff.lawful in
    let P : IsPolynomial F c.args.self.now.dividend = subst (λ d. IsPolynomial F d.dividend) c.self.view_is c.self.invariant in
    let M : IsExponents c.args.m.now.exponents = record { eight = c.args.m.now.eight } in
    let positive = lead-positive g.met.O.Order.monomial_order (IsPolynomial-sum L (IsPolynomial-term (g.K.Coeff.rank c.args.c) (g.met.K.Coeff.rank_below c.args.c) M) P) c.requires.lead in
    λ z. absurd (omega (arith, positive, z))

pub returns : goal.returns
returns g c =
    let F = g.K.Coeff.field in
    let key = g.O.Order.key in
    let s : Division = state c.self.inside.left c.self.inside.quotients.items c.self.inside.remainder c.self.inside.sugar in
    let M : IsExponents c.args.m.now.exponents = record { eight = c.args.m.now.eight } in
    let is = ap (λ d. lead key (with_lead F (g.K.Coeff.rank c.args.c) c.args.m.now.exponents d).dividend) c.self.view_is ∙ c.requires.lead in
    on_ok_weaker c.push_term.result
    (λ e. move_lead-taken g.met.K.Coeff.lawful g.met.O.Order.monomial_order s c.self.invariant M (g.K.Coeff.rank c.args.c) (g.met.K.Coeff.rank_below c.args.c) is c.push_term.new.self e
    ∙ ap (λ d. move_lead F key (with_lead F (g.K.Coeff.rank c.args.c) c.args.m.now.exponents d)) c.self.view_is)
    c.push_term.ensures.value
