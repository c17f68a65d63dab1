use Rattle.std.proofs.Common.{◌∷◌, [], length, refl, sym, ap, ap₂, ◌∙◌, subst, subst₂, arith}
use Rattle.fj_theory.specs.Exponents.{origin}
use Rattle.fj_theory.specs.Polynomial.{term}
use Rattle.fj_basis.specs.declared.history.Making.{Making}
use Rattle.fj_basis.specs.declared.history.Summand.{Summand}
use Rattle.fj_basis.specs.declared.history.Source.TheVariants.{Combined}
use Rattle.fj_basis.specs.History.{IsWithNegatives}
use Rattle.fj_basis.proofs.Replacements.{replaced-IsMaking}
use Rattle.fj_basis.proofs.finishing.record.Goals as goal

pub returns-in_ok-push : goal.returns-in_ok-push
returns-in_ok-push g c = λ G B last long inside P divisors bound D quotients.
    let F = g.K.Coeff.field in
    let L = g.met.K.Coeff.lawful in
    let O = g.met.O.Order.monomial_order in
    let first : Summand g.row.K.Denot g.row.O.Denot = record { place = c.args.place; factor = c.in_ok-factor.factor } in
    let one = c.in_ok-factor.ensures.value ∙ ap₂ term c.one.ensures c.one-then-history.ensures in
    let all = c.in_ok-summands.summands.items in
    let with : IsWithNegatives F (first ∷ []) (length G) last.quotients all =
    subst (λ n. IsWithNegatives F (first ∷ []) n last.quotients all) (sym long)
    (subst₂ (λ some qs. IsWithNegatives F some c.args.from qs all) c.in_ok-member.ensures.items quotients c.in_ok-summands.ensures) in
    let making : Making g.row.K.Denot g.row.O.Denot = record { constant = term (g.K.Coeff.rank c.one-then-history-2.result) origin; source = Combined c.in_ok-summands.summands } in
    record {
      kept = c.in_ok-push.ensures.kept;
      making = λ was. (
        making,
        c.in_ok-push.ensures.recorded was,
        λ N. replaced-IsMaking L O G B P divisors c.args.place (omega (arith, inside, long)) bound last D first refl one all with N making (ap (λ n. term n origin) c.one-then-history-2.ensures) (λ own. own),
      );
    }
