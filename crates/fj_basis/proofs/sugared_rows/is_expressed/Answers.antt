use Rattle.std.proofs.Common.{ap, ◌∙◌, refl, sym, subst, subst₂}
use Rattle.fj_theory.specs.Exponents.{origin}
use Rattle.fj_theory.specs.Ideal.{ArePolynomials}
use Rattle.fj_theory.specs.Polynomial.{term}
use Rattle.fj_groebner.specs.Division.{DegreeAtMost}
use Rattle.fj_groebner.proofs.Division.{IsDivision-quotients}
use Rattle.fj_groebner.proofs.Sugar.{given-DegreeAtMost}
use Rattle.fj_basis.specs.declared.history.Making.{Making}
use Rattle.fj_basis.specs.declared.history.Source.TheVariants.{Combined}
use Rattle.fj_basis.specs.History.{IsWithNegatives}
use Rattle.fj_basis.specs.Members.{sugared_members}
use Rattle.fj_basis.proofs.MonicMembers.{monic-AreGood}
use Rattle.fj_basis.proofs.SugaredRows.{expressed-IsMaking}
use Rattle.fj_basis.proofs.sugared_rows.is_expressed.Goals as goal

pub divide_sugared-requires-clause-nonzero : goal.divide_sugared-requires-clause-nonzero
divide_sugared-requires-clause-nonzero g c = (monic-AreGood g.met.K.Coeff.lawful g.met.O.Order.monomial_order c.requires).nonzero

pub divide_sugared-requires-clause-bound : goal.divide_sugared-requires-clause-bound
divide_sugared-requires-clause-bound g c =
    subst (λ n. DegreeAtMost n c.args.f.now) (sym c.sugar_of.ensures.value) (given-DegreeAtMost g.met.K.Coeff.lawful c.sugar_of.ensures.polynomial)

pub with_negatives-requires-clause-polynomials : goal.with_negatives-requires-clause-polynomials
with_negatives-requires-clause-polynomials g c =
    let L = g.met.K.Coeff.lawful in
    let O = g.met.O.Order.monomial_order in
    let G = sugared_members c.args.members.now in
    let good = monic-AreGood L O c.requires in
    let D = c.in_ok-division.ensures.value in
    subst (ArePolynomials g.K.Coeff.field) (sym c.quotients.ensures) (IsDivision-quotients O L G good.polynomials good.nonzero c.sugar_of.ensures.polynomial D.division)

pub returns : goal.returns
returns g c = λ is.
    let F = g.K.Coeff.field in
    let L = g.met.K.Coeff.lawful in
    let O = g.met.O.Order.monomial_order in
    let G = sugared_members c.args.members.now in
    let good = monic-AreGood L O c.requires in
    let f = c.args.f.now in
    let P = c.sugar_of.ensures.polynomial in
    let bound = subst (λ n. DegreeAtMost n f) (sym c.sugar_of.ensures.value) (given-DegreeAtMost L P) in
    let last = c.in_ok-division.division in
    let all = c.in_ok-summands.summands.items in
    let with = subst₂ (λ some qs. IsWithNegatives F some 0 qs all) c.new.ensures.items c.quotients.ensures c.in_ok-summands.ensures in
    let making : Making g.row.K.Denot g.row.O.Denot = record { constant = term (g.K.Coeff.rank c.neg.result) origin; source = Combined c.in_ok-summands.summands } in
    record {
      polynomial = P;
      sugar = last.sugar;
      recorded = λ B others. record {
        kept = c.in_ok-push.ensures.kept;
        making = λ was. (
          making,
          c.in_ok-push.ensures.recorded was,
          λ N.
              expressed-IsMaking L O G good f P c.sugar_of.result bound last c.in_ok-division.ensures.value (sym c.remainder.ensures ∙ c.is_zero.ensures.zero.0 c.if-not-is_zero.false) all with B others N making
              (ap (λ n. term n origin) (c.neg.ensures ∙ ap F.neg c.one.ensures)) (λ own. (own, refl)),
        );
      };
    }
