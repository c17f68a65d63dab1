use Rattle.std.proofs.Common.{◌≡◌, ◌<◌, ap, sym, ◌∙◌, arith}
use Rattle.std.proofs.lemmas.Bool.{eqb-true, eqb-false}
use Rattle.fj_theory.specs.Exponents.{origin}
use Rattle.fj_theory.specs.Polynomial.{product, term}
use Rattle.fj_theory.proofs.Exponents.{IsExponents-origin, total_origin}
use Rattle.fj_theory.proofs.Polynomial.{IsPolynomial-term, IsPolynomial-empty}
use Rattle.fj_theory.proofs.PolynomialRing.{product_comm, product_empty}
use Rattle.fj_theory.proofs.Degree.{degree-product, degree-term, empty_from_degree}
use Rattle.fj_poly.proofs.Polynomials.{term-zero}
use Rattle.fj_poly.proofs.Limits.{low_degree, degree_within}
use Rattle.fj_poly.proofs.poly.Poly.scale.Goals as goal

pub returns-in_default-clause-value : goal.returns-in_default-clause-value
returns-in_default-clause-value g c =
    let T = IsPolynomial-term (g.K.Coeff.rank c.args.c) (g.met.K.Coeff.rank_below c.args.c) IsExponents-origin in
    let none = empty_from_degree g.met.K.Coeff.lawful c.degree.ensures.polynomial (sym c.degree.ensures.value ∙ c.in_default.is) in
    c.zero.ensures ∙ sym (ap (product g.K.Coeff.field (term (g.K.Coeff.rank c.args.c) origin)) none ∙ product_empty g.met.K.Coeff.lawful T)

pub returns-then-eq-clause-value : goal.returns-then-eq-clause-value
returns-then-eq-clause-value g c =
    let none : g.K.Coeff.rank c.args.c ≡ 0 = eqb-true _ _ (sym (g.met.K.Coeff.eq_is_rank c.args.c c.zero-2.result) ∙ sym c.eq.ensures ∙ c.if-eq.true) ∙ c.zero-2.ensures in
    rw none (c.zero-then-eq.ensures ∙ sym (ap (λ h. product g.K.Coeff.field h c.args.self.now) (term-zero origin)
    ∙ product_comm g.met.K.Coeff.lawful (IsPolynomial-empty g.K.Coeff.field) c.degree.ensures.polynomial ∙ product_empty g.met.K.Coeff.lawful c.degree.ensures.polynomial))

pub times_term-requires-clause-within : goal.times_term-requires-clause-within
times_term-requires-clause-within g c =
    let T = IsPolynomial-term (g.K.Coeff.rank c.args.c) (g.met.K.Coeff.rank_below c.args.c) IsExponents-origin in
    let differs = eqb-false _ _ (sym (g.met.K.Coeff.eq_is_rank c.args.c c.zero-2.result) ∙ sym c.eq.ensures ∙ c.if-eq.false) in
    let positive : 0 < g.K.Coeff.rank c.args.c = omega (arith, c.zero-2.ensures) in
    let degree_is = sym c.in-Some.ensures.value in
    let within = degree_within c.args.self.now degree_is c.degree.ensures.limit in
    rw c.one.ensures
    (low_degree _ (degree-product g.met.K.Coeff.lawful T c.degree.ensures.polynomial (degree-term g.K.Coeff.field _ positive (g.met.K.Coeff.rank_below c.args.c) IsExponents-origin) degree_is)
    (rw total_origin (omega arith)))
