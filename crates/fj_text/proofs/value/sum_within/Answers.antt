use Rattle.std.proofs.Common.{sym, ap, ◌∙◌}
use Rattle.fj_theory.specs.Polynomial.{sum}
use Rattle.fj_theory.proofs.Keys.{grevlex_key-IsMonomialOrder}
use Rattle.fj_text.specs.Expression.{within}
use Rattle.fj_text.proofs.Values.{single_term}
use Rattle.fj_text.proofs.value.sum_within.Goals as goal

pub returns : goal.returns
returns g c =
    let one = single_term g.met.K.Coeff.lawful grevlex_key-IsMonomialOrder c.len.ensures.polynomial (sym c.len.ensures.count ∙ c.if-len-ne1.false) (c.at-c.result.1.exponents, g.K.Coeff.rank c.at-c.result.0) c.at-c.ensures.term in
    c.within-2.ensures ∙ ap within (c.in_ok-add_term.ensures.value ∙ ap (sum g.K.Coeff.field c.args.f) (sym one))
