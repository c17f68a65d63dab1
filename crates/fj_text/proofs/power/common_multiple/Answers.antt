use Rattle.std.proofs.Common.{sym, ◌∙◌, arith}
use Rattle.fj_theory.specs.MonomialOrder.{grevlex_key}
use Rattle.fj_theory.specs.Polynomial.{terms_falling}
use Rattle.fj_text.proofs.Divisors.{multiple-more, within_list}
use Rattle.fj_text.proofs.power.common_multiple.Goals as goal

pub terms-preserved : goal.terms-preserved
terms-preserved g c =
    multiple-more (terms_falling grevlex_key c.args.f.now) c.terms.multiple.exponents c.terms.i (c.at-m.result.1.exponents, g.K.Coeff.rank c.at-m.result.0) c.in-Ok.next.exponents
    (c.terms.multiple.eight ∙ sym c.at-m.result.1.eight) c.terms.invariant c.at-m.ensures.term c.in-Ok.ensures.value

pub returns : goal.returns
returns g c i t own = c.terms.invariant i t (omega (arith, within_list (terms_falling grevlex_key c.args.f.now) i t own, c.terms-test.false, c.len-i-end.ensures.terms)) own
