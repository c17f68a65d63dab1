use Rattle.std.proofs.Common.{◌+◌, ◌*◌, drop, ap, ◌∙◌, arith}
use Rattle.fj_theory.specs.Exponents.{times}
use Rattle.fj_text.specs.Divisors.{divisor_count}
use Rattle.fj_text.proofs.Divisors.{divisor_count-more, divisor_count-end}
use Rattle.fj_text.proofs.power.has_few_divisors.Goals as goal

pub variables-preserved : goal.variables-preserved
variables-preserved c =
    let a = c.args.m.now.exponents in
    let k = c.args.k in
    let i = c.variables.i in
    let count = c.variables.count in record {
      value = ap (λ e. count * (e * k + 1) * divisor_count (times k (drop (i + 1) a))) c.exp-exponent.ensures ∙ divisor_count-more k a i count (omega (arith, c.args.m.now.eight, c.variables-test.true))
          ∙ c.variables.invariant.value;
      few = c.if-count-gt1000.false;
    }

pub returns : goal.returns
returns c _ =
    let end = ap (λ n. c.variables.count * n) (divisor_count-end c.args.k c.args.m.now.exponents c.variables.i (omega (arith, c.args.m.now.eight, c.variables-test.false))) in
    omega (arith, end, c.variables.invariant.value, c.variables.invariant.few)
