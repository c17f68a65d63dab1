use Rattle.std.proofs.Common.{◌∙◌, ap, ap₂, arith}
use Rattle.std.proofs.lemmas.Result.{on_ok_weaker}
use Rattle.fj_coeff.specs.PrimeField.{prime_field}
use Rattle.fj_coeff.specs.PrimeFieldLaws.{prime_bounds}
use Rattle.fj_theory.specs.Polynomial.{sum, product, power, term}
use Rattle.fj_theory.specs.Plain.{polynomial}
use Rattle.fj_theory.proofs.Plain.{IsPolynomial-polynomial}
use Rattle.fj_theory.proofs.PlainProduct.{one_multiple}
use Rattle.fj_plain.proofs.tally.Tally.add.Goals as goal

pub add_multiple-requires-clause-factor : goal.add_multiple-requires-clause-factor
add_multiple-requires-clause-factor c = let bounds = (prime_bounds c.args.p c.requires.prime).0 in omega (arith, c.constant.ensures.rank)

pub returns : goal.returns
returns c =
    let F = prime_field c.args.p in
    let one = one_multiple c.requires.prime (IsPolynomial-polynomial c.requires.prime c.args.f.now c.requires.below) in
    on_ok_weaker c.add_multiple.result
    (λ e. e ∙ ap (sum F c.args.self.now) (ap₂ (λ k a. product F (term k a) (power F (polynomial c.args.f.now) 1)) c.constant.ensures.rank c.constant.ensures.exps ∙ one)) c.add_multiple.ensures
