use Rattle.std.proofs.Common.{◌<◌, ◌∙◌, ap, arith, subst, sym}
use Rattle.std.proofs.lemmas.Result.{on_ok_weaker}
use Rattle.fj_coeff.specs.PrimeFieldLaws.{prime_bounds}
use Rattle.fj_coeff.specs.PrimeField.{prime_field}
use Rattle.fj_theory.specs.Polynomial.{IsPolynomial, sum, term}
use Rattle.fj_plain.specs.Tallied.{rank_at, by_exponents}
use Rattle.fj_plain.proofs.TalliedLemmas.{rank_at_below, tallied-add_rank}
use Rattle.fj_plain.proofs.tally.Tally.add_term.Goals as goal

pub add-requires-clause-fits : goal.add-requires-clause-fits
add-requires-clause-fits c =
    let P = subst (IsPolynomial (prime_field c.args.p)) (sym c.self.view_is) c.requires.over in
    let small : rank_at (by_exponents c.self.inside.ranks) c.args.exps < c.args.p = rank_at_below c.args.p (by_exponents c.self.inside.ranks) c.args.exps c.requires.prime P in
    let bounds = (prime_bounds c.args.p c.requires.prime).1 in
    omega arith

pub returns : goal.returns
returns c =
    let P = subst (IsPolynomial (prime_field c.args.p)) (sym c.self.view_is) c.requires.over in
    on_ok_weaker _ (λ added. tallied-add_rank c.args.p (by_exponents c.self.inside.ranks) (by_exponents c.add.new.self) c.args.exps c.args.rank c.requires.prime P added ∙ ap (λ f. sum (prime_field c.args.p) f (term c.args.rank c.args.exps)) c.self.view_is) c.add.ensures
