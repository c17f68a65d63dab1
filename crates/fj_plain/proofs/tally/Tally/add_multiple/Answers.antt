use Rattle.std.proofs.Common.{◌<◌, ◌≤◌, ◌*◌, ◌%◌, ◌∙◌, ap, sym, arith, length}
use Rattle.std.proofs.lemmas.List.{drop_all}
use Rattle.fj_coeff.specs.PrimeField.{prime_field}
use Rattle.fj_coeff.specs.PrimeFieldLaws.{IsField-prime_field, prime_product_fits}
use Rattle.fj_theory.specs.Exponents.{IsExponents, plus, times}
use Rattle.fj_theory.specs.Polynomial.{sum, product, power, term}
use Rattle.fj_theory.specs.Plain.{polynomial}
use Rattle.fj_theory.proofs.PolynomialRing.{sum_empty}
use Rattle.fj_theory.proofs.Plain.{multiple, multiple-nil, multiple_more, rank_below_at}
use Rattle.fj_plain.specs.Terms.{entry}
use Rattle.fj_plain.proofs.tally.Tally.add_multiple.Goals as goal

pub overflow_mul-factor : goal.overflow_mul-factor
overflow_mul-factor c =
    let small : c.get-t.result.now.rank < c.args.p = rank_below_at c.args.f.now c.requires.below c.loop-i.i (entry c.get-t.result.now) c.get-t.ensures in
    let fits = prime_product_fits c.args.p c.args.factor.now.rank c.get-t.result.now.rank c.requires.prime c.requires.factor small in
    omega arith

pub loop-i-preserved : goal.loop-i-preserved
loop-i-preserved c =
    let A : IsExponents c.args.factor.now.exps = record { eight = c.args.factor.now.eight } in
    let rank = c.args.factor.now.rank * c.get-t.result.now.rank % c.args.p in
    let more = multiple_more c.requires.prime c.args.e c.args.factor.now.rank c.requires.factor A c.args.f.now c.requires.below c.loop-i.i (entry c.get-t.result.now) c.get-t.ensures
    c.loop-i.self c.add_term.new.self _ c.loop-i.invariant.over c.loop-i.invariant.whole
    (c.in_ok-add_term.ensures ∙ ap (λ b. sum (prime_field c.args.p) c.loop-i.self (term rank b))
    (c.raised-exps.ensures ∙ ap (λ q. plus c.args.factor.now.exps (times q c.get-t.result.now.exps)) c.requires.power)) in
    record { over = more.0; whole = more.1 }

pub returns : goal.returns
returns c =
    let F = prime_field c.args.p in
    let A : IsExponents c.args.factor.now.exps = record { eight = c.args.factor.now.eight } in
    let short : length c.args.f.now.terms ≤ c.loop-i.i = omega (arith, c.len-i-end.ensures) in
    let rest = multiple c.args.p c.args.e c.args.factor.now.rank c.args.factor.now.exps in
    let none = ap rest (drop_all c.loop-i.i c.args.f.now.terms short) ∙ multiple-nil c.requires.prime c.args.e c.args.factor.now.rank c.requires.factor A in
    sym (ap (sum F c.loop-i.self) none ∙ sum_empty (IsField-prime_field c.args.p c.requires.prime) c.loop-i.invariant.over)
    ∙ c.loop-i.invariant.whole
    ∙ ap (λ q. sum F c.args.self.now (product F (term c.args.factor.now.rank c.args.factor.now.exps) (power F (polynomial c.args.f.now) q))) (sym c.requires.power)
