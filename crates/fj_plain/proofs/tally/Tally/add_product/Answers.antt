use Rattle.std.proofs.Common.{◌≤◌, ◌∙◌, ap, sym, arith, length}
use Rattle.std.specs.FinMap.{from_entries}
use Rattle.std.proofs.lemmas.List.{drop_all}
use Rattle.fj_coeff.specs.PrimeField.{prime_field}
use Rattle.fj_coeff.specs.PrimeFieldLaws.{IsField-prime_field}
use Rattle.fj_theory.specs.Polynomial.{sum, product}
use Rattle.fj_theory.specs.Plain.{polynomial}
use Rattle.fj_theory.proofs.PolynomialRing.{sum_empty}
use Rattle.fj_theory.proofs.Plain.{IsPolynomial-polynomial}
use Rattle.fj_theory.proofs.PlainProduct.{product-nothing, product_more}
use Rattle.fj_plain.specs.Terms.{entry}
use Rattle.fj_plain.proofs.tally.Tally.add_product.Goals as goal

pub loop-i-preserved : goal.loop-i-preserved
loop-i-preserved c =
    let Q = IsPolynomial-polynomial c.requires.prime c.args.g.now c.requires.second in
    let more = product_more c.requires.prime Q c.args.f.now c.requires.first c.loop-i.i (entry c.get.result.now) c.get.ensures
    c.loop-i.self c.add_multiple.new.self _ c.loop-i.invariant.over c.loop-i.invariant.whole c.in_ok-add_multiple.ensures in
    record { over = more.0; whole = more.1 }

pub returns : goal.returns
returns c =
    let F = prime_field c.args.p in
    let Q = IsPolynomial-polynomial c.requires.prime c.args.g.now c.requires.second in
    let short : length c.args.f.now.terms ≤ c.loop-i.i = omega (arith, c.len-i-end.ensures) in
    let none = ap (λ ts. product F (from_entries ts) (polynomial c.args.g.now)) (drop_all c.loop-i.i c.args.f.now.terms short) ∙ product-nothing c.requires.prime Q in
    sym (ap (sum F c.loop-i.self) none ∙ sum_empty (IsField-prime_field c.args.p c.requires.prime) c.loop-i.invariant.over) ∙ c.loop-i.invariant.whole
