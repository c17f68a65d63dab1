use Rattle.std.proofs.Common.{◌≡◌, ◌<◌, ◌^◌, ℕ, List, All, IfOk, ap, subst, sym}
use Rattle.fj_coeff.specs.PrimeField.{prime_field}
use Rattle.fj_coeff.specs.PrimeFieldLaws.{IsField-prime_field}
use Rattle.fj_theory.specs.Polynomial.{IsPolynomial, product}
use Rattle.fj_theory.specs.Plain.{polynomial, rising_terms}
use Rattle.fj_theory.proofs.Polynomial.{IsPolynomial-empty}
use Rattle.fj_theory.proofs.Product.{IsPolynomial-product}
use Rattle.fj_theory.proofs.Plain.{IsPolynomial-polynomial, plain_product_fits}
use Rattle.fj_theory.proofs.PlainProduct.{sum_from_nothing}
use Rattle.fj_plain.specs.Terms.{entries}
use Rattle.fj_plain.proofs.arithmetic.plain_product.Goals as goal

pub add_product-requires-clause-over : goal.add_product-requires-clause-over
add_product-requires-clause-over c = subst (IsPolynomial (prime_field c.args.p)) (sym c.new-sum.ensures) (IsPolynomial-empty (prime_field c.args.p))

pub terms-requires : goal.terms-requires
terms-requires c =
    let L = IsField-prime_field c.args.p c.requires.prime in
    let P = IsPolynomial-polynomial c.requires.prime c.args.a.now c.requires.first in
    let Q = IsPolynomial-polynomial c.requires.prime c.args.b.now c.requires.second in
    let whole : c.add_product.new.self ≡ product (prime_field c.args.p) (polynomial c.args.a.now) (polynomial c.args.b.now) = sum_from_nothing c.requires.prime (IsPolynomial-product L P Q) c.new-sum.ensures c.in_ok-add_product.ensures in
    subst (λ f. All (λ t. All (λ k. k < 2 ^ 64) t.0) (rising_terms f)) (sym whole) (plain_product_fits c.args.p c.args.a.now c.args.b.now)

pub returns : goal.returns
returns c =
    let L = IsField-prime_field c.args.p c.requires.prime in
    let P = IsPolynomial-polynomial c.requires.prime c.args.a.now c.requires.first in
    let Q = IsPolynomial-polynomial c.requires.prime c.args.b.now c.requires.second in
    let whole : c.add_product.new.self ≡ product (prime_field c.args.p) (polynomial c.args.a.now) (polynomial c.args.b.now) = sum_from_nothing c.requires.prime (IsPolynomial-product L P Q) c.new-sum.ensures c.in_ok-add_product.ensures in
    subst (λ (us : List (List ℕ × ℕ)). IfOk c.terms.result (λ v. entries v.items ≡ us)) (ap rising_terms whole) c.terms.ensures
