use Rattle.std.proofs.Common.{◌≡◌, ◌<◌, ◌^◌, ℕ, List, All, IfOk, ap, subst, sym, ◌∙◌}
use Rattle.fj_coeff.specs.PrimeField.{prime_field}
use Rattle.fj_theory.specs.Polynomial.{IsPolynomial, sum}
use Rattle.fj_theory.specs.Plain.{polynomial, rising_terms}
use Rattle.fj_theory.proofs.Polynomial.{IsPolynomial-empty}
use Rattle.fj_theory.proofs.Plain.{IsPolynomial-polynomial, plain_sum_fits}
use Rattle.fj_theory.proofs.PlainProduct.{sum_from_nothing}
use Rattle.fj_plain.specs.Terms.{entries}
use Rattle.fj_plain.proofs.arithmetic.plain_sum.Goals as goal

pub add-requires-clause-over : goal.add-requires-clause-over
add-requires-clause-over c = subst (IsPolynomial (prime_field c.args.p)) (sym c.new-sum.ensures) (IsPolynomial-empty (prime_field c.args.p))

pub add-requires-2-clause-over : goal.add-requires-2-clause-over
add-requires-2-clause-over c =
    let P = IsPolynomial-polynomial c.requires.prime c.args.a.now c.requires.first in
    let first : c.add.new.self ≡ polynomial c.args.a.now = sum_from_nothing c.requires.prime P c.new-sum.ensures c.in_ok-add.ensures in
    subst (IsPolynomial (prime_field c.args.p)) (sym first) P

pub terms-requires : goal.terms-requires
terms-requires c =
    let P = IsPolynomial-polynomial c.requires.prime c.args.a.now c.requires.first in
    let first : c.add.new.self ≡ polynomial c.args.a.now = sum_from_nothing c.requires.prime P c.new-sum.ensures c.in_ok-add.ensures in
    let whole = c.in_ok-add-2.ensures ∙ ap (λ f. sum (prime_field c.args.p) f (polynomial c.args.b.now)) first in
    subst (λ f. All (λ t. All (λ k. k < 2 ^ 64) t.0) (rising_terms f)) (sym whole) (plain_sum_fits c.args.p c.args.a.now c.args.b.now)

pub returns : goal.returns
returns c =
    let P = IsPolynomial-polynomial c.requires.prime c.args.a.now c.requires.first in
    let first : c.add.new.self ≡ polynomial c.args.a.now = sum_from_nothing c.requires.prime P c.new-sum.ensures c.in_ok-add.ensures in
    let whole = c.in_ok-add-2.ensures ∙ ap (λ f. sum (prime_field c.args.p) f (polynomial c.args.b.now)) first in
    subst (λ (us : List (List ℕ × ℕ)). IfOk c.terms.result (λ v. entries v.items ≡ us)) (ap rising_terms whole) c.terms.ensures
