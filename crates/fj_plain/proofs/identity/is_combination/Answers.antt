use Rattle.std.proofs.Common.{◌≡◌, ◌≤◌, List, length, map, subst, sym, ap, ◌∙◌, arith}
use Rattle.std.proofs.lemmas.List.{length-map}
use Rattle.fj_coeff.specs.PrimeField.{prime_field}
use Rattle.fj_coeff.specs.PrimeFieldLaws.{IsField-prime_field}
use Rattle.fj_theory.specs.Ideal.{list_combination}
use Rattle.fj_theory.specs.Polynomial.{Polynomial, IsPolynomial, sum, negation}
use Rattle.fj_theory.specs.Plain.{polynomial, HasRanksBelow}
use Rattle.fj_theory.proofs.Polynomial.{IsPolynomial-empty}
use Rattle.fj_theory.proofs.Plain.{IsPolynomial-polynomial}
use Rattle.fj_theory.proofs.PlainProduct.{sum-nothing}
use Rattle.fj_theory.proofs.Certificate.{IsPolynomial-list, IsPolynomial-combination, combination_more, combination_all, equal_from_difference, difference_of_equal, slice_get_map}
use Rattle.fj_plain.proofs.Each.{All_at}
use Rattle.fj_plain.proofs.identity.is_combination.Goals as goal

pub loop-i-init : goal.loop-i-init
loop-i-init c =
    let F = prime_field c.args.p in
    let L = IsField-prime_field c.args.p c.requires.prime in
    let C = IsPolynomial-combination L (map polynomial c.args.row.now) (map polynomial c.args.sources.now)
    (IsPolynomial-list c.requires.prime c.args.row.now c.requires.row) (IsPolynomial-list c.requires.prime c.args.sources.now c.requires.sources) in
    record {
      over = subst (IsPolynomial F) (sym c.new-difference.ensures) (IsPolynomial-empty F);
      whole = ap (λ f. sum F f (list_combination F (map polynomial c.args.row.now) (map polynomial c.args.sources.now))) c.new-difference.ensures ∙ sum-nothing c.requires.prime C;
    }

pub add_product-requires-clause-first : goal.add_product-requires-clause-first
add_product-requires-clause-first c = All_at (HasRanksBelow c.args.p) c.args.row.now c.loop-i.i c.get.result.now c.get.ensures c.requires.row

pub add_product-requires-clause-second : goal.add_product-requires-clause-second
add_product-requires-clause-second c = All_at (HasRanksBelow c.args.p) c.args.sources.now c.loop-i.i c.get-in-loop-i.result.now c.get-in-loop-i.ensures c.requires.sources

pub loop-i-preserved : goal.loop-i-preserved
loop-i-preserved c =
    let L = IsField-prime_field c.args.p c.requires.prime in
    let more = combination_more L (map polynomial c.args.row.now) (map polynomial c.args.sources.now)
    (IsPolynomial-list c.requires.prime c.args.row.now c.requires.row) (IsPolynomial-list c.requires.prime c.args.sources.now c.requires.sources)
    c.loop-i.i (polynomial c.get.result.now) (polynomial c.get-in-loop-i.result.now)
    (slice_get_map polynomial c.args.row.now c.loop-i.i c.get.result.now c.get.ensures)
    (slice_get_map polynomial c.args.sources.now c.loop-i.i c.get-in-loop-i.result.now c.get-in-loop-i.ensures)
    c.loop-i.difference c.add_product.new.self _ c.loop-i.invariant.over c.loop-i.invariant.whole c.in_ok-add_product.ensures in
    record { over = more.0; whole = more.1 }

pub returns : goal.returns
returns c =
    let F = prime_field c.args.p in
    let L = IsField-prime_field c.args.p c.requires.prime in
    let fs : List Polynomial = map polynomial c.args.row.now in
    let gs : List Polynomial = map polynomial c.args.sources.now in
    let P = IsPolynomial-polynomial c.requires.prime c.args.f.now c.requires.target in
    let C = IsPolynomial-combination L fs gs (IsPolynomial-list c.requires.prime c.args.row.now c.requires.row) (IsPolynomial-list c.requires.prime c.args.sources.now c.requires.sources) in
    let short : length fs ≤ c.loop-i.i = let e = length-map c.args.row.now polynomial in omega (arith, c.len-i-end.ensures) in
    let whole = combination_all L fs gs c.loop-i.i short c.loop-i.difference _ c.loop-i.invariant.over c.loop-i.invariant.whole in
    let last : c.subtract.new.self ≡ sum F (list_combination F fs gs) (negation F (polynomial c.args.f.now)) = c.in_ok-subtract.ensures ∙ ap (λ h. sum F h (negation F (polynomial c.args.f.now))) whole in
    let fitting : length c.args.row.now ≡ length c.args.sources.now = sym c.len.ensures ∙ c.if-len.false ∙ c.len-2.ensures in (
      λ yes. record { fitting = fitting; identity = equal_from_difference L P C (sym last ∙ c.is_zero.ensures.0 yes) },
      λ R. c.is_zero.ensures.1 (last ∙ difference_of_equal L P R.identity),
    )
