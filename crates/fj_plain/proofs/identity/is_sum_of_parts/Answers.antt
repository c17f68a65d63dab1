use Rattle.std.proofs.Common.{◌≡◌, ◌≤◌, List, length, map, subst, sym, ap, ◌∙◌, arith}
use Rattle.std.proofs.lemmas.Bool.{true≢false}
use Rattle.std.proofs.lemmas.List.{length-map}
use Rattle.fj_coeff.specs.PrimeField.{prime_field}
use Rattle.fj_coeff.specs.PrimeFieldLaws.{IsField-prime_field}
use Rattle.fj_theory.specs.Ideal.{list_combination}
use Rattle.fj_theory.specs.Polynomial.{Polynomial, IsPolynomial, sum, product, power, negation}
use Rattle.fj_theory.specs.Plain.{PlainPolynomial, polynomial, HasRanksBelow}
use Rattle.fj_theory.specs.Certificate.{IsResidue}
use Rattle.fj_theory.proofs.Polynomial.{IsPolynomial-empty}
use Rattle.fj_theory.proofs.Plain.{IsPolynomial-polynomial, rank_below_at}
use Rattle.fj_theory.proofs.PlainProduct.{sum-nothing}
use Rattle.fj_theory.proofs.Certificate.{IsPolynomial-list, IsPolynomial-powers, IsPolynomial-combination, combination_more, combination_all, equal_from_difference, difference_of_equal, slice_get_map, residue_term}
use Rattle.fj_plain.specs.Terms.{entry}
use Rattle.fj_plain.proofs.Each.{EachBefore-zero, EachBefore-more, All-from_EachBefore, All_at}
use Rattle.fj_plain.proofs.identity.is_sum_of_parts.Goals as goal

pub loop-i-init : goal.loop-i-init
loop-i-init c =
    let F = prime_field c.args.p in
    let L = IsField-prime_field c.args.p c.requires.prime in
    let fs : List Polynomial = map polynomial c.args.residues.now in
    let gs : List Polynomial = map (λ (g : PlainPolynomial). power F (polynomial g) c.args.q) c.args.parts.now in
    let C = IsPolynomial-combination L fs gs (IsPolynomial-list c.requires.prime c.args.residues.now c.requires.residues) (IsPolynomial-powers c.requires.prime c.args.q c.args.parts.now c.requires.parts) in
    record {
      residues = EachBefore-zero (IsResidue c.args.q) c.args.residues.now;
      over = subst (IsPolynomial F) (sym c.new-difference.ensures) (IsPolynomial-empty F);
      whole = ap (λ f. sum F f (list_combination F fs gs)) c.new-difference.ensures ∙ sum-nothing c.requires.prime C;
    }

pub returns-then-not-is_residue : goal.returns-then-not-is_residue
returns-then-not-is_residue c = (
  λ no. absurd (true≢false (sym no)),
  λ P. sym c.if-not-is_residue.true ∙ c.is_residue.ensures.1 (All_at (IsResidue c.args.q) c.args.residues.now c.loop-i.i c.get-residue.result.now c.get-residue.ensures P.are_residues),
)

pub add_multiple-requires-clause-factor : goal.add_multiple-requires-clause-factor
add_multiple-requires-clause-factor c =
    let below = All_at (HasRanksBelow c.args.p) c.args.residues.now c.loop-i.i c.get-residue.result.now c.get-residue.ensures c.requires.residues in
    rank_below_at c.get-residue.result.now below 0 (entry c.get.result.now) c.get.ensures

pub add_multiple-requires-clause-below : goal.add_multiple-requires-clause-below
add_multiple-requires-clause-below c = All_at (HasRanksBelow c.args.p) c.args.parts.now c.loop-i.i c.get-in-loop-i.result.now c.get-in-loop-i.ensures c.requires.parts

pub loop-i-preserved : goal.loop-i-preserved
loop-i-preserved c =
    let F = prime_field c.args.p in
    let L = IsField-prime_field c.args.p c.requires.prime in
    let residue : IsResidue c.args.q c.get-residue.result.now = c.is_residue.ensures.0 c.if-not-is_residue.false in
    let g : Polynomial = power F (polynomial c.get-in-loop-i.result.now) c.args.q in
    let more = combination_more L (map polynomial c.args.residues.now) (map (λ (h : PlainPolynomial). power F (polynomial h) c.args.q) c.args.parts.now)
    (IsPolynomial-list c.requires.prime c.args.residues.now c.requires.residues) (IsPolynomial-powers c.requires.prime c.args.q c.args.parts.now c.requires.parts)
    c.loop-i.i (polynomial c.get-residue.result.now) g
    (slice_get_map polynomial c.args.residues.now c.loop-i.i c.get-residue.result.now c.get-residue.ensures)
    (slice_get_map (λ (h : PlainPolynomial). power F (polynomial h) c.args.q) c.args.parts.now c.loop-i.i c.get-in-loop-i.result.now c.get-in-loop-i.ensures)
    c.loop-i.difference c.add_multiple.new.self _ c.loop-i.invariant.over c.loop-i.invariant.whole
    (c.in_ok-add_multiple.ensures ∙ ap (λ f. sum F c.loop-i.difference (product F f g)) (residue_term c.args.q c.get-residue.result.now (entry c.get.result.now) residue c.get.ensures)) in
    record {
      residues = EachBefore-more (IsResidue c.args.q) c.args.residues.now c.loop-i.i c.get-residue.result.now c.get-residue.ensures residue c.loop-i.invariant.residues;
      over = more.0;
      whole = more.1;
    }

pub returns : goal.returns
returns c =
    let F = prime_field c.args.p in
    let L = IsField-prime_field c.args.p c.requires.prime in
    let fs : List Polynomial = map polynomial c.args.residues.now in
    let gs : List Polynomial = map (λ (g : PlainPolynomial). power F (polynomial g) c.args.q) c.args.parts.now in
    let P = IsPolynomial-polynomial c.requires.prime c.args.f.now c.requires.target in
    let C = IsPolynomial-combination L fs gs (IsPolynomial-list c.requires.prime c.args.residues.now c.requires.residues) (IsPolynomial-powers c.requires.prime c.args.q c.args.parts.now c.requires.parts) in
    let all_residues : length c.args.residues.now ≤ c.loop-i.i = omega (arith, c.len-i-end.ensures) in
    let short : length fs ≤ c.loop-i.i = let e = length-map c.args.residues.now polynomial in omega arith in
    let whole = combination_all L fs gs c.loop-i.i short c.loop-i.difference _ c.loop-i.invariant.over c.loop-i.invariant.whole in
    let last : c.subtract.new.self ≡ sum F (list_combination F fs gs) (negation F (polynomial c.args.f.now)) = c.in_ok-subtract.ensures ∙ ap (λ h. sum F h (negation F (polynomial c.args.f.now))) whole in
    let fitting : length c.args.residues.now ≡ length c.args.parts.now = sym c.len.ensures ∙ c.if-len.false ∙ c.len-2.ensures in (
      λ yes. record {
        fitting = fitting;
        are_residues = All-from_EachBefore (IsResidue c.args.q) c.args.residues.now c.loop-i.i all_residues c.loop-i.invariant.residues;
        identity = equal_from_difference L P C (sym last ∙ c.is_zero.ensures.0 yes);
      },
      λ R. c.is_zero.ensures.1 (last ∙ difference_of_equal L P R.identity),
    )
