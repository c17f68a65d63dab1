use Rattle.std.proofs.Common.{◌≡◌, ℕ, ◌+◌, ◌-◌, ◌/◌, List, get_or, true≢false, sym, ◌∙◌, subst, arith}
use Rattle.fj_theory.proofs.Field.{characteristic_large}
use Rattle.fj_theory.specs.Candidates.{IsCandidate}
use Rattle.fj_theory.specs.Fraction.{Fraction}
use Rattle.fj_testideal.proofs.Threshold.{test_ideal_inside}
use Rattle.fj_testideal.proofs.ThresholdGap.{low_from_test_ideal}
use Rattle.fj_thresh.specs.Ends.{IsInside, IsOutside}
use Rattle.fj_thresh.proofs.ThresholdGaps.{at_place, candidate_bounds, come_inside, end_candidate, end_inside, ends_some, first_outside}
use Rattle.fj_thresh.proofs.ThresholdStops.{test_stop}
use Rattle.fj_thresh.proofs.search.gap_inside.Goals as goal
use Rattle.fj_thresh.proofs.search.gap_inside.Goals.{then-branch, else-branch}

pub loop-inside-init : goal.loop-inside-init
loop-inside-init g c =
    let L = g.met.K.Coeff.lawful in
    let A = c.is_zero.ensures.polynomial in
    let P = c.given.ensures.ideal.polynomials in
    let N = c.in_ok-ends.ensures in
    let more = ends_some L A P c.args.e N c.requires.positive in
    let count = c.len-inside.ensures in
    record {
      apart = omega (arith, more, count);
      short = omega (arith, more, count);
      out = λ d. first_outside L A P c.args.e N c.requires.within.proper d;
      within = λ d. end_inside L A P c.args.e N c.requires.positive c.requires.within.member (c.len-inside.result - 1) d (omega (arith, more, count));
    }

pub reduced_test_ideal-requires-clause-at_most : goal.reduced_test_ideal-requires-clause-at_most
reduced_test_ideal-requires-clause-at_most g c =
    let F = g.K.Coeff.field in
    let L = g.met.K.Coeff.lawful in
    let large = characteristic_large L in
    let more = c.loop-inside-test.true in
    let below = c.loop-inside.invariant.short in
    let m : ℕ = c.loop-inside.outside + (c.loop-inside.inside - c.loop-inside.outside) / 2 in
    let t = c.index.result.now in
    (candidate_bounds F.characteristic c.args.e t (omega (arith, large))
    (subst (IsCandidate F.characteristic c.args.e) (sym c.index.ensures) (end_candidate c.in_ok-ends.ensures m t (omega (arith, more)) (omega (arith, more, below))))).1

pub returns-in_err-ideal-clause-stop : goal.returns-in_err-ideal-clause-stop
returns-in_err-ideal-clause-stop g c =
    let F = g.K.Coeff.field in
    let f = c.args.f.now in
    let J = c.args.j.now.given in
    let more = c.loop-inside-test.true in
    let below = c.loop-inside.invariant.short in
    let m : ℕ = c.loop-inside.outside + (c.loop-inside.inside - c.loop-inside.outside) / 2 in
    let t = c.index.result.now in
    let candidate = subst (IsCandidate F.characteristic c.args.e) (sym c.index.ensures) (end_candidate c.in_ok-ends.ensures m t (omega (arith, more)) (omega (arith, more, below))) in
    test_stop F c.args.e f J c.args.pairs c.requires.within t candidate c.in_err-ideal.field-0.0 c.from_residual-in_err-ideal.result c.from_residual-in_err-ideal.ensures.1 c.in_err-ideal.ensures.stop

pub loop-inside-preserved : goal.loop-inside-preserved
loop-inside-preserved g c =
    let F = g.K.Coeff.field in
    let L = g.met.K.Coeff.lawful in
    let A = c.is_zero.ensures.polynomial in
    let P = c.given.ensures.ideal.polynomials in
    let f = c.args.f.now in
    let J = c.args.j.now.given in
    let ends : List Fraction = c.in_ok-ends.ends.items in
    let more = c.loop-inside-test.true in
    let inv = c.loop-inside.invariant in
    let below = inv.short in
    let m : ℕ = c.loop-inside.outside + (c.loop-inside.inside - c.loop-inside.outside) / 2 in
    let t = c.index.result.now in
    let at : (d : Fraction) → get_or ends m d ≡ t = λ d. at_place ends m d t (omega (arith, more, below)) c.index.ensures in
    let K = c.in_ok-ideal.ensures.value in
    let test = c.in_ok-is_inside.ensures in
    elim c.if-branch.branch [
      | then-branch w ↦
          let outer = w.outside-is in
          let inner = w.inside-is in
          record {
            apart = omega (arith, outer, inner, more);
            short = omega (arith, inner, more, below);
            out = λ d. subst (λ k. IsOutside F f J (get_or ends k d)) (sym outer) (inv.out d);
            within = λ d. subst (λ k. IsInside F f J (get_or ends k d)) (sym inner) (subst (IsInside F f J) (sym (at d)) ((test_ideal_inside L A P t K).0 (test.0 w.if-branch.true)));
          }
      | else-branch w ↦
          let outer = w.outside-is in
          let inner = w.inside-is in
          record {
            apart = omega (arith, outer, inner, more);
            short = omega (arith, inner, below);
            out = λ d. subst (λ k. IsOutside F f J (get_or ends k d)) (sym outer)
                (subst (IsOutside F f J) (sym (at d)) (low_from_test_ideal L A P t K (λ i. true≢false (sym (test.1 i) ∙ w.if-branch.false))));
            within = λ d. subst (λ k. IsInside F f J (get_or ends k d)) (sym inner) (inv.within d);
          }
    ]

pub returns-clause-gap : goal.returns-clause-gap
returns-clause-gap g c =
    let L = g.met.K.Coeff.lawful in
    let A = c.is_zero.ensures.polynomial in
    let P = c.given.ensures.ideal.polynomials in
    let inv = c.loop-inside.invariant in
    let apart = inv.apart in
    let near = c.loop-inside-test.false in
    come_inside L A P c.args.e c.in_ok-ends.ensures c.loop-inside.outside c.loop-inside.inside c.index-2.result.now c.index-3.result.now (omega (arith, apart, near)) inv.short
    (sym c.index-2.ensures) (sym c.index-3.ensures) inv.out inv.within
