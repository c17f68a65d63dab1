use Rattle.std.proofs.Common.{true≢false, sym, ◌∙◌, arith}
use Rattle.fj_theory.proofs.Field.{characteristic_large}
use Rattle.fj_theory.specs.Candidates.{Gap}
use Rattle.fj_thresh.proofs.ThresholdGaps.{candidate_bounds, gap_of_threshold, gap_upper, upper_is_threshold}
use Rattle.fj_thresh.proofs.ThresholdStops.{left_stop}
use Rattle.fj_thresh.proofs.search.proper_threshold.Goals as goal

pub reduced_left_limit-requires-clause-above_zero : goal.reduced_left_limit-requires-clause-above_zero
reduced_left_limit-requires-clause-above_zero g c =
    let large = characteristic_large g.met.K.Coeff.lawful in
    (candidate_bounds g.K.Coeff.field.characteristic c.args.e c.in_ok-lower.upper (omega (arith, large)) (gap_upper c.in_ok-lower.ensures.gap)).0

pub reduced_left_limit-requires-clause-at_most : goal.reduced_left_limit-requires-clause-at_most
reduced_left_limit-requires-clause-at_most g c =
    let large = characteristic_large g.met.K.Coeff.lawful in
    (candidate_bounds g.K.Coeff.field.characteristic c.args.e c.in_ok-lower.upper (omega (arith, large)) (gap_upper c.in_ok-lower.ensures.gap)).1

pub returns-in_err-left-clause-stop : goal.returns-in_err-left-clause-stop
returns-in_err-left-clause-stop g c =
    left_stop g.K.Coeff.field c.args.e c.args.f.now c.args.j.now.given c.args.pairs c.requires.within c.in_ok-lower.upper (gap_upper c.in_ok-lower.ensures.gap)
    c.in_err-left.field-0.0 c.from_residual-in_err-left.result c.from_residual-in_err-left.ensures.1 c.in_err-left.ensures.stop

pub returns-then-branch-clause-value : goal.returns-then-branch-clause-value
returns-then-branch-clause-value g c =
    let gap : Gap = record { lower = c.in_ok-lower.lower; upper = c.in_ok-lower.upper } in
    (c.requires.within, gap_of_threshold g.met.K.Coeff.lawful c.is_zero.ensures.polynomial c.given.ensures.ideal.polynomials c.args.e gap c.in_ok-lower.ensures.gap c.in_ok-left.ensures.value (c.in_ok-is_inside.ensures.0 c.if-branch.true))

pub returns-clause-value : goal.returns-clause-value
returns-clause-value g c =
    let gap : Gap = record { lower = c.in_ok-lower.lower; upper = c.in_ok-lower.upper } in (
      c.requires.within,
      gap_upper c.in_ok-lower.ensures.gap,
      upper_is_threshold g.met.K.Coeff.lawful c.is_zero.ensures.polynomial c.given.ensures.ideal.polynomials c.args.e gap c.in_ok-lower.ensures.gap c.in_ok-left.ensures.value
          (λ i. true≢false (sym (c.in_ok-is_inside.ensures.1 i) ∙ c.if-branch.false)),
    )
