use Rattle.std.proofs.Common.{arith, inl, inr, refl}
use Rattle.fj_theory.specs.Fraction.{Fraction}
use Rattle.fj_ratio.specs.Lowest.{IsLowestForm}
use Rattle.fj_ratio.proofs.LowestTerms.{not_too_wide}
use Rattle.fj_ratio.proofs.ratio.Ratio.new.Goals as goal
use Rattle.fj_ratio.proofs.ratio.Ratio.new.Goals.{then-num-from-via-then-num-from, then-num-from-via-else-num-from+then-den-from}

pub returns-then-num-from-clause-wide : goal.returns-then-num-from-clause-wide
returns-then-num-from-clause-wide c =
    let form : Fraction = record { numerator = c.lowest_terms-num.result.0; denominator = c.lowest_terms-num.result.1; positive = c.lowest_terms-num.ensures.positive } in (
      λ _. record {
        divides = omega arith;
        form = form;
        lowest = record { value = c.lowest_terms-num.ensures.value; lowest = c.lowest_terms-num.ensures.lowest };
        wide = elim c.then-num-from.branch [
          | then-num-from-via-then-num-from w ↦ inr (omega (arith, c.from.ensures))
          | then-num-from-via-else-num-from+then-den-from w ↦ inl (omega (arith, w.from-else-num-from.ensures))
        ];
      },
      λ _. refl,
    )

pub returns-clause-wide : goal.returns-clause-wide
returns-clause-wide c =
    let form : Fraction = record { numerator = c.lowest_terms-num.result.0; denominator = c.lowest_terms-num.result.1; positive = c.lowest_terms-num.ensures.positive } in
    let lowest : IsLowestForm c.args.num c.args.den form = record { value = c.lowest_terms-num.ensures.value; lowest = c.lowest_terms-num.ensures.lowest } in
    (λ e. cc, λ w. absurd (not_too_wide _ _ form lowest (omega (arith, c.from.ensures)) (omega (arith, c.from-else-num-from.ensures)) w))
