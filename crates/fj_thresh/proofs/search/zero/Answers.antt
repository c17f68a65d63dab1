use Rattle.std.proofs.Common.{◌≡◌, ℕ, Err, refl, ap, arith}
use Rattle.fj_ratio.specs.Lowest.{IsTooWide}
use Rattle.fj_ratio.specs.declared.ratio.RatioFault.{RatioFault}
use Rattle.fj_ratio.specs.declared.ratio.RatioFault.TheVariants.{Zero, TooWide}
use Rattle.fj_ratio.proofs.LowestTerms.{not_too_wide}
use Rattle.fj_thresh.specs.Ends.{zero_fraction}
use Rattle.fj_thresh.proofs.ThresholdGaps.{zero_lowest, zero_only}
use Rattle.fj_thresh.proofs.search.zero.Goals as goal

-- 0/1 is a fraction.
no_fault : (fault : RatioFault) → (fault ≡ Zero → ◌≡◌ {A = ℕ} 1 0) → (fault ≡ TooWide → IsTooWide 0 1) → ⊥
no_fault Zero none wide = let e = none refl in omega (arith, e)
no_fault TooWide none wide = not_too_wide 0 1 zero_fraction zero_lowest (omega arith) (omega arith) (wide refl)

pub unreachable-requires : goal.unreachable-requires
unreachable-requires c = no_fault c.in_default.field-0 (λ e. c.in_default.ensures.zero.0 (ap Err e)) (λ e. c.in_default.ensures.wide.0 (ap Err e))

pub returns : goal.returns
returns c = zero_only c.in-Ok.zero c.in-Ok.ensures.value
