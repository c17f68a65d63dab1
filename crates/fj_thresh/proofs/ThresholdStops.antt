-- Why a search for a threshold stops.
use Rattle.std.proofs.Common.{◌≡◌, inl, inr, ℕ, List, Result}
use Rattle.std.specs.Result.{IsErrAnd}
use Rattle.fj_coeff.specs.Field.{Field}
use Rattle.fj_theory.specs.Candidates.{IsCandidate}
use Rattle.fj_theory.specs.Fraction.{Fraction}
use Rattle.fj_theory.specs.Polynomial.{Polynomial}
use Rattle.fj_plain.specs.declared.order_name.OrderName.TheVariants.{Grevlex}
use Rattle.fj_basis.specs.declared.stop.Stop.{Stop}
use Rattle.fj_ideal.specs.Lists.{RunFor}
use Rattle.fj_ideal.specs.Stop.{IsCauseOf, IsWritten, StopsOnlyWith}
use Rattle.fj_ideal.proofs.Stops.{only_handed_on}
use Rattle.fj_chain.specs.Lists.{IsHighInLeft, IsHighInTest, IsLeftList, IsTestList}
use Rattle.fj_thresh.specs.Answer.{IsProperWith}
use Rattle.fj_thresh.specs.Lists.{IsHighInThreshold, IsThresholdList}

module _ (F : Field) (E : ℕ) (f : Polynomial) (J : List Polynomial) (budget : ℕ) (within : IsProperWith F J f) (t : Fraction) (candidate : IsCandidate F.characteristic E t) where
  -- The test ideal at a candidate stops.
  pub test_stop : {T : Type 0} (s : Stop) (r : Result T Stop) → IsErrAnd r (λ y. y ≡ s) → IsCauseOf F (RunFor Grevlex (IsTestList F f t)) (IsHighInTest F f t) budget s × IsWritten F s
      → StopsOnlyWith F (RunFor Grevlex (IsThresholdList F E f J)) (IsHighInThreshold F E f J) budget r
  test_stop s r is cause =
      only_handed_on F budget (RunFor Grevlex (IsTestList F f t)) (RunFor Grevlex (IsThresholdList F E f J)) (IsHighInTest F f t) (IsHighInThreshold F E f J)
      (λ o N e. (e.0, record { within = within; at = t; candidate = candidate; list = inl e.1 })) (λ N e. record { within = within; at = t; candidate = candidate; high = inl e })
      s r is cause

  -- The left limit at a candidate stops.
  pub left_stop : {T : Type 0} (s : Stop) (r : Result T Stop) → IsErrAnd r (λ y. y ≡ s) → IsCauseOf F (RunFor Grevlex (IsLeftList F f t)) (IsHighInLeft F f t) budget s × IsWritten F s
      → StopsOnlyWith F (RunFor Grevlex (IsThresholdList F E f J)) (IsHighInThreshold F E f J) budget r
  left_stop s r is cause =
      only_handed_on F budget (RunFor Grevlex (IsLeftList F f t)) (RunFor Grevlex (IsThresholdList F E f J)) (IsHighInLeft F f t) (IsHighInThreshold F E f J)
      (λ o N e. (e.0, record { within = within; at = t; candidate = candidate; list = inr e.1 })) (λ N e. record { within = within; at = t; candidate = candidate; high = inr e })
      s r is cause
