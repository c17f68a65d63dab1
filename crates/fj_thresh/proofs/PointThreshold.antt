-- The threshold at a point is that at its ideal.
use Rattle.std.proofs.Common.{◌≡◌, inl, inr, ℕ, ◌≤◌, List, Result, Err, ◌∙◌}
use Rattle.std.specs.Result.{IsErrAnd}
use Rattle.fj_coeff.specs.Field.{Field, IsField}
use Rattle.fj_theory.specs.Evaluation.{IsPoint, value}
use Rattle.fj_theory.specs.PointIdeal.{UsesFirst, point_ideal}
use Rattle.fj_theory.specs.Polynomial.{Polynomial, IsPolynomial}
use Rattle.fj_theory.proofs.PointIdeal.{Member-point_ideal, point_ideal-IsProper}
use Rattle.fj_plain.specs.declared.order_name.OrderName.TheVariants.{Grevlex}
use Rattle.fj_basis.specs.declared.stop.Stop.{Stop}
use Rattle.fj_ideal.specs.Ideal.{WithBasis}
use Rattle.fj_ideal.specs.Lists.{NoProduct, RunFor}
use Rattle.fj_ideal.specs.Stop.{StopsExactlyWith, StopsOnlyWith}
use Rattle.fj_ideal.proofs.Stops.{only_from_exactly, only_handed_on, only_of_more}
use Rattle.fj_thresh.specs.Answer.{IsPointAnswer, IsProperWith, IsThresholdAnswer}
use Rattle.fj_thresh.specs.Lists.{IsHighInPointThreshold, IsHighInThreshold, IsPointThresholdList, IsThresholdList}
use Rattle.fj_thresh.specs.declared.types.Threshold.{Threshold}
use Rattle.fj_thresh.specs.declared.types.Threshold.TheVariants.{At, Between, NotIn, Unit, Off}

-- Where f is zero at the point, it is in the ideal of the point, which is proper.
pub within_point : {F : Field} (L : IsField F) {f : Polynomial} → IsPolynomial F f → {point : List ℕ} → IsPoint F point → (n : ℕ) → n ≤ 8 → UsesFirst n f → value F f point ≡ 0
    → IsProperWith F (point_ideal F n point) f
within_point L A at n small first zero = record { proper = point_ideal-IsProper L at n small; member = (Member-point_ideal L at n small A first).1 zero }

module _ (F : Field) (E : ℕ) (f : Polynomial) (n : ℕ) (point : List ℕ) (within : IsProperWith F (point_ideal F n point) f) (zero : value F f point ≡ 0) where
  pub point_answer : (t : Threshold) → IsThresholdAnswer F E f (point_ideal F n point) t → IsPointAnswer F E f n point t
  point_answer (At t) h = (zero, h)
  point_answer (Between s t) h = (zero, h)
  point_answer NotIn h = h.1 within.member
  point_answer Unit h = within.proper h
  point_answer Off h = absurd h

module _ (F : Field) (E : ℕ) (f : Polynomial) (n : ℕ) (point : List ℕ) (budget : ℕ) (zero : value F f point ≡ 0) where
  -- The run on the polynomials x_i - c_i stops.
  pub point_stop : (L : List Polynomial) → L ≡ point_ideal F n point → {T : Type 0} (s : Stop) (r : Result T Stop) → IsErrAnd r (λ y. y ≡ s)
      → StopsExactlyWith {T = WithBasis} F (RunFor Grevlex (λ M. M ≡ L)) NoProduct budget (Err s)
      → StopsOnlyWith F (RunFor Grevlex (IsPointThresholdList F E f n point)) (IsHighInPointThreshold F E f n point) budget r
  point_stop L is s r err stops =
      only_handed_on F budget (RunFor Grevlex (λ M. M ≡ L)) (RunFor Grevlex (IsPointThresholdList F E f n point)) NoProduct (IsHighInPointThreshold F E f n point)
      (λ o N e. (e.0, record { zero_there = zero; list = inl (e.1 ∙ is) })) (λ N none. absurd none) s r err (only_from_exactly F budget {T = WithBasis} (RunFor Grevlex (λ M. M ≡ L)) NoProduct (Err s) stops)

  -- The search stops.
  pub search_stop : {T : Type 0} (r : Result T Stop) → StopsOnlyWith F (RunFor Grevlex (IsThresholdList F E f (point_ideal F n point))) (IsHighInThreshold F E f (point_ideal F n point)) budget r
      → StopsOnlyWith F (RunFor Grevlex (IsPointThresholdList F E f n point)) (IsHighInPointThreshold F E f n point) budget r
  search_stop r stops =
      only_of_more F budget (RunFor Grevlex (IsThresholdList F E f (point_ideal F n point))) (RunFor Grevlex (IsPointThresholdList F E f n point)) (IsHighInThreshold F E f (point_ideal F n point)) (IsHighInPointThreshold F E f n point)
      (λ o N e. (e.0, record { zero_there = zero; list = inr e.1 })) (λ N e. record { zero_there = zero; high = e }) r stops
