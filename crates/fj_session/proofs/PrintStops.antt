-- Stops of the run for a printing order.
use Rattle.std.proofs.Common.{◌≡◌, ◌≢◌, ◌∙◌, ℕ, List, Result}
use Rattle.fj_coeff.specs.Field.{Field}
use Rattle.fj_theory.specs.Polynomial.{Polynomial}
use Rattle.fj_groebner.specs.Run.{TooHigh, Unfinished}
use Rattle.fj_plain.specs.declared.order_name.OrderName.{OrderName}
use Rattle.fj_plain.specs.declared.order_name.OrderName.TheVariants.{Grevlex}
use Rattle.fj_basis.specs.Outcome.{IsStopWhere}
use Rattle.fj_basis.specs.declared.stop.Stop.{Stop}
use Rattle.fj_ideal.specs.Lists.{NoProduct, RunFor}
use Rattle.fj_ideal.specs.Stop.{key_of}
use Rattle.fj_ideal.proofs.Stops.{only_from_exactly, only_of_more, run_exactly}
use Rattle.fj_session.specs.Outcome.{PrintStops}

module _ (F : Field) (budget : ℕ) (L : List Polynomial) {order printing : OrderName} (is : order ≡ printing) (other : order ≢ Grevlex) where
  pub print_stops : {T : Type 0} (r : Result T Stop) → IsStopWhere F (Unfinished F (key_of order) L budget) (TooHigh F (key_of order) L budget) order (key_of order) L r → PrintStops F printing L budget r
  print_stops r h =
      only_of_more F budget (RunFor order (λ M. M ≡ L)) (RunFor printing (λ M. (printing ≢ Grevlex) × (M ≡ L))) NoProduct NoProduct (λ o M e. (e.0 ∙ is, ((λ p. other (is ∙ p)), e.1))) (λ M none. none) r
      (only_from_exactly F budget (RunFor order (λ M. M ≡ L)) NoProduct r (run_exactly F budget order L r h))
