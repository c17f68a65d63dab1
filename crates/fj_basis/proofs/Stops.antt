-- Faults of a run and of its finishing, handed on.
use Rattle.std.proofs.Common.{◌≡◌, ℕ, List, Result, Err, sym, ap, ◌∙◌, subst}
use Rattle.fj_coeff.specs.Field.{Field}
use Rattle.fj_theory.specs.Polynomial.{Polynomial}
use Rattle.fj_plain.specs.declared.order_name.OrderName.{OrderName}
use Rattle.fj_poly.specs.declared.fault.PolyFault.{PolyFault}
use Rattle.fj_poly.specs.declared.fault.PolyFault.TheVariants as product
use Rattle.fj_basis.specs.declared.buchberger.RunFault.{RunFault}
use Rattle.fj_basis.specs.declared.buchberger.RunFault.TheVariants as run
use Rattle.fj_basis.specs.declared.stop.Stop.{Stop}
use Rattle.fj_basis.specs.Outcome.{IsFaultOnlyWhere, IsHighOnlyWhere, IsStopOf, IsStopWhere, run_fault}

from_product : (T U P X Q : Type 0) (e : PolyFault) → (P → Q) → IsHighOnlyWhere {T = T} P (Err e) → IsFaultOnlyWhere {T = U} X Q (Err (run_fault e))
from_product T U P X Q product.High f h = f h
from_product T U P X Q product.Memory f h = tt

-- A refused product comes on as the fault of a run.
pub product_handed : (T U P X Q : Type 0) (r : Result U RunFault) (d : RunFault) (e : PolyFault) → r ≡ Err d → d ≡ run_fault e → (P → Q) → IsHighOnlyWhere {T = T} P (Err e)
    → IsFaultOnlyWhere {T = U} X Q r
product_handed T U P X Q r d e is same f h =
    subst (IsFaultOnlyWhere {T = U} X Q) (sym (is ∙ ap (λ (x : RunFault). Err x) same)) (from_product T U P X Q e f h)

-- Of want of memory nothing is said.
pub memory_handed : (U X Q : Type 0) (r : Result U RunFault) (d : RunFault) → r ≡ Err d → d ≡ run.Memory → IsFaultOnlyWhere {T = U} X Q r
memory_handed U X Q r d is same = subst (IsFaultOnlyWhere {T = U} X Q) (sym (is ∙ ap (λ (x : RunFault). Err x) same)) tt

only : (T U X Q : Type 0) (e : RunFault) → IsFaultOnlyWhere {T = T} X Q (Err e) → IsFaultOnlyWhere {T = U} X Q (Err e)
only T U X Q run.Pairs h = h
only T U X Q run.High h = h
only T U X Q run.Memory h = tt

-- A fault of the run comes on as it is.
pub fault_handed : (T U X Q : Type 0) (r : Result U RunFault) (d e : RunFault) → r ≡ Err d → d ≡ e → IsFaultOnlyWhere {T = T} X Q (Err e) → IsFaultOnlyWhere {T = U} X Q r
fault_handed T U X Q r d e is same h = subst (IsFaultOnlyWhere {T = U} X Q) (sym (is ∙ ap (λ (x : RunFault). Err x) same)) (only T U X Q e h)

-- A fault is told as the stop that comes exactly where one of two conditions holds that exclude each other.
pub stop_told : (T U X Q : Type 0) (F : Field) (order : OrderName) (key : List ℕ → List ℕ) (L : List Polynomial) (fault : RunFault) (stop : Stop) → (X → Q → ⊥) → IsFaultOnlyWhere {T = T} X Q (Err fault)
    → IsStopOf F order key L fault stop → IsStopWhere {T = U} F X Q order key L (Err stop)
stop_told T U X Q F order key L run.Pairs stop apart f told = subst (λ (s : Stop). IsStopWhere {T = U} F X Q order key L (Err s)) (sym told.1) (f, λ q. apart f q, told.2)
stop_told T U X Q F order key L run.High stop apart f told = subst (λ (s : Stop). IsStopWhere {T = U} F X Q order key L (Err s)) (sym told.1) (f, λ x. apart x f, told.2)
stop_told T U X Q F order key L run.Memory stop apart f told = subst (λ (s : Stop). IsStopWhere {T = U} F X Q order key L (Err s)) (sym told) tt
