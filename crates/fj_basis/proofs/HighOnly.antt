-- Refusals that come only where a condition holds.
use Rattle.std.proofs.Common.{◌≡◌, Result, Err, sym, subst}
use Rattle.fj_poly.specs.declared.fault.PolyFault.{PolyFault}
use Rattle.fj_poly.specs.declared.fault.PolyFault.TheVariants.{High, Memory}
use Rattle.fj_poly.specs.Limit.{IsHighWhere}
use Rattle.fj_basis.specs.Outcome.{IsHighOnlyWhere}

from_where : (T U : Type 0) (P Q : Type 0) (e : PolyFault) → (P → Q) → IsHighWhere {T = T} P (Err e) → IsHighOnlyWhere {T = U} Q (Err e)
from_where T U P Q High f h = f h
from_where T U P Q Memory f h = tt

-- A fault that is handed on, of a call that is high exactly where its condition holds.
pub handed_only : (T U : Type 0) (P Q : Type 0) (r : Result U PolyFault) (d e : PolyFault) → r ≡ Err d → d ≡ e → (P → Q) → IsHighWhere {T = T} P (Err e) → IsHighOnlyWhere {T = U} Q r
handed_only T U P Q r d e is same f h =
    subst (IsHighOnlyWhere {T = U} Q) (sym is) (from_where T U P Q d f (subst (λ (x : PolyFault). IsHighWhere {T = T} P (Err x)) (sym same) h))

from_only : (T U : Type 0) (P Q : Type 0) (e : PolyFault) → (P → Q) → IsHighOnlyWhere {T = T} P (Err e) → IsHighOnlyWhere {T = U} Q (Err e)
from_only T U P Q High f h = f h
from_only T U P Q Memory f h = tt

-- The same of a call that is high only where its condition holds.
pub only_only : (T U : Type 0) (P Q : Type 0) (r : Result U PolyFault) (d e : PolyFault) → r ≡ Err d → d ≡ e → (P → Q) → IsHighOnlyWhere {T = T} P (Err e) → IsHighOnlyWhere {T = U} Q r
only_only T U P Q r d e is same f h =
    subst (IsHighOnlyWhere {T = U} Q) (sym is) (from_only T U P Q d f (subst (λ (x : PolyFault). IsHighOnlyWhere {T = T} P (Err x)) (sym same) h))
