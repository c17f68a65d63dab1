-- Faults of products that are not high.
use Rattle.std.proofs.Common.{◌≡◌, Result, Ok, Err, sym, subst}
use Rattle.fj_poly.specs.declared.fault.PolyFault.{PolyFault}
use Rattle.fj_poly.specs.declared.fault.PolyFault.TheVariants.{High, Memory}
use Rattle.fj_poly.specs.Limit.{IsHighWhere}

not_high : (T U : Type 0) (P Q : Type 0) (e : PolyFault) → IsHighWhere {T = T} P (Err e) → (P → ⊥) → IsHighWhere {T = U} Q (Err e)
not_high T U P Q High h n = absurd (n h)
not_high T U P Q Memory h n = tt

-- Where no term is high, the fault is want of memory.
pub not_high_at : (T U : Type 0) (P Q : Type 0) (r : Result U PolyFault) (d e : PolyFault) → r ≡ Err d → d ≡ e → IsHighWhere {T = T} P (Err e) → (P → ⊥) → IsHighWhere {T = U} Q r
not_high_at T U P Q r d e is same h n =
    subst (IsHighWhere {T = U} Q) (sym is) (not_high T U P Q d (subst (λ (x : PolyFault). IsHighWhere {T = T} P (Err x)) (sym same) h) n)

-- The condition of a fault may be put otherwise.
pub same_condition : {T P Q : Type 0} (r : Result T PolyFault) → (P → Q) → (Q → P) → IsHighWhere P r → IsHighWhere Q r
same_condition (Ok x) f g h = λ q. h (g q)
same_condition (Err High) f g h = f h
same_condition (Err Memory) f g h = tt

-- A fault that is handed on.
handed : (T U : Type 0) (P Q : Type 0) (e : PolyFault) → (P → Q) → IsHighWhere {T = T} P (Err e) → IsHighWhere {T = U} Q (Err e)
handed T U P Q High f h = f h
handed T U P Q Memory f h = tt

pub handed_on : (T U : Type 0) (P Q : Type 0) (r : Result U PolyFault) (d e : PolyFault) → r ≡ Err d → d ≡ e → (P → Q) → IsHighWhere {T = T} P (Err e) → IsHighWhere {T = U} Q r
handed_on T U P Q r d e is same f h = subst (IsHighWhere {T = U} Q) (sym is) (handed T U P Q d f (subst (λ (x : PolyFault). IsHighWhere {T = T} P (Err x)) (sym same) h))
