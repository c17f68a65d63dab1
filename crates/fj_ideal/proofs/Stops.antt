-- Causes of stops: of a run, handed on, and among more lists and products.
use Rattle.std.proofs.Common.{◌≡◌, ℕ, List, Result, Ok, Err, sym, subst, refl}
use Rattle.std.specs.Result.{IsErrAnd}
use Rattle.fj_coeff.specs.Field.{Field}
use Rattle.fj_theory.specs.MonomialOrder.{grevlex_key}
use Rattle.fj_theory.specs.Polynomial.{Polynomial}
use Rattle.fj_groebner.specs.Run.{TooHigh, Unfinished}
use Rattle.fj_plain.specs.declared.lists.Kept.{Kept}
use Rattle.fj_plain.specs.declared.order_name.OrderName.{OrderName}
use Rattle.fj_plain.specs.declared.order_name.OrderName.TheVariants.{Grevlex}
use Rattle.fj_basis.specs.declared.stop.Stop.{Stop}
use Rattle.fj_basis.specs.declared.stop.Stop.TheVariants.{Pairs, High, Product, Memory}
use Rattle.fj_basis.specs.Outcome.{IsKeptOf, IsStopWhere, AreWritten}
use Rattle.fj_ideal.specs.Stop.{IsAnswered, IsCauseOf, IsProductOf, IsWritten, NothingStops, StopsExactlyWith, StopsOnlyWith, kept_list, key_of}
use Rattle.fj_ideal.specs.Lists.{NoList, NoProduct, RunFor}

-- What holds of the list and the order of a run holds of what is kept.
pub kept_as : {F : Field} {order : OrderName} {key : List ℕ → List ℕ} {L : List Polynomial} {k : Kept} (P : OrderName → List Polynomial → Type 0) → IsKeptOf F order key L k → P order L → P k.order (kept_list k)
kept_as {F} {order} {key} {L} {k} P kept h = subst (λ o. P o (kept_list k)) (sym kept.order_is) (subst (P order) (sym kept.list_is) h)

pub kept_written : {F : Field} {order : OrderName} {L : List Polynomial} {k : Kept} → IsKeptOf F order (key_of order) L k → AreWritten F (key_of k.order) k.list
kept_written {F} {order} {L} {k} kept = subst (λ o. AreWritten F (key_of o) k.list) (sym kept.order_is) kept.written

-- The polynomials of a product are kept.
pub product_kept : {F : Field} {L : List Polynomial} {k : Kept} (IsProduct : List Polynomial → Type 0) → IsKeptOf F Grevlex grevlex_key L k → IsProduct L → IsProductOf IsProduct k × AreWritten F (key_of k.order) k.list
product_kept IsProduct kept h = (record { order = kept.order_is; polynomials_are = subst IsProduct (sym kept.list_is) h }, kept_written {order = Grevlex} kept)

module _ (F : Field) (budget : ℕ) where
  -- A run on L stops exactly with L.
  pub run_exactly : {T : Type 0} (order : OrderName) (L : List Polynomial) (r : Result T Stop) → IsStopWhere F (Unfinished F (key_of order) L budget) (TooHigh F (key_of order) L budget) order (key_of order) L r
      → StopsExactlyWith F (RunFor order (λ M. M ≡ L)) NoProduct budget r
  run_exactly order L (Ok x) h = record {
    finished = λ o M is u. h.0 (subst (λ N. Unfinished F (key_of order) N budget) is.1 (subst (λ n. Unfinished F (key_of n) M budget) is.0 u));
    low = λ o M is t. h.1 (subst (λ N. TooHigh F (key_of order) N budget) is.1 (subst (λ n. TooHigh F (key_of n) M budget) is.0 t));
    products = λ M none. none;
  }
  run_exactly order L (Err (Pairs k)) h = (
    record { list = kept_as (λ o M. RunFor order (λ N. N ≡ L) o M) h.2 (refl, refl); unfinished = kept_as (λ o M. Unfinished F (key_of o) M budget) h.2 h.0 },
    kept_written h.2,
    λ o M is t. h.1 (subst (λ N. TooHigh F (key_of order) N budget) is.1 (subst (λ n. TooHigh F (key_of n) M budget) is.0 t)),
    λ M none. none,
  )
  run_exactly order L (Err (High k)) h = (
    record { list = kept_as (λ o M. RunFor order (λ N. N ≡ L) o M) h.2 (refl, refl); high = kept_as (λ o M. TooHigh F (key_of o) M budget) h.2 h.0 },
    kept_written h.2,
    λ o M is u. h.1 (subst (λ N. Unfinished F (key_of order) N budget) is.1 (subst (λ n. Unfinished F (key_of n) M budget) is.0 u)),
    λ M none. none,
  )
  run_exactly order L (Err (Product k)) h = absurd h
  run_exactly order L (Err Memory) h = tt

  -- A call that stops exactly with a cause stops only with one.
  pub only_from_exactly : {T : Type 0} (P : OrderName → List Polynomial → Type 0) (R : List Polynomial → Type 0) (r : Result T Stop) → StopsExactlyWith F P R budget r → StopsOnlyWith F P R budget r
  only_from_exactly P R (Ok x) h = tt
  only_from_exactly P R (Err (Pairs k)) h = (h.0, h.1)
  only_from_exactly P R (Err (High k)) h = (h.0, h.1)
  only_from_exactly P R (Err (Product k)) h = h
  only_from_exactly P R (Err Memory) h = (tt, tt)

  -- Where nothing stops it, a call that stops only with a cause has its answer, or wants memory.
  pub answered_from_nothing : {T : Type 0} (P : OrderName → List Polynomial → Type 0) (R : List Polynomial → Type 0) (r : Result T Stop) → StopsOnlyWith F P R budget r → NothingStops F P R budget → IsAnswered r
  answered_from_nothing P R (Ok x) h none = tt
  answered_from_nothing P R (Err (Pairs k)) h none = none.finished k.order (kept_list k) h.0.list h.0.unfinished
  answered_from_nothing P R (Err (High k)) h none = none.low k.order (kept_list k) h.0.list h.0.high
  answered_from_nothing P R (Err (Product k)) h none = none.products (kept_list k) h.0.polynomials_are
  answered_from_nothing P R (Err Memory) h none = tt

  module _ (P Q : OrderName → List Polynomial → Type 0) (R S : List Polynomial → Type 0) (f : (o : OrderName) (M : List Polynomial) → P o M → Q o M) (g : (M : List Polynomial) → R M → S M) where
    -- A cause among some lists and products is one among more of them.
    pub cause_of_more : (s : Stop) → IsCauseOf F P R budget s → IsCauseOf F Q S budget s
    cause_of_more (Pairs k) h = record { list = f k.order (kept_list k) h.list; unfinished = h.unfinished }
    cause_of_more (High k) h = record { list = f k.order (kept_list k) h.list; high = h.high }
    cause_of_more (Product k) h = record { order = h.order; polynomials_are = g (kept_list k) h.polynomials_are }
    cause_of_more Memory h = tt

    pub only_of_more : {T : Type 0} (r : Result T Stop) → StopsOnlyWith F P R budget r → StopsOnlyWith F Q S budget r
    only_of_more (Ok x) h = tt
    only_of_more (Err s) h = (cause_of_more s h.0, h.1)

    -- The same where a stop is handed on.
    pub only_handed_on : {T : Type 0} (s : Stop) (r : Result T Stop) → IsErrAnd r (λ y. y ≡ s) → IsCauseOf F P R budget s × IsWritten F s → StopsOnlyWith F Q S budget r
    only_handed_on s (Ok x) is h = tt
    only_handed_on s (Err e) is h = subst (λ (y : Stop). IsCauseOf F Q S budget y × IsWritten F y) (sym is) (cause_of_more s h.0, h.1)

    -- The same lists and products.
    pub exactly_as : {T : Type 0} → ((o : OrderName) (M : List Polynomial) → Q o M → P o M) → ((M : List Polynomial) → S M → R M) → (r : Result T Stop) → StopsExactlyWith F P R budget r → StopsExactlyWith F Q S budget r
    exactly_as back less (Ok x) h = record { finished = λ o M q. h.finished o M (back o M q); low = λ o M q. h.low o M (back o M q); products = λ M s. h.products M (less M s) }
    exactly_as back less (Err (Pairs k)) h = (cause_of_more (Pairs k) h.0, h.1, (λ o M q. h.2 o M (back o M q)), λ M s. h.3 M (less M s))
    exactly_as back less (Err (High k)) h = (cause_of_more (High k) h.0, h.1, (λ o M q. h.2 o M (back o M q)), λ M s. h.3 M (less M s))
    exactly_as back less (Err (Product k)) h = (cause_of_more (Product k) h.0, h.1)
    exactly_as back less (Err Memory) h = tt

  -- A list that is made of products or powers, none of them too high, and the run on it: the lists that are told so are this one.
  module _ (order : OrderName) (L : List Polynomial) (P S : List Polynomial → Type 0) (list : P L) where
    pub run_as : {T : Type 0} → ((M : List Polynomial) → P M → M ≡ L) → ((M : List Polynomial) → S M → ⊥) → (r : Result T Stop) → StopsExactlyWith F (RunFor order (λ M. M ≡ L)) NoProduct budget r
        → StopsExactlyWith F (RunFor order P) S budget r
    run_as only low r h =
        exactly_as (RunFor order (λ M. M ≡ L)) (RunFor order P) NoProduct S (λ o M e. (e.0, subst P (sym e.1) list)) (λ M none. absurd none) (λ o M e. (e.0, only M e.1)) low r h

    pub only_as : {T : Type 0} (r : Result T Stop) → StopsOnlyWith F (RunFor order (λ M. M ≡ L)) NoProduct budget r → StopsOnlyWith F (RunFor order P) S budget r
    only_as r h = only_of_more (RunFor order (λ M. M ≡ L)) (RunFor order P) NoProduct S (λ o M e. (e.0, subst P (sym e.1) list)) (λ M none. absurd none) r h

    pub run_only_as : {T : Type 0} (r : Result T Stop) → StopsExactlyWith F (RunFor order (λ M. M ≡ L)) NoProduct budget r → StopsOnlyWith F (RunFor order P) S budget r
    run_only_as r h = only_as r (only_from_exactly (RunFor order (λ M. M ≡ L)) NoProduct r h)

  -- Where products are refused, and no list was run, the call stops so.
  module _ (P : OrderName → List Polynomial → Type 0) (R S : List Polynomial → Type 0) (f : (M : List Polynomial) → R M → S M) where
    refused : (T : Type 0) (s : Stop) → IsCauseOf F NoList R 0 s × IsWritten F s → StopsExactlyWith {T = T} F P S budget (Err s)
    refused T (Pairs k) h = absurd h.0.list
    refused T (High k) h = absurd h.0.list
    refused T (Product k) h = (record { order = h.0.order; polynomials_are = f (kept_list k) h.0.polynomials_are }, h.1)
    refused T Memory h = tt

    pub refused_exactly : {T : Type 0} (s : Stop) (r : Result T Stop) → IsErrAnd r (λ y. y ≡ s) → IsCauseOf F NoList R 0 s × IsWritten F s → StopsExactlyWith F P S budget r
    refused_exactly s (Ok x) is h = absurd is
    refused_exactly {T} s (Err e) is h = subst (λ (y : Stop). StopsExactlyWith {T = T} F P S budget (Err y)) (sym is) (refused T s h)

    pub refused_only : {T : Type 0} (s : Stop) (r : Result T Stop) → IsErrAnd r (λ y. y ≡ s) → IsCauseOf F NoList R 0 s × IsWritten F s → StopsOnlyWith F P S budget r
    refused_only s r is h = only_from_exactly P S r (refused_exactly s r is h)

  -- A stop that is handed on.
  pub exactly_handed_on : (T U : Type 0) (P : OrderName → List Polynomial → Type 0) (R : List Polynomial → Type 0) (s : Stop) (r : Result U Stop) → IsErrAnd r (λ y. y ≡ s) → StopsExactlyWith {T = T} F P R budget (Err s)
      → StopsExactlyWith F P R budget r
  exactly_handed_on T U P R s (Ok x) is h = absurd is
  exactly_handed_on T U P R s (Err e) is h = subst (λ (y : Stop). StopsExactlyWith {T = U} F P R budget (Err y)) (sym is) (on s h)
    where
      on : (y : Stop) → StopsExactlyWith {T = T} F P R budget (Err y) → StopsExactlyWith {T = U} F P R budget (Err y)
      on (Pairs k) h = h
      on (High k) h = h
      on (Product k) h = h
      on Memory h = h
