-- Polynomials of a list with a term of a total degree above 2^40.
use Rattle.std.proofs.Common.{◌≡◌, ℕ, zero, suc, ◌<◌, List, [], ◌∷◌, length, get_or, Any, Contains, sym, subst, refl, arith}
use Rattle.std.proofs.lemmas.Option.{get_or_from_slice_get, slice_get-get_or}
use Rattle.fj_theory.specs.Polynomial.{Polynomial}
use Rattle.fj_poly.specs.Limit.{IsHigh}
use Rattle.fj_ideal.specs.Lists.{AreLow}

pub low_from : (L : List Polynomial) → (Any IsHigh L → ⊥) → AreLow L
low_from L none k d h high = none (k, get_or L k d, h, get_or_from_slice_get L k (get_or L k d) (get_or L k d) (slice_get-get_or L k d h), high)

pub single_high : (h : Polynomial) → Any IsHigh (h ∷ []) → IsHigh h
single_high h (zero, x, within, is, high) = subst IsHigh (sym is) high
single_high h (suc k, x, within, is, high) = absurd (omega arith)

pub Contains-single : {X : Type 0} (x : X) → Contains (x ∷ []) x
Contains-single x = (zero, omega arith, refl)

pub Contains-of_single : {X : Type 0} (xs : List X) (k : ℕ) (x : X) → k < length xs → x ≡ get_or xs k x → (y : X) → Contains (x ∷ []) y → Contains xs y
Contains-of_single xs k x within is y (zero, below, same) = subst (Contains xs) same (k, within, sym is)
Contains-of_single xs k x within is y (suc n, below, same) = absurd (omega arith)
