-- The place of a monomial in a falling list of terms.
use Rattle.std.specs.Prelude.{◌≡◌, ℕ, ◌≤◌, List, Result, Ok, Err, length, take, drop, slice_get, Some, All}
use Rattle.std.specs.Option.{option_map}
use Rattle.std.specs.declared.cmp.Ordering.TheVariants.{Greater}
use Rattle.fj_theory.specs.MonomialOrder.{compare_by}

-- The monomial is that of the term at a place, or the terms before a place are above it and the others below it.
abbrev pub IsPlace : (List ℕ → List ℕ) → List ℕ → List (List ℕ × ℕ) → Result ℕ ℕ → Type 0
IsPlace key m ts (Ok i) = option_map (λ t. t.0) (slice_get ts i) ≡ Some m
IsPlace key m ts (Err i) = (i ≤ length ts) × All (λ t. compare_by key t.0 m ≡ Greater) (take i ts) × All (λ t. compare_by key m t.0 ≡ Greater) (drop i ts)
