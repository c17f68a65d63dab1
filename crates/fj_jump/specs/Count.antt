-- At how many exponents a search asks for both limits.
use Rattle.std.specs.Prelude.{ℕ, ◌+◌, ◌*◌, ◌^◌, ◌<◌, ◌≤◌, List, length}
use Rattle.fj_theory.specs.Candidates.{AreCandidates}
use Rattle.fj_theory.specs.Fraction.{Fraction}

-- n has k binary digits: k is the least number with n below 2^k.
pub record HasBinaryDigits (n k : ℕ) : Type 0 where
  pub below : n < 2 ^ k
  pub least : (j : ℕ) → n < 2 ^ j → k ≤ j

-- The count rises by at most 1 + rows*k, k being the number of binary digits of the length of C_E.
abbrev pub RisesByFew : ℕ → ℕ → ℕ → ℕ → ℕ → Type 0
RisesByFew p E rows before after =
    (candidates : List Fraction) → AreCandidates p E candidates → (k : ℕ) → HasBinaryDigits (length candidates) k → after ≤ before + (1 + rows * k)

-- The count doesn't fall, and rises by at most the length of C_E.
pub record RisesWithinLength (p E before after : ℕ) : Type 0 where
  pub not_below : before ≤ after
  pub at_most : (candidates : List Fraction) → AreCandidates p E candidates → after ≤ before + length candidates

-- Among n exponents, of which n is below 2^k, the count rises by at most rows*k.
abbrev pub RisesByFewAmong : ℕ → ℕ → ℕ → ℕ → Type 0
RisesByFewAmong n rows before after = (k : ℕ) → n < 2 ^ k → after ≤ before + rows * k
