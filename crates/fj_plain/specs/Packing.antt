-- Eight exponents packed into one number.
use Rattle.std.specs.Prelude.{ℕ, zero, suc, ◌/◌, ◌%◌, ◌^◌, List, [], ◌∷◌, ◌++◌, map}

-- The digits of a number in base 2^16, one more than the count, the most significant first, which alone may be 2^16 or
-- more.
unfoldable pub digits_from : ℕ → ℕ → List ℕ
digits_from zero n = n ∷ []
digits_from (suc count) n = digits_from count (n / 2 ^ 16) ++ (n % 2 ^ 16) ∷ []

-- The exponents that are packed in a number: its eight digits in base 2^16.
abbrev pub unpacked : ℕ → List ℕ
unpacked n = digits_from 7 n

-- Entries at packed exponents, with the exponents unpacked.
abbrev pub unpacked_entries : List (ℕ × ℕ) → List (List ℕ × ℕ)
unpacked_entries es = map (λ e. (unpacked e.0, e.1)) es
