-- The generated sessions: for each n from 1 to 1,000 a session of n polynomials x^A + y^B, each with two questions.
use Rattle.std.specs.Prelude.{ℕ, ◌+◌, ◌%◌, ◌/◌, List, ◌++◌, [], ◌∷◌, slice_index, codes, decimal}
use Rattle.std.specs.List.{flat_map, range_with_len}

-- The primes of the sessions.
unfoldable pub session_primes : List ℕ
session_primes = 2 ∷ 3 ∷ 5 ∷ 7 ∷ 11 ∷ 13 ∷ []

-- The prime of the n-th session: these primes take turns, counted from 0.
abbrev pub prime_for : ℕ → ℕ
prime_for n = slice_index session_primes (n % 6)

-- The exponents A of x and B of y in the i-th polynomial.
abbrev pub x_exponent : ℕ → ℕ
x_exponent i = 2 + i % 4

abbrev pub y_exponent : ℕ → ℕ
y_exponent i = 2 + (i / 4) % 4

-- The numerator of the exponent M/p of the i-th test ideal.
abbrev pub numerator_at : ℕ → ℕ → ℕ
numerator_at p i = 1 + i % p

-- The name of the i-th polynomial: `f1`, `f2`, ..
abbrev pub name_at : ℕ → List ℕ
name_at i = codes "f" ++ decimal i

-- `ring p x, y`
abbrev pub ring_line : ℕ → List ℕ
ring_line p = codes "ring " ++ decimal p ++ codes " x, y\n"

-- `poly fi = x^A+y^B`
abbrev pub poly_line : ℕ → List ℕ
poly_line i = codes "poly " ++ name_at i ++ codes " = x^" ++ decimal (x_exponent i) ++ codes "+y^" ++ decimal (y_exponent i) ++ codes "\n"

-- `ask jumps fi 1`
abbrev pub jumps_line : ℕ → List ℕ
jumps_line i = codes "ask jumps " ++ name_at i ++ codes " 1\n"

-- `ask test fi M/p`
abbrev pub test_line : ℕ → ℕ → List ℕ
test_line p i = codes "ask test " ++ name_at i ++ codes " " ++ decimal (numerator_at p i) ++ codes "/" ++ decimal p ++ codes "\n"

-- The three lines of the i-th polynomial.
unfoldable pub lines_at : ℕ → ℕ → List ℕ
lines_at p i = poly_line i ++ jumps_line i ++ test_line p i

-- The ring, and the lines of the polynomials from the first to the n-th.
unfoldable pub generated : ℕ → List ℕ
generated n = ring_line (prime_for n) ++ flat_map (lines_at (prime_for n)) (range_with_len 1 n)
