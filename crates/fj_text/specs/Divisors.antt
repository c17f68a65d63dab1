-- The divisors of a monomial.
use Rattle.std.specs.Prelude.{ℕ, suc, ◌*◌, List, [], ◌∷◌}

-- How many monomials divide the one with these exponents: the product of the exponents, each raised by 1.
unfoldable pub divisor_count : List ℕ → ℕ
divisor_count [] = 1
divisor_count (x ∷ a) = suc x * divisor_count a
