-- Exponent lists of monomials in eight variables.
use Rattle.std.specs.Prelude.{◌≡◌, ℕ, ◌+◌, ◌*◌, ◌-◌, ◌/◌, ◌%◌, ◌&&◌, Bool, true, false, nat_le, List, [], ◌∷◌, length, map, max, sum}

-- An exponent list: one number for each of the eight variables.
pub record IsExponents (a : List ℕ) : Type 0 where
  pub eight : length a ≡ 8

-- The total degree.
abbrev pub total : List ℕ → ℕ
total a = sum a

-- The exponents of the monomial 1.
unfoldable pub origin : List ℕ
origin = 0 ∷ 0 ∷ 0 ∷ 0 ∷ 0 ∷ 0 ∷ 0 ∷ 0 ∷ []

-- The exponents of a product of two monomials.
unfoldable pub plus : List ℕ → List ℕ → List ℕ
plus [] b = []
plus (x ∷ a) [] = []
plus (x ∷ a) (y ∷ b) = (x + y) ∷ plus a b

-- The exponents of the q-th power of a monomial.
unfoldable pub times : ℕ → List ℕ → List ℕ
times q a = map (λ x. q * x) a

-- Each entry is at most that of the other list: the monomial divides the other.
unfoldable pub divides : List ℕ → List ℕ → Bool
divides [] b = true
divides (x ∷ a) [] = false
divides (x ∷ a) (y ∷ b) = nat_le x y && divides a b

-- The exponents of the quotient of a by b, where b divides a.
unfoldable pub minus : List ℕ → List ℕ → List ℕ
minus [] b = []
minus (x ∷ a) [] = []
minus (x ∷ a) (y ∷ b) = (x - y) ∷ minus a b

-- The exponents of the least common multiple: in each place the greater one.
unfoldable pub least_common_multiple : List ℕ → List ℕ → List ℕ
least_common_multiple [] b = []
least_common_multiple (x ∷ a) [] = []
least_common_multiple (x ∷ a) (y ∷ b) = max x y ∷ least_common_multiple a b

-- The quotient and the residue of a monomial by q-th powers: a = q * quotient + residue, the residue's entries below q.
unfoldable pub quotient_by : ℕ → List ℕ → List ℕ
quotient_by q a = map (λ k. k / q) a

unfoldable pub residue_by : ℕ → List ℕ → List ℕ
residue_by q a = map (λ k. k % q) a
