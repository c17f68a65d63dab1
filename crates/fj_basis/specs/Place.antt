-- Pairs as the code keeps them.
use Rattle.std.specs.Prelude.{◌≡◌, ℕ, ◌<◌, List, [], ◌∷◌, ◌++◌, Option, Some, None, MatchOption}
use Rattle.fj_mono.specs.Monomial.{Monomial}
use Rattle.fj_theory.specs.Exponents.{total}
use Rattle.fj_groebner.specs.Division.{degree_limit}
use Rattle.fj_basis.specs.declared.pairs.Pair.{Pair}

-- Where a pair stands among all: the least common multiple decides, where it is not above the limit, then j, then i.
unfoldable pub place_by : (List ℕ → List ℕ) → Option Monomial → List ℕ → List ℕ
place_by key (Some m) rest = 0 ∷ (key m.exponents ++ rest)
place_by key None rest = 1 ∷ rest

unfoldable pub place : {O : Type 0} → (List ℕ → List ℕ) → Pair O → List ℕ
place key p = place_by key p.lcm (p.j ∷ p.i ∷ [])

-- The monomial with these exponents, and none where they are above the limit.
abbrev pub IsWithinLimit : List ℕ → Option Monomial → Type 0
IsWithinLimit a o = MatchOption o (degree_limit < total a) (λ m. m.exponents ≡ a)
