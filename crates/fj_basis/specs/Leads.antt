-- The first monomial of a list that divides another, and masks of monomials.
use Rattle.std.specs.Prelude.{◌≡◌, ℕ, ◌+◌, ◌-◌, ◌*◌, ◌^◌, ◌<◌, ◌≤◌, false, List, [], ◌∷◌, length, map, min, slice_index_or, IsTrue, MatchOption, Option}
use Rattle.fj_mono.specs.Monomial.{Monomial}
use Rattle.fj_theory.specs.Exponents.{divides}
use Rattle.fj_theory.specs.Lead.{lead_exponents}
use Rattle.fj_groebner.specs.Division.{Sugared}

-- The exponents of the monomials of a list.
abbrev pub exponents_of : List Monomial → List (List ℕ)
exponents_of ms = map (λ m. m.exponents) ms

-- The exponents of the leads of the members of a list.
abbrev pub lead_list : (List ℕ → List ℕ) → List Sugared → List (List ℕ)
lead_list key G = map (λ g. lead_exponents key g.polynomial) G

-- No member of the list from the one place to before the other divides the monomial.
pub record NoneDivides (es : List (List ℕ)) (from to : ℕ) (a : List ℕ) : Type 0 where
  pub none : (j : ℕ) → from ≤ j → j < to → divides (slice_index_or es j []) a ≡ false

-- The member at the place k, and none from `from` on before it, divides the monomial.
pub record IsFirstFrom (es : List (List ℕ)) (from : ℕ) (a : List ℕ) (k : ℕ) : Type 0 where
  pub after : from ≤ k
  pub place : k < length es
  pub divides : IsTrue (divides (slice_index_or es k []) a)
  pub before : NoneDivides es from k a

-- The least place from `from` on whose monomial divides another, none exactly where there is none.
abbrev pub IsNextDivisor : List (List ℕ) → ℕ → List ℕ → Option ℕ → Type 0
IsNextDivisor es from a o = MatchOption o (NoneDivides es from (length es) a) (IsFirstFrom es from a)

-- How high an exponent is, as that many ones, at most eight.
unfoldable pub height : ℕ → ℕ
height e = 2 ^ min e 8 - 1

-- The heights of the exponents one after the other, behind what stands before.
unfoldable pub mask_after : ℕ → List ℕ → ℕ
mask_after n [] = n
mask_after n (e ∷ es) = mask_after (n * 256 + height e) es
