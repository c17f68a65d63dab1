-- Monomials of degree at most 2^40 in eight variables.
use Rattle.std.specs.Prelude.{◌≡◌, ℕ, ◌≤◌, ◌^◌, List, length, sum, refl}
use Rattle.std.specs.Coded.{Coded, coded_list, coded_ℕ}
use base.Stored.{coded_via}
use mathlib.Core.HLevel.{Σ_prop_path}
use denote.Struct.Props.{props}

-- The exponents of a monomial, eight of them, with a total of at most 2^40.
pub record Monomial : Type 0 where
  pub exponents : List ℕ
  pub eight : length exponents ≡ 8
  pub bounded : sum exponents ≤ 2 ^ 40

-- A monomial is determined by its exponents.
pub same_monomial : (a b : Monomial) → a.exponents ≡ b.exponents → a ≡ b
same_monomial a b e =
    let pairs : ◌≡◌ {A = (xs : List ℕ) × ((length xs ≡ 8) × (sum xs ≤ 2 ^ 40))} (a.exponents, (a.eight, a.bounded)) (b.exponents, (b.eight, b.bounded)) = Σ_prop_path (λ xs. hlevel props) e in
    λ i. record { exponents = (pairs i).0; eight = (pairs i).1.0; bounded = (pairs i).1.1 }

-- A monomial is stored as its exponents.
abbrev pub monomial_code : Coded Monomial
monomial_code = coded_via (coded_list coded_ℕ) (λ (m : Monomial). m.exponents) same_monomial
