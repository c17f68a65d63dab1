-- The value of a variable at a point is the coordinate there.
use Rattle.std.proofs.Common.{◌≡◌, ℕ, zero, suc, ◌<◌, List, [], ◌∷◌, get_or, set, replicate, All, ap, ap₂, ◌∙◌, arith}
use Rattle.std.proofs.lemmas.List.Elements.{All-head, All-tail}
use Rattle.fj_coeff.specs.Field as field
use Rattle.fj_coeff.specs.Field.{Field, IsField}
use Rattle.fj_theory.specs.Evaluation.{IsPoint, monomial_value, value}
use Rattle.fj_theory.specs.Exponents.{origin}
use Rattle.fj_theory.specs.PointIdeal.{variable_exponents}
use Rattle.fj_theory.specs.Polynomial.{term}
use Rattle.fj_theory.proofs.Evaluation.{monomial_value-zeros, value-term}
use Rattle.fj_theory.proofs.Field.{one_below, zero_below}
use Rattle.fj_theory.proofs.Variables.{IsExponents-variable}

module _ {F : Field} (L : IsField F) where
  coordinate_below : (point : List ℕ) → All (λ x. x < F.size) point → (i : ℕ) → get_or point i 0 < F.size
  coordinate_below [] all i = zero_below L
  coordinate_below (x ∷ point) all zero = All-head (λ x. x < F.size) x point all
  coordinate_below (x ∷ point) all (suc i) = coordinate_below point (All-tail (λ x. x < F.size) x point all) i

  one_times : (c : ℕ) → c < F.size → F.mul 1 c ≡ c
  one_times c h = L.mul_comm 1 c (one_below L) h ∙ L.mul_one c h

  monomial_value-variable : (m i : ℕ) (point : List ℕ) → i < m → All (λ x. x < F.size) point → monomial_value F (set (replicate m 0) i 1) point ≡ get_or point i 0
  unfolding monomial_value field.power
  monomial_value-variable zero i point h all = absurd (omega arith)
  monomial_value-variable (suc m) zero [] h all = ap₂ F.mul (L.mul_one 0 (zero_below L)) (monomial_value-zeros L m []) ∙ L.mul_one 0 (zero_below L)
  monomial_value-variable (suc m) zero (x ∷ point) h all =
      let b = All-head (λ x. x < F.size) x point all in
      ap₂ F.mul (L.mul_one x b) (monomial_value-zeros L m point) ∙ L.mul_one x b
  monomial_value-variable (suc m) (suc i) [] h all = ap (F.mul 1) (monomial_value-variable m i [] (omega arith) all) ∙ one_times 0 (zero_below L)
  monomial_value-variable (suc m) (suc i) (x ∷ point) h all =
      let rest = All-tail (λ x. x < F.size) x point all in
      ap (F.mul 1) (monomial_value-variable m i point (omega arith) rest) ∙ one_times _ (coordinate_below point rest i)

  pub value-variable : {point : List ℕ} → IsPoint F point → (i : ℕ) → i < 8 → value F (term 1 (variable_exponents i)) point ≡ get_or point i 0
  unfolding variable_exponents origin
  value-variable {point} at i h =
      value-term L at 1 (one_below L) (IsExponents-variable i) ∙ ap (F.mul 1) (monomial_value-variable 8 i point h at.below) ∙ one_times (get_or point i 0) (coordinate_below point at.below i)
