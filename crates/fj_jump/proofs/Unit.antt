-- The fraction 0, and the unit ideal, its test ideal.
use Rattle.std.proofs.Common.{◌≡◌, ◌↔◌, ℕ, [], ◌∷◌, Result, Ok, Err, refl, ap₂, inl, inr, arith}
use Rattle.std.proofs.Math.Nat.{one-dvd}
use Rattle.std.specs.Result.{IsErrOf, IsOk}
use Rattle.std.proofs.lemmas.List.Elements.{All-head}
use Rattle.fj_coeff.specs.Field.{Field, IsField}
use Rattle.fj_theory.specs.Exponents.{origin}
use Rattle.fj_theory.specs.Fraction.{Fraction}
use Rattle.fj_theory.specs.Ideal.{Member}
use Rattle.fj_theory.specs.MonomialOrder.{grevlex_key}
use Rattle.fj_theory.specs.Polynomial.{term}
use Rattle.fj_theory.proofs.Divisibility.{lowest_unique}
use Rattle.fj_theory.proofs.Ideal.{Member-elements}
use Rattle.fj_theory.proofs.IdealBridge.{ArePolynomials-single, IsPolynomial-one}
use Rattle.fj_theory.proofs.Keys.{grevlex_key-IsMonomialOrder}
use Rattle.fj_ratio.specs.FractionCode.{same_fraction}
use Rattle.fj_ratio.specs.Lowest.{IsLowestForm, IsTooWide}
use Rattle.fj_ratio.specs.declared.ratio.RatioFault.{RatioFault}
use Rattle.fj_ratio.specs.declared.ratio.RatioFault.TheVariants.{TooWide, Zero}
use Rattle.fj_groebner.specs.ReducedBasis.{IsReducedBasis}
use Rattle.fj_groebner.proofs.ReducedBasis.{IsReducedBasis-one}
use Rattle.fj_jump.specs.Search.{zero_fraction}

-- [1] is the reduced basis of its ideal.
pub unit_reduced : {F : Field} → IsField F → IsReducedBasis F grevlex_key (term 1 origin ∷ []) (term 1 origin ∷ [])
unit_reduced {F} L =
    let A = ArePolynomials-single (IsPolynomial-one L) in
    (IsReducedBasis-one grevlex_key-IsMonomialOrder L A).1 (All-head (Member F (term 1 origin ∷ [])) (term 1 origin) [] (Member-elements L A))

lowest_numbers : (t : Fraction) → IsLowestForm 0 1 t → (t.numerator ≡ 0) × (t.denominator ≡ 1)
lowest_numbers t form = lowest_unique t.numerator t.denominator 0 1 t.positive form.lowest (one-dvd 0, one-dvd 1, λ d p q. q) form.value

-- 0/1 in lowest terms.
pub lowest_zero : (t : Fraction) → IsLowestForm 0 1 t → t ≡ zero_fraction
lowest_zero t form = let numbers = lowest_numbers t form in same_fraction t zero_fraction (ap₂ (λ n d. (n, d)) numbers.0 numbers.1)

zero_narrow : IsTooWide 0 1 → ⊥
zero_narrow w =
    let numbers = lowest_numbers w.form w.lowest in
    elim w.wide [ inl h ↦ omega (arith, h, numbers.1) | inr h ↦ omega (arith, h, numbers.0) ]

pub zero_accepted : (r : Result Fraction RatioFault) → IsErrOf r Zero ↔ (◌≡◌ {A = ℕ} 1 0) → IsErrOf r TooWide ↔ IsTooWide 0 1 → IsOk r
zero_accepted (Ok t) h k = refl
zero_accepted (Err Zero) h k = (let none : ◌≡◌ {A = ℕ} 1 0 = h.0 refl in absurd (omega arith))
zero_accepted (Err TooWide) h k = absurd (zero_narrow (k.0 refl))
