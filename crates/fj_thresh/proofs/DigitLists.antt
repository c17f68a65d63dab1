-- Why a root of a power by digits stops.
use Rattle.std.proofs.Common.{◌≡◌, inl, inr, ℕ, List, [], ◌∷◌, Result, Err, ◌∙◌}
use Rattle.std.specs.Result.{IsErrAnd}
use Rattle.fj_coeff.specs.Field.{Field}
use Rattle.fj_theory.specs.Exponents.{origin}
use Rattle.fj_theory.specs.Polynomial.{Polynomial, term}
use Rattle.fj_plain.specs.declared.order_name.OrderName.TheVariants.{Grevlex}
use Rattle.fj_basis.specs.declared.stop.Stop.{Stop}
use Rattle.fj_ideal.specs.Lists.{NoProduct, RunFor}
use Rattle.fj_ideal.specs.Reduced.{IsReduced, WithMembers}
use Rattle.fj_ideal.specs.Stop.{IsCauseOf, IsWritten, StopsExactlyWith, StopsOnlyWith}
use Rattle.fj_ideal.proofs.Stops.{only_from_exactly, only_handed_on}
use Rattle.fj_frobenius.specs.Lists.{IsHighMultiple, IsStepList}
use Rattle.fj_chain.specs.Lists.{IsDigitList, IsHighInDigits, IsStepFor}
use Rattle.fj_chain.proofs.StepLists.{next_reduced_list}

module _ (F : Field) (f : Polynomial) (digits : List ℕ) (budget : ℕ) where
  -- The run on [1] stops.
  pub unit_stop : (L : List Polynomial) → L ≡ term 1 origin ∷ [] → {T : Type 0} (s : Stop) (r : Result T Stop) → IsErrAnd r (λ y. y ≡ s)
      → StopsExactlyWith {T = WithMembers} F (RunFor Grevlex (λ M. M ≡ L)) NoProduct budget (Err s)
      → StopsOnlyWith F (RunFor Grevlex (IsDigitList F f digits)) (IsHighInDigits F f digits) budget r
  unit_stop L unit s r is stops =
      only_handed_on F budget (RunFor Grevlex (λ M. M ≡ L)) (RunFor Grevlex (IsDigitList F f digits)) NoProduct (IsHighInDigits F f digits)
      (λ o N e. (e.0, inl (e.1 ∙ unit))) (λ N none. absurd none) s r is (only_from_exactly F budget {T = WithMembers} (RunFor Grevlex (λ M. M ≡ L)) NoProduct (Err s) stops)

  -- A step stops.
  pub digit_stop : {J : WithMembers} → IsReduced F J → (d : ℕ) → IsStepFor F f digits (term 1 origin ∷ []) d J.given → {T : Type 0} (s : Stop) (r : Result T Stop) → IsErrAnd r (λ y. y ≡ s)
      → IsCauseOf F (RunFor Grevlex (IsStepList F d f J.members)) (IsHighMultiple F d f J.members) budget s × IsWritten F s
      → StopsOnlyWith F (RunFor Grevlex (IsDigitList F f digits)) (IsHighInDigits F f digits) budget r
  digit_stop {J} I d here s r is cause =
      only_handed_on F budget (RunFor Grevlex (IsStepList F d f J.members)) (RunFor Grevlex (IsDigitList F f digits)) (IsHighMultiple F d f J.members) (IsHighInDigits F f digits)
      (λ o N e. (e.0, inr (record { digit = d; from = J.given; step = here; next = next_reduced_list F f budget (IsStepFor F f digits (term 1 origin ∷ [])) d I e.1 })))
      (λ N e. record { digit = d; from = J.given; step = here; high = record { members = J.members; reduced = I.reduced; holds = e } })
      s r is cause
