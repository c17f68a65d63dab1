-- Steps one after another, and why one of them stops.
use Rattle.std.proofs.Common.{◌≡◌, ℕ, ◌+◌, ◌-◌, ◌≤◌, List, [], ◌∷◌, ◌++◌, length, take, get_or, Result, sym, ap, ◌∙◌, append_assoc, arith}
use Rattle.std.specs.Result.{IsErrAnd}
use Rattle.std.proofs.lemmas.List.{take_all, take_more}
use Rattle.fj_coeff.specs.Field.{Field}
use Rattle.fj_theory.specs.Polynomial.{Polynomial}
use Rattle.fj_plain.specs.declared.order_name.OrderName.TheVariants.{Grevlex}
use Rattle.fj_basis.specs.declared.stop.Stop.{Stop}
use Rattle.fj_ideal.specs.Ideal.{IsIdeal, WithBasis}
use Rattle.fj_ideal.specs.Lists.{RunFor}
use Rattle.fj_ideal.specs.Reduced.{IsReduced, WithMembers}
use Rattle.fj_ideal.specs.Stop.{IsCauseOf, IsWritten, StopsOnlyWith}
use Rattle.fj_ideal.proofs.Stops.{only_handed_on}
use Rattle.fj_frobenius.specs.Lists.{IsHighMultiple, IsStepList}
use Rattle.fj_chain.specs.Lists.{IsHighInStep, IsListOfStep, IsNextList, IsStepFor, LeadTo}

-- A list is all but its last element, and this.
pub without_last : (xs : List ℕ) (d : ℕ) → 1 ≤ length xs → get_or xs (length xs - 1) 0 ≡ d → xs ≡ take (length xs - 1) xs ++ d ∷ []
without_last xs d some at =
    let n = length xs - 1 in
    let whole : n + 1 ≡ length xs = omega arith in
    sym (ap (λ k. take k xs) whole ∙ take_all (length xs) xs (omega arith)) ∙ take_more xs n 0 (omega arith) ∙ ap (λ e. take n xs ++ e ∷ []) at

-- The last digit that is left is used next.
pub used_more : (digits left used : List ℕ) (d : ℕ) → digits ≡ left ++ used → 1 ≤ length left → get_or left (length left - 1) 0 ≡ d → digits ≡ take (length left - 1) left ++ d ∷ used
used_more digits left used d place some at = place ∙ ap (λ xs. xs ++ used) (without_last left d some at) ∙ append_assoc (take (length left - 1) left) (d ∷ []) used

pub this_step : {F : Field} {f : Polynomial} (digits left used : List ℕ) {L : List Polynomial} (d : ℕ) {M : List Polynomial} → digits ≡ left ++ used → 1 ≤ length left → get_or left (length left - 1) 0 ≡ d
    → LeadTo F f used L M → IsStepFor F f digits L d M
this_step digits left used d place some at reached = record { higher = take (length left - 1) left; lower = used; place = used_more digits left used d place some at; reached = reached }

module _ (F : Field) (f : Polynomial) (budget : ℕ) (IsStep : ℕ → List Polynomial → Type 0) (d : ℕ) {J : WithBasis} (I : IsIdeal F J) where
  -- What is a list of a step from the members of an ideal is one from the ideal.
  pub next_list : {N : List Polynomial} → IsStepList F d f J.members N → IsNextList F f d J.given N
  next_list s = record { members = J.members; reduced = I.reduced; holds = s }

module _ (F : Field) (f : Polynomial) (budget : ℕ) (IsStep : ℕ → List Polynomial → Type 0) (d : ℕ) {J : WithMembers} (I : IsReduced F J) where
  -- The same for an ideal that is kept without cofactors.
  pub next_reduced_list : {N : List Polynomial} → IsStepList F d f J.members N → IsNextList F f d J.given N
  next_reduced_list s = record { members = J.members; reduced = I.reduced; holds = s }

  -- A step that stops has its cause among the steps.
  pub step_handed_on : IsStep d J.given → {T : Type 0} (s : Stop) (r : Result T Stop) → IsErrAnd r (λ y. y ≡ s)
      → IsCauseOf F (RunFor Grevlex (IsStepList F d f J.members)) (IsHighMultiple F d f J.members) budget s × IsWritten F s
      → StopsOnlyWith F (RunFor Grevlex (IsListOfStep F f IsStep)) (IsHighInStep F f IsStep) budget r
  step_handed_on here s r is h =
      only_handed_on F budget (RunFor Grevlex (IsStepList F d f J.members)) (RunFor Grevlex (IsListOfStep F f IsStep)) (IsHighMultiple F d f J.members) (IsHighInStep F f IsStep)
      (λ o N e. (e.0, record { digit = d; from = J.given; step = here; next = next_reduced_list e.1 }))
      (λ N e. record { digit = d; from = J.given; step = here; high = record { members = J.members; reduced = I.reduced; holds = e } })
      s r is h
