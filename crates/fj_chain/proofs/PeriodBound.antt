-- A chain without a repeat has fewer periods than 64 bits count.
use Rattle.std.proofs.Common.{◌≡◌, ◌⊎◌, inl, inr, ℕ, ◌+◌, ◌<◌, ◌≤◌, Bool, true, false, true≢false, cond, List, [], ◌∷◌, ◌++◌, slice_index, nat_lt, filter, length, All, sym, ap, ◌∙◌, subst, refl, arith}
use Rattle.std.specs.List.{list_any}
use Rattle.std.proofs.lemmas.List.Elements.{All-contains, All-weaker}
use Rattle.std.proofs.lemmas.Cmp.{nat_list_cmp_total, eq_by_cmp_equiv}
use Rattle.std.proofs.lemmas.Map.Made.{All-is_member}
use Rattle.std.proofs.lemmas.List.Folds.{Any-from_list_any}
use Rattle.fj_coeff.specs.Field.{Field, IsField}
use Rattle.fj_algebra.specs.StrictSteps.{monomial_count}
use Rattle.fj_theory.specs.Exponents.{origin}
use Rattle.fj_theory.specs.PointIdeal.{UsesFirst}
use Rattle.fj_theory.specs.Polynomial.{Polynomial, IsPolynomial, coefficient, support, term}
use Rattle.fj_theory.proofs.FormalSum.{same}
use Rattle.fj_theory.proofs.Polynomial.{support_found}
use Rattle.fj_testideal.specs.BoundedIdeal.{Variables, number_of, occurs_in}
use Rattle.fj_testideal.proofs.BinomialBound.{monomial_count-fits}
use Rattle.fj_chain.specs.Admissible.{IsAdmissible}
use Rattle.fj_chain.specs.Lists.{PeriodsLeadTo}
use Rattle.fj_chain.proofs.Chains.{falling_few, rising_few}

-- Of a list with 7 at the end, which isn't in the set, at most the others are in it.
without_seven : (vars : Variables) → vars 7 ≡ false → (xs : List ℕ) → length (filter vars (xs ++ 7 ∷ [])) ≤ length xs
without_seven vars out [] = let none : length {A = ℕ} (cond (vars 7) (7 ∷ []) []) ≡ 0 = ap (λ t. length {A = ℕ} (cond t (7 ∷ []) [])) out in omega (arith, none)
without_seven vars out (x ∷ xs) = go (vars x) (without_seven vars out xs)
  where
    go : (t : Bool) → length (filter vars (xs ++ 7 ∷ [])) ≤ length xs → length (cond t (x ∷ filter vars (xs ++ 7 ∷ [])) (filter vars (xs ++ 7 ∷ []))) ≤ length (x ∷ xs)
    go true h = omega (arith, h)
    go false h = omega (arith, h)

number_of-seven : (vars : Variables) → vars 7 ≡ false → number_of vars ≤ 7
unfolding number_of
number_of-seven vars out = without_seven vars out (0 ∷ 1 ∷ 2 ∷ 3 ∷ 4 ∷ 5 ∷ 6 ∷ [])

module _ {F : Field} {f : Polynomial} (A : IsPolynomial F f) where
  support_positive : All (λ a. 0 < coefficient f a) (support f)
  support_positive =
      All-weaker (λ a. list_any (same a) (support f) ≡ true) (λ a. 0 < coefficient f a) (λ a h. A.nonzero a (coefficient f a) (support_found f a h)) (support f)
      (All-is_member (eq_by_cmp_equiv nat_list_cmp_total) (support f))

  eighth_missing : UsesFirst 7 f → occurs_in f 7 ≡ false
  unfolding occurs_in
  eighth_missing uses = go (list_any (λ a. nat_lt 0 (slice_index a 7)) (support f)) refl
    where
      zeros : All (λ a. slice_index a 7 ≡ 0) (support f)
      zeros = All-weaker (λ a. 0 < coefficient f a) (λ a. slice_index a 7 ≡ 0) (λ a positive. uses.later a positive 7 (omega arith)) (support f) support_positive

      go : (t : Bool) → list_any (λ a. nat_lt 0 (slice_index a 7)) (support f) ≡ t → t ≡ false
      go false e = refl
      go true e =
          let found = Any-from_list_any (λ a. nat_lt 0 (slice_index a 7)) (support f) e in
          let zero_here : slice_index found.1 7 ≡ 0 = All-contains (λ a. slice_index a 7 ≡ 0) (support f) found.1 zeros (found.0, found.2, found.3) in
          absurd (true≢false (sym found.4 ∙ ap (nat_lt 0) zero_here))

  -- So a chain without a repeat has less than 2^64 - 1 periods.
  pub few_periods_from : IsField F → IsAdmissible f → (period : List ℕ) → All (λ d. d < F.characteristic) period → (h : Polynomial) → (h ≡ f) ⊎ (h ≡ term 1 origin) → (k : ℕ) (N : List Polynomial)
      → PeriodsLeadTo F f period (h ∷ []) k N → k + 1 < 18446744073709551616
  few_periods_from L admissible period below h is k N lead =
      let fits : monomial_count (number_of (occurs_in f)) admissible.total + 1 < 18446744073709551616 = monomial_count-fits (number_of (occurs_in f)) admissible.total (number_of-seven (occurs_in f) (eighth_missing admissible.seven)) admissible.bounded in
      elim is [
        | inl e ↦ let few = rising_few L A period admissible.has_degree below k N (subst (λ g. PeriodsLeadTo F f period (g ∷ []) k N) e lead) in omega (arith, few, fits)
        | inr e ↦ let few = falling_few L A period admissible.has_degree below k N (subst (λ g. PeriodsLeadTo F f period (g ∷ []) k N) e lead) in omega (arith, few, fits)
      ]
