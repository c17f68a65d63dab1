-- Why a limit stops.
use Rattle.std.proofs.Common.{◌≡◌, inl, inr, ℕ, zero, suc, arith, ◌<◌, List, [], ◌∷◌, Result}
use Rattle.std.specs.Result.{IsErrAnd}
use Rattle.fj_coeff.specs.Field.{Field}
use Rattle.fj_theory.specs.Digits.{Expansion}
use Rattle.fj_theory.specs.Fraction.{Fraction}
use Rattle.fj_theory.specs.Polynomial.{Polynomial}
use Rattle.fj_plain.specs.declared.order_name.OrderName.TheVariants.{Grevlex}
use Rattle.fj_basis.specs.declared.stop.Stop.{Stop}
use Rattle.fj_ideal.specs.Reduced.{IsReduced, WithMembers}
use Rattle.fj_ideal.specs.Lists.{RunFor}
use Rattle.fj_ideal.specs.Stop.{IsCauseOf, IsWritten, StopsOnlyWith}
use Rattle.fj_ideal.proofs.Stops.{only_handed_on, only_of_more}
use Rattle.fj_frobenius.specs.Lists.{IsHighMultiple}
use Rattle.fj_chain.specs.Lists.{ChainEndsWith, IsChainList, IsHighInChain, IsHighInLimit, IsHighInStep, IsLastLimitList, IsLimitList, IsListOfStep, IsMultipleList, IsStepFor, IsWholeAndDigits, LimitLeadsTo, first_list, step_list, whole_list, step_product, whole_product}

module _ (F : Field) (f : Polynomial) (t : Fraction) (h : Polynomial) (budget : ℕ) (k : ℕ) (d : Expansion) (w : IsWholeAndDigits F.characteristic t k d) where
  -- The chain of the period stops.
  pub limit_chain_stop : {T : Type 0} (s : Stop) (r : Result T Stop) → IsErrAnd r (λ y. y ≡ s)
      → IsCauseOf F (RunFor Grevlex (IsChainList F f d.period h)) (IsHighInChain F f d.period h) budget s × IsWritten F s
      → StopsOnlyWith F (RunFor Grevlex (IsLimitList F f t h)) (IsHighInLimit F f t h) budget r
  limit_chain_stop s r is cause =
      only_handed_on F budget (RunFor Grevlex (IsChainList F f d.period h)) (RunFor Grevlex (IsLimitList F f t h)) (IsHighInChain F f d.period h) (IsHighInLimit F f t h)
      (λ o N e. (e.0, elim e.1 [ inl e ↦ first_list e | inr l ↦ step_list k d w (record { digit = l.digit; from = l.from; step = inl l.step; next = l.next }) ]))
      (λ N e. step_product k d w (record { digit = e.digit; from = e.from; step = inl e.step; high = e.high }))
      s r is cause

  -- A step for the digits before the period stops.
  pub limit_pre_stop : (J : List Polynomial) → ChainEndsWith F f d.period (h ∷ []) J → {T : Type 0} (s : Stop) (r : Result T Stop) → IsErrAnd r (λ y. y ≡ s)
      → IsCauseOf F (RunFor Grevlex (IsListOfStep F f (IsStepFor F f d.pre J))) (IsHighInStep F f (IsStepFor F f d.pre J)) budget s × IsWritten F s
      → StopsOnlyWith F (RunFor Grevlex (IsLimitList F f t h)) (IsHighInLimit F f t h) budget r
  limit_pre_stop J ends s r is cause =
      only_handed_on F budget (RunFor Grevlex (IsListOfStep F f (IsStepFor F f d.pre J))) (RunFor Grevlex (IsLimitList F f t h)) (IsHighInStep F f (IsStepFor F f d.pre J)) (IsHighInLimit F f t h)
      (λ o N e. (e.0, step_list k d w (record { digit = e.1.digit; from = e.1.from; step = inr (J, ends, e.1.step); next = e.1.next })))
      (λ N e. step_product k d w (record { digit = e.digit; from = e.from; step = inr (J, ends, e.step); high = e.high }))
      s r is cause

  -- The multiples at the end stop.
  pub limit_whole_stop : 0 < k → {J : WithMembers} → IsReduced F J → LimitLeadsTo F f d (h ∷ []) J.given → {T : Type 0} (r : Result T Stop)
      → StopsOnlyWith F (RunFor Grevlex (IsMultipleList F k f J.members)) (IsHighMultiple F k f J.members) budget r
      → StopsOnlyWith F (RunFor Grevlex (IsLimitList F f t h)) (IsHighInLimit F f t h) budget r
  limit_whole_stop some {J} I leads r stops =
      only_of_more F budget (RunFor Grevlex (IsMultipleList F k f J.members)) (RunFor Grevlex (IsLimitList F f t h)) (IsHighMultiple F k f J.members) (IsHighInLimit F f t h)
      (λ o N e. (e.0, whole_list k d w some J.given leads (record { members = J.members; reduced = I.reduced; holds = e.1 })))
      (λ N e. whole_product k d w some J.given leads (record { members = J.members; reduced = I.reduced; holds = e }))
      r stops

-- The list of the multiples at the end is the last one.
pub last_whole : (F : Field) (f : Polynomial) (t : Fraction) (h : Polynomial) (k : ℕ) (d : Expansion) → IsWholeAndDigits F.characteristic t k d → 0 < k → {J : WithMembers} → IsReduced F J → LimitLeadsTo F f d (h ∷ []) J.given
    → (L : List Polynomial) → IsMultipleList F k f J.members L → IsLastLimitList F f t h L
last_whole F f t h zero d w some I leads L is = absurd (omega (arith, some))
last_whole F f t h (suc k) d w some {J} I leads L is =
    record { whole = suc k; digits = d; written = w; reached = J.given; leads = leads; last = record { members = J.members; reduced = I.reduced; holds = is } }
