-- The lists of a chain, and why it stops.
use Rattle.std.proofs.Common.{◌≡◌, inl, inr, ◌⊎◌, ℕ, zero, suc, ◌+◌, List, [], ◌∷◌, Result, Err, sym, subst, refl, add-one}
use Rattle.std.specs.Result.{IsErrAnd}
use Rattle.fj_coeff.specs.Field.{Field}
use Rattle.fj_theory.specs.Polynomial.{Polynomial}
use Rattle.fj_theory.specs.Ideal.{SameIdeal}
use Rattle.fj_plain.specs.declared.order_name.OrderName.TheVariants.{Grevlex}
use Rattle.fj_basis.specs.declared.stop.Stop.{Stop}
use Rattle.fj_ideal.specs.Reduced.{WithMembers}
use Rattle.fj_ideal.specs.Lists.{NoProduct, RunFor}
use Rattle.fj_ideal.specs.Stop.{IsCauseOf, IsWritten, StopsExactlyWith, StopsOnlyWith}
use Rattle.fj_ideal.proofs.Stops.{only_from_exactly, only_handed_on}
use Rattle.fj_chain.specs.Lists.{ChainEndsWith, IsChainList, IsHighInChain, IsHighInStep, IsListOfStep, IsStepFor, LeadTo, PeriodsLeadTo}

-- One period more.
pub periods_more : (F : Field) (f : Polynomial) (period : List ℕ) (first : List Polynomial) (k : ℕ) (M N : List Polynomial) → PeriodsLeadTo F f period first k M → LeadTo F f period M N
    → (SameIdeal F M N → ⊥) → PeriodsLeadTo F f period first (k + 1) N
periods_more F f period first k M N lead last apart = subst (λ n. PeriodsLeadTo F f period first n N) (sym (add-one k)) (M, lead, last, apart)

-- Where digits lead to is where they started, or the list of one of their steps.
pub last_of_digits : (F : Field) (f : Polynomial) (digits : List ℕ) (L N : List Polynomial) → LeadTo F f digits L N → (N ≡ L) ⊎ IsListOfStep F f (IsStepFor F f digits L) N
last_of_digits F f [] L N lead = inl lead
last_of_digits F f (d ∷ ds) L N lead = inr (record { digit = d; from = lead.0; step = record { higher = []; lower = ds; place = refl; reached = lead.1 }; next = lead.2 })

module _ (F : Field) (f : Polynomial) (period : List ℕ) (h : Polynomial) where
  after_period : (k : ℕ) (M : List Polynomial) → PeriodsLeadTo F f period (h ∷ []) k M → IsChainList F f period h M → (N : List Polynomial) → LeadTo F f period M N → IsChainList F f period h N
  after_period k M before there N lead =
      elim (last_of_digits F f period M N lead) [
        | inl e ↦ subst (IsChainList F f period h) (sym e) there
        | inr l ↦ inr (record { digit = l.digit; from = l.from; step = record { periods = k; start = M; before = before; step = l.step }; next = l.next })
      ]

  after_periods : (k : ℕ) (M : List Polynomial) → PeriodsLeadTo F f period (h ∷ []) k M → IsChainList F f period h M
  after_periods zero M lead = inl lead
  after_periods (suc k) M lead = after_period k lead.0 lead.1 (after_periods k lead.0 lead.1) M lead.2

  -- The last list of a chain is one of its lists.
  pub end_is_list : (N : List Polynomial) → ChainEndsWith F f period (h ∷ []) N → IsChainList F f period h N
  end_is_list N end = after_period end.periods end.start end.before (after_periods end.periods end.start end.before) N end.last

module _ (F : Field) (f : Polynomial) (period : List ℕ) (h : Polynomial) (budget : ℕ) where
  -- The run on a list of the chain stops.
  pub list_stop : (U : Type 0) (N : List Polynomial) → IsChainList F f period h N → {T : Type 0} (s : Stop) (r : Result T Stop) → IsErrAnd r (λ y. y ≡ s)
      → StopsExactlyWith {T = U} F (RunFor Grevlex (λ M. M ≡ N)) NoProduct budget (Err s)
      → StopsOnlyWith F (RunFor Grevlex (IsChainList F f period h)) (IsHighInChain F f period h) budget r
  list_stop U N there s r is stops =
      only_handed_on F budget (RunFor Grevlex (λ M. M ≡ N)) (RunFor Grevlex (IsChainList F f period h)) NoProduct (IsHighInChain F f period h)
      (λ o M e. (e.0, subst (IsChainList F f period h) (sym e.1) there)) (λ M none. absurd none) s r is (only_from_exactly F budget {T = U} (RunFor Grevlex (λ M. M ≡ N)) NoProduct (Err s) stops)

  -- The run on the first list stops.
  pub first_stop : (L : List Polynomial) → L ≡ h ∷ [] → {T : Type 0} (s : Stop) (r : Result T Stop) → IsErrAnd r (λ y. y ≡ s)
      → StopsExactlyWith {T = WithMembers} F (RunFor Grevlex (λ M. M ≡ L)) NoProduct budget (Err s)
      → StopsOnlyWith F (RunFor Grevlex (IsChainList F f period h)) (IsHighInChain F f period h) budget r
  first_stop L first s r is stops = list_stop WithMembers L (inl first) s r is stops

  -- A step of a period stops.
  pub period_stop : (k : ℕ) (M : List Polynomial) → PeriodsLeadTo F f period (h ∷ []) k M → {T : Type 0} (s : Stop) (r : Result T Stop) → IsErrAnd r (λ y. y ≡ s)
      → IsCauseOf F (RunFor Grevlex (IsListOfStep F f (IsStepFor F f period M))) (IsHighInStep F f (IsStepFor F f period M)) budget s × IsWritten F s
      → StopsOnlyWith F (RunFor Grevlex (IsChainList F f period h)) (IsHighInChain F f period h) budget r
  period_stop k M lead s r is cause =
      only_handed_on F budget (RunFor Grevlex (IsListOfStep F f (IsStepFor F f period M))) (RunFor Grevlex (IsChainList F f period h)) (IsHighInStep F f (IsStepFor F f period M)) (IsHighInChain F f period h)
      (λ o N e. (e.0, inr (record { digit = e.1.digit; from = e.1.from; step = record { periods = k; start = M; before = lead; step = e.1.step }; next = e.1.next })))
      (λ N e. record { digit = e.digit; from = e.from; step = record { periods = k; start = M; before = lead; step = e.step }; high = e.high })
      s r is cause
