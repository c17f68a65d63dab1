-- The last list of a limit is one of its lists.
use Rattle.std.proofs.Common.{inl, inr, ℕ, zero, suc, arith, ◌∷◌, [], List, sym, subst}
use Rattle.fj_coeff.specs.Field.{Field}
use Rattle.fj_theory.specs.Digits.{Expansion}
use Rattle.fj_theory.specs.Fraction.{Fraction}
use Rattle.fj_theory.specs.Polynomial.{Polynomial}
use Rattle.fj_chain.specs.Lists.{IsChainList, IsLastLimitList, IsLastTestList, IsLimitList, IsTestList, IsWholeAndDigits, IsWholeMultiple, LimitLeadsTo, first_list, step_list, whole_list, at_zero, above_zero, last_at_zero, last_above_zero}
use Rattle.fj_chain.proofs.ChainLists.{end_is_list, last_of_digits}

module _ (F : Field) (f : Polynomial) (t : Fraction) (h : Polynomial) where
  module _ (k : ℕ) (d : Expansion) (w : IsWholeAndDigits F.characteristic t k d) where
    -- The lists of the period's chain are lists of the limit.
    pub chain_is_list : (L : List Polynomial) → IsChainList F f d.period h L → IsLimitList F f t h L
    chain_is_list L there =
        elim there [
          | inl e ↦ first_list e
          | inr l ↦ step_list k d w (record { digit = l.digit; from = l.from; step = inl l.step; next = l.next })
        ]

    -- So is the list that is reached by the digits before the period.
    reached_is_list : (N : List Polynomial) → LimitLeadsTo F f d (h ∷ []) N → IsLimitList F f t h N
    reached_is_list N leads =
        elim (last_of_digits F f d.pre leads.limit N leads.pre) [
          | inl e ↦ subst (IsLimitList F f t h) (sym e) (chain_is_list leads.limit (end_is_list F f d.period h leads.limit leads.ends))
          | inr l ↦ step_list k d w (record { digit = l.digit; from = l.from; step = inr (leads.limit, leads.ends, l.step); next = l.next })
        ]

  multiple_is_list : (k : ℕ) (d : Expansion) → IsWholeAndDigits F.characteristic t k d → (N L : List Polynomial) → LimitLeadsTo F f d (h ∷ []) N → IsWholeMultiple F k f N L → IsLimitList F f t h L
  multiple_is_list zero d w N L leads e = subst (IsLimitList F f t h) (sym e) (reached_is_list zero d w N leads)
  multiple_is_list (suc k) d w N L leads basis = whole_list (suc k) d w (omega arith) N leads basis

  pub last_limit_is_list : (L : List Polynomial) → IsLastLimitList F f t h L → IsLimitList F f t h L
  last_limit_is_list L last = multiple_is_list last.whole last.digits last.written last.reached L last.leads last.last

-- The last test list is a test list.
pub last_test_is_list : (F : Field) (f : Polynomial) (t : Fraction) (L : List Polynomial) → IsLastTestList F f t L → IsTestList F f t L
last_test_is_list F f t L (last_at_zero none e) = at_zero none e
last_test_is_list F f t L (last_above_zero some last) = above_zero some (last_limit_is_list F f t f L last)
