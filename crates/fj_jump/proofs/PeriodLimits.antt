-- From the limits of a period's chains to the limits at an exponent with that period.
use Rattle.std.proofs.Common.{◌≡◌, ◌⊎◌, ◌+◌, ◌*◌, ◌<◌, inl, inr, ℕ, List, [], ◌∷◌, All, Result, drop, get_or, length, take, sym, subst, ap, refl, arith}
use Rattle.std.specs.List.{HoldsAt, insert}
use Rattle.std.specs.Ordering.{nat_cmp}
use Rattle.std.specs.Cmp.Lexicographic.{slice_cmp}
use Rattle.std.specs.declared.cmp.Ordering.TheVariants.{Equal}
use Rattle.std.specs.Result.{IsErrAnd}
use Rattle.std.proofs.lemmas.Bool.Decides.{nat_tests}
use Rattle.std.proofs.lemmas.List.Elements.{All-append, All-cons, All-drop, All-get_or, All-same, All-take}
use Rattle.fj_coeff.specs.Field.{Field}
use Rattle.fj_theory.specs.Digits.{Expansion, IsExpansion}
use Rattle.fj_theory.specs.Exponents.{origin}
use Rattle.fj_theory.specs.Fraction.{Fraction, IsInUnitInterval, plus_whole}
use Rattle.fj_theory.specs.Polynomial.{Polynomial, term}
use Rattle.fj_plain.specs.declared.order_name.OrderName.TheVariants.{Grevlex}
use Rattle.fj_basis.specs.declared.stop.Stop.{Stop}
use Rattle.fj_ratio.specs.FractionCode.{same_fraction}
use Rattle.fj_ideal.specs.Lists.{RunFor}
use Rattle.fj_ideal.specs.Stop.{IsCauseOf, IsWritten, StopsOnlyWith}
use Rattle.fj_ideal.proofs.Stops.{only_handed_on, only_of_more}
use Rattle.fj_chain.specs.Lists.{ChainEndsWith, IsChainList, IsHighInChain, IsHighInJump, IsHighInLimit, IsJumpList, IsLastLimitList, IsLastTestList, IsLimitList, IsWholeAndDigits, LeadTo, above_zero, first_list, last_above_zero, step_list, step_product}
use Rattle.fj_chain.proofs.ChainLists.{end_is_list}
use Rattle.fj_jump.specs.PeriodLimits.{AreLimitsOfPeriod, IsHighFrom, IsHighFromBoth, IsHighInChains, IsListFrom, IsListFromBoth, IsListOfChains, IsSameOrHas}
use Rattle.fj_jump.specs.declared.period_limits.PeriodLimits.{PeriodLimits}

-- Two lists of digits that compare as equal are the same.
pub same_digits : (xs ys : List ℕ) → slice_cmp nat_cmp xs ys ≡ Equal → xs ≡ ys
same_digits [] [] h = refl
same_digits [] (y ∷ ys) h = grind (arith, nat_tests, h)
same_digits (x ∷ xs) [] h = grind (arith, nat_tests, h)
same_digits (x ∷ xs) (y ∷ ys) h = grind (arith, nat_tests, h, same_digits xs ys)

-- What holds of each kept period, and of one more, holds of each that is kept then.
pub all_kept : {X : Type 0} (P : X → Type 0) (before : List X) (i : ℕ) (x : X) (after : List X) → All P before → P x → IsSameOrHas before i x after → All P after
all_kept P before i x after all one kept =
    elim kept [
      | inl e ↦ All-same P after before e all
      | inr e ↦ All-same P after (insert before i x) e (All-append P (take i before) (x ∷ drop i before) (All-take P i before all) (All-cons P x (drop i before) one (All-drop P i before all)))
    ]

-- The limits of the period that was found.
pub limits_found : {K : Type 0} (F : Field) (f : Polynomial) (xs : List (PeriodLimits K)) (i : ℕ) (x : PeriodLimits K) (period : List ℕ)
    → All (λ e. AreLimitsOfPeriod F f e.period.items e.rising.given e.falling.given) xs → i < length xs → x ≡ get_or xs i x → HoldsAt (λ e. e.period.items ≡ period) xs i
    → AreLimitsOfPeriod F f period x.rising.given x.falling.given
limits_found {K} F f xs i x period all within is found =
    let limits = subst (λ (e : PeriodLimits K). AreLimitsOfPeriod F f e.period.items e.rising.given e.falling.given) (sym is) (All-get_or (λ (e : PeriodLimits K). AreLimitsOfPeriod F f e.period.items e.rising.given e.falling.given) xs i x within all) in
    let same = subst (λ (e : PeriodLimits K). e.period.items ≡ period) (sym is) (found x) in
    subst (λ (p : List ℕ). AreLimitsOfPeriod F f p x.rising.given x.falling.given) same limits

module _ (F : Field) (f : Polynomial) (t : Fraction) (unit : IsInUnitInterval t) (d : Expansion) (expansion : IsExpansion F.characteristic t d) where
  -- t itself has the digits, without a whole number.
  written : IsWholeAndDigits F.characteristic t 0 d
  written =
      let same : t.numerator ≡ t.numerator + 0 * t.denominator = omega arith in
      record { rest = t; unit = unit; sum = same_fraction t (plus_whole t 0) (ap (λ n. (n, t.denominator)) same); expansion = expansion }

  module _ (h : Polynomial) where
    -- From where the chain ends, the digits before the period lead to the last list of the limit.
    pub last_limit : {J N : List Polynomial} → ChainEndsWith F f d.period (h ∷ []) J → LeadTo F f d.pre J N → IsLastLimitList F f t h N
    last_limit {J} {N} ends pre = record { whole = 0; digits = d; written = written; reached = N; leads = record { limit = J; ends = ends; pre = pre }; last = refl }

    chain_list : (L : List Polynomial) → IsChainList F f d.period h L → IsLimitList F f t h L
    chain_list L there =
        elim there [
          | inl e ↦ first_list e
          | inr l ↦ step_list 0 d written (record { digit = l.digit; from = l.from; step = inl l.step; next = l.next })
        ]

    chain_high : (L : List Polynomial) → IsHighInChain F f d.period h L → IsHighInLimit F f t h L
    chain_high L e = step_product 0 d written (record { digit = e.digit; from = e.from; step = inl e.step; high = e.high })

    module _ {J : List Polynomial} (ends : ChainEndsWith F f d.period (h ∷ []) J) where
      list_from : (L : List Polynomial) → IsListFrom F f d.pre J L → IsLimitList F f t h L
      list_from L there =
          elim there [
            | inl e ↦ chain_list L (subst (IsChainList F f d.period h) (sym e) (end_is_list F f d.period h J ends))
            | inr l ↦ step_list 0 d written (record { digit = l.digit; from = l.from; step = inr (J, ends, l.step); next = l.next })
          ]

      high_from : (L : List Polynomial) → IsHighFrom F f d.pre J L → IsHighInLimit F f t h L
      high_from L e = step_product 0 d written (record { digit = e.digit; from = e.from; step = inr (J, ends, e.step); high = e.high })

  -- The last test list.
  pub last_test : {J N : List Polynomial} → ChainEndsWith F f d.period (f ∷ []) J → LeadTo F f d.pre J N → IsLastTestList F f t N
  last_test ends pre = last_above_zero unit.above_zero (last_limit f ends pre)

  -- A limit from (f) has test lists, and one from (1) left lists.
  jump_list : (L : List Polynomial) → (IsLimitList F f t f L ⊎ IsLimitList F f t (term 1 origin) L) → IsJumpList F f t L
  jump_list L there = elim there [ inl e ↦ inl (above_zero unit.above_zero e) | inr e ↦ inr e ]

  jump_high : (L : List Polynomial) → (IsHighInLimit F f t f L ⊎ IsHighInLimit F f t (term 1 origin) L) → IsHighInJump F f t L
  jump_high L there = elim there [ inl e ↦ inl (record { above_zero = unit.above_zero; high = e }) | inr e ↦ inr e ]

  module _ (budget : ℕ) where
    -- The chains of the period stop.
    pub chains_stop : {T : Type 0} (s : Stop) (r : Result T Stop) → IsErrAnd r (λ y. y ≡ s)
        → IsCauseOf F (RunFor Grevlex (IsListOfChains F f d.period)) (IsHighInChains F f d.period) budget s × IsWritten F s
        → StopsOnlyWith F (RunFor Grevlex (IsJumpList F f t)) (IsHighInJump F f t) budget r
    chains_stop s r is cause =
        only_handed_on F budget (RunFor Grevlex (IsListOfChains F f d.period)) (RunFor Grevlex (IsJumpList F f t)) (IsHighInChains F f d.period) (IsHighInJump F f t)
        (λ o L e. (e.0, jump_list L (elim e.1 [ inl l ↦ inl (chain_list f L l) | inr l ↦ inr (chain_list (term 1 origin) L l) ])))
        (λ L e. jump_high L (elim e [ inl l ↦ inl (chain_high f L l) | inr l ↦ inr (chain_high (term 1 origin) L l) ]))
        s r is cause

    module _ {J N : List Polynomial} (limits : AreLimitsOfPeriod F f d.period J N) where
      both_list : (L : List Polynomial) → IsListFromBoth F f d.pre J N L → IsJumpList F f t L
      both_list L there = jump_list L (elim there [ inl l ↦ inl (list_from f limits.rising L l) | inr l ↦ inr (list_from (term 1 origin) limits.falling L l) ])

      both_high : (L : List Polynomial) → IsHighFromBoth F f d.pre J N L → IsHighInJump F f t L
      both_high L there = jump_high L (elim there [ inl l ↦ inl (high_from f limits.rising L l) | inr l ↦ inr (high_from (term 1 origin) limits.falling L l) ])

      -- The steps from their limits stop.
      pub steps_stop : {T : Type 0} (r : Result T Stop)
          → StopsOnlyWith F (RunFor Grevlex (IsListFromBoth F f d.pre J N)) (IsHighFromBoth F f d.pre J N) budget r
          → StopsOnlyWith F (RunFor Grevlex (IsJumpList F f t)) (IsHighInJump F f t) budget r
      steps_stop r stops =
          only_of_more F budget (RunFor Grevlex (IsListFromBoth F f d.pre J N)) (RunFor Grevlex (IsJumpList F f t)) (IsHighFromBoth F f d.pre J N) (IsHighInJump F f t)
          (λ o L e. (e.0, both_list L e.1)) both_high r stops

      pub steps_handed_on : {T : Type 0} (s : Stop) (r : Result T Stop) → IsErrAnd r (λ y. y ≡ s)
          → IsCauseOf F (RunFor Grevlex (IsListFromBoth F f d.pre J N)) (IsHighFromBoth F f d.pre J N) budget s × IsWritten F s
          → StopsOnlyWith F (RunFor Grevlex (IsJumpList F f t)) (IsHighInJump F f t) budget r
      steps_handed_on s r is cause =
          only_handed_on F budget (RunFor Grevlex (IsListFromBoth F f d.pre J N)) (RunFor Grevlex (IsJumpList F f t)) (IsHighFromBoth F f d.pre J N) (IsHighInJump F f t)
          (λ o L e. (e.0, both_list L e.1)) both_high s r is cause
