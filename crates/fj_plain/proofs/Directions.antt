-- Lists of terms that fall or rise strictly by a key of their exponents.
use Rattle.std.proofs.Common.{◌≡◌, ◌≢◌, ℕ, ◌+◌, ◌-◌, ◌<◌, ◌≤◌, ◌⊎◌, inl, inr, List, AllPairs, length, get_or, Ordering, Less, Equal, Greater, refl, subst, sym, ap, ap₂, ◌∙◌, arith}
use Rattle.std.specs.Ordering.{ordering_reverse}
use Rattle.std.specs.Cmp.{IsTotalOrder}
use Rattle.std.proofs.lemmas.Cmp.{tied_itself}
use Rattle.std.proofs.lemmas.Bool.{cases_eq}
use Rattle.std.proofs.lemmas.Option.{slice_get-get_or, get_or_from_slice_get}
use Rattle.fj_theory.specs.MonomialOrder.{compare_by}
use Rattle.fj_theory.proofs.MonomialOrder.{compare_by_total}
use Rattle.fj_plain.specs.declared.term.PlainTerm.{PlainTerm}

-- An element does not depend on what stands for those past the end.
default_apart : {X : Type 0} (xs : List X) (i : ℕ) (d x : X) → i < length xs → x ≡ get_or xs i x → get_or xs i d ≡ x
default_apart xs i d x h is = get_or_from_slice_get xs i (get_or xs i x) d (slice_get-get_or xs i x h) ∙ sym is

module _ (key : List ℕ → List ℕ) where
  R : IsTotalOrder (compare_by key)
  R = compare_by_total key

  strict_trans : (r : Ordering) → r ≢ Equal → (a b c : List ℕ) → compare_by key a b ≡ r → compare_by key b c ≡ r → compare_by key a c ≡ r
  strict_trans Less strict a b c p q = R.trans a b c p q
  strict_trans Equal strict a b c p q = absurd (strict refl)
  strict_trans Greater strict a b c p q =
      R.antisymm a c ∙ ap ordering_reverse (R.trans c b a (R.antisymm c b ∙ ap ordering_reverse q) (R.antisymm b a ∙ ap ordering_reverse p))

  -- Each two of the first n terms are in one direction.
  pub record InDirection (r : Ordering) (xs : List PlainTerm) (n : ℕ) : Type 0 where
    pub strict : r ≢ Equal
    pub ordered : (a b : ℕ) (d : PlainTerm) → a < b → b < n → compare_by key (get_or xs a d).exps (get_or xs b d).exps ≡ r

  -- One term more, after the last one.
  pub InDirection-more : (r : Ordering) (xs : List PlainTerm) (i : ℕ) (x y : PlainTerm) → 1 ≤ i → i < length xs → x ≡ get_or xs (i - 1) x → y ≡ get_or xs i y
      → compare_by key x.exps y.exps ≡ r → InDirection r xs i → InDirection r xs (i + 1)
  InDirection-more r xs i x y positive h at_x at_y step before = record { strict = before.strict; ordered = each }
    where
      last : (d : PlainTerm) → compare_by key (get_or xs (i - 1) d).exps (get_or xs i d).exps ≡ r
      last d = ap₂ (λ (s t : PlainTerm). compare_by key s.exps t.exps) (default_apart xs (i - 1) d x (omega arith) at_x) (default_apart xs i d y h at_y) ∙ step

      to_last : (a : ℕ) (d : PlainTerm) → a < i → (a ≡ i - 1) ⊎ (a ≢ i - 1) → compare_by key (get_or xs a d).exps (get_or xs i d).exps ≡ r
      to_last a d g (inl e) = subst (λ k. compare_by key (get_or xs k d).exps (get_or xs i d).exps ≡ r) (sym e) (last d)
      to_last a d g (inr n) = strict_trans r before.strict (get_or xs a d).exps (get_or xs (i - 1) d).exps (get_or xs i d).exps (before.ordered a (i - 1) d (omega arith) (omega arith)) (last d)

      one : (a b : ℕ) (d : PlainTerm) → a < b → b < i + 1 → (b ≡ i) ⊎ (b ≢ i) → compare_by key (get_or xs a d).exps (get_or xs b d).exps ≡ r
      one a b d g l (inl e) = subst (λ k. compare_by key (get_or xs a d).exps (get_or xs k d).exps ≡ r) (sym e) (to_last a d (omega arith) (cases_eq a (i - 1)))
      one a b d g l (inr n) = before.ordered a b d g (omega arith)

      each : (a b : ℕ) (d : PlainTerm) → a < b → b < i + 1 → compare_by key (get_or xs a d).exps (get_or xs b d).exps ≡ r
      each a b d g l = one a b d g l (cases_eq b i)

  -- So no two have the same exponents.
  pub AllPairs-from_InDirection : (r : Ordering) (xs : List PlainTerm) (n : ℕ) → length xs ≤ n → InDirection r xs n → AllPairs (λ s t. s.exps ≢ t.exps) xs
  AllPairs-from_InDirection r xs n short before a b d g l same =
      before.strict (sym (before.ordered a b d g (omega arith)) ∙ ap (λ e. compare_by key e (get_or xs b d).exps) same ∙ tied_itself R (get_or xs b d).exps)
