-- Formal sums: lists of exponent lists with coefficients in a ring, in which an exponent list may stand several times.
use Rattle.std.proofs.Common.{◌≡◌, ◌≢◌, ℕ, zero, suc, ◌≤◌, Bool, true, false, cond, not, List, [], ◌∷◌, ◌++◌, length, map, filter, nat_cmp, is_eq, Ordering, Equal, Decides, refl, sym, ap, ◌∙◌, subst, arith}
use Rattle.std.specs.Cmp.Lexicographic.{slice_cmp}
use Rattle.std.specs.Ordering.{eq_by_cmp}
use Rattle.std.proofs.lemmas.Cmp.{nat_list_cmp_total, tied_itself}
use Rattle.std.proofs.lemmas.Map.Lookups.{exact_bytes}
use Rattle.fj_algebra.specs.Ring.{CommutativeRing}
use Rattle.fj_algebra.specs.Sum.{sum_over}
use Rattle.fj_algebra.proofs.Ring.{zero_add, add_zero, add_assoc, add_left_comm, add_neg, add_cancel_left, neg_unique, equal_from_subtract}
use Rattle.fj_algebra.proofs.Sum.{sum_over-append, sum_over-map, sum_over-neg, sum_over-same}

-- Whether two exponent lists are the same.
abbrev pub same : List ℕ → List ℕ → Bool
same a b = eq_by_cmp (slice_cmp nat_cmp) a b

is_eq-Equal : (r : Ordering) → is_eq r ≡ true → r ≡ Equal
is_eq-Equal r h = grind arith

pub same_true : (a b : List ℕ) → same a b ≡ true → a ≡ b
same_true a b h = exact_bytes a b (is_eq-Equal (slice_cmp nat_cmp a b) h)

pub same_itself : (a : List ℕ) → same a a ≡ true
same_itself a = ap is_eq (tied_itself nat_list_cmp_total a)

pub same_false : (a b : List ℕ) → a ≢ b → same a b ≡ false
same_false a b apart = by (same a b) refl
  where
    by : (r : Bool) → same a b ≡ r → r ≡ false
    by true e = absurd (apart (same_true a b e))
    by false e = refl

pub same-Decides : (a b : List ℕ) → Decides (same a b) (a ≡ b)
same-Decides a b = (same_true a b, λ e. ap (same a) (sym e) ∙ same_itself a)

abbrev pub FormalSum : Type 0 → Type 0
FormalSum A = List (List ℕ × A)

-- A weight of the terms with values in a ring, which is additive in the coefficient.
pub record IsAdditive {A B : Type 0} (R : CommutativeRing A) (S : CommutativeRing B) (w : List ℕ → A → B) : Type 0 where
  pub keeps_add : (a : List ℕ) (x y : A) → w a (R.add x y) ≡ S.add (w a x) (w a y)

-- The sum of the weights of the terms.
abbrev pub weigh : {A B : Type 0} → CommutativeRing B → (List ℕ → A → B) → FormalSum A → B
weigh S w es = sum_over S (λ e. w e.0 e.1) es

-- The weight that takes the coefficients at one exponent list.
abbrev pub at_exponents : {A : Type 0} → CommutativeRing A → List ℕ → List ℕ → A → A
at_exponents R a b x = cond (same a b) x R.zero

-- The coefficient of a formal sum at an exponent list.
abbrev pub coefficient_in : {A : Type 0} → CommutativeRing A → FormalSum A → List ℕ → A
coefficient_in R es a = weigh R (at_exponents R a) es

pub at_exponents-IsAdditive : {A : Type 0} (R : CommutativeRing A) (a : List ℕ) → IsAdditive R R (at_exponents R a)
at_exponents-IsAdditive R a = record { keeps_add = λ b x y. by (same a b) x y }
  where
    by : (t : Bool) (x y : _) → cond t (R.add x y) R.zero ≡ R.add (cond t x R.zero) (cond t y R.zero)
    by true x y = refl
    by false x y = sym (zero_add R R.zero)

module _ {A B : Type 0} {R : CommutativeRing A} {S : CommutativeRing B} {w : List ℕ → A → B} (W : IsAdditive R S w) where
  pub weight_zero : (a : List ℕ) → w a R.zero ≡ S.zero
  weight_zero a = add_cancel_left S (w a R.zero) (w a R.zero) S.zero (sym (W.keeps_add a R.zero R.zero) ∙ ap (w a) (add_zero R R.zero) ∙ sym (add_zero S (w a R.zero)))

  pub weight_neg : (a : List ℕ) (x : A) → w a (R.neg x) ≡ S.neg (w a x)
  weight_neg a x = neg_unique S (w a x) (w a (R.neg x)) (sym (W.keeps_add a x (R.neg x)) ∙ ap (w a) (add_neg R x) ∙ weight_zero a)

-- The terms at other exponent lists.
others : {A : Type 0} → List ℕ → FormalSum A → FormalSum A
others b es = filter (λ e. not (same b e.0)) es

length-others : {A : Type 0} (b : List ℕ) (es : FormalSum A) → length (others b es) ≤ length es
unfolding others
length-others b [] = omega arith
length-others b (e ∷ es) = by (same b e.0) (length-others b es)
  where
    by : (t : Bool) → length (others b es) ≤ length es → length (cond (not t) (e ∷ others b es) (others b es)) ≤ suc (length es)
    by true h = omega arith
    by false h = omega arith

module _ {A B : Type 0} {R : CommutativeRing A} {S : CommutativeRing B} {w : List ℕ → A → B} (W : IsAdditive R S w) where
  open S use {add as ◌⊕◌}

  infixl 60 ◌⊕◌
  -- A formal sum is its part at one exponent list and the rest.
  weigh_split : (b : List ℕ) (es : FormalSum A) → weigh S w es ≡ w b (coefficient_in R es b) ⊕ weigh S w (others b es)
  unfolding others
  weigh_split b [] = sym (ap (λ v. v ⊕ S.zero) (weight_zero W b) ∙ zero_add S S.zero)
  weigh_split b (e ∷ es) = ap (◌⊕◌ (w e.0 e.1)) (weigh_split b es) ∙ by (same b e.0) refl
    where
      c : A
      c = coefficient_in R es b

      rest : B
      rest = weigh S w (others b es)

      by : (t : Bool) → same b e.0 ≡ t
          → w e.0 e.1 ⊕ (w b c ⊕ rest) ≡ w b (R.add (cond t e.1 R.zero) c) ⊕ weigh S w (cond (not t) (e ∷ others b es) (others b es))
      by true same = ap (λ a. w a e.1 ⊕ (w b c ⊕ rest)) (sym (same_true b e.0 same)) ∙ sym (add_assoc S _ _ _)
          ∙ ap (λ v. v ⊕ rest) (sym (W.keeps_add b e.1 c))
      by false same = add_left_comm S (w e.0 e.1) (w b c) rest ∙ ap (λ x. w b x ⊕ (w e.0 e.1 ⊕ rest)) (sym (zero_add R c))

coefficient_in_others : {A : Type 0} (R : CommutativeRing A) (b : List ℕ) (es : FormalSum A) → coefficient_in R es b ≡ R.zero → (a : List ℕ)
    → coefficient_in R (others b es) a ≡ coefficient_in R es a
coefficient_in_others R b es none a =
    let w = at_exponents-IsAdditive R a in
    sym (weigh_split w b es ∙ ap (λ x. R.add (at_exponents R a b x) (coefficient_in R (others b es) a)) none ∙ ap (λ x. R.add x (coefficient_in R (others b es) a)) (weight_zero w b) ∙ zero_add R _)

module _ {A B : Type 0} {R : CommutativeRing A} {S : CommutativeRing B} {w : List ℕ → A → B} (W : IsAdditive R S w) where
  open S use {add as ◌⊕◌}

  infixl 60 ◌⊕◌
  others_head : (e : List ℕ × A) (es : FormalSum A) → others e.0 (e ∷ es) ≡ others e.0 es
  unfolding others
  others_head e es = ap (λ t. cond (not t) (e ∷ others e.0 es) (others e.0 es)) (same_itself e.0)

  weigh_none : (n : ℕ) (es : FormalSum A) → length es ≤ n → ((a : List ℕ) → coefficient_in R es a ≡ R.zero) → weigh S w es ≡ S.zero
  weigh_none n [] h none = refl
  weigh_none zero (e ∷ es) h none = absurd (omega arith)
  weigh_none (suc n) (e ∷ es) h none =
      let b = e.0 in
      let fewer : FormalSum A = others b (e ∷ es) in
      weigh_split W b (e ∷ es) ∙ ap (λ x. w b x ⊕ weigh S w fewer) (none b) ∙ ap (λ v. v ⊕ weigh S w fewer) (weight_zero W b) ∙ zero_add S _
      ∙ weigh_none n fewer (subst (λ fs. length fs ≤ n) (sym (others_head e es)) (omega (arith, length-others b es))) (λ a. coefficient_in_others R b (e ∷ es) (none b) a ∙ none a)

-- The formal sum with the opposite coefficients.
opposite : {A : Type 0} → CommutativeRing A → FormalSum A → FormalSum A
opposite R es = map (λ e. (e.0, R.neg e.1)) es

module _ {A B : Type 0} {R : CommutativeRing A} {S : CommutativeRing B} {w : List ℕ → A → B} (W : IsAdditive R S w) where
  weigh-opposite : (es : FormalSum A) → weigh S w (opposite R es) ≡ S.neg (weigh S w es)
  unfolding opposite
  weigh-opposite es =
      sum_over-map S (λ e. w e.0 e.1) (λ e. (e.0, R.neg e.1)) es
      ∙ sum_over-same S (λ e. w e.0 (R.neg e.1)) (λ e. S.neg (w e.0 e.1)) (λ e. weight_neg W e.0 e.1) es ∙ sum_over-neg S (λ e. w e.0 e.1) es

  weigh-difference : (es fs : FormalSum A) → weigh S w (es ++ opposite R fs) ≡ S.add (weigh S w es) (S.neg (weigh S w fs))
  weigh-difference es fs = sum_over-append S (λ e. w e.0 e.1) es (opposite R fs) ∙ ap (S.add (weigh S w es)) (weigh-opposite fs)

-- A weight that is additive in the coefficient depends on the coefficients alone.
pub weigh_same : {A B : Type 0} {R : CommutativeRing A} {S : CommutativeRing B} {w : List ℕ → A → B} → IsAdditive R S w → (es fs : FormalSum A)
    → ((a : List ℕ) → coefficient_in R es a ≡ coefficient_in R fs a) → weigh S w es ≡ weigh S w fs
weigh_same {R} {S} {w} W es fs e =
    let both : FormalSum _ = es ++ opposite R fs in
    equal_from_subtract S _ _ (sym (weigh-difference W es fs) ∙ weigh_none W (length both) both (omega arith)
    (λ a. weigh-difference (at_exponents-IsAdditive R a) es fs ∙ ap (λ x. R.add x (R.neg (coefficient_in R fs a))) (e a) ∙ add_neg R (coefficient_in R fs a)))
