-- Laws of monomial orders, and induction along them.
use Rattle.std.proofs.Common.{◌≡◌, ℕ, zero, suc, ◌<◌, List, [], ◌∷◌, length, ◌⊎◌, ◌↔◌, inl, inr, refl, sym, ap, ◌∙◌, subst, arith, nat_cmp, Ordering, Less, Equal, Greater}
use Rattle.std.specs.Cmp.Lexicographic.{slice_cmp}
use Rattle.std.proofs.lemmas.Cmp.{nat_list_cmp_total, nat_cmp_total, ranked, tied_itself}
use Rattle.std.specs.Ordering.{ordering_then, MatchOrdering, ordering_reverse}
use Rattle.fj_algebra.specs.Order.{Monomials, Divides, IsAtMost, MonomialOrder, compare, IsBelow}

-- the three answers of a comparison of numbers
by_number {ℓ} : (P : Ordering → Type ℓ) (x y : ℕ) → (x < y → P Less) → (x ≡ y → P Equal) → (y < x → P Greater) → P (nat_cmp x y)
by_number P x y less equal greater = go (nat_cmp x y) (ranked x y (nat_cmp x y) refl)
  where
    go : (r : Ordering) → MatchOrdering r (x < y) (x ≡ y) (y < x) → P r
    go Less h = less h
    go Equal h = equal h
    go Greater h = greater h

less_number : (x y : ℕ) → x < y → nat_cmp x y ≡ Less
less_number x y h = by_number (λ r. r ≡ Less) x y (λ _. refl) (λ e. absurd (omega arith)) (λ l. absurd (omega arith))

same_number : (x : ℕ) → nat_cmp x x ≡ Equal
same_number = tied_itself nat_cmp_total

greater_number : (x y : ℕ) → y < x → nat_cmp x y ≡ Greater
greater_number x y h = by_number (λ r. r ≡ Greater) x y (λ l. absurd (omega arith)) (λ e. absurd (omega arith)) (λ _. refl)

-- lists that compare equal are one
equal_lists : (xs ys : List ℕ) → slice_cmp nat_cmp xs ys ≡ Equal → xs ≡ ys
equal_lists [] [] e = refl
equal_lists [] (y ∷ ys) e = cc
equal_lists (x ∷ xs) [] e = cc
equal_lists (x ∷ xs) (y ∷ ys) e =
    by_number (λ r. ordering_then r (slice_cmp nat_cmp xs ys) ≡ Equal → x ∷ xs ≡ y ∷ ys) x y (λ h e. cc) (λ h e. let t = equal_lists xs ys e in cc)
    (λ h e. cc) e

-- strong induction along the lexicographic order of the lists of one length
pub below_all {ℓ} : (P : ℕ → Type ℓ) → ((n : ℕ) → ((k : ℕ) → k < n → P k) → P n) → (n k : ℕ) → k < n → P k
below_all P step zero k l = absurd (omega arith)
below_all P step (suc n) k l = step k (λ j h. below_all P step n j (omega arith))

key_induction {ℓ} : (n : ℕ) (P : List ℕ → Type ℓ) →
    ((xs : List ℕ) → length xs ≡ n → ((ys : List ℕ) → length ys ≡ n → slice_cmp nat_cmp ys xs ≡ Less → P ys) → P xs) → (xs : List ℕ) → length xs ≡ n →
    P xs
key_induction zero P step [] e = step [] e none
  where
    none : (ys : List ℕ) → length ys ≡ zero → slice_cmp nat_cmp ys [] ≡ Less → P ys
    none [] e l = absurd cc
    none (y ∷ ys) e l = absurd (omega arith)
key_induction zero P step (x ∷ xs) e = absurd (omega arith)
key_induction (suc n) P step [] e = absurd (omega arith)
key_induction (suc n) P step (x ∷ xs) e =
    below_all Front (λ x before. key_induction n (λ xs. P (x ∷ xs)) (λ xs e lower. step (x ∷ xs) (omega arith) (pick x before xs lower))) (suc x) x
    (omega arith) xs (omega arith)
  where
    Front : ℕ → Type ℓ
    Front x = (xs : List ℕ) → length xs ≡ n → P (x ∷ xs)

    pick : (x : ℕ) → ((k : ℕ) → k < x → Front k) → (xs : List ℕ) → ((ys : List ℕ) → length ys ≡ n → slice_cmp nat_cmp ys xs ≡ Less → P (x ∷ ys)) →
        (ys : List ℕ) → length ys ≡ suc n → slice_cmp nat_cmp ys (x ∷ xs) ≡ Less → P ys
    pick x before xs lower [] e l = absurd (omega arith)
    pick x before xs lower (y ∷ ys) e l =
        by_number (λ r. ordering_then r (slice_cmp nat_cmp ys xs) ≡ Less → P (y ∷ ys)) y x (λ h _. before y h ys (omega arith))
        (λ h less. subst (λ y. P (y ∷ ys)) (sym h) (lower ys (omega arith) less)) (λ h g. absurd cc) l

pub one_times : {M : Type 0} (monomials : Monomials M) (a : M) → monomials.times monomials.one a ≡ a
one_times monomials a = monomials.times_comm monomials.one a ∙ monomials.times_one a

pub times_left_comm : {M : Type 0} (monomials : Monomials M) (a b c : M) → monomials.times a (monomials.times b c) ≡ monomials.times b (monomials.times a c)
times_left_comm monomials a b c = sym (monomials.times_assoc a b c) ∙ ap (λ d. monomials.times d c) (monomials.times_comm a b) ∙ monomials.times_assoc b a c

pub Divides-refl : {M : Type 0} (monomials : Monomials M) (a : M) → Divides monomials a a
Divides-refl monomials a = record { quotient = monomials.one; product = monomials.times_one a }

pub Divides-trans : {M : Type 0} {monomials : Monomials M} {a b c : M} → Divides monomials a b → Divides monomials b c → Divides monomials a c
Divides-trans {monomials} {a} d e =
    record {
      quotient = monomials.times d.quotient e.quotient;
      product = sym (monomials.times_assoc a d.quotient e.quotient)
          ∙ ap (λ b. monomials.times b e.quotient) d.product ∙ e.product;
    }

module _ {M : Type 0} {monomials : Monomials M} (order : MonomialOrder monomials) where
  open monomials use {one, times}

  -- Strong induction along a monomial order.
  pub order_induction {ℓ} : (P : M → Type ℓ) → ((a : M) → ((b : M) → IsBelow order b a → P b) → P a) → (a : M) → P a
  order_induction P step a = key_induction order.entries (λ xs. (b : M) → order.key b ≡ xs → P b) at_key (order.key a) (order.key_length a) a refl
    where
      at_key : (xs : List ℕ) → length xs ≡ order.entries →
          ((ys : List ℕ) → length ys ≡ order.entries → slice_cmp nat_cmp ys xs ≡ Less → (b : M) → order.key b ≡ ys → P b) → (b : M) →
          order.key b ≡ xs → P b
      at_key xs e lower b k = step b (λ c l. lower (order.key c) (order.key_length c) (rw (← k) l.is_less) c refl)

  -- An order is total.
  pub trichotomy : (a b : M) → IsBelow order a b ⊎ ((a ≡ b) ⊎ IsBelow order b a)
  trichotomy a b = go (compare order a b) refl
    where
      go : (r : Ordering) → compare order a b ≡ r → IsBelow order a b ⊎ ((a ≡ b) ⊎ IsBelow order b a)
      go Less e = inl (record { is_less = e })
      go Equal e = inr (inl (order.key_injective a b (equal_lists (order.key a) (order.key b) e)))
      go Greater e = inr (inr (record { is_less = nat_list_cmp_total.antisymm (order.key b) (order.key a) ∙ ap ordering_reverse e }))

  pub below_trans : {a b c : M} → IsBelow order a b → IsBelow order b c → IsBelow order a c
  below_trans {a} {b} {c} h k = record { is_less = nat_list_cmp_total.trans (order.key a) (order.key b) (order.key c) h.is_less k.is_less }

  pub below_irrefl : {a : M} → IsBelow order a a → ⊥
  below_irrefl {a} h = let e = tied_itself nat_list_cmp_total (order.key a) in let l = h.is_less in cc

  -- Multiplication keeps the order.
  pub below_times : (c : M) {a b : M} → IsBelow order a b → IsBelow order (times c a) (times c b)
  below_times c {a} {b} h = record { is_less = order.kept c a b ∙ h.is_less }

  -- Multiplication can be cancelled.
  pub times_cancel : (c a b : M) → times c a ≡ times c b → a ≡ b
  times_cancel c a b e = elim (trichotomy a b) [
    | inl h ↦ absurd (below_irrefl (subst (λ d. IsBelow order d (times c b)) e (below_times c h)))
    | inr (inl h) ↦ h
    | inr (inr h) ↦ absurd (below_irrefl (subst (λ d. IsBelow order (times c b) d) e (below_times c h)))
  ]

  -- The monomial one is the least.
  pub one_least : (a : M) → IsBelow order a one → ⊥
  one_least =
      order_induction (λ a. IsBelow order a one → ⊥)
      (λ a lower h. let l = rw monomials.times_one at (below_times a h) in lower (times a a) l (below_trans l h))

  -- A multiple isn't below.
  pub not_below_multiple : {a b : M} → Divides monomials a b → IsBelow order b a → ⊥
  not_below_multiple {a} {b} d l = one_least d.quotient
      (under d.quotient (trichotomy d.quotient one)
      (subst (λ c. IsBelow order c (times a one)) (sym d.product) (subst (IsBelow order b) (sym (monomials.times_one a)) l)))
    where
      under : (q : M) → IsBelow order q one ⊎ ((q ≡ one) ⊎ IsBelow order one q) → IsBelow order (times a q) (times a one) → IsBelow order q one
      under q (inl h) k = h
      under q (inr (inl e)) k = absurd (below_irrefl (subst (λ q. IsBelow order (times a q) (times a one)) e k))
      under q (inr (inr h)) k = absurd (below_irrefl (below_trans k (below_times a h)))

  -- Monomials that divide each other are equal.
  pub divides_antisymm : {a b : M} → Divides monomials a b → Divides monomials b a → a ≡ b
  divides_antisymm {a} {b} d e =
      elim (trichotomy a b) [ inl l ↦ absurd (not_below_multiple e l) | inr (inl h) ↦ h | inr (inr l) ↦ absurd (not_below_multiple d l) ]

  pub at_most_trans : (a b c : M) → IsAtMost order a b → IsAtMost order b c → IsAtMost order a c
  at_most_trans a b c (inl h) (inl k) = inl (below_trans h k)
  at_most_trans a b c (inl h) (inr e) = inl (subst (IsBelow order a) e h)
  at_most_trans a b c (inr e) h = subst (λ a. IsAtMost order a c) (sym e) h

  pub at_most_times : (m a b : M) → IsAtMost order a b → IsAtMost order (times m a) (times m b)
  at_most_times m a b (inl h) = inl (below_times m h)
  at_most_times m a b (inr e) = inr (ap (times m) e)

  pub below_at_most : (a b c : M) → IsAtMost order a b → IsBelow order b c → IsBelow order a c
  below_at_most a b c (inl h) k = below_trans h k
  below_at_most a b c (inr e) k = subst (λ a. IsBelow order a c) (sym e) k

  -- How two monomials compare says whether they are equal.
  pub compare_equal : (a b : M) → compare order a b ≡ Equal ↔ (a ≡ b)
  compare_equal a b = (
    λ e. order.key_injective a b (equal_lists (order.key a) (order.key b) e),
    λ e. subst (λ b. compare order a b ≡ Equal) e (tied_itself nat_list_cmp_total (order.key a)),
  )
