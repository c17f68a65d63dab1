-- Exponent lists made place by place.
use Rattle.std.proofs.Common.{◌≡◌, ℕ, zero, suc, ◌+◌, ◌*◌, ◌-◌, ◌<◌, ◌≤◌, Bool, true, false, List, [], ◌∷◌, length, take, sum, get_or, max, refl, sym, ◌∙◌, ap, ap₂, arith, ⊎_elim, ◌&&◌}
use Rattle.std.proofs.Math.Nat.{eq-or-lt_of_le}
use Rattle.std.proofs.Math.ListN.{set}
use Rattle.std.proofs.lemmas.Bool.{true≢false, leb-true, le-leb}
use Rattle.std.proofs.lemmas.List.{get_or-set_same, get_or-set_other}
use Rattle.fj_theory.specs.Exponents.{plus, times, minus, divides, least_common_multiple, total}
use Rattle.fj_theory.proofs.Exponents.{cons_same, total-cons, total-plus, plus-minus_lists, length-minus}

-- The list whose entries are made from those of two lists.
abbrev pub combine : (ℕ → ℕ → ℕ) → List ℕ → List ℕ → List ℕ
combine f [] b = []
combine f (x ∷ a) [] = []
combine f (x ∷ a) (y ∷ b) = f x y ∷ combine f a b

-- It is known by its entries.
pub combined : (f : ℕ → ℕ → ℕ) (a b r : List ℕ) → length a ≡ 8 → length b ≡ 8 → length r ≡ 8
    → ((k : ℕ) → k < 8 → get_or r k 0 ≡ f (get_or a k 0) (get_or b k 0)) → r ≡ combine f a b
combined f a b r la lb lr entries = by a b r (la ∙ sym lb) (la ∙ sym lr) (λ k l. entries k (omega arith))
  where
    by : (a b r : List ℕ) → length a ≡ length b → length a ≡ length r → ((k : ℕ) → k < length a → get_or r k 0 ≡ f (get_or a k 0) (get_or b k 0)) → r ≡ combine f a b
    by [] b [] e g h = refl
    by [] b (z ∷ r) e g h = absurd (omega arith)
    by (x ∷ a) [] r e g h = absurd (omega arith)
    by (x ∷ a) (y ∷ b) [] e g h = absurd (omega arith)
    by (x ∷ a) (y ∷ b) (z ∷ r) e g h = cons_same (h 0 (omega arith)) (by a b r (omega arith) (omega arith) (λ k l. h (suc k) (omega arith)))

pub plus-combine : (a b : List ℕ) → combine (λ x y. x + y) a b ≡ plus a b
unfolding plus
plus-combine [] b = refl
plus-combine (x ∷ a) [] = refl
plus-combine (x ∷ a) (y ∷ b) = ap (λ c. (x + y) ∷ c) (plus-combine a b)

pub minus-combine : (a b : List ℕ) → combine (λ x y. x - y) a b ≡ minus a b
unfolding minus
minus-combine [] b = refl
minus-combine (x ∷ a) [] = refl
minus-combine (x ∷ a) (y ∷ b) = ap (λ c. (x - y) ∷ c) (minus-combine a b)

pub least_common_multiple-combine : (a b : List ℕ) → combine max a b ≡ least_common_multiple a b
unfolding least_common_multiple
least_common_multiple-combine [] b = refl
least_common_multiple-combine (x ∷ a) [] = refl
least_common_multiple-combine (x ∷ a) (y ∷ b) = ap (λ c. max x y ∷ c) (least_common_multiple-combine a b)

pub times-combine : (q : ℕ) (a : List ℕ) → combine (λ x y. x * q) a a ≡ times q a
unfolding times
times-combine q [] = refl
times-combine q (x ∷ a) = cons_same (omega arith) (times-combine q a)

pub minus_written : (a b r : List ℕ) → length a ≡ 8 → length b ≡ 8 → length r ≡ 8 → ((k : ℕ) → k < 8 → get_or r k 0 ≡ get_or a k 0 - get_or b k 0) → r ≡ minus a b
minus_written a b r la lb lr entries = combined (λ x y. x - y) a b r la lb lr entries ∙ minus-combine a b

pub times_written : (q : ℕ) (a r : List ℕ) → length a ≡ 8 → length r ≡ 8 → ((k : ℕ) → k < 8 → get_or r k 0 ≡ get_or a k 0 * q) → r ≡ times q a
times_written q a r la lr entries = combined (λ x y. x * q) a a r la la lr entries ∙ times-combine q a

-- No entry is above the total.
pub entry_below_total : (a : List ℕ) (k : ℕ) → get_or a k 0 ≤ sum a
entry_below_total [] k = omega arith
entry_below_total (x ∷ a) zero = omega (arith, total-cons x a)
entry_below_total (x ∷ a) (suc k) = omega (arith, entry_below_total a k, total-cons x a)

-- Nor is the sum of the first entries.
pub sum-take-below : (k : ℕ) (a : List ℕ) → sum (take k a) ≤ sum a
sum-take-below zero a = omega arith
sum-take-below (suc k) [] = omega arith
sum-take-below (suc k) (x ∷ a) = omega (arith, sum-take-below k a, total-cons x a, total-cons x (take k a))

-- A list divides another where no entry is above the other's.
divides_by : (a b : List ℕ) → length a ≡ length b → ((k : ℕ) → k < length a → get_or a k 0 ≤ get_or b k 0) → divides a b ≡ true
unfolding divides
divides_by [] b e h = refl
divides_by (x ∷ a) [] e h = absurd (omega arith)
divides_by (x ∷ a) (y ∷ b) e h = ap₂ (λ s t. s && t) (le-leb x y (h 0 (omega arith))) (divides_by a b (omega arith) (λ k l. h (suc k) (omega arith)))

pub divides_from_entries : (a b : List ℕ) → length a ≡ 8 → length b ≡ 8 → ((k : ℕ) → k < 8 → get_or a k 0 ≤ get_or b k 0) → divides a b ≡ true
divides_from_entries a b la lb entries = divides_by a b (la ∙ sym lb) (λ k l. entries k (omega arith))

both : (s t : Bool) → (s && t) ≡ true → (s ≡ true) × (t ≡ true)
both true t h = (refl, h)
both false t h = absurd (true≢false (sym h))

-- And no entry is above the other's where it divides.
pub divides_entry : (a b : List ℕ) → length a ≡ length b → divides a b ≡ true → (k : ℕ) → get_or a k 0 ≤ get_or b k 0
unfolding divides
divides_entry [] b e h k = omega arith
divides_entry (x ∷ a) [] e h k = absurd (true≢false (sym h))
divides_entry (x ∷ a) (y ∷ b) e h zero = leb-true x y (both _ _ h).0
divides_entry (x ∷ a) (y ∷ b) e h (suc k) = divides_entry a b (omega arith) (both _ _ h).1 k

pub divides_not : (a b : List ℕ) → length a ≡ length b → (k : ℕ) → get_or b k 0 < get_or a k 0 → divides a b ≡ false
divides_not a b e k above = by (divides a b) refl
  where
    by : (t : Bool) → divides a b ≡ t → divides a b ≡ false
    by true h = absurd (omega (arith, divides_entry a b e h k))
    by false h = h

-- A list that is written at the next place.
pub written : (g : ℕ → ℕ) (xs : List ℕ) (i v : ℕ) → i < length xs → ((k : ℕ) → k < i → get_or xs k 0 ≡ g k) → v ≡ g i
    → (k : ℕ) → k < i + 1 → get_or (set xs i v) k 0 ≡ g k
written g xs i v l before now k below =
    ⊎_elim (λ (e : k ≡ i). ap (λ j. get_or (set xs i v) j 0) e ∙ get_or-set_same xs i v 0 l ∙ now ∙ ap g (sym e))
    (λ less. get_or-set_other xs i k v 0 (λ e. omega arith) ∙ before k less) (eq-or-lt_of_le (let le : k ≤ i = omega arith in le))

-- A quotient has no greater total.
pub total-minus : (a b : List ℕ) → length b ≡ length a → divides b a ≡ true → total (minus a b) ≤ total a
total-minus a b e h = omega (arith, ap total (plus-minus_lists b a e h), total-plus b (minus a b) (e ∙ sym (length-minus b a e)))
