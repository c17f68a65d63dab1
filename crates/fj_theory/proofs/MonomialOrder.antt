-- Laws of monomial orders, and that the four keys are monomial orders.
use Rattle.std.proofs.Common.{◌≡◌, ◌⊎◌, ⊎_elim, ℕ, zero, suc, ◌+◌, ◌<◌, ◌≤◌, false, List, [], ◌∷◌, length, replicate, All, nat_cmp, is_gt, Ordering, Less, Equal, refl, sym, ap, ap₂, ◌∙◌, subst, arith, Greater}
use Rattle.std.specs.Cmp.{IsTotalOrder}
use Rattle.std.specs.Cmp.Lexicographic.{slice_cmp}
use Rattle.std.specs.Ordering.{ordering_then, ordering_reverse}
use Rattle.std.proofs.lemmas.Bool.Decides.{nat_tests}
use Rattle.std.proofs.lemmas.Cmp.{nat_list_cmp_total, on_total, tied_itself}
use Rattle.std.proofs.lemmas.Map.Lookups.{exact_bytes}
use Rattle.std.proofs.lemmas.List.Elements.{All-head, All-tail}
use Rattle.fj_theory.specs.Exponents.{IsExponents, origin, plus, times}
use Rattle.fj_theory.specs.MonomialOrder.{compare_by, IsMonomialOrder}
use Rattle.fj_theory.proofs.Exponents.{IsExponents-origin, plus_comm, total_origin, times_zero, plus_origin, times_suc, IsExponents-times}

-- The order of a key is a total order.
pub compare_by_total : (key : List ℕ → List ℕ) → IsTotalOrder (compare_by key)
compare_by_total key = on_total key nat_list_cmp_total

nat_cmp-plus : (x y z : ℕ) → nat_cmp (x + z) (y + z) ≡ nat_cmp x y
nat_cmp-plus x y z = grind (arith, nat_tests)

pub slice_cmp-plus : (x y z : List ℕ) → length x ≡ length z → length y ≡ length z → slice_cmp nat_cmp (plus x z) (plus y z) ≡ slice_cmp nat_cmp x y
unfolding plus
slice_cmp-plus [] [] z e f = refl
slice_cmp-plus [] (v ∷ y) [] e f = absurd (omega arith)
slice_cmp-plus [] (v ∷ y) (w ∷ z) e f = absurd (omega arith)
slice_cmp-plus (u ∷ x) [] [] e f = absurd (omega arith)
slice_cmp-plus (u ∷ x) [] (w ∷ z) e f = absurd (omega arith)
slice_cmp-plus (u ∷ x) (v ∷ y) [] e f = absurd (omega arith)
slice_cmp-plus (u ∷ x) (v ∷ y) (w ∷ z) e f = ap₂ ordering_then (nat_cmp-plus u v w) (slice_cmp-plus x y z (omega arith) (omega arith))

zero_first : (u : ℕ) (o : Ordering) → is_gt o ≡ false → is_gt (ordering_then (nat_cmp 0 u) o) ≡ false
zero_first u o h = grind (arith, nat_tests)

slice_cmp_zeros : (n : ℕ) (x : List ℕ) → length x ≡ n → is_gt (slice_cmp nat_cmp (replicate n 0) x) ≡ false
slice_cmp_zeros zero [] e = refl
slice_cmp_zeros zero (u ∷ x) e = absurd (omega arith)
slice_cmp_zeros (suc n) [] e = absurd (omega arith)
slice_cmp_zeros (suc n) (u ∷ x) e = zero_first u (slice_cmp nat_cmp (replicate n 0) x) (slice_cmp_zeros n x (omega arith))

zeros_from_bound : (n : ℕ) (x : List ℕ) → length x ≡ n → All (λ k. k ≤ 0) x → x ≡ replicate n 0
zeros_from_bound zero [] e all = refl
zeros_from_bound zero (u ∷ x) e all = absurd (omega arith)
zeros_from_bound (suc n) [] e all = absurd (omega arith)
zeros_from_bound (suc n) (u ∷ x) e all =
    let h = All-head (λ k. k ≤ 0) u x all in
    let z : u ≡ 0 = omega arith in
    ap₂ (λ (k : ℕ) (y : List ℕ). k ∷ y) z (zeros_from_bound n x (omega arith) (All-tail (λ k. k ≤ 0) u x all))

times_one : {a : List ℕ} → IsExponents a → times 1 a ≡ a
times_one {a} A = times_suc 0 a ∙ ap (plus a) (times_zero A) ∙ plus_origin A

-- Lexicographic induction over the lists of n numbers.
below_all : (Q : ℕ → Type 0) → ((x : ℕ) → ((y : ℕ) → y < x → Q y) → Q x) → (x y : ℕ) → y < x → Q y
below_all Q step zero y h = absurd (omega arith)
below_all Q step (suc x) y h = step y (λ z g. below_all Q step x z (omega arith))

nat_cmp_split : (y x : ℕ) (o : Ordering) → ordering_then (nat_cmp y x) o ≡ Less → (y < x) ⊎ ((y ≡ x) × (o ≡ Less))
nat_cmp_split y x o h = grind (arith, nat_tests)

-- What is known at a list k of n numbers: Q of each lesser one.
abbrev LessHold : ℕ → (List ℕ → Type 0) → List ℕ → Type 0
LessHold n Q k = (j : List ℕ) → length j ≡ n → slice_cmp nat_cmp j k ≡ Less → Q j

nothing_less : (Q : List ℕ → Type 0) → LessHold 0 Q []
nothing_less Q [] f l = cc
nothing_less Q (y ∷ j) f l = absurd (omega arith)

less_by_head : (n : ℕ) (Q : List ℕ → Type 0) (x : ℕ) → ((y : ℕ) → y < x → (k : List ℕ) → length k ≡ n → Q (y ∷ k)) → (k : List ℕ)
    → LessHold n (λ j. Q (x ∷ j)) k → LessHold (suc n) Q (x ∷ k)
less_by_head n Q x lower k inner [] g l = absurd (omega arith)
less_by_head n Q x lower k inner (y ∷ j) g l =
    ⊎_elim (λ h. lower y h j (omega arith)) (λ h. subst (λ z. Q (z ∷ j)) (sym h.0) (inner j (omega arith) h.1)) (nat_cmp_split y x (slice_cmp nat_cmp j k) l)

lex_induction : (n : ℕ) (Q : List ℕ → Type 0) → ((k : List ℕ) → length k ≡ n → LessHold n Q k → Q k) → (k : List ℕ) → length k ≡ n → Q k
lex_induction zero Q step [] e = step [] e (nothing_less Q)
lex_induction zero Q step (x ∷ k) e = absurd (omega arith)
lex_induction (suc n) Q step [] e = absurd (omega arith)
lex_induction (suc n) Q step (x ∷ k) e =
    let Heads : ℕ → Type 0 = λ y. (j : List ℕ) → length j ≡ n → Q (y ∷ j) in
    let at_head : (y : ℕ) → ((z : ℕ) → z < y → Heads z) → Heads y =
    λ y lower. lex_induction n (λ j. Q (y ∷ j)) (λ j f inner. step (y ∷ j) (ap suc f) (less_by_head n Q y lower j inner)) in
    at_head x (below_all Heads at_head x) k (omega arith)

module _ {key : List ℕ → List ℕ} (O : IsMonomialOrder key) where
  -- Only equal exponent lists tie.
  pub compare_by_exact : {a b : List ℕ} → IsExponents a → IsExponents b → compare_by key a b ≡ Equal → a ≡ b
  compare_by_exact {a} {b} A B e = O.injective a b A B (exact_bytes (key a) (key b) e)

  -- A product on both sides keeps the order.
  pub compare_by-plus : {a b c : List ℕ} → IsExponents a → IsExponents b → IsExponents c → compare_by key (plus a c) (plus b c) ≡ compare_by key a b
  compare_by-plus {a} {b} {c} A B C = O.kept a b c A B C

  pub compare_by-plus_left : {a b c : List ℕ} → IsExponents a → IsExponents b → IsExponents c
      → compare_by key (plus c a) (plus c b) ≡ compare_by key a b
  compare_by-plus_left {a} {b} {c} A B C = ap₂ (compare_by key) (plus_comm c a) (plus_comm c b) ∙ compare_by-plus A B C

  key_origin : key origin ≡ replicate 9 0
  key_origin = zeros_from_bound 9 (key origin) (O.nine origin IsExponents-origin) (subst (λ t. All (λ k. k ≤ t) (key origin)) total_origin (O.bounded origin IsExponents-origin))

  -- The monomial 1 is the least.
  pub origin_least : {a : List ℕ} → IsExponents a → is_gt (compare_by key origin a) ≡ false
  origin_least {a} A = ap (λ k. is_gt (slice_cmp nat_cmp k (key a))) key_origin ∙ slice_cmp_zeros 9 (key a) (O.nine a A)

  -- Strict induction along the order: what holds of an exponent list where it holds of each lesser one holds of all.
  pub order_induction : (P : List ℕ → Type 0)
      → ((a : List ℕ) → IsExponents a → ((b : List ℕ) → IsExponents b → compare_by key b a ≡ Less → P b) → P a) → (a : List ℕ) → IsExponents a → P a
  order_induction P step a A =
      lex_induction 9 (λ k. (b : List ℕ) → IsExponents b → key b ≡ k → P b)
      (λ k e lower b B f. step b B (λ c C l. lower (key c) (O.nine c C) (subst (λ j. slice_cmp nat_cmp (key c) j ≡ Less) f l) c C refl))
      (key a) (O.nine a A) a A refl

module _ {key : List ℕ → List ℕ} (O : IsMonomialOrder key) where
  total_order : IsTotalOrder (compare_by key)
  total_order = compare_by_total key

  -- What is less stays so in each power.
  less-times : (n : ℕ) {a b : List ℕ} → IsExponents a → IsExponents b → compare_by key a b ≡ Less → compare_by key (times (suc n) a) (times (suc n) b) ≡ Less
  less-times zero {a} {b} A B l = ap₂ (compare_by key) (times_one A) (times_one B) ∙ l
  less-times (suc n) {a} {b} A B l =
      let x : List ℕ = times (suc n) a in
      let y : List ℕ = times (suc n) b in
      let X = IsExponents-times (suc n) A in
      let Y = IsExponents-times (suc n) B in
      ap₂ (compare_by key) (times_suc (suc n) a) (times_suc (suc n) b)
      ∙ total_order.trans (plus a x) (plus b x) (plus b y) (compare_by-plus O A B X ∙ l) (compare_by-plus_left O X Y B ∙ less-times n A B l)

  -- A power on both sides keeps the order.
  pub compare_by-times : (n : ℕ) {a b : List ℕ} → 0 < n → IsExponents a → IsExponents b → compare_by key (times n a) (times n b) ≡ compare_by key a b
  compare_by-times zero h A B = absurd (omega arith)
  compare_by-times (suc n) {a} {b} h A B = go (compare_by key a b) refl
    where
      go : (r : Ordering) → compare_by key a b ≡ r → compare_by key (times (suc n) a) (times (suc n) b) ≡ r
      go Less e = less-times n A B e
      go Equal e = ap (λ c. compare_by key (times (suc n) a) (times (suc n) c)) (sym (compare_by_exact O A B e)) ∙ tied_itself total_order (times (suc n) a)
      go Greater e =
          total_order.antisymm (times (suc n) a) (times (suc n) b)
          ∙ ap ordering_reverse (less-times n B A (total_order.antisymm b a ∙ ap ordering_reverse e))
