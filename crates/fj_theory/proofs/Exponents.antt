-- Laws of exponent lists: sum, multiple, difference and divisibility.
use Rattle.std.proofs.Common.{◌≡◌, ℕ, zero, suc, ◌+◌, ◌*◌, ◌/◌, ◌<◌, ◌≤◌, true, List, [], ◌∷◌, length, refl, sym, ap, ap₂, ◌∙◌, arith, add_comm, add_assoc, mul-add, mul_assoc, one-mul, mul-zero, replicate}
use Rattle.std.proofs.Math.Nat.{mul-div_cancel_left}
use Rattle.std.proofs.lemmas.Bool.{and_parts, and_from, leb-true, le-leb}
use Rattle.std.proofs.lemmas.List.{length-map}
use Rattle.std.proofs.lemmas.List.Sums.{sum_by-cons}
use Rattle.fj_theory.specs.Exponents.{IsExponents, total, origin, plus, times, divides, minus}

pub cons_same : {x y : ℕ} {a b : List ℕ} → x ≡ y → a ≡ b → x ∷ a ≡ y ∷ b
cons_same e f i = e i ∷ f i

pub tails_same : {x y : ℕ} {a b : List ℕ} → x ∷ a ≡ y ∷ b → a ≡ b
tails_same e = cc

pub heads_same : {x y : ℕ} {a b : List ℕ} → x ∷ a ≡ y ∷ b → x ≡ y
heads_same e = cc

-- The sum is commutative and associative, for lists of any lengths.
pub plus_comm : (a b : List ℕ) → plus a b ≡ plus b a
unfolding plus
plus_comm [] [] = refl
plus_comm [] (y ∷ b) = refl
plus_comm (x ∷ a) [] = refl
plus_comm (x ∷ a) (y ∷ b) = cons_same (add_comm x y) (plus_comm a b)

pub plus_assoc : (a b c : List ℕ) → plus (plus a b) c ≡ plus a (plus b c)
unfolding plus
plus_assoc [] b c = refl
plus_assoc (x ∷ a) [] c = refl
plus_assoc (x ∷ a) (y ∷ b) [] = refl
plus_assoc (x ∷ a) (y ∷ b) (z ∷ c) = cons_same (add_assoc x y z) (plus_assoc a b c)

pub plus_left_comm : (a b c : List ℕ) → plus a (plus b c) ≡ plus b (plus a c)
plus_left_comm a b c = sym (plus_assoc a b c) ∙ ap (λ d. plus d c) (plus_comm a b) ∙ plus_assoc b a c

-- The sum of two sums, by places.
pub plus_interchange : (a b c d : List ℕ) → plus (plus a b) (plus c d) ≡ plus (plus a c) (plus b d)
plus_interchange a b c d = plus_assoc a b (plus c d) ∙ ap (plus a) (plus_left_comm b c d) ∙ sym (plus_assoc a c (plus b d))

pub length-plus : (a b : List ℕ) → length a ≡ length b → length (plus a b) ≡ length a
unfolding plus
length-plus [] b e = refl
length-plus (x ∷ a) [] e = sym e
length-plus (x ∷ a) (y ∷ b) e = ap suc (length-plus a b (omega arith))

pub total-cons : (x : ℕ) (a : List ℕ) → total (x ∷ a) ≡ x + total a
total-cons x a = sum_by-cons (λ k. k) x a

add_four : (x y s t u : ℕ) → u ≡ s + t → x + y + u ≡ x + s + (y + t)
add_four x y s t u e = omega arith

-- The total of a sum is the sum of the totals.
pub total-plus : (a b : List ℕ) → length a ≡ length b → total (plus a b) ≡ total a + total b
unfolding plus
total-plus [] [] e = refl
total-plus [] (y ∷ b) e = absurd (omega arith)
total-plus (x ∷ a) [] e = absurd (omega arith)
total-plus (x ∷ a) (y ∷ b) e =
    total-cons (x + y) (plus a b) ∙ add_four x y (total a) (total b) _ (total-plus a b (omega arith))
    ∙ sym (ap₂ ◌+◌ (total-cons x a) (total-cons y b))

pub plus_cancel_lists : (a b c : List ℕ) → length a ≡ length b → length a ≡ length c → plus a b ≡ plus a c → b ≡ c
unfolding plus
plus_cancel_lists [] [] [] e f s = refl
plus_cancel_lists [] [] (z ∷ c) e f s = absurd (omega arith)
plus_cancel_lists [] (y ∷ b) c e f s = absurd (omega arith)
plus_cancel_lists (x ∷ a) [] c e f s = absurd (omega arith)
plus_cancel_lists (x ∷ a) (y ∷ b) [] e f s = absurd (omega arith)
plus_cancel_lists (x ∷ a) (y ∷ b) (z ∷ c) e f s =
    let h = heads_same s in
    cons_same (omega arith) (plus_cancel_lists a b c (omega arith) (omega arith) (tails_same s))

-- The difference undoes the sum.
pub minus-plus_lists : (a b : List ℕ) → length a ≡ length b → minus (plus a b) a ≡ b
unfolding plus minus
minus-plus_lists [] [] e = refl
minus-plus_lists [] (y ∷ b) e = absurd (omega arith)
minus-plus_lists (x ∷ a) [] e = absurd (omega arith)
minus-plus_lists (x ∷ a) (y ∷ b) e = cons_same (omega arith) (minus-plus_lists a b (omega arith))

pub plus-minus_lists : (a b : List ℕ) → length a ≡ length b → divides a b ≡ true → plus a (minus b a) ≡ b
unfolding plus minus divides
plus-minus_lists [] [] e d = refl
plus-minus_lists [] (y ∷ b) e d = absurd (omega arith)
plus-minus_lists (x ∷ a) [] e d = absurd (omega arith)
plus-minus_lists (x ∷ a) (y ∷ b) e d =
    let parts = and_parts _ _ d in
    let le = leb-true x y parts.0 in
    cons_same (omega arith) (plus-minus_lists a b (omega arith) parts.1)

pub length-minus : (a b : List ℕ) → length a ≡ length b → length (minus b a) ≡ length b
unfolding minus
length-minus a [] e = refl
length-minus [] (y ∷ b) e = absurd (omega arith)
length-minus (x ∷ a) (y ∷ b) e = ap suc (length-minus a b (omega arith))

pub divides-plus_lists : (a b : List ℕ) → length a ≡ length b → divides a (plus a b) ≡ true
unfolding plus divides
divides-plus_lists [] b e = refl
divides-plus_lists (x ∷ a) [] e = absurd (omega arith)
divides-plus_lists (x ∷ a) (y ∷ b) e = and_from _ _ (le-leb x (x + y) (omega arith)) (divides-plus_lists a b (omega arith))

-- Multiples.
pub length-times : (q : ℕ) (a : List ℕ) → length (times q a) ≡ length a
unfolding times
length-times q a = length-map a (λ x. q * x)

pub times-plus : (q : ℕ) (a b : List ℕ) → times q (plus a b) ≡ plus (times q a) (times q b)
unfolding times plus
times-plus q [] b = refl
times-plus q (x ∷ a) [] = refl
times-plus q (x ∷ a) (y ∷ b) = cons_same (mul-add q x y) (times-plus q a b)

pub times-times : (p q : ℕ) (a : List ℕ) → times p (times q a) ≡ times (p * q) a
unfolding times
times-times p q [] = refl
times-times p q (x ∷ a) = cons_same (sym (mul_assoc p q x)) (times-times p q a)

pub times_one : (a : List ℕ) → times 1 a ≡ a
unfolding times
times_one [] = refl
times_one (x ∷ a) = cons_same (one-mul x) (times_one a)

-- The multiple by a successor is one summand more.
pub times_suc : (q : ℕ) (a : List ℕ) → times (suc q) a ≡ plus a (times q a)
unfolding times plus
times_suc q [] = refl
times_suc q (x ∷ a) = cons_same (omega arith) (times_suc q a)

pub total-times : (q : ℕ) (a : List ℕ) → total (times q a) ≡ q * total a
unfolding times
total-times q [] = omega arith
total-times q (x ∷ a) = total-cons (q * x) (times q a) ∙ ap (λ k. q * x + k) (total-times q a) ∙ sym (mul-add q x (total a))
    ∙ ap (λ k. q * k) (sym (total-cons x a))

times_cancel_step : (q x y : ℕ) → 0 < q → q * x ≡ q * y → x ≡ y
times_cancel_step q x y h e = sym (mul-div_cancel_left x h) ∙ ap (λ k. k / q) e ∙ mul-div_cancel_left y h

pub times_cancel : (q : ℕ) (a b : List ℕ) → 0 < q → times q a ≡ times q b → a ≡ b
unfolding times
times_cancel q [] [] h e = refl
times_cancel q [] (y ∷ b) h e = cc
times_cancel q (x ∷ a) [] h e = cc
times_cancel q (x ∷ a) (y ∷ b) h e = cons_same (times_cancel_step q x y h (heads_same e)) (times_cancel q a b h (tails_same e))

-- Divisibility is an order.
pub divides_refl : (a : List ℕ) → divides a a ≡ true
unfolding divides
divides_refl [] = refl
divides_refl (x ∷ a) = and_from _ _ (le-leb x x (omega arith)) (divides_refl a)

pub divides_trans : (a b c : List ℕ) → divides a b ≡ true → divides b c ≡ true → divides a c ≡ true
unfolding divides
divides_trans [] b c d e = refl
divides_trans (x ∷ a) [] c d e = cc
divides_trans (x ∷ a) (y ∷ b) [] d e = cc
divides_trans (x ∷ a) (y ∷ b) (z ∷ c) d e =
    let p = and_parts _ _ d in
    let q = and_parts _ _ e in
    let le = leb-true x y p.0 in
    let le' = leb-true y z q.0 in
    and_from _ _ (le-leb x z (omega arith)) (divides_trans a b c p.1 q.1)

pub divides_antisymm : (a b : List ℕ) → divides a b ≡ true → divides b a ≡ true → a ≡ b
unfolding divides
divides_antisymm [] [] d e = refl
divides_antisymm [] (y ∷ b) d e = cc
divides_antisymm (x ∷ a) [] d e = cc
divides_antisymm (x ∷ a) (y ∷ b) d e =
    let p = and_parts _ _ d in
    let q = and_parts _ _ e in
    let le = leb-true x y p.0 in
    let le' = leb-true y x q.0 in
    cons_same (omega arith) (divides_antisymm a b p.1 q.1)

-- A divisor has no greater total.
pub divides-total : (a b : List ℕ) → divides a b ≡ true → total a ≤ total b
unfolding divides
divides-total [] b d = omega arith
divides-total (x ∷ a) [] d = cc
divides-total (x ∷ a) (y ∷ b) d =
    let p = and_parts _ _ d in
    let le = leb-true x y p.0 in
    omega (arith, divides-total a b p.1, total-cons x a, total-cons y b)

pub plus_zeros : (a : List ℕ) (n : ℕ) → length a ≡ n → plus a (replicate n 0) ≡ a
unfolding plus
plus_zeros [] n e = refl
plus_zeros (x ∷ a) zero e = absurd (omega arith)
plus_zeros (x ∷ a) (suc n) e = cons_same (omega arith) (plus_zeros a n (omega arith))

times_zeros : (a : List ℕ) (n : ℕ) → length a ≡ n → times 0 a ≡ replicate n 0
unfolding times
times_zeros [] zero e = refl
times_zeros [] (suc n) e = absurd (omega arith)
times_zeros (x ∷ a) zero e = absurd (omega arith)
times_zeros (x ∷ a) (suc n) e = cons_same (omega arith) (times_zeros a n (omega arith))

total_zeros : (a : List ℕ) (n : ℕ) → length a ≡ n → total a ≡ 0 → a ≡ replicate n 0
total_zeros [] zero e t = refl
total_zeros [] (suc n) e t = absurd (omega arith)
total_zeros (x ∷ a) zero e t = absurd (omega arith)
total_zeros (x ∷ a) (suc n) e t =
    let s = sym (total-cons x a) ∙ t in
    cons_same (omega arith) (total_zeros a n (omega arith) (omega arith))

divides_zeros : (a : List ℕ) (n : ℕ) → length a ≡ n → divides (replicate n 0) a ≡ true
unfolding divides
divides_zeros a zero e = refl
divides_zeros [] (suc n) e = absurd (omega arith)
divides_zeros (x ∷ a) (suc n) e = and_from _ _ (le-leb 0 x (omega arith)) (divides_zeros a n (omega arith))

-- The same for the exponent lists, which have eight entries.
pub IsExponents-origin : IsExponents origin
unfolding origin
IsExponents-origin = record { eight = refl }

pub IsExponents-plus : {a b : List ℕ} → IsExponents a → IsExponents b → IsExponents (plus a b)
IsExponents-plus {a} {b} A B = record { eight = length-plus a b (A.eight ∙ sym B.eight) ∙ A.eight }

pub IsExponents-minus : {a b : List ℕ} → IsExponents a → IsExponents b → IsExponents (minus a b)
IsExponents-minus {a} {b} A B = record { eight = length-minus b a (B.eight ∙ sym A.eight) ∙ A.eight }

pub IsExponents-times : (q : ℕ) {a : List ℕ} → IsExponents a → IsExponents (times q a)
IsExponents-times q {a} A = record { eight = length-times q a ∙ A.eight }

pub plus_origin : {a : List ℕ} → IsExponents a → plus a origin ≡ a
unfolding origin
plus_origin {a} A = plus_zeros a 8 A.eight

pub origin_plus : {a : List ℕ} → IsExponents a → plus origin a ≡ a
origin_plus {a} A = plus_comm origin a ∙ plus_origin A

pub times_zero : {a : List ℕ} → IsExponents a → times 0 a ≡ origin
unfolding origin
times_zero {a} A = times_zeros a 8 A.eight

pub times_origin : (q : ℕ) → times q origin ≡ origin
unfolding origin times
times_origin q = simp mul-zero

pub total_origin : total origin ≡ 0
unfolding origin
total_origin = refl

pub origin_from_total : {a : List ℕ} → IsExponents a → total a ≡ 0 → a ≡ origin
unfolding origin
origin_from_total {a} A t = total_zeros a 8 A.eight t

pub origin_divides : {a : List ℕ} → IsExponents a → divides origin a ≡ true
unfolding origin
origin_divides {a} A = divides_zeros a 8 A.eight

pub plus_cancel_left : {a b c : List ℕ} → IsExponents a → IsExponents b → IsExponents c → plus a b ≡ plus a c → b ≡ c
plus_cancel_left {a} {b} {c} A B C = plus_cancel_lists a b c (A.eight ∙ sym B.eight) (A.eight ∙ sym C.eight)

pub plus_cancel_right : {a b c : List ℕ} → IsExponents a → IsExponents b → IsExponents c → plus b a ≡ plus c a → b ≡ c
plus_cancel_right {a} {b} {c} A B C e = plus_cancel_left A B C (plus_comm a b ∙ e ∙ plus_comm c a)

pub minus-plus : {a b : List ℕ} → IsExponents a → IsExponents b → minus (plus a b) a ≡ b
minus-plus {a} {b} A B = minus-plus_lists a b (A.eight ∙ sym B.eight)

-- A divisor and the quotient add up.
pub plus-minus : {a b : List ℕ} → IsExponents a → IsExponents b → divides a b ≡ true → plus a (minus b a) ≡ b
plus-minus {a} {b} A B = plus-minus_lists a b (A.eight ∙ sym B.eight)

pub divides-plus : {a b : List ℕ} → IsExponents a → IsExponents b → divides a (plus a b) ≡ true
divides-plus {a} {b} A B = divides-plus_lists a b (A.eight ∙ sym B.eight)

pub total-plus_exponents : {a b : List ℕ} → IsExponents a → IsExponents b → total (plus a b) ≡ total a + total b
total-plus_exponents {a} {b} A B = total-plus a b (A.eight ∙ sym B.eight)
