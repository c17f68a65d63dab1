-- A generated session is short.
use Rattle.std.proofs.Common.{ℕ, zero, suc, ◌+◌, ◌*◌, ◌/◌, ◌^◌, ◌<◌, ◌≤◌, List, ◌++◌, length, arith, codes, decimal}
use Rattle.std.specs.List.{flat_map, range_with_len}
use Rattle.std.proofs.lemmas.Fmt.{length-decimal-le}
use Rattle.std.proofs.lemmas.List.{length-append}
use Rattle.std.proofs.lemmas.Nat.{mod_below}
use Rattle.fj_coeff.specs.Field.{greatest_prime}
use Rattle.fj_gen.specs.Generated.{jumps_line, lines_at, name_at, numerator_at, poly_line, ring_line, test_line, x_exponent, y_exponent}

record IsShort (bytes : List ℕ) (most : ℕ) : Type 0 where
  short : length bytes ≤ most

joined : {m n : ℕ} {a b : List ℕ} → IsShort a m → IsShort b n → IsShort (a ++ b) (m + n)
joined {m} {n} {a} {b} first second = record { short = omega (arith, first.short, second.short, length-append a b) }

number_short : (n : ℕ) → n < 2 ^ 32 → IsShort (decimal n) 10
number_short n low = record { short = length-decimal-le 10 n (omega arith) (omega arith) (omega arith) }

name_short : (i : ℕ) → i < 2 ^ 32 → IsShort (name_at i) 11
name_short i low = let f : IsShort (codes "f") 1 = record { short = omega arith } in joined f (number_short i low)

poly_short : (i : ℕ) → i < 2 ^ 32 → IsShort (poly_line i) 45
poly_short i low =
    let poly : IsShort (codes "poly ") 5 = record { short = omega arith } in
    let x : IsShort (codes " = x^") 5 = record { short = omega arith } in
    let y : IsShort (codes "+y^") 3 = record { short = omega arith } in
    let end : IsShort (codes "\n") 1 = record { short = omega arith } in
    let a = mod_below i 4 (omega arith) in
    let b = mod_below (i / 4) 4 (omega arith) in
    joined (joined (joined (joined (joined (joined poly (name_short i low)) x) (number_short (x_exponent i) (omega (arith, a)))) y) (number_short (y_exponent i) (omega (arith, b)))) end

jumps_short : (i : ℕ) → i < 2 ^ 32 → IsShort (jumps_line i) 24
jumps_short i low =
    let ask : IsShort (codes "ask jumps ") 10 = record { short = omega arith } in
    let end : IsShort (codes " 1\n") 3 = record { short = omega arith } in
    joined (joined ask (name_short i low)) end

test_short : (p i : ℕ) → 0 < p → p ≤ greatest_prime → i < 2 ^ 32 → IsShort (test_line p i) 43
test_short p i positive small low =
    let ask : IsShort (codes "ask test ") 9 = record { short = omega arith } in
    let blank : IsShort (codes " ") 1 = record { short = omega arith } in
    let slash : IsShort (codes "/") 1 = record { short = omega arith } in
    let end : IsShort (codes "\n") 1 = record { short = omega arith } in
    let m = mod_below i p positive in
    joined (joined (joined (joined (joined (joined ask (name_short i low)) blank) (number_short (numerator_at p i) (omega (arith, m, small)))) slash) (number_short p (omega (arith, small)))) end

module _ (p : ℕ) (positive : 0 < p) (small : p ≤ greatest_prime) where
  ring_short : IsShort (ring_line p) 21
  ring_short =
      let ring : IsShort (codes "ring ") 5 = record { short = omega arith } in
      let names : IsShort (codes " x, y\n") 6 = record { short = omega arith } in
      joined (joined ring (number_short p (omega (arith, small)))) names

  lines_short : (i : ℕ) → i < 2 ^ 32 → IsShort (lines_at p i) 112
  unfolding lines_at
  lines_short i low = joined (joined (poly_short i low) (jumps_short i low)) (test_short p i positive small low)

  all_short : (m a : ℕ) → a + m ≤ 1001 → length (flat_map (lines_at p) (range_with_len a m)) ≤ m * 112
  all_short zero a low = omega arith
  all_short (suc m) a low = let rest : IsShort (flat_map (lines_at p) (range_with_len (a + 1) m)) (m * 112) = record { short = all_short m (a + 1) (omega arith) } in
      let both = joined (lines_short a (omega arith)) rest in omega (arith, both.short)

  pub session_short : (n : ℕ) → n ≤ 1000 → length (ring_line p ++ flat_map (lines_at p) (range_with_len 1 n)) ≤ 1048576
  session_short n few = let rest : IsShort (flat_map (lines_at p) (range_with_len 1 n)) (n * 112) = record { short = all_short n 1 (omega arith) } in let both = joined ring_short rest in omega (arith, both.short)
