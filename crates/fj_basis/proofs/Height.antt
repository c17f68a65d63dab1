-- The lead of a dividend as one number: the digits of its key in base 2^40 + 1. It falls with each step of a division.
use Rattle.std.proofs.Common.{◌≡◌, ℕ, suc, ◌+◌, ◌*◌, ◌^◌, ◌<◌, ◌≤◌, List, [], ◌∷◌, length, All, Option, Some, None, Ordering, Less, Equal, Greater, nat_cmp, refl, sym, ap, ap₂, ◌∙◌, subst, arith}
use Rattle.std.specs.Cmp.Lexicographic.{slice_cmp}
use Rattle.std.specs.Ordering.{ordering_then}
use Rattle.std.proofs.Math.Nat.{pow-suc, pow-zero, mul-le-mul_right, mul_comm}
use Rattle.std.proofs.lemmas.Bool.Decides.{nat_tests}
use Rattle.std.proofs.lemmas.List.Elements.{All-head, All-tail, All-weaker}
use Rattle.fj_theory.specs.Exponents.{IsExponents, total}
use Rattle.fj_theory.specs.MonomialOrder.{IsMonomialOrder, compare_by}
use Rattle.fj_theory.specs.Polynomial.{Polynomial, lead}

-- The number with these digits, the most significant first.
unfoldable pub number : ℕ → List ℕ → ℕ
number b [] = 0
number b (x ∷ xs) = x * b ^ length xs + number b xs

abbrev AreDigits : ℕ → List ℕ → Type 0
AreDigits b xs = All (λ x. x < b) xs

next_power : (b n x : ℕ) → x < b → x * b ^ n + b ^ n ≤ b ^ suc n
next_power b n x l =
    let le : suc x * b ^ n ≤ b * b ^ n = mul-le-mul_right (b ^ n) l in
    let whole : b ^ suc n ≡ b ^ n * b = pow-suc b n in
    let turned = mul_comm (b ^ n) b in
    let more : suc x * b ^ n ≡ b ^ n + x * b ^ n = grind arith in
    omega (arith, le, whole, turned, more)

number-below : (b : ℕ) (xs : List ℕ) → AreDigits b xs → number b xs < b ^ length xs
unfolding number
number-below b [] all = let one = pow-zero b in omega (arith, one)
number-below b (x ∷ xs) all =
    let rest = number-below b xs (All-tail (λ x. x < b) x xs all) in
    let whole = next_power b (length xs) x (All-head (λ x. x < b) x xs all) in
    omega (arith, rest, whole)

-- A lesser list of digits is a lesser number.
pub number-less : (b : ℕ) (xs ys : List ℕ) → length xs ≡ length ys → AreDigits b xs → slice_cmp nat_cmp xs ys ≡ Less → number b xs < number b ys
unfolding number
number-less b [] [] e all h = absurd (let f : Equal ≡ Less = h in cc)
number-less b [] (y ∷ ys) e all h = absurd (omega (arith, e))
number-less b (x ∷ xs) [] e all h = absurd (omega (arith, e))
number-less b (x ∷ xs) (y ∷ ys) e all h =
    by (number-less b xs ys (omega (arith, e)) (All-tail (λ x. x < b) x xs all)) (nat_cmp x y) refl h
  where
    same_length : length xs ≡ length ys
    same_length = omega (arith, e)

    powers : b ^ length xs ≡ b ^ length ys
    powers = ap (λ n. b ^ n) same_length

    by : (slice_cmp nat_cmp xs ys ≡ Less → number b xs < number b ys) → (r : Ordering) → nat_cmp x y ≡ r → ordering_then r (slice_cmp nat_cmp xs ys) ≡ Less → x * b ^ length xs + number b xs < y * b ^ length ys + number b ys
    by hyp Less c k =
        let l : x < y = grind (arith, nat_tests) in
        let rest = number-below b xs (All-tail (λ x. x < b) x xs all) in
        let le : suc x * b ^ length ys ≤ y * b ^ length ys = mul-le-mul_right (b ^ length ys) l in
        let more : suc x * b ^ length ys ≡ b ^ length ys + x * b ^ length ys = grind arith in
        let whole = ap (λ p. x * p) powers in
        omega (arith, rest, le, more, whole, powers)
    by hyp Equal c k =
        let same : x ≡ y = grind (arith, nat_tests) in
        let rest = hyp k in
        let whole : x * b ^ length xs ≡ y * b ^ length ys = ap₂ (λ u p. u * p) same powers in
        omega (arith, rest, whole)
    by hyp Greater c k = absurd (let f : Greater ≡ Less = k in cc)

abbrev pub height_of : (List ℕ → List ℕ) → Option (List ℕ × ℕ) → ℕ
height_of key None = 0
height_of key (Some t) = suc (number (2 ^ 40 + 1) (key t.0))

-- The height of a polynomial: 0 for zero, else one more than the number of its lead.
abbrev pub height : (List ℕ → List ℕ) → Polynomial → ℕ
height key f = height_of key (lead key f)

module _ {key : List ℕ → List ℕ} (O : IsMonomialOrder key) where
  -- A lesser lead within the limit has a lesser height.
  pub height-less : (f g : Polynomial) (t : List ℕ × ℕ) → lead key f ≡ Some t → IsExponents t.0
      → ((u : List ℕ × ℕ) → lead key g ≡ Some u → IsExponents u.0 × (total u.0 ≤ 2 ^ 40) × (compare_by key u.0 t.0 ≡ Less))
      → height key g < height key f
  height-less f g t e T lower = by (lead key g) refl
    where
      by : (o : Option (List ℕ × ℕ)) → lead key g ≡ o → height_of key o < height_of key (lead key f)
      by None h = subst (λ p. 0 < height_of key p) (sym e) (omega arith)
      by (Some u) h =
          let l = lower u h in
          let U = l.0 in
          let bound = l.1 in
          let less = number-less (2 ^ 40 + 1) (key u.0) (key t.0) (O.nine u.0 U ∙ sym (O.nine t.0 T))
          (All-weaker (λ x. x ≤ total u.0) (λ x. x < 2 ^ 40 + 1) (λ x m. omega (arith, m, bound)) (key u.0) (O.bounded u.0 U)) l.2 in
          subst (λ p. suc (number (2 ^ 40 + 1) (key u.0)) < height_of key p) (sym e) (omega (arith, less))
