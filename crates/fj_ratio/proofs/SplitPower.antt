-- Division by p as often as it goes.
use Rattle.std.proofs.Common.{◌≡◌, ℕ, ◌+◌, ◌*◌, ◌/◌, ◌%◌, ◌^◌, ◌<◌, ◌≤◌, sym, ap, ◌∙◌, add-one, arith, inl, inr}
use Rattle.std.proofs.lemmas.Bool.{cases_lt}
use Rattle.std.proofs.Math.Nat.{div-add-mod, pow-suc, mul-le-mul_right}

-- n is p^count*rest, with room for the count.
pub record IsSplit (p n count rest : ℕ) : Type 0 where
  pub whole : n ≡ p ^ count * rest
  pub room : count + rest ≤ n
  pub positive : 0 < rest

pub IsSplit-more : (p n count rest : ℕ) → 1 < p → IsSplit p n count rest → rest % p ≡ 0 → IsSplit p n (count + 1) (rest / p)
IsSplit-more p n count rest large h none =
    let quotient : p * (rest / p) ≡ rest = omega (arith, div-add-mod rest p) in
    let twice : 2 * (rest / p) ≤ p * (rest / p) = mul-le-mul_right (rest / p) large in
    let positive : 0 < rest / p = elim (cases_lt 0 (rest / p)) [
      | inl some ↦ some
      | inr nothing ↦ let zero_quotient : rest / p ≡ 0 = omega arith in absurd (omega (arith, h.positive, ap (λ m. p * m) zero_quotient))
    ] in
    let power : p ^ (count + 1) * (rest / p) ≡ p ^ count * (p * (rest / p)) = rw add-one (ap (λ m. m * (rest / p)) (pow-suc p count) ∙ omega arith) in
    record {
      whole = h.whole ∙ ap (λ m. p ^ count * m) (sym quotient) ∙ sym power;
      room = omega (arith, h.room);
      positive = positive;
    }

pub quotient_below : (p rest : ℕ) → 1 < p → 0 < rest → rest / p < rest
quotient_below p rest large positive =
    let twice : 2 * (rest / p) ≤ p * (rest / p) = mul-le-mul_right (rest / p) large in
    omega (arith, div-add-mod rest p)
