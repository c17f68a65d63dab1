-- The value of digits, of which no more than 2^32 is shown.
use Rattle.std.proofs.Common.{◌≡◌, ℕ, suc, ◌+◌, ◌-◌, ◌*◌, ◌^◌, ◌<◌, ◌≤◌, Bool, true, false, leb, ltb, List, [], ◌∷◌, length, get_or, take, min, refl, arith, inl, inr}
use Rattle.std.specs.Char.{is_ascii_digit, digit_value}
use Rattle.std.specs.List.{prefix_len, list_all}
use Rattle.std.specs.Str.Parse.{digits_value}
use Rattle.std.proofs.lemmas.Bool.{cases_Bool, and_parts, leb-true, le-ltb, lt-ltb}
use Rattle.std.proofs.lemmas.Int.Digits.{digits_value_more}
use Rattle.std.proofs.lemmas.List.Sums.{AllPass-from_list_all}
use Rattle.fj_text.specs.Token.{number_shown}

pub digit_low : (digits : List ℕ) (i : ℕ) → list_all is_ascii_digit digits ≡ true → i < length digits → 48 ≤ get_or digits i 0
digit_low digits i h inside = leb-true _ _ (and_parts (leb 48 (get_or digits i 0)) (leb (get_or digits i 0) 57) (AllPass-from_list_all is_ascii_digit digits h i 0 inside)).0

pub digit_high : (digits : List ℕ) (i : ℕ) → list_all is_ascii_digit digits ≡ true → i < length digits → get_or digits i 0 ≤ 57
digit_high digits i h inside = leb-true _ _ (and_parts (leb 48 (get_or digits i 0)) (leb (get_or digits i 0) 57) (AllPass-from_list_all is_ascii_digit digits h i 0 inside)).1

value_of_digit : (c : ℕ) → 48 ≤ c → c ≤ 57 → digit_value c ≡ c - 48
value_of_digit c low high =
    let first : ltb c 48 ≡ false = le-ltb _ _ low in
    let second : ltb c 58 ≡ true = lt-ltb _ _ (omega arith) in
    rw (first, second) refl

capped : (v w d : ℕ) → w ≡ v * 10 + d → min (min v (2 ^ 32) * 10 + d) (2 ^ 32) ≡ min w (2 ^ 32)
capped v w d e = omega arith

-- one more digit
pub shown_more : (digits : List ℕ) (i : ℕ) → list_all is_ascii_digit digits ≡ true → i < length digits
    → min (number_shown (take i digits) * 10 + (get_or digits i 0 - 48)) (2 ^ 32) ≡ number_shown (take (i + 1) digits)
shown_more digits i h inside =
    let digit = value_of_digit (get_or digits i 0) (digit_low digits i h inside) (digit_high digits i h inside) in
    capped (digits_value 10 (take i digits)) (digits_value 10 (take (i + 1) digits)) (get_or digits i 0 - 48) (omega (arith, digit, digits_value_more 10 digits i inside))

-- the bytes of a longest front pass
pub front_passes : (test : ℕ → Bool) (bytes : List ℕ) → list_all test (take (prefix_len test bytes) bytes) ≡ true
front_passes test [] = refl
front_passes test (b ∷ bytes) =
    elim (cases_Bool (test b)) [
      | inl holds ↦ rw holds (let one : 1 + prefix_len test bytes ≡ suc (prefix_len test bytes) = omega arith in rw one (rw (holds, front_passes test bytes) refl))
      | inr fails ↦ rw fails refl
    ]
