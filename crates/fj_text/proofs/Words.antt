-- What a longest front of letters, digits and `_` is.
use Rattle.std.proofs.Common.{◌≡◌, ℕ, suc, ◌+◌, Bool, true, false, ◌||◌, eqb, List, [], ◌∷◌, All, take, Some, refl, sym, subst, ap, arith, inl, inr}
use Rattle.std.specs.Prelude.{slice_get}
use Rattle.std.specs.Int.{is_in_range}
use Rattle.std.specs.List.{prefix_len}
use Rattle.std.proofs.lemmas.Bool.{cases_Bool}
use Rattle.std.proofs.lemmas.List.Elements.{All-nil, All-cons}
use Rattle.fj_text.specs.Word.{is_word_start, is_word_byte, IsWord}

or_more : (d a c u : Bool) → ((a || c) || u) ≡ true → (((d || a) || c) || u) ≡ true
or_more true a c u h = refl
or_more false a c u h = h

-- A byte that begins a word may stand in one.
pub start_is_byte : (b : ℕ) → is_word_start b ≡ true → is_word_byte b ≡ true
start_is_byte b h = or_more (is_in_range 48 57 b) (is_in_range 65 90 b) (is_in_range 97 122 b) (eqb b 95) h

-- The bytes of a longest front pass, one by one.
pub front_passes_each : (test : ℕ → Bool) (bytes : List ℕ) → All (λ c. test c ≡ true) (take (prefix_len test bytes) bytes)
front_passes_each test [] = All-nil (λ c. test c ≡ true)
front_passes_each test (b ∷ bytes) =
    elim (cases_Bool (test b)) [
      | inl holds ↦ rw holds (let one : 1 + prefix_len test bytes ≡ suc (prefix_len test bytes) = omega arith in rw one (All-cons (λ c. test c ≡ true) b (take (prefix_len test bytes) bytes) holds (front_passes_each test bytes)))
      | inr fails ↦ rw fails (All-nil (λ c. test c ≡ true))
    ]

-- Behind a byte that begins a word, they make one.
pub front_is_word : (b : ℕ) (bytes : List ℕ) → is_word_start b ≡ true → IsWord (take (prefix_len is_word_byte (b ∷ bytes)) (b ∷ bytes))
front_is_word b bytes h =
    let one : 1 + prefix_len is_word_byte bytes ≡ suc (prefix_len is_word_byte bytes) = omega arith in
    rw (start_is_byte b h, one) (h, front_passes_each is_word_byte bytes)

-- The same of any bytes with such a byte at the front.
pub front_of_word : (bytes : List ℕ) (b n : ℕ) → Some b ≡ slice_get bytes 0 → is_word_start b ≡ true → n ≡ prefix_len is_word_byte bytes → IsWord (take n bytes)
front_of_word [] b n first starts e = absurd cc
front_of_word (c ∷ bytes) b n first starts e =
    let same : b ≡ c = cc in
    subst (λ k. IsWord (take k (c ∷ bytes))) (sym e) (front_is_word c bytes (subst (λ x. is_word_start x ≡ true) same starts))
