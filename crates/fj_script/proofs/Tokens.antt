-- The tokens of a line stand within it.
use Rattle.std.proofs.Common.{ℕ, zero, suc, ◌+◌, ◌-◌, ◌≤◌, Bool, true, false, if◌then◌else◌, List, [], ◌∷◌, ◌==◌, length, All, Option, Some, None, IfSome, arith}
use Rattle.std.specs.Char.{is_ascii_digit}
use Rattle.std.specs.List.{prefix_len}
use Rattle.std.specs.Option.{option_map_or}
use Rattle.fj_text.specs.State.{end_of, state_at, state_from}
use Rattle.fj_text.specs.Token.{Token, BadByte, Placed, is_blank, is_sign, token_at, tokens_from}
use Rattle.fj_text.specs.Word.{is_word_byte, is_word_start}
use Rattle.fj_script.proofs.Places.{IsNear, choose}

prefix_within : (test : ℕ → Bool) (bytes : List ℕ) → prefix_len test bytes ≤ length bytes
prefix_within test [] = omega arith
prefix_within test (b ∷ bytes) = by (test b) (prefix_within test bytes)
  where
    by : (c : Bool) → prefix_len test bytes ≤ length bytes → (if c then 1 + prefix_len test bytes else 0) ≤ suc (length bytes)
    by true rest = omega arith
    by false rest = omega arith

-- A token is no longer than the bytes.
abbrev Fits : ℕ → Option (Token × ℕ) → Type 0
Fits n token = IfSome token (λ t. t.1 ≤ n)

token_within : (b : ℕ) (bytes : List ℕ) → Fits (suc (length bytes)) (token_at (b ∷ bytes))
unfolding token_at
token_within b bytes =
    let fits : Option (Token × ℕ) → Type 0 = Fits (suc (length bytes)) in
    choose fits (is_word_start b) _ _ (prefix_within is_word_byte (b ∷ bytes))
    (choose fits (is_ascii_digit b) _ _ (prefix_within is_ascii_digit (b ∷ bytes))
    (choose fits (is_sign b) _ _ (omega arith) (choose fits (b == 35) None (Some (BadByte, 1)) tt (omega arith))))

module _ (n : ℕ) where
  abbrev Within : List Placed → Type 0
  Within ts = All (λ t. (t.start ≤ n) × (t.end ≤ n)) ts

  cons_within : (t : Placed) (ts : List Placed) → t.start ≤ n → t.end ≤ n → Within ts → Within (t ∷ ts)
  cons_within t ts start end rest zero d inside = (start, end)
  cons_within t ts start end rest (suc k) d inside = rest k d (omega arith)

  tokens_within : (taken column : ℕ) (bytes : List ℕ) → column + length bytes ≤ n → taken ≤ length bytes → Within (tokens_from taken column bytes)
  unfolding tokens_from
  tokens_within zero column [] near short = λ k d inside. absurd (omega arith)
  tokens_within (suc taken) column [] near short = λ k d inside. absurd (omega arith)
  tokens_within (suc taken) column (b ∷ bytes) near short = tokens_within taken (column + 1) bytes (omega arith) (omega arith)
  tokens_within zero column (b ∷ bytes) near short =
      choose Within (is_blank b) _ _ (tokens_within zero (column + 1) bytes (omega arith) (omega arith))
      (by (token_at (b ∷ bytes)) (token_within b bytes) (λ taken short. tokens_within taken (column + 1) bytes (omega arith) short))
    where
      by : (o : Option (Token × ℕ)) → Fits (suc (length bytes)) o → ((taken : ℕ) → taken ≤ length bytes → Within (tokens_from taken (column + 1) bytes))
          → Within (option_map_or (λ t. record { token = t.0; start = column; end = column + t.1 } ∷ tokens_from (t.1 - 1) (column + 1) bytes) o [])
      by None fits rest = λ k d inside. absurd (omega arith)
      by (Some t) fits rest = cons_within _ _ (omega arith) (omega arith) (rest (t.1 - 1) (omega arith))

  end_within : (ts : List Placed) (column : ℕ) → column ≤ n → Within ts → end_of ts column ≤ n
  end_within [] column near all = near
  end_within (t ∷ ts) column near all = end_within ts t.end (all 0 t (omega arith)).1 (λ k d inside. all (suc k) d (omega arith))

  from_within : (ts : List Placed) (line : List ℕ) → Within ts → Within (tokens_from zero zero line) → IsNear n (state_from ts 0 line)
  from_within [] line all whole = record { start = omega arith; end = end_within (tokens_from zero zero line) 0 (omega arith) whole; left = all }
  from_within (t ∷ ts) line all whole = record { start = omega arith; end = omega arith; left = all }

pub line_near : (line : List ℕ) → IsNear (length line) (state_at line 0)
unfolding state_at
line_near line =
    let all = tokens_within (length line) zero zero line (omega arith) (omega arith) in
    from_within (length line) (tokens_from zero zero line) line all all
