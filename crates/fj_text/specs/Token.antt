-- The tokens of a line.
use Rattle.std.specs.Prelude.{ℕ, zero, suc, ◌+◌, ◌-◌, ◌^◌, ◌==◌, Bool, ◌||◌, if◌then◌else◌, List, [], ◌∷◌, take, min, Some, None, codes}
use Rattle.std.specs.declared.option.Option.{Option}
use Rattle.std.specs.Char.{is_ascii_digit}
use Rattle.std.specs.List.{prefix_len, list_any}
use Rattle.std.specs.Option.{option_map_or}
use Rattle.std.specs.Str.Parse.{digits_value}
use Rattle.fj_text.specs.Word.{is_word_start, is_word_byte, IsWord}

-- A number shows its value, or 2^32 where it is above 2^32 - 1. A sign is its byte.
pub data Token : Type 0 where
  Word : List ℕ → Token
  Number : ℕ → Token
  Sign : ℕ → Token
  BadByte : Token

-- Where the token is a word, its bytes are one.
abbrev pub HasWord : Token → Type 0
HasWord (Word w) = IsWord w
HasWord (Number n) = Unit {0}
HasWord (Sign b) = Unit {0}
HasWord BadByte = Unit {0}

-- A token, the column of its first byte and the column behind its last byte. Columns count from 0.
pub record Placed : Type 0 where
  pub token : Token
  pub start : ℕ
  pub end : ℕ

-- Blank, tab and CR part tokens.
abbrev pub is_blank : ℕ → Bool
is_blank b = b == 32 || b == 9 || b == 13

-- One of `= , ( ) + - * ^ /`.
abbrev pub is_sign : ℕ → Bool
is_sign b = list_any (λ sign. b == sign) (codes "=,()+-*^/")

abbrev pub star : ℕ
star = 42

abbrev pub caret : ℕ
caret = 94

abbrev pub plus : ℕ
plus = 43

abbrev pub minus : ℕ
minus = 45

abbrev pub opening : ℕ
opening = 40

abbrev pub closing : ℕ
closing = 41

-- The value of digits, however many, or 2^32 where it is greater.
abbrev pub number_shown : List ℕ → ℕ
number_shown digits = min (digits_value 10 digits) (2 ^ 32)

-- The token that the front of the bytes is, as long as possible, and its length. A `#` begins no token: the rest of the
-- line is a comment.
unfoldable pub token_at : List ℕ → Option (Token × ℕ)
token_at [] = None
token_at (b ∷ bytes) =
    if is_word_start b then Some (Word (take (prefix_len is_word_byte (b ∷ bytes)) (b ∷ bytes)), prefix_len is_word_byte (b ∷ bytes))
    else (if is_ascii_digit b then Some (Number (number_shown (take (prefix_len is_ascii_digit (b ∷ bytes)) (b ∷ bytes))), prefix_len is_ascii_digit (b ∷ bytes))
    else (if is_sign b then Some (Sign b, 1)
    else (if b == 35 then None
    else Some (BadByte, 1))))

-- The tokens of the bytes from a column on, of which the first ones still belong to the token before.
unfoldable pub tokens_from : ℕ → ℕ → List ℕ → List Placed
tokens_from taken column [] = []
tokens_from (suc taken) column (b ∷ bytes) = tokens_from taken (column + 1) bytes
tokens_from zero column (b ∷ bytes) =
    if is_blank b then tokens_from zero (column + 1) bytes
    else option_map_or (λ t. record { token = t.0; start = column; end = column + t.1 } ∷ tokens_from (t.1 - 1) (column + 1) bytes) (token_at (b ∷ bytes)) []
