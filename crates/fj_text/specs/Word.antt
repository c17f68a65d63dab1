-- Words, and the names of the variables.
use Rattle.std.specs.Prelude.{◌≢◌, ℕ, ◌≤◌, ◌==◌, Bool, ◌||◌, IsTrue, List, [], ◌∷◌, length, All, AllPairs}
use Rattle.std.specs.declared.option.Option.{Option}
use Rattle.std.specs.Char.{is_ascii_alphabetic, is_ascii_alphanumeric}
use Rattle.std.specs.List.{position}
use Rattle.std.specs.Str.{bytes_eq}

-- An ASCII letter or `_`.
abbrev pub is_word_start : ℕ → Bool
is_word_start b = is_ascii_alphabetic b || b == 95

-- An ASCII letter, a digit or `_`.
abbrev pub is_word_byte : ℕ → Bool
is_word_byte b = is_ascii_alphanumeric b || b == 95

-- An ASCII letter or `_`, and then letters, digits and `_`.
abbrev pub IsWord : List ℕ → Type 0
IsWord [] = ⊥
IsWord (b ∷ bytes) = IsTrue (is_word_start b) × All (λ c. IsTrue (is_word_byte c)) bytes

-- The names of at most seven variables: words, no two the same.
pub record AreNames (names : List (List ℕ)) : Type 0 where
  pub few : length names ≤ 7
  pub words : All IsWord names
  pub distinct : AllPairs (λ a b. a ≢ b) names

-- The place of a word among the names, counted from 0; `None` where it is none of them.
abbrev pub place_of : List (List ℕ) → List ℕ → Option ℕ
place_of names word = position (λ name. bytes_eq name word) names
