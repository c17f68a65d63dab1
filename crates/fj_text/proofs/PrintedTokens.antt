-- The tokens of printed texts.
use Rattle.std.proofs.Common.{◌≡◌, ℕ, zero, suc, ◌+◌, ◌-◌, ◌^◌, ◌<◌, ◌≤◌, Bool, true, false, ◌||◌, eqb, leb, List, [], ◌∷◌, ◌++◌, length, get_or, All, min, Some, refl, sym, ap, ap₂, ◌∙◌, append_assoc, add_assoc, add-zero, arith, decimal, inl, inr, ◌⊎◌}
use Rattle.std.specs.Char.{is_ascii_digit}
use Rattle.std.specs.Int.{is_in_range}
use Rattle.std.specs.List.{prefix_len}
use Rattle.std.specs.Str.Parse.{AllDigits}
use Rattle.std.proofs.Math.Seq.{take-append_seam}
use Rattle.std.proofs.lemmas.Bool.{cases_Bool, and_from, or_cases, le-leb, lt-leb, eqb-true, ne_eqb, true≢false}
use Rattle.std.proofs.lemmas.Fmt.{decimal_is_IsNumeral}
use Rattle.std.proofs.lemmas.Str.Parse.{digit_from_value}
use Rattle.std.proofs.lemmas.List.{length-append}
use Rattle.std.proofs.lemmas.List.Elements.{All-nil, All-cons, All-head, All-tail}
use Rattle.fj_text.specs.Word.{is_word_start, is_word_byte, IsWord}
use Rattle.fj_text.proofs.Words.{start_is_byte}
use Rattle.fj_text.specs.Token.{Token, Word, Number, Sign, Placed, is_blank, number_shown, token_at, tokens_from}

-- A token and its length.
abbrev pub Spelled : Type 0
Spelled = Token × ℕ

-- Tokens one behind the other: the column behind the last one, and the tokens in their places.
abbrev pub end_column : ℕ → List Spelled → ℕ
end_column column [] = column
end_column column (t ∷ ts) = end_column (column + t.1) ts

abbrev pub placed_from : ℕ → List Spelled → List Placed
placed_from column [] = []
placed_from column (t ∷ ts) = record { token = t.0; start = column; end = column + t.1 } ∷ placed_from (column + t.1) ts

pub end_column-append : (column : ℕ) (ts us : List Spelled) → end_column column (ts ++ us) ≡ end_column (end_column column ts) us
end_column-append column [] us = refl
end_column-append column (t ∷ ts) us = end_column-append (column + t.1) ts us

pub placed_from-append : (column : ℕ) (ts us : List Spelled) → placed_from column (ts ++ us) ≡ placed_from column ts ++ placed_from (end_column column ts) us
placed_from-append column [] us = refl
placed_from-append column (t ∷ ts) us = ap (λ ps. record { token = t.0; start = column; end = column + t.1 } ∷ ps) (placed_from-append (column + t.1) ts us)

-- neither a word nor a number goes on there
abbrev pub EndsPiece : List ℕ → Type 0
EndsPiece rest = is_word_byte (get_or rest 0 0) ≡ false

-- The bytes are spelled by these tokens.
pub record Lexed (bytes : List ℕ) (tokens : List Spelled) : Type 0 where
  pub lexes : (column : ℕ) (rest : List ℕ) → EndsPiece rest → tokens_from zero column (bytes ++ rest) ≡ placed_from column tokens ++ tokens_from zero (end_column column tokens) rest
  pub end : (column : ℕ) → end_column column tokens ≡ column + length bytes

pub lexed_none : Lexed [] []
lexed_none = record { lexes = λ column rest ends. refl; end = λ column. sym (add-zero column) }

pub lexed_append : {a b : List ℕ} {ts us : List Spelled} → Lexed a ts → Lexed b us → ((rest : List ℕ) → EndsPiece rest → EndsPiece (b ++ rest)) → Lexed (a ++ b) (ts ++ us)
lexed_append {a} {b} {ts} {us} A B parted =
    record {
      lexes = λ column rest ends.
          ap (tokens_from zero column) (append_assoc a b rest) ∙ A.lexes column (b ++ rest) (parted rest ends)
          ∙ ap (λ ps. placed_from column ts ++ ps) (B.lexes (end_column column ts) rest ends)
          ∙ sym (append_assoc (placed_from column ts) (placed_from (end_column column ts) us) _)
          ∙ ap₂ (λ ps n. ps ++ tokens_from zero n rest) (sym (placed_from-append column ts us)) (sym (end_column-append column ts us));
      end = λ column. end_column-append column ts us ∙ B.end (end_column column ts) ∙ ap (λ n. n + length b) (A.end column) ∙ add_assoc column (length a) (length b) ∙ ap (λ n. column + n) (sym (length-append a b));
    }

-- ---- signs

-- A byte that is a token alone, and that ends what stands before it.
pub record IsSign (sign : ℕ) : Type 0 where
  pub alone : (column : ℕ) (rest : List ℕ) → tokens_from zero column (sign ∷ rest) ≡ record { token = Sign sign; start = column; end = column + 1 } ∷ tokens_from zero (column + 1) rest
  pub ends : is_word_byte sign ≡ false

pub star_sign : IsSign 42
unfolding tokens_from token_at
star_sign = record { alone = λ column rest. refl; ends = refl }

pub plus_sign : IsSign 43
unfolding tokens_from token_at
plus_sign = record { alone = λ column rest. refl; ends = refl }

pub caret_sign : IsSign 94
unfolding tokens_from token_at
caret_sign = record { alone = λ column rest. refl; ends = refl }

pub lexed_sign : {sign : ℕ} {b : List ℕ} {us : List Spelled} → IsSign sign → Lexed b us → Lexed (sign ∷ b) ((Sign sign, 1) ∷ us)
lexed_sign {sign} {b} {us} S B =
    record {
      lexes = λ column rest ends. S.alone column (b ++ rest) ∙ ap (λ ps. record { token = Sign sign; start = column; end = column + 1 } ∷ ps) (B.lexes (column + 1) rest ends);
      end = λ column. B.end (column + 1) ∙ (omega arith);
    }

-- ---- words and numbers

-- the longest front whose bytes pass
front_of : (test : ℕ → Bool) (bytes rest : List ℕ) → All (λ b. test b ≡ true) bytes → test (get_or rest 0 0) ≡ false → prefix_len test (bytes ++ rest) ≡ length bytes
front_of test [] [] all stop = refl
front_of test [] (r ∷ rest) all stop = rw stop refl
front_of test (b ∷ bytes) rest all stop =
    let first : test b ≡ true = All-head (λ c. test c ≡ true) b bytes all in
    let later = front_of test bytes rest (All-tail (λ c. test c ≡ true) b bytes all) stop in
    rw (first, later) (omega arith)

-- behind the first byte of a token its other bytes are passed over
passed_over : (column : ℕ) (bytes rest : List ℕ) → tokens_from (length bytes) column (bytes ++ rest) ≡ tokens_from zero (column + length bytes) rest
unfolding tokens_from
passed_over column [] rest = rw (add-zero column) refl
passed_over column (b ∷ bytes) rest =
    let same : column + 1 + length bytes ≡ column + suc (length bytes) = omega arith in
    passed_over (column + 1) bytes rest ∙ ap (λ n. tokens_from zero n rest) same

token_first : (column b : ℕ) (more : List ℕ) (token : Token) (n : ℕ) → is_blank b ≡ false → token_at (b ∷ more) ≡ Some (token, n)
    → tokens_from zero column (b ∷ more) ≡ record { token = token; start = column; end = column + n } ∷ tokens_from (n - 1) (column + 1) more
unfolding tokens_from
token_first column b more token n solid found = rw (solid, found) refl

-- a token that begins with no blank, in front of a text in which it doesn't go on
lexed_token : (b : ℕ) (bytes : List ℕ) (token : Token) → is_blank b ≡ false → ((rest : List ℕ) → EndsPiece rest → token_at (b ∷ bytes ++ rest) ≡ Some (token, suc (length bytes)))
    → Lexed (b ∷ bytes) ((token, suc (length bytes)) ∷ [])
lexed_token b bytes token solid found =
    record {
      lexes = λ column rest ends.
          let one : suc (length bytes) - 1 ≡ length bytes = omega arith in
          let same : column + 1 + length bytes ≡ column + suc (length bytes) = omega arith in
          token_first column b (bytes ++ rest) token (suc (length bytes)) solid (found rest ends)
          ∙ ap (λ ts. record { token = token; start = column; end = column + suc (length bytes) } ∷ ts)
          (ap (λ n. tokens_from n (column + 1) (bytes ++ rest)) one ∙ passed_over (column + 1) bytes rest ∙ ap (λ n. tokens_from zero n rest) same);
      end = λ column. refl;
    }

blank_cases : (b : ℕ) → is_blank b ≡ true → (b ≡ 32) ⊎ ((b ≡ 9) ⊎ (b ≡ 13))
blank_cases b h =
    elim (or_cases (eqb b 32 || eqb b 9) (eqb b 13) h) [
      | inl h ↦ elim (or_cases (eqb b 32) (eqb b 9) h) [ inl h ↦ inl (eqb-true b 32 h) | inr h ↦ inr (inl (eqb-true b 9 h)) ]
      | inr h ↦ inr (inr (eqb-true b 13 h))
    ]

-- a byte that passes a test that no blank passes
solid : (test : ℕ → Bool) (b : ℕ) → test b ≡ true → test 32 ≡ false → test 9 ≡ false → test 13 ≡ false → is_blank b ≡ false
solid test b h blank tab return =
    elim (cases_Bool (is_blank b)) [
      | inr other ↦ other
      | inl blanks ↦ absurd (elim (blank_cases b blanks) [
        | inl e ↦ true≢false (sym h ∙ ap test e ∙ blank)
        | inr e ↦ elim e [ inl e ↦ true≢false (sym h ∙ ap test e ∙ tab) | inr e ↦ true≢false (sym h ∙ ap test e ∙ return) ]
      ])
    ]

none_first : (d a c u : Bool) → (((d || a) || c) || u) ≡ false → d ≡ false
none_first true a c u h = absurd cc
none_first false a c u h = refl

digit_is_byte : (b : ℕ) → is_word_byte b ≡ false → is_ascii_digit b ≡ false
digit_is_byte b h = none_first (is_in_range 48 57 b) (is_in_range 65 90 b) (is_in_range 97 122 b) (eqb b 95) h

word_at_front : (b : ℕ) (bytes rest : List ℕ) → IsWord (b ∷ bytes) → EndsPiece rest → token_at (b ∷ bytes ++ rest) ≡ Some (Word (b ∷ bytes), suc (length bytes))
unfolding token_at
word_at_front b bytes rest h ends =
    let start : is_word_start b ≡ true = h.0 in
    let size : prefix_len is_word_byte (b ∷ bytes ++ rest) ≡ suc (length bytes) = front_of is_word_byte (b ∷ bytes) rest (All-cons (λ c. is_word_byte c ≡ true) b bytes (start_is_byte b h.0) h.1) ends in
    rw (start, size, take-append_seam (b ∷ bytes) rest) refl

-- A word.
pub lexed_word : (word : List ℕ) → IsWord word → Lexed word ((Word word, length word) ∷ [])
lexed_word [] h = absurd h
lexed_word (b ∷ bytes) h = lexed_token b bytes (Word (b ∷ bytes)) (solid is_word_start b h.0 refl refl refl) (λ rest ends. word_at_front b bytes rest h ends)

-- a digit is no letter and no `_`
digit_no_start : (b : ℕ) → 48 ≤ b → b ≤ 57 → is_word_start b ≡ false
digit_no_start b low high =
    let upper : leb 65 b ≡ false = lt-leb _ _ (omega arith) in
    let lower : leb 97 b ≡ false = lt-leb _ _ (omega arith) in
    let other : eqb b 95 ≡ false = ne_eqb _ _ (λ e. absurd (omega arith)) in
    rw (upper, lower, other) refl

digit_passes : (b : ℕ) → 48 ≤ b → b ≤ 57 → is_ascii_digit b ≡ true
digit_passes b low high = and_from _ _ (le-leb _ _ low) (le-leb _ _ high)

all_digits : (ds : List ℕ) → AllDigits 10 ds → All (λ d. is_ascii_digit d ≡ true) ds
all_digits [] h = All-nil _
all_digits (d ∷ ds) h = let r = digit_from_value d h.0 in All-cons (λ c. is_ascii_digit c ≡ true) d ds (digit_passes d r.0 r.1) (all_digits ds h.1)

number_at_front : (b : ℕ) (bytes rest : List ℕ) → AllDigits 10 (b ∷ bytes) → EndsPiece rest → token_at (b ∷ bytes ++ rest) ≡ Some (Number (number_shown (b ∷ bytes)), suc (length bytes))
unfolding token_at
number_at_front b bytes rest h ends =
    let r = digit_from_value b h.0 in
    let start : is_word_start b ≡ false = digit_no_start b r.0 r.1 in
    let digit : is_ascii_digit b ≡ true = digit_passes b r.0 r.1 in
    let size : prefix_len is_ascii_digit (bytes ++ rest) ≡ length bytes = front_of is_ascii_digit bytes rest (all_digits bytes h.1) (digit_is_byte (get_or rest 0 0) ends) in
    let one : 1 + length bytes ≡ suc (length bytes) = omega arith in
    rw (start, digit, size, one) (ap (λ ds. Some (Number (number_shown ds), suc (length bytes))) (take-append_seam (b ∷ bytes) rest))

pub lexed_digits : (ds : List ℕ) (n : ℕ) → 0 < length ds → AllDigits 10 ds → number_shown ds ≡ n → Lexed ds ((Number n, length ds) ∷ [])
lexed_digits [] n some h shown = absurd (omega arith)
lexed_digits (b ∷ bytes) n some h shown =
    let r = digit_from_value b h.0 in
    lexed_token b bytes (Number n) (solid is_ascii_digit b (digit_passes b r.0 r.1) refl refl refl)
    (λ rest ends. number_at_front b bytes rest h ends ∙ ap (λ m. Some (Number m, suc (length bytes))) shown)

-- A number.
pub lexed_number : (n : ℕ) → n < 2 ^ 32 → Lexed (decimal n) ((Number n, length (decimal n)) ∷ [])
lexed_number n low =
    let numeral = decimal_is_IsNumeral n (omega arith) in
    lexed_digits (decimal n) n numeral.0.0 numeral.0.1 (ap (λ v. min v (2 ^ 32)) numeral.1 ∙ (omega arith))
