-- Pieces of lines: their tokens, and the line that they are in.
use Rattle.std.proofs.Common.{◌≡◌, ℕ, zero, ◌+◌, ◌^◌, ◌<◌, ◌≤◌, ◌==◌, true, false, List, [], ◌∷◌, ◌++◌, map, All, refl, sym, ap, ◌∙◌, append_assoc, arith, decimal, inl, inr}
use Rattle.std.specs.Str.Parse.{AllDigits}
use Rattle.std.proofs.lemmas.Bool.{cases_Bool, and_from, le-leb, eqb-true, true≢false}
use Rattle.std.proofs.lemmas.Fmt.{decimal_is_IsNumeral}
use Rattle.std.proofs.lemmas.List.Elements.{All-nil, All-cons, All-head, All-tail}
use Rattle.std.proofs.lemmas.Str.Parse.{digit_from_value}
use Rattle.fj_text.specs.Word.{is_word_byte, IsWord}
use Rattle.fj_text.specs.Token.{Token, Word, Number, Sign, Placed, tokens_from}
use Rattle.fj_text.proofs.Words.{start_is_byte}
use Rattle.fj_text.proofs.PrintedTokens.{EndsPiece, IsSign, Lexed, lexed_digits, lexed_number, lexed_word}
use Rattle.fj_script.specs.Script.{before_line, lines}
use Rattle.fj_grammar.specs.Grammar.{tokens_of}
use Rattle.fj_gen.specs.Generated.{name_at}

abbrev pub tokens_at : ℕ → List ℕ → List Token
tokens_at column bytes = map (λ (t : Placed). t.token) (tokens_from zero column bytes)

-- These bytes, in front of others, are this token, and end no line.
pub record Piece (bytes : List ℕ) (token : Token) : Type 0 where
  pub tokens_are : (column : ℕ) (rest : List ℕ) → EndsPiece rest → (next : ℕ) × (tokens_at column (bytes ++ rest) ≡ token ∷ tokens_at next rest)
  pub in_line : (rest line : List ℕ) (ls : List (List ℕ)) → lines rest ≡ line ∷ ls → lines (bytes ++ rest) ≡ (bytes ++ line) ∷ ls

no_line_end : (b : ℕ) → is_word_byte b ≡ true → (b == 10) ≡ false
no_line_end b h = elim (cases_Bool (b == 10)) [ inr other ↦ other | inl e ↦ absurd (true≢false (sym h ∙ ap is_word_byte (eqb-true b 10 e))) ]

stays_in_line : (bytes : List ℕ) → All (λ b. is_word_byte b ≡ true) bytes → (rest line : List ℕ) (ls : List (List ℕ)) → lines rest ≡ line ∷ ls → lines (bytes ++ rest) ≡ (bytes ++ line) ∷ ls
unfolding lines
stays_in_line [] all rest line ls e = e
stays_in_line (b ∷ bytes) all rest line ls e =
    let first : (b == 10) ≡ false = no_line_end b (All-head (λ c. is_word_byte c ≡ true) b bytes all) in
    let later = stays_in_line bytes (All-tail (λ c. is_word_byte c ≡ true) b bytes all) rest line ls e in
    rw (first, later) refl

piece_of : {bytes : List ℕ} {token : Token} {n : ℕ} → Lexed bytes ((token, n) ∷ []) → All (λ b. is_word_byte b ≡ true) bytes → Piece bytes token
piece_of {bytes} {token} {n} lexed all =
    record {
      tokens_are = λ column rest ends. (column + n, ap (map (λ (t : Placed). t.token)) (lexed.lexes column rest ends));
      in_line = stays_in_line bytes all;
    }

pub word_piece : (w : List ℕ) → IsWord w → Piece w (Word w)
word_piece [] h = absurd h
word_piece (b ∷ bytes) h = piece_of (lexed_word (b ∷ bytes) h) (All-cons (λ c. is_word_byte c ≡ true) b bytes (start_is_byte b h.0) h.1)

digit_in_word : (d : ℕ) → 48 ≤ d → d ≤ 57 → is_word_byte d ≡ true
digit_in_word d low high = let digit = and_from _ _ (le-leb _ _ low) (le-leb _ _ high) in rw digit refl

digits_in_word : (ds : List ℕ) → AllDigits 10 ds → All (λ d. is_word_byte d ≡ true) ds
digits_in_word [] h = All-nil _
digits_in_word (d ∷ ds) h = let r = digit_from_value d h.0 in All-cons (λ c. is_word_byte c ≡ true) d ds (digit_in_word d r.0 r.1) (digits_in_word ds h.1)

pub number_piece : (n : ℕ) → n < 2 ^ 32 → Piece (decimal n) (Number n)
number_piece n low = piece_of (lexed_number n low) (digits_in_word (decimal n) (decimal_is_IsNumeral n (omega arith)).0.1)

pub one_piece : Piece (49 ∷ []) (Number 1)
one_piece = piece_of (lexed_digits (49 ∷ []) 1 (omega arith) (omega arith, tt) refl) (digits_in_word (49 ∷ []) (omega arith, tt))

pub name_is_word : (i : ℕ) → i < 2 ^ 32 → IsWord (name_at i)
name_is_word i low = (refl, digits_in_word (decimal i) (decimal_is_IsNumeral i (omega arith)).0.1)

-- ---- the end of a line, from a piece on

-- These bytes are these tokens, and end with the line.
pub record LineEnd (bytes : List ℕ) (tokens : List Token) : Type 0 where
  pub text : List ℕ
  pub is_line : (rest : List ℕ) → lines (bytes ++ rest) ≡ text ∷ lines rest
  pub tokens_are : (column : ℕ) → tokens_at column text ≡ tokens

unfoldable pub line_end : LineEnd (10 ∷ []) []
unfolding lines tokens_from
line_end = record { text = []; is_line = λ rest. refl; tokens_are = λ column. refl }

unfoldable pub blank : {bytes : List ℕ} {tokens : List Token} → LineEnd bytes tokens → LineEnd (32 ∷ bytes) tokens
unfolding lines tokens_from
blank L = record { text = 32 ∷ L.text; is_line = λ rest. ap (before_line 32) (L.is_line rest); tokens_are = λ column. L.tokens_are (column + 1) }

unfoldable pub sign : {b : ℕ} {bytes : List ℕ} {tokens : List Token} → IsSign b → (b == 10) ≡ false → LineEnd bytes tokens → LineEnd (b ∷ bytes) (Sign b ∷ tokens)
unfolding lines
sign {b} {bytes} {tokens} S other L =
    record {
      text = b ∷ L.text;
      is_line = λ rest. let later = L.is_line rest in rw (other, later) refl;
      tokens_are = λ column. ap (map (λ (t : Placed). t.token)) (S.alone column L.text) ∙ ap (λ ts. Sign b ∷ ts) (L.tokens_are (column + 1));
    }

unfoldable pub piece : {front bytes : List ℕ} {token : Token} {tokens : List Token} → Piece front token → (L : LineEnd bytes tokens) → EndsPiece L.text → LineEnd (front ++ bytes) (token ∷ tokens)
piece {front} {bytes} {token} {tokens} P L ends =
    record {
      text = front ++ L.text;
      is_line = λ rest. ap lines (append_assoc front bytes rest) ∙ P.in_line (bytes ++ rest) L.text (lines rest) (L.is_line rest);
      tokens_are = λ column. let first = P.tokens_are column L.text ends in first.1 ∙ ap (λ ts. token ∷ ts) (L.tokens_are first.0);
    }

-- The tokens of a line in front of others.
pub line_read : {bytes : List ℕ} {tokens : List Token} → LineEnd bytes tokens → (rest : List ℕ) → map tokens_of (lines (bytes ++ rest)) ≡ tokens ∷ map tokens_of (lines rest)
line_read L rest = ap (map tokens_of) (L.is_line rest) ∙ ap (λ ts. ts ∷ map tokens_of (lines rest)) (L.tokens_are zero)
