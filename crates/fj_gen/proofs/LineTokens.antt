-- The tokens of the lines of a generated session.
use Rattle.std.proofs.Common.{◌≡◌, ℕ, ◌+◌, ◌%◌, ◌^◌, ◌<◌, ◌≤◌, List, [], ◌∷◌, ◌++◌, map, refl, ap, ◌∙◌, sym, subst, append_assoc, arith, codes, decimal}
use Rattle.std.proofs.lemmas.List.Sums.{AllPass-from_list_all}
use Rattle.std.proofs.lemmas.Nat.{mod_below}
use Rattle.fj_coeff.specs.Field.{greatest_prime}
use Rattle.fj_text.specs.Word.{is_word_byte, IsWord}
use Rattle.fj_text.specs.Token.{Token, Word, Number, Sign, caret, plus, token_at, tokens_from}
use Rattle.fj_text.proofs.PrintedTokens.{IsSign, caret_sign, plus_sign}
use Rattle.fj_script.specs.Items.{comma, equals, slash}
use Rattle.fj_script.specs.Script.{lines}
use Rattle.fj_grammar.specs.Grammar.{tokens_of}
use Rattle.fj_gen.specs.Generated.{jumps_line, lines_at, name_at, numerator_at, poly_line, ring_line, test_line, x_exponent, y_exponent}
use Rattle.fj_gen.proofs.Pieces.{LineEnd, blank, line_end, line_read, name_is_word, number_piece, one_piece, piece, sign, word_piece}

-- Texts one behind the other, from the last one on.
three : (a b c : List ℕ) → a ++ b ++ c ≡ a ++ (b ++ c)
three a b c = append_assoc a b c

four : (a b c d : List ℕ) → a ++ b ++ c ++ d ≡ a ++ (b ++ (c ++ d))
four a b c d = append_assoc (a ++ b) c d ∙ three a b (c ++ d)

five : (a b c d e : List ℕ) → a ++ b ++ c ++ d ++ e ≡ a ++ (b ++ (c ++ (d ++ e)))
five a b c d e = append_assoc (a ++ b ++ c) d e ∙ four a b c (d ++ e)

six : (a b c d e f : List ℕ) → a ++ b ++ c ++ d ++ e ++ f ≡ a ++ (b ++ (c ++ (d ++ (e ++ f))))
six a b c d e f = append_assoc (a ++ b ++ c ++ d) e f ∙ five a b c d (e ++ f)

seven : (a b c d e f g : List ℕ) → a ++ b ++ c ++ d ++ e ++ f ++ g ≡ a ++ (b ++ (c ++ (d ++ (e ++ (f ++ g)))))
seven a b c d e f g = append_assoc (a ++ b ++ c ++ d ++ e) f g ∙ six a b c d e (f ++ g)

comma_sign : IsSign 44
unfolding tokens_from token_at
comma_sign = record { alone = λ column rest. refl; ends = refl }

equals_sign : IsSign 61
unfolding tokens_from token_at
equals_sign = record { alone = λ column rest. refl; ends = refl }

slash_sign : IsSign 47
unfolding tokens_from token_at
slash_sign = record { alone = λ column rest. refl; ends = refl }

x_word : IsWord (codes "x")
x_word = (refl, AllPass-from_list_all is_word_byte [] refl)

y_word : IsWord (codes "y")
y_word = (refl, AllPass-from_list_all is_word_byte [] refl)

ring_word : IsWord (codes "ring")
ring_word = (refl, AllPass-from_list_all is_word_byte (codes "ing") refl)

poly_word : IsWord (codes "poly")
poly_word = (refl, AllPass-from_list_all is_word_byte (codes "oly") refl)

ask_word : IsWord (codes "ask")
ask_word = (refl, AllPass-from_list_all is_word_byte (codes "sk") refl)

jumps_word : IsWord (codes "jumps")
jumps_word = (refl, AllPass-from_list_all is_word_byte (codes "umps") refl)

test_word : IsWord (codes "test")
test_word = (refl, AllPass-from_list_all is_word_byte (codes "est") refl)

abbrev pub ring_tokens : ℕ → List Token
ring_tokens p = Word (codes "ring") ∷ Number p ∷ Word (codes "x") ∷ Sign comma ∷ Word (codes "y") ∷ []

abbrev pub poly_tokens : ℕ → List Token
poly_tokens i = Word (codes "poly") ∷ Word (name_at i) ∷ Sign equals ∷ Word (codes "x") ∷ Sign caret ∷ Number (x_exponent i) ∷ Sign plus ∷ Word (codes "y") ∷ Sign caret ∷ Number (y_exponent i) ∷ []

abbrev pub jumps_tokens : ℕ → List Token
jumps_tokens i = Word (codes "ask") ∷ Word (codes "jumps") ∷ Word (name_at i) ∷ Number 1 ∷ []

abbrev pub test_tokens : ℕ → ℕ → List Token
test_tokens p i = Word (codes "ask") ∷ Word (codes "test") ∷ Word (name_at i) ∷ Number (numerator_at p i) ∷ Sign slash ∷ Number p ∷ []

pub ring_read : (p : ℕ) → p ≤ greatest_prime → LineEnd (ring_line p) (ring_tokens p)
unfolding line_end blank sign piece
ring_read p low =
    subst (λ bs. LineEnd bs (ring_tokens p)) (sym (three (codes "ring ") (decimal p) (codes " x, y\n")))
    (piece (word_piece (codes "ring") ring_word) (blank (piece (number_piece p (omega arith)) (blank (piece (word_piece (codes "x") x_word) (sign comma_sign refl (blank (piece (word_piece (codes "y") y_word) line_end refl))) refl)) refl)) refl)

small_exponent : (n : ℕ) → 2 + n % 4 < 2 ^ 32
small_exponent n = let below = mod_below n 4 (omega arith) in omega (arith, below)

pub poly_read : (i : ℕ) → i < 2 ^ 32 → LineEnd (poly_line i) (poly_tokens i)
unfolding line_end blank sign piece
poly_read i low =
    let b = piece (number_piece (y_exponent i) (small_exponent _)) line_end refl in
    let y = piece (word_piece (codes "y") y_word) (sign caret_sign refl b) refl in
    let a = piece (number_piece (x_exponent i) (small_exponent _)) (sign plus_sign refl y) refl in
    let x = piece (word_piece (codes "x") x_word) (sign caret_sign refl a) refl in
    subst (λ bs. LineEnd bs (poly_tokens i)) (sym (seven (codes "poly ") (name_at i) (codes " = x^") (decimal (x_exponent i)) (codes "+y^") (decimal (y_exponent i)) (codes "\n")))
    (piece (word_piece (codes "poly") poly_word) (blank (piece (word_piece (name_at i) (name_is_word i low)) (blank (sign equals_sign refl (blank x))) refl)) refl)

pub jumps_read : (i : ℕ) → i < 2 ^ 32 → LineEnd (jumps_line i) (jumps_tokens i)
unfolding line_end blank sign piece
jumps_read i low =
    subst (λ bs. LineEnd bs (jumps_tokens i)) (sym (three (codes "ask jumps ") (name_at i) (codes " 1\n")))
    (piece (word_piece (codes "ask") ask_word)
    (blank (piece (word_piece (codes "jumps") jumps_word) (blank (piece (word_piece (name_at i) (name_is_word i low)) (blank (piece one_piece line_end refl)) refl)) refl)) refl)

pub test_read : (p i : ℕ) → 0 < p → p ≤ greatest_prime → i < 2 ^ 32 → LineEnd (test_line p i) (test_tokens p i)
unfolding line_end blank sign piece
test_read p i positive small low =
    let below = mod_below i p positive in
    let t = piece (number_piece (numerator_at p i) (omega (arith, below, small))) (sign slash_sign refl (piece (number_piece p (omega (arith, small))) line_end refl)) refl in
    subst (λ bs. LineEnd bs (test_tokens p i)) (sym (seven (codes "ask test ") (name_at i) (codes " ") (decimal (numerator_at p i)) (codes "/") (decimal p) (codes "\n")))
    (piece (word_piece (codes "ask") ask_word)
    (blank (piece (word_piece (codes "test") test_word) (blank (piece (word_piece (name_at i) (name_is_word i low)) (blank t) refl)) refl)) refl)

-- The tokens of the three lines of a polynomial, in front of others.
pub lines_read : (p i : ℕ) → 0 < p → p ≤ greatest_prime → i < 2 ^ 32 → (rest : List ℕ)
    → map tokens_of (lines (lines_at p i ++ rest)) ≡ poly_tokens i ∷ jumps_tokens i ∷ test_tokens p i ∷ map tokens_of (lines rest)
unfolding lines_at
lines_read p i positive small low rest =
    ap (λ bs. map tokens_of (lines bs)) (four (poly_line i) (jumps_line i) (test_line p i) rest) ∙ line_read (poly_read i low) (jumps_line i ++ (test_line p i ++ rest))
    ∙ ap (λ ls. poly_tokens i ∷ ls) (line_read (jumps_read i low) (test_line p i ++ rest) ∙ ap (λ ls. jumps_tokens i ∷ ls) (line_read (test_read p i positive small low) rest))
