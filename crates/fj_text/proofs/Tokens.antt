-- The tokens from a column on: the first one, and the others.
use Rattle.std.proofs.Common.{◌≡◌, ℕ, zero, suc, ◌+◌, ◌-◌, ◌<◌, ◌≤◌, List, [], ◌∷◌, length, take, drop, Option, Some, None, IfSome, refl, sym, ap, subst, ◌∙◌, arith, inl, inr, add-zero}
use Rattle.std.specs.List.{prefix_len}
use Rattle.std.specs.Option.{option_map_or}
use Rattle.std.proofs.lemmas.Bool.{cases_Bool}
use Rattle.std.proofs.lemmas.List.{drop-drop, length-drop, take_all}
use Rattle.fj_text.specs.declared.token.Placed as held
use Rattle.fj_text.specs.Seen.{left_from, seen}
use Rattle.fj_text.specs.Token.{Token, Placed, is_blank, token_at, tokens_from}

-- the bytes of the token before are passed over
pub tokens-taken : (k column : ℕ) (bytes : List ℕ) → k ≤ length bytes → tokens_from k column bytes ≡ tokens_from zero (column + k) (drop k bytes)
unfolding tokens_from
tokens-taken zero column bytes h = rw (add-zero column) refl
tokens-taken (suc k) column [] h = absurd (omega arith)
tokens-taken (suc k) column (b ∷ bytes) h =
    let same : column + 1 + k ≡ column + suc k = omega arith in
    tokens-taken k (column + 1) bytes (omega arith) ∙ ap (λ n. tokens_from zero n (drop k bytes)) same

-- blanks are passed over
pub tokens-blank : (column : ℕ) (bytes : List ℕ) → tokens_from zero column bytes ≡ tokens_from zero (column + prefix_len is_blank bytes) (drop (prefix_len is_blank bytes) bytes)
unfolding tokens_from
tokens-blank column [] = refl
tokens-blank column (b ∷ bytes) =
    elim (cases_Bool (is_blank b)) [
      | inl blank ↦
          let n = prefix_len is_blank bytes in
          let one : 1 + n ≡ suc n = omega arith in
          let same : column + 1 + n ≡ column + suc n = omega arith in
          rw blank (rw one (tokens-blank (column + 1) bytes ∙ ap (λ m. tokens_from zero m (drop n bytes)) same))
      | inr other ↦ rw (other, add-zero column, other) refl
    ]

-- the token at the front, and the tokens behind it
abbrev pub front_token : ℕ → List ℕ → Option (Token × ℕ) → List Placed
front_token column bytes found = option_map_or (λ t. record { token = t.0; start = column; end = column + t.1 } ∷ tokens_from zero (column + t.1) (drop t.1 bytes)) found []

-- the token is of the bytes
abbrev pub IsInside : List ℕ → Token × ℕ → Type 0
IsInside bytes t = (0 < t.1) × (t.1 ≤ length bytes)

-- behind the first byte of a token its other bytes are passed over
behind : (column b : ℕ) (bytes : List ℕ) (len : ℕ) → 0 < len → len ≤ length (b ∷ bytes) → tokens_from (len - 1) (column + 1) bytes ≡ tokens_from zero (column + len) (drop len (b ∷ bytes))
behind column b bytes zero some inside = absurd (omega arith)
behind column b bytes (suc k) some inside =
    let one : suc k - 1 ≡ k = omega arith in
    let same : column + 1 + k ≡ column + suc k = omega arith in
    rw one (tokens-taken k (column + 1) bytes (omega arith) ∙ ap (λ m. tokens_from zero m (drop k bytes)) same)

found : (column b : ℕ) (bytes : List ℕ) (o : Option (Token × ℕ)) → IfSome o (IsInside (b ∷ bytes)) → option_map_or (λ t. record { token = t.0; start = column; end = column + t.1 } ∷ tokens_from (t.1 - 1) (column + 1) bytes) o [] ≡ front_token column (b ∷ bytes) o
found column b bytes None h = refl
found column b bytes (Some t) h = ap (λ ts. record { token = t.0; start = column; end = column + t.1 } ∷ ts) (behind column b bytes t.1 h.0 h.1)

tokens-front : (column : ℕ) (bytes : List ℕ) → prefix_len is_blank bytes ≡ 0 → IfSome (token_at bytes) (IsInside bytes) → tokens_from zero column bytes ≡ front_token column bytes (token_at bytes)
unfolding tokens_from
tokens-front column [] h inside = unfold token_at in refl
tokens-front column (b ∷ bytes) h inside =
    elim (cases_Bool (is_blank b)) [
      | inl blank ↦ absurd (let none = rw blank at h in omega arith)
      | inr other ↦ rw other (found column b bytes (token_at (b ∷ bytes)) inside)
    ]

blank-front : (bytes : List ℕ) → prefix_len is_blank (drop (prefix_len is_blank bytes) bytes) ≡ 0
blank-front [] = refl
blank-front (b ∷ bytes) =
    elim (cases_Bool (is_blank b)) [
      | inl blank ↦
          let one : 1 + prefix_len is_blank bytes ≡ suc (prefix_len is_blank bytes) = omega arith in
          rw blank (rw one (blank-front bytes))
      | inr other ↦ rw other (rw other refl)
    ]

-- the first token from a column on, and the tokens behind it
pub tokens-first : (line : List ℕ) (column n : ℕ) → n ≡ prefix_len is_blank (drop column line) → IfSome (token_at (drop (column + n) line)) (IsInside (drop (column + n) line))
    → tokens_from zero column (drop column line) ≡ front_token (column + n) (drop (column + n) line) (token_at (drop (column + n) line))
tokens-first line column n e inside =
    let both : drop n (drop column line) ≡ drop (column + n) line = drop-drop n column line in
    let blank : prefix_len is_blank (drop (column + n) line) ≡ 0 = ap (prefix_len is_blank) (sym both) ∙ ap (λ m. prefix_len is_blank (drop m (drop column line))) e ∙ blank-front (drop column line) in
    tokens-blank column (drop column line)
    ∙ ap (λ m. tokens_from zero (column + m) (drop m (drop column line))) (sym e)
    ∙ ap (tokens_from zero (column + n)) both
    ∙ tokens-front (column + n) (drop (column + n) line) blank inside

pub rest_of : (n : ℕ) (line : List ℕ) → take (length line - n) (drop n line) ≡ drop n line
rest_of n line = take_all (length line - n) (drop n line) (omega (arith, length-drop n line))

-- where no token is at the front, there is none from the column on
pub no_token : (line : List ℕ) (column n : ℕ) → n ≡ prefix_len is_blank (take (length line - column) (drop column line)) → None ≡ token_at (take (length line - (column + n)) (drop (column + n) line))
    → left_from None line ≡ tokens_from zero column (drop column line)
unfolding left_from
no_token line column n e none =
    let at : None ≡ token_at (drop (column + n) line) = none ∙ ap token_at (rest_of (column + n) line) in
    let inside : IfSome (token_at (drop (column + n) line)) (IsInside (drop (column + n) line)) = subst (λ o. IfSome o (IsInside (drop (column + n) line))) at tt in
    ap (front_token (column + n) (drop (column + n) line)) at ∙ sym (tokens-first line column n (e ∙ ap (prefix_len is_blank) (rest_of column line)) inside)

-- where a token is at the front, it is the first one from the column on
pub a_token : (line : List ℕ) (column n len : ℕ) (t : held.Placed) → n ≡ prefix_len is_blank (take (length line - column) (drop column line)) → Some (seen t.token, len) ≡ token_at (take (length line - (column + n)) (drop (column + n) line))
    → 0 < len → len ≤ length (take (length line - (column + n)) (drop (column + n) line)) → t.start ≡ column + n → t.end ≡ column + n + len
    → left_from (Some t) line ≡ tokens_from zero column (drop column line)
unfolding left_from
a_token line column n len t e some above below starts ends =
    let rest = rest_of (column + n) line in
    let at : Some (seen t.token, len) ≡ token_at (drop (column + n) line) = some ∙ ap token_at rest in
    let short : len ≤ length (drop (column + n) line) = omega (arith, below, ap length rest) in
    let inside : IfSome (token_at (drop (column + n) line)) (IsInside (drop (column + n) line)) = subst (λ o. IfSome o (IsInside (drop (column + n) line))) at (above, short) in
    rw (starts, ends) (ap (λ bytes. record { token = seen t.token; start = column + n; end = column + n + len } ∷ tokens_from zero (column + n + len) bytes) (sym (drop-drop len (column + n) line)))
    ∙ ap (front_token (column + n) (drop (column + n) line)) at ∙ sym (tokens-first line column n (e ∙ ap (prefix_len is_blank) (rest_of column line)) inside)
