-- The tokens of printed terms and polynomials.
use Rattle.std.proofs.Common.{ℕ, ◌^◌, ◌<◌, if◌then◌else◌, ◌==◌, eqb, List, [], ◌∷◌, ◌++◌, length, map, flat_map, All, refl, sym, subst, append_assoc, arith, codes, decimal, inl, inr}
use Rattle.std.proofs.lemmas.Bool.{cases_Bool}
use Rattle.std.proofs.lemmas.List.Elements.{All-head, All-tail}
use Rattle.fj_text.specs.Word.{IsWord}
use Rattle.fj_text.specs.Token.{Word, Number, Sign}
use Rattle.fj_text.specs.Printed.{joined, or_zero, power_bytes, powers_bytes, factors, term_bytes}
use Rattle.fj_text.proofs.PrintedTokens.{Spelled, EndsPiece, Lexed, lexed_none, lexed_append, lexed_sign, lexed_word, lexed_digits, lexed_number, IsSign, star_sign, plus_sign, caret_sign}

-- The tokens of pieces, with a sign between each two.
abbrev pub behind_signs : ℕ → List (List Spelled) → List Spelled
behind_signs sign pieces = flat_map (λ ts. (Sign sign, 1) ∷ ts) pieces

abbrev pub parted : ℕ → List (List Spelled) → List Spelled
parted sign [] = []
parted sign (ts ∷ pieces) = ts ++ behind_signs sign pieces

-- Each of these texts is spelled by the tokens at the same place.
abbrev pub AreLexed : List (List ℕ) → List (List Spelled) → Type 0
AreLexed [] [] = Unit {0}
AreLexed [] (ts ∷ pieces) = ⊥
AreLexed (b ∷ bs) [] = ⊥
AreLexed (b ∷ bs) (ts ∷ pieces) = Lexed b ts × AreLexed bs pieces

-- a sign or what follows ends a piece
tail_ends : {sign : ℕ} → IsSign sign → (bs : List (List ℕ)) (rest : List ℕ) → EndsPiece rest → EndsPiece (flat_map (λ p. (sign ∷ []) ++ p) bs ++ rest)
tail_ends S [] rest ends = ends
tail_ends S (b ∷ bs) rest ends = S.ends

lexed_tail : {sign : ℕ} → IsSign sign → (bs : List (List ℕ)) (pieces : List (List Spelled)) → AreLexed bs pieces → Lexed (flat_map (λ p. (sign ∷ []) ++ p) bs) (behind_signs sign pieces)
lexed_tail S [] [] all = lexed_none
lexed_tail S [] (ts ∷ pieces) all = absurd all
lexed_tail S (b ∷ bs) [] all = absurd all
lexed_tail S (b ∷ bs) (ts ∷ pieces) all = lexed_append (lexed_sign S all.0) (lexed_tail S bs pieces all.1) (λ rest ends. tail_ends S bs rest ends)

pub lexed_joined : {sign : ℕ} → IsSign sign → (bs : List (List ℕ)) (pieces : List (List Spelled)) → AreLexed bs pieces → Lexed (joined (sign ∷ []) bs) (parted sign pieces)
lexed_joined S [] [] all = lexed_none
lexed_joined S [] (ts ∷ pieces) all = absurd all
lexed_joined S (b ∷ bs) [] all = absurd all
lexed_joined S (b ∷ bs) (ts ∷ pieces) all = lexed_append all.0 (lexed_tail S bs pieces all.1) (λ rest ends. tail_ends S bs rest ends)

-- ---- the tokens of the pieces

abbrev pub number_tokens : ℕ → List Spelled
number_tokens n = (Number n, length (decimal n)) ∷ []

abbrev pub exponent_tokens : ℕ → List Spelled
exponent_tokens exponent = if exponent == 1 then [] else (Sign 94, 1) ∷ number_tokens exponent

abbrev pub power_tokens : List ℕ → ℕ → List Spelled
power_tokens name exponent = (Word name, length name) ∷ exponent_tokens exponent

abbrev pub powers_tokens : List (List ℕ) → List ℕ → List (List Spelled)
powers_tokens [] exponents = []
powers_tokens (name ∷ names) [] = []
powers_tokens (name ∷ names) (exponent ∷ exponents) =
    if exponent == 0 then powers_tokens names exponents else power_tokens name exponent ∷ powers_tokens names exponents

abbrev pub factor_tokens : ℕ → List (List Spelled) → List (List Spelled)
factor_tokens rank [] = number_tokens rank ∷ []
factor_tokens rank (power ∷ powers) = if rank == 1 then power ∷ powers else number_tokens rank ∷ power ∷ powers

abbrev pub term_tokens : List (List ℕ) → List ℕ × ℕ → List Spelled
term_tokens names t = parted 42 (factor_tokens t.1 (powers_tokens names t.0))

lexed_power : (name : List ℕ) (exponent : ℕ) → IsWord name → exponent < 2 ^ 32 → Lexed (power_bytes name exponent) (power_tokens name exponent)
lexed_power name exponent word low =
    elim (cases_Bool (eqb exponent 1)) [
      | inl one ↦ rw one (lexed_word name word)
      | inr other ↦ rw other (subst (λ bytes. Lexed bytes ((Word name, length name) ∷ (Sign 94, 1) ∷ number_tokens exponent)) (sym (append_assoc name (codes "^") (decimal exponent)))
          (lexed_append (lexed_word name word) (lexed_sign caret_sign (lexed_number exponent low)) (λ rest ends. refl)))
    ]

lexed_powers : (names : List (List ℕ)) (exponents : List ℕ) → All IsWord names → All (λ e. e < 2 ^ 32) exponents → AreLexed (powers_bytes names exponents) (powers_tokens names exponents)
lexed_powers [] exponents words low = tt
lexed_powers (name ∷ names) [] words low = tt
lexed_powers (name ∷ names) (exponent ∷ exponents) words low =
    let later = lexed_powers names exponents (All-tail IsWord name names words) (All-tail (λ e. e < 2 ^ 32) exponent exponents low) in
    elim (cases_Bool (eqb exponent 0)) [
      | inl none ↦ rw none later
      | inr some ↦ rw some (lexed_power name exponent (All-head IsWord name names words) (All-head (λ e. e < 2 ^ 32) exponent exponents low), later)
    ]

lexed_factors : (rank : ℕ) (bs : List (List ℕ)) (pieces : List (List Spelled)) → rank < 2 ^ 32 → AreLexed bs pieces → AreLexed (factors rank bs) (factor_tokens rank pieces)
lexed_factors rank [] [] low all = (lexed_number rank low, tt)
lexed_factors rank [] (ts ∷ pieces) low all = absurd all
lexed_factors rank (b ∷ bs) [] low all = absurd all
lexed_factors rank (b ∷ bs) (ts ∷ pieces) low all =
    elim (cases_Bool (eqb rank 1)) [
      | inl one ↦ rw one all
      | inr other ↦ rw other (lexed_number rank low, all)
    ]

-- A term whose rank and exponents are below 2^32.
pub record IsLow (t : List ℕ × ℕ) : Type 0 where
  pub exponents : All (λ e. e < 2 ^ 32) t.0
  pub rank : t.1 < 2 ^ 32

lexed_term : (names : List (List ℕ)) (t : List ℕ × ℕ) → All IsWord names → IsLow t → Lexed (term_bytes names t) (term_tokens names t)
lexed_term names t words low =
    lexed_joined star_sign (factors t.1 (powers_bytes names t.0)) (factor_tokens t.1 (powers_tokens names t.0)) (lexed_factors t.1 (powers_bytes names t.0) (powers_tokens names t.0) low.rank (lexed_powers names t.0 words low.exponents))

lexed_terms : (names : List (List ℕ)) (ts : List (List ℕ × ℕ)) → All IsWord names → All IsLow ts → AreLexed (map (term_bytes names) ts) (map (term_tokens names) ts)
lexed_terms names [] words low = tt
lexed_terms names (t ∷ ts) words low = (lexed_term names t words (All-head IsLow t ts low), lexed_terms names ts words (All-tail IsLow t ts low))

-- The tokens of a polynomial with these terms.
abbrev pub terms_tokens : List (List ℕ) → List (List ℕ × ℕ) → List Spelled
terms_tokens names [] = (Number 0, 1) ∷ []
terms_tokens names (t ∷ ts) = parted 43 (map (term_tokens names) (t ∷ ts))

pub lexed_sum : (names : List (List ℕ)) (ts : List (List ℕ × ℕ)) → All IsWord names → All IsLow ts → Lexed (joined (codes "+") (or_zero (map (term_bytes names) ts))) (terms_tokens names ts)
lexed_sum names [] words low = lexed_digits (48 ∷ []) 0 (omega arith) (omega arith, tt) refl
lexed_sum names (t ∷ ts) words low = lexed_joined plus_sign (map (term_bytes names) (t ∷ ts)) (map (term_tokens names) (t ∷ ts)) (lexed_terms names (t ∷ ts) words low)
