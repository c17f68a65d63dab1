-- The text of a term, as it is appended piece by piece.
use Rattle.std.proofs.Common.{◌≡◌, ℕ, ◌+◌, ◌<◌, ◌≤◌, Bool, true, false, cond, eqb, List, [], ◌∷◌, ◌++◌, length, drop, Some, get_or, refl, sym, ap, ◌∙◌, append_assoc, append-nil, add-one, drop-cons, codes, decimal, inl, inr}
use Rattle.std.specs.List.{slice_get}
use Rattle.std.proofs.lemmas.Bool.{cases_Bool}
use Rattle.std.proofs.lemmas.List.{drop_all}
use Rattle.fj_text.specs.Printed.{joined, power_bytes, powers_bytes, factors, term_bytes}
use Rattle.fj_text.proofs.Joined.{drop_at, is_none, joined-push}

-- the coefficient where it isn't 1
abbrev pub start : ℕ → List (List ℕ)
start rank = cond (eqb rank 1) [] (decimal rank ∷ [])

-- a text, with the pieces of a term at its end, and the pieces that are still to come
pub record TermTextSoFar (old new : List ℕ) (is_bare : Bool) (names : List (List ℕ)) (rank : ℕ) (exponents : List ℕ) (i : ℕ) : Type 0 where
  pub front : List (List ℕ)
  pub text : new ≡ old ++ joined (codes "*") front
  pub bare : is_bare ≡ is_none front
  pub whole : front ++ powers_bytes (drop i names) (drop i exponents) ≡ start rank ++ powers_bytes names exponents

here_number : (xs : List ℕ) (i : ℕ) → i < length xs → drop i xs ≡ get_or xs i 0 ∷ drop (i + 1) xs
here_number xs i inside = rw (add-one, drop-cons xs i 0) refl

pub bare_begins : (old : List ℕ) (names : List (List ℕ)) (rank : ℕ) (exponents : List ℕ) → eqb rank 1 ≡ true → TermTextSoFar old old true names rank exponents 0
bare_begins old names rank exponents one = record { front = []; text = sym (append-nil old); bare = refl; whole = rw one refl }

pub rank_begins : (old : List ℕ) (names : List (List ℕ)) (rank : ℕ) (exponents : List ℕ) → eqb rank 1 ≡ false → TermTextSoFar old (old ++ decimal rank) false names rank exponents 0
rank_begins old names rank exponents other = record { front = decimal rank ∷ []; text = ap (λ s. old ++ s) (sym (append-nil (decimal rank))); bare = refl; whole = rw other refl }

-- the powers from a place on, where a name and an exponent stand there
powers_at : (names : List (List ℕ)) (exponents : List ℕ) (i : ℕ) (name : List ℕ) → slice_get names i ≡ Some name → i < length exponents
    → powers_bytes (drop i names) (drop i exponents) ≡ powers_bytes (name ∷ drop (i + 1) names) (get_or exponents i 0 ∷ drop (i + 1) exponents)
powers_at names exponents i name at within = ap (λ s. powers_bytes s (drop i exponents)) (drop_at names i name at) ∙ ap (λ s. powers_bytes (name ∷ drop (i + 1) names) s) (here_number exponents i within)

pub power_left_out : (old new : List ℕ) (is_bare : Bool) (names : List (List ℕ)) (rank : ℕ) (exponents : List ℕ) (i : ℕ) (name : List ℕ) → slice_get names i ≡ Some name → i < length exponents
    → get_or exponents i 0 ≡ 0 → TermTextSoFar old new is_bare names rank exponents i → TermTextSoFar old new is_bare names rank exponents (i + 1)
power_left_out old new is_bare names rank exponents i name at within zero-is h =
    record {
      front = h.front;
      text = h.text;
      bare = h.bare;
      whole = sym (ap (λ s. h.front ++ s) (powers_at names exponents i name at within) ∙ rw zero-is refl) ∙ h.whole;
    }

some_front : (front : List (List ℕ)) (piece : List ℕ) → false ≡ is_none (front ++ piece ∷ [])
some_front [] piece = refl
some_front (x ∷ front) piece = refl

pub power_pushed : (old new : List ℕ) (is_bare : Bool) (names : List (List ℕ)) (rank : ℕ) (exponents : List ℕ) (i : ℕ) (name : List ℕ) → slice_get names i ≡ Some name → i < length exponents
    → eqb (get_or exponents i 0) 0 ≡ false → TermTextSoFar old new is_bare names rank exponents i → TermTextSoFar old (new ++ (cond is_bare [] (codes "*") ++ power_bytes name (get_or exponents i 0))) false names rank exponents (i + 1)
power_pushed old new is_bare names rank exponents i name at within other h =
    let piece = power_bytes name (get_or exponents i 0) in
    let others = powers_bytes (drop (i + 1) names) (drop (i + 1) exponents) in
    let so_far = joined (codes "*") h.front in
    let one : powers_bytes (drop i names) (drop i exponents) ≡ piece ∷ others = powers_at names exponents i name at within ∙ rw other refl in
    record {
      front = h.front ++ piece ∷ [];
      text =
          ap (λ s. s ++ (cond is_bare [] (codes "*") ++ piece)) h.text ∙ append_assoc old so_far (cond is_bare [] (codes "*") ++ piece)
          ∙ ap (λ b. old ++ (so_far ++ (cond b [] (codes "*") ++ piece))) h.bare ∙ ap (λ s. old ++ s) (sym (joined-push (codes "*") h.front piece));
      bare = some_front h.front piece;
      whole = append_assoc h.front (piece ∷ []) others ∙ ap (λ s. h.front ++ s) (sym one) ∙ h.whole;
    }

finish_text : (old : List ℕ) (rank : ℕ) (powers : List (List ℕ)) →
    cond (is_none (start rank ++ powers)) ((old ++ joined (codes "*") (start rank ++ powers)) ++ decimal rank) (old ++ joined (codes "*") (start rank ++ powers)) ≡ old ++ joined (codes "*") (factors rank powers)
finish_text old rank [] =
    elim (cases_Bool (eqb rank 1)) [
      | inl one ↦ rw one (ap (λ s. s ++ decimal rank) (append-nil old) ∙ ap (λ s. old ++ s) (sym (append-nil (decimal rank))))
      | inr other ↦ rw other refl
    ]
finish_text old rank (p ∷ powers) =
    elim (cases_Bool (eqb rank 1)) [
      | inl one ↦ rw one refl
      | inr other ↦ rw other refl
    ]

-- all powers are there; a coefficient without powers is still to come
pub term_ends : (old new : List ℕ) (is_bare : Bool) (names : List (List ℕ)) (rank : ℕ) (exponents : List ℕ) (i : ℕ) → length names ≤ i → TermTextSoFar old new is_bare names rank exponents i
    → cond is_bare (new ++ decimal rank) new ≡ old ++ term_bytes names (exponents, rank)
term_ends old new is_bare names rank exponents i all h =
    let powers = powers_bytes names exponents in
    let front-is : h.front ≡ start rank ++ powers =
    sym (append-nil h.front) ∙ ap (λ s. h.front ++ powers_bytes s (drop i exponents)) (sym (drop_all i names all)) ∙ h.whole in
    ap (λ b. cond b (new ++ decimal rank) new) h.bare ∙ ap (λ s. cond (is_none h.front) (s ++ decimal rank) s) h.text
    ∙ ap (λ f. cond (is_none f) ((old ++ joined (codes "*") f) ++ decimal rank) (old ++ joined (codes "*") f)) front-is ∙ finish_text old rank powers

pub text_as : (old new other : List ℕ) (is_bare also : Bool) (names : List (List ℕ)) (rank : ℕ) (exponents : List ℕ) (i : ℕ) → TermTextSoFar old new is_bare names rank exponents i → other ≡ new → also ≡ is_bare
    → TermTextSoFar old other also names rank exponents i
text_as old new other is_bare also names rank exponents i h same alike = record { front = h.front; text = same ∙ h.text; bare = alike ∙ h.bare; whole = h.whole }
