-- A printed polynomial is read as it was.
use Rattle.std.proofs.Common.{◌≡◌, ℕ, zero, ◌+◌, ◌^◌, ◌<◌, ◌≤◌, false, cond, List, [], ◌∷◌, ◌++◌, length, map, get_or, All, Some, Ok, refl, sym, ap, subst, ◌∙◌, append_assoc, append-nil, length-append, arith, inl, inr, ◌%◌}
use Rattle.std.specs.FinMap.{empty, from_entries}
use Rattle.std.specs.Str.{bytes_eq}
use Rattle.std.proofs.Math.Nat.{mod-eq_of_lt}
use Rattle.std.proofs.lemmas.Bool.{cases_Bool}
use Rattle.std.proofs.lemmas.List.Elements.{All-nil, All-cons, All-head, All-tail}
use Rattle.std.proofs.lemmas.Slice.Eq.{bytes_eq-Decides}
use Rattle.fj_coeff.specs.Field.{Field, IsField}
use Rattle.fj_coeff.specs.PrimeFieldLaws.{prime_bounds}
use Rattle.fj_theory.specs.Exponents.{origin, total}
use Rattle.fj_theory.specs.Plain.{PlainPolynomial, polynomial}
use Rattle.fj_theory.specs.Polynomial.{Polynomial, IsTerm, coefficient, sum, term}
use Rattle.fj_theory.proofs.Exponents.{IsExponents-origin, total-cons}
use Rattle.fj_theory.proofs.FormalSum.{same, same_itself}
use Rattle.fj_theory.proofs.Monomial.{term_zero}
use Rattle.fj_theory.proofs.Plain.{Apart-from_distinct}
use Rattle.fj_theory.proofs.Terms.{Apart, coefficient-from_entries_cons}
use Rattle.fj_text.specs.declared.scope.Meaning.{Meaning}
use Rattle.fj_text.specs.declared.scope.Meaning.TheVariants as meanings
use Rattle.fj_text.specs.Word.{AreNames}
use Rattle.fj_text.specs.Token.{Number, Placed, tokens_from}
use Rattle.fj_text.specs.State.{State, is_bad_next, next, ◌>>=◌, state_at, state_from}
use Rattle.fj_text.specs.Expression.{Answer, expression, parenthesised, plus_term, sum_at, within}
use Rattle.fj_text.specs.Reading.{meaning_among, meaning_at, text_at, unless_bad}
use Rattle.fj_text.specs.Printed.{polynomial_bytes}
use Rattle.fj_text.specs.PrintedLaws.{IsSmall, PrintedIsRead}
use Rattle.fj_text.proofs.Places.{place_found}
use Rattle.fj_text.proofs.PrintedTokens.{Spelled, Lexed, end_column, placed_from}
use Rattle.fj_text.proofs.PrintedPieces.{IsLow, behind_signs, lexed_sum, term_tokens, terms_tokens}
use Rattle.fj_text.proofs.PrintedReading.{AreTurned, EndsTerm, IsAnswered, factors_term, number_factor, plus_turned, standing, terms_sum}
use Rattle.fj_text.proofs.PrintedValues.{AreVariables, IsPrintable, term_read}
use Rattle.fj_text.proofs.SmallPolynomials.{at_seam, fresh_behind, not_large, same_back, single, sum_push, within_small}

-- the terms before a place
All-front : {X : Type 0} (P : X → Type 0) (xs ys : List X) → All P (xs ++ ys) → All P xs
All-front P [] ys all = All-nil P
All-front P (x ∷ xs) ys all = All-cons P x xs (All-head P x (xs ++ ys) all) (All-front P xs ys (All-tail P x (xs ++ ys) all))

-- ---- the terms of a small polynomial

-- each term's coefficient is that of the polynomial
coefficients : (ts : List (List ℕ × ℕ)) → Apart ts → All (λ t. 0 < t.1) ts → All (λ t. 0 < coefficient (from_entries ts) t.0) ts
coefficients [] apart nonzero = All-nil _
coefficients (t ∷ ts) apart nonzero =
    All-cons (λ u. 0 < coefficient (from_entries (t ∷ ts)) u.0) t ts
    (subst (λ c. 0 < c) (sym (coefficient-from_entries_cons t ts t.0 ∙ ap (λ s. cond s t.1 (coefficient (from_entries ts) t.0)) (same_itself t.0))) (All-head (λ u. 0 < u.1) t ts nonzero))
    (λ k d h. subst (λ c. 0 < c)
    (sym (coefficient-from_entries_cons t ts (get_or ts k d).0 ∙ ap (λ s. cond s t.1 (coefficient (from_entries ts) (get_or ts k d).0)) (same_back t.0 (get_or ts k d).0 (apart.0 k d h))))
    (coefficients ts apart.1 (All-tail (λ u. 0 < u.1) t ts nonzero) k d h))

entries_low : (es : List ℕ) (n m : ℕ) → total es ≤ n → n < m → All (λ e. e < m) es
entries_low [] n m h above = All-nil _
entries_low (e ∷ es) n m h above = let whole = total-cons e es in All-cons (λ k. k < m) e es (omega arith) (entries_low es n m (omega arith) above)

-- ---- names

names_apart : (names : List (List ℕ)) → AreNames names → (j k : ℕ) → j < k → k < length names → bytes_eq (get_or names j []) (get_or names k []) ≡ false
names_apart names N j k before inside =
    elim (cases_Bool (bytes_eq (get_or names j []) (get_or names k []))) [
      | inl same ↦ absurd (N.distinct j k [] before inside ((bytes_eq-Decides (get_or names j []) (get_or names k [])).0 same))
      | inr other ↦ other
    ]

variables_known : (names : List (List ℕ)) → AreNames names → (k : ℕ) → k < length names → meaning_among names (get_or names k []) ≡ meanings.Variable (0 + k)
variables_known names N k inside =
    ap meaning_at (sym (place_found names (get_or names k []) k inside (λ j before. names_apart names N j k before inside) ((bytes_eq-Decides (get_or names k []) (get_or names k [])).1 refl)))
    ∙ ap (λ i. meanings.Variable i) (omega arith)

-- ---- sums

module _ {F : Field} (L : IsField F) (meaning : List ℕ → Meaning) (inside : State → Answer Polynomial) (names : List (List ℕ)) (known : AreVariables L meaning inside 0 names) where
  -- Terms of which the sums are small.
  pub record AreSummed (ts : List (List ℕ × ℕ)) : Type 0 where
    pub printable : All (IsPrintable L meaning inside names) ts
    pub apart : Apart ts
    pub few : length ts ≤ 1000

  are_terms : (ts : List (List ℕ × ℕ)) → All (IsPrintable L meaning inside names) ts → All (IsTerm F) ts
  are_terms ts all k d h = (all k d h).is_term

  terms_turned : (xs ts : List (List ℕ × ℕ)) → AreSummed (xs ++ ts) → AreTurned (plus_term F meaning inside) 43 (EndsTerm F meaning inside) (from_entries xs) (map (term_tokens names) ts) (from_entries (xs ++ ts))
  terms_turned xs [] S = ap from_entries (sym (append-nil xs))
  terms_turned xs (t ∷ ts) S =
      let next : List (List ℕ × ℕ) = xs ++ t ∷ [] in
      let moved : next ++ ts ≡ xs ++ t ∷ ts = append_assoc xs (t ∷ []) ts in
      let S' : AreSummed (next ++ ts) = subst AreSummed (sym moved) S in
      let P : IsPrintable L meaning inside names t = at_seam (IsPrintable L meaning inside names) xs t ts S.printable in
      let before : All (IsPrintable L meaning inside names) xs = All-front (IsPrintable L meaning inside names) xs (t ∷ ts) S.printable in
      let all : All (IsPrintable L meaning inside names) next = All-front (IsPrintable L meaning inside names) next ts S'.printable in
      let size = length-append next ts in
      let pushed : within (sum F (from_entries xs) (term t.1 t.0)) ≡ Some (from_entries next) =
      ap within (sum_push L xs t (are_terms xs before) P.is_term (fresh_behind xs t ts S.apart))
      ∙ within_small (from_entries next) (not_large L next (are_terms next all) (omega (arith, size, S'.few)) (λ k d h. (all k d h).low)) in (
        from_entries next,
        plus_turned F meaning inside (from_entries xs) (term t.1 t.0) (from_entries next) (term_tokens names t) (term_read L meaning inside names known t P) pushed,
        subst (λ us. AreTurned (plus_term F meaning inside) 43 (EndsTerm F meaning inside) (from_entries next) (map (term_tokens names) ts) (from_entries us)) moved (terms_turned next ts S'),
      )

  -- The tokens of some terms are read as the polynomial that has these terms.
  terms_read : (ts : List (List ℕ × ℕ)) → AreSummed ts → (column start : ℕ)
      → IsAnswered (sum_at F meaning inside (standing (placed_from column (terms_tokens names ts) ++ []) start column)) (from_entries ts) [] (end_column column (terms_tokens names ts))
  terms_read [] S column start =
      let bounds = prime_bounds F.characteristic L.prime in
      let none : term (0 % F.characteristic) origin ≡ empty = ap (λ c. term c origin) (mod-eq_of_lt (omega (arith, bounds.0))) ∙ term_zero L IsExponents-origin in
      let zero_term = factors_term F meaning inside ((Number 0, 1) ∷ []) [] (term (0 % F.characteristic) origin) empty (number_factor F meaning inside 0 1 (omega arith)) none in
      terms_sum F meaning inside ((Number 0, 1) ∷ []) [] empty empty zero_term refl column start
  terms_read (t ∷ ts) S column start =
      let P : IsPrintable L meaning inside names t = All-head (IsPrintable L meaning inside names) t ts S.printable in
      terms_sum F meaning inside (term_tokens names t) (map (term_tokens names) ts) (term t.1 t.0) (from_entries (t ∷ ts)) (term_read L meaning inside names known t P)
      (subst (λ f. AreTurned (plus_term F meaning inside) 43 (EndsTerm F meaning inside) f (map (term_tokens names) ts) (from_entries (t ∷ ts))) (single L t P.is_term) (terms_turned (t ∷ []) ts S)) column start

  some_tokens : (ts : List (List ℕ × ℕ)) → AreSummed ts → 0 < length (terms_tokens names ts)
  some_tokens [] S = omega arith
  some_tokens (t ∷ ts) S =
      let P : IsPrintable L meaning inside names t = All-head (IsPrintable L meaning inside names) t ts S.printable in
      let first = term_read L meaning inside names known t P in
      omega (arith, first.some, length-append (term_tokens names t) (behind_signs 43 (map (term_tokens names) ts)))

-- ---- the line

length-placed_from : (column : ℕ) (ts : List Spelled) → length (placed_from column ts) ≡ length ts
length-placed_from column [] = refl
length-placed_from column (t ∷ ts) = let later = length-placed_from (column + t.1) ts in omega arith

state_some : (ps : List Placed) (column : ℕ) (line : List ℕ) → 0 < length ps → state_from ps column line ≡ standing ps column column
state_some [] column line some = absurd (omega arith)
state_some (p ∷ ps) column line some = refl

-- The state before a line that is spelled by some tokens.
line_state : (line : List ℕ) (tokens : List Spelled) → Lexed line tokens → 0 < length tokens → state_at line 0 ≡ standing (placed_from 0 tokens ++ []) 0 0
unfolding state_at tokens_from
line_state line tokens lexed some =
    let found : tokens_from zero 0 line ≡ placed_from 0 tokens ++ [] = ap (tokens_from zero 0) (sym (append-nil line)) ∙ lexed.lexes 0 [] refl in
    let placed : 0 < length (placed_from 0 tokens ++ []) = omega (arith, length-append (placed_from 0 tokens) [], length-placed_from 0 tokens) in
    ap (λ ps. state_from ps 0 line) found ∙ state_some (placed_from 0 tokens ++ []) 0 line placed

-- ---- the law

summed : {F : Field} (L : IsField F) (inside : State → Answer Polynomial) (names : List (List ℕ)) (N : AreNames names) (f : PlainPolynomial) → IsSmall F.characteristic names f
    → AreSummed L (meaning_among names) inside names (variables_known names N) f.terms
summed L inside names N f S =
    let apart = Apart-from_distinct f.terms f.plain.distinct in
    record {
      printable = λ k d h.
          let rank = S.ranks.below k d h in
          record {
            is_term = record { exponents = f.plain.exponents k d h; nonzero = f.plain.nonzero k d h; below = omega (arith, rank, L.characteristic_fits) };
            rank = rank;
            low = S.low k d h;
            named = λ j past. S.variables.later (get_or f.terms k d).0 (coefficients f.terms apart f.plain.nonzero k d h) j past;
          };
      apart = apart;
      few = S.few;
    }

low_terms : {F : Field} → IsField F → (names : List (List ℕ)) (f : PlainPolynomial) → IsSmall F.characteristic names f → All IsLow f.terms
low_terms {F} L names f S k d h =
    let bounds = prime_bounds F.characteristic L.prime in
    let rank = S.ranks.below k d h in
    record { exponents = entries_low (get_or f.terms k d).0 1000 (2 ^ 32) (S.low k d h) (omega arith); rank = omega (arith, rank, bounds.1) }

pub printed_is_read : PrintedIsRead
unfolding polynomial_bytes text_at expression is_bad_next next
printed_is_read F L names N f S =
    let line : List ℕ = polynomial_bytes names f in
    let tokens : List Spelled = terms_tokens names f.terms in
    let lexed : Lexed line tokens = lexed_sum names f.terms N.words (low_terms L names f S) in
    let inside : State → Answer Polynomial = parenthesised F (meaning_among names) 64 in
    let known = variables_known names N in
    let S' = summed L inside names N f S in
    let read = terms_read L (meaning_among names) inside names known f.terms S' 0 0 in
    let end : end_column 0 tokens ≡ length line = lexed.end 0 ∙ (omega arith) in
    ap (λ s. sum_at F (meaning_among names) inside s >>= unless_bad) (line_state line tokens lexed (some_tokens L (meaning_among names) inside names known f.terms S'))
    ∙ ap (λ answer. answer >>= unless_bad) read.is
    ∙ ap (λ e. Ok (polynomial f, e)) end
