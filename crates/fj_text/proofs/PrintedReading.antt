-- The rules of expressions on the tokens of printed terms.
use Rattle.std.proofs.Common.{◌≡◌, ℕ, zero, suc, ◌+◌, ◌%◌, ◌^◌, ◌<◌, ◌≤◌, true, false, leb, ltb, eqb, List, [], ◌∷◌, ◌++◌, length, Option, Some, None, Ok, refl, sym, ap, subst, ◌∙◌, append_assoc, arith, decimal, inl, inr}
use Rattle.std.specs.Option.{option_map_or}
use Rattle.std.proofs.lemmas.Bool.{cases_Bool, lt-leb, le-ltb, eq-eqb, eqb-true}
use Rattle.std.proofs.lemmas.List.{length-append}
use Rattle.std.proofs.lemmas.Option.{same_Some}
use Rattle.fj_coeff.specs.Field.{Field}
use Rattle.fj_theory.specs.Exponents.{origin}
use Rattle.fj_theory.specs.PointIdeal.{variable_exponents}
use Rattle.fj_theory.specs.Polynomial.{Polynomial, product, sum, term}
use Rattle.fj_text.specs.declared.scope.Meaning.{Meaning}
use Rattle.fj_text.specs.declared.scope.Meaning.TheVariants as meanings
use Rattle.fj_text.specs.Token.{Word, Number, Sign, Placed, star, caret, plus, minus}
use Rattle.fj_text.specs.State.{State, ◌>>=◌, after_sign, next}
use Rattle.fj_text.specs.Expression.{Answer, within, power_within, repeat, constant, variable, exponent_of, atom, atom_of, factor, times_factor, term_at, first_term, plus_term, sum_at}
use Rattle.fj_text.proofs.PrintedTokens.{Spelled, end_column, placed_from, end_column-append, placed_from-append}
use Rattle.fj_text.proofs.PrintedPieces.{behind_signs, parted, number_tokens, power_tokens}

-- with these tokens left, behind a token that stands there
abbrev pub standing : List Placed → ℕ → ℕ → State
standing left start end = record { left = left; start = start; end = end }

-- The answer is this value, with these tokens left behind this column.
pub record IsAnswered {A : Type 0} (answer : Answer A) (x : A) (rest : List Placed) (column : ℕ) : Type 0 where
  pub start : ℕ
  pub is : answer ≡ Ok (x, standing rest start column)

-- ---- the next token

-- the sign doesn't come next
abbrev pub LacksSign : ℕ → List Placed → Type 0
LacksSign sign rest = (start end : ℕ) → after_sign sign (standing rest start end) ≡ None

pub lacks_at_end : (sign : ℕ) → LacksSign sign []
unfolding after_sign next
lacks_at_end sign start end = refl

pub lacks_at_sign : (sign other : ℕ) (s e : ℕ) (rest : List Placed) → eqb other sign ≡ false → LacksSign sign (record { token = Sign other; start = s; end = e } ∷ rest)
unfolding after_sign next
lacks_at_sign sign other s e rest apart start end = rw apart refl

pub lacks_at_number : (sign n s e : ℕ) (rest : List Placed) → LacksSign sign (record { token = Number n; start = s; end = e } ∷ rest)
unfolding after_sign next
lacks_at_number sign n s e rest start end = refl

pub lacks_at_word : (sign : ℕ) (word : List ℕ) (s e : ℕ) (rest : List Placed) → LacksSign sign (record { token = Word word; start = s; end = e } ∷ rest)
unfolding after_sign next
lacks_at_word sign word s e rest start end = refl

sign_taken_next : (sign s e : ℕ) (rest : List Placed) (start end : ℕ) → after_sign sign (standing (record { token = Sign sign; start = s; end = e } ∷ rest) start end) ≡ Some (standing rest s e)
unfolding after_sign next
sign_taken_next sign s e rest start end = let same : eqb sign sign ≡ true = eq-eqb sign sign refl in rw same refl

-- ---- repetitions

module _ {A : Type 0} (turn : A → State → Option (Answer A)) (sign : ℕ) (Ends : List Placed → Type 0) where
  -- Behind the sign and these tokens the turn has made y of x.
  pub record IsTurned (x : A) (tokens : List Spelled) (y : A) : Type 0 where
    pub turns : (column start : ℕ) (rest : List Placed) → Ends rest
        → (s : ℕ) × (turn x (standing (placed_from column ((Sign sign, 1) ∷ tokens) ++ rest) start column) ≡ Some (Ok (y, standing rest s (end_column column ((Sign sign, 1) ∷ tokens)))))

  -- Turns one after the other make y of x.
  abbrev pub AreTurned : A → List (List Spelled) → A → Type 0
  AreTurned x [] y = x ≡ y
  AreTurned x (tokens ∷ pieces) y = (z : A) × IsTurned x tokens z × AreTurned z pieces y

  ends_later : ((s e : ℕ) (rest : List Placed) → Ends (record { token = Sign sign; start = s; end = e } ∷ rest)) → (pieces : List (List Spelled)) (rest : List Placed) → Ends rest → (column : ℕ)
      → Ends (placed_from column (behind_signs sign pieces) ++ rest)
  ends_later ends_at_sign [] rest ends column = ends
  ends_later ends_at_sign (tokens ∷ pieces) rest ends column = ends_at_sign column (column + 1) _

  -- The repetition takes all turns, and stops where no turn is left.
  pub repeated : (ends_at_sign : (s e : ℕ) (rest : List Placed) → Ends (record { token = Sign sign; start = s; end = e } ∷ rest)) (n : ℕ) (x : A) (pieces : List (List Spelled)) (y : A) → AreTurned x pieces y → length pieces ≤ n
      → (rest : List Placed) → Ends rest → ((start end : ℕ) → turn y (standing rest start end) ≡ None)
      → (column start : ℕ) → IsAnswered (repeat turn n x (standing (placed_from column (behind_signs sign pieces) ++ rest) start column)) y rest (end_column column (behind_signs sign pieces))
  unfolding repeat
  repeated ends_at_sign zero x [] y turned few rest ends stops column start = record { start = start; is = ap (λ z. Ok (z, standing rest start column)) turned }
  repeated ends_at_sign (suc n) x [] y turned few rest ends stops column start =
      record { start = start; is = ap (λ z. repeat turn (suc n) z (standing rest start column)) turned ∙ (let stop : turn y (standing rest start column) ≡ None = stops start column in rw stop refl) }
  repeated ends_at_sign zero x (tokens ∷ pieces) y turned few rest ends stops column start = absurd (omega arith)
  repeated ends_at_sign (suc n) x (tokens ∷ pieces) y turned few rest ends stops column start =
      let front : List Spelled = (Sign sign, 1) ∷ tokens in
      let later : List Spelled = behind_signs sign pieces in
      let behind : ℕ = end_column column front in
      let left : List Placed = placed_from behind later ++ rest in
      let split : placed_from column (front ++ later) ++ rest ≡ placed_from column front ++ left = ap (λ ps. ps ++ rest) (placed_from-append column front later) ∙ append_assoc (placed_from column front) (placed_from behind later) rest in
      let once = turned.1.turns column start left (ends_later ends_at_sign pieces rest ends behind) in
      let others = repeated ends_at_sign n turned.0 pieces y turned.2 (omega arith) rest ends stops behind once.0 in
      record {
        start = others.start;
        is =
            ap (λ ts. repeat turn (suc n) x (standing ts start column)) split
            ∙ ap (λ o. option_map_or (λ answer. answer >>= λ r. repeat turn n r.0 r.1) o (Ok (x, standing (placed_from column front ++ left) start column))) once.1
            ∙ others.is ∙ ap (λ e. Ok (y, standing rest others.start e)) (sym (end_column-append column front later));
      }

-- there are at least as many tokens as signs
pub pieces_below : (sign column : ℕ) (pieces : List (List Spelled)) (rest : List Placed) → length pieces ≤ length (placed_from column (behind_signs sign pieces) ++ rest)
pieces_below sign column [] rest = omega arith
pieces_below sign column (tokens ∷ pieces) rest =
    let behind = end_column (column + 1) tokens in
    let later = pieces_below sign behind pieces rest in
    let split = ap length (ap (λ ps. ps ++ rest) (placed_from-append (column + 1) tokens (behind_signs sign pieces)) ∙ append_assoc (placed_from (column + 1) tokens) (placed_from behind (behind_signs sign pieces)) rest)
    ∙ length-append (placed_from (column + 1) tokens) (placed_from behind (behind_signs sign pieces) ++ rest) in
    omega (arith, later, split)

-- ---- factors

module _ (F : Field) (meaning : List ℕ → Meaning) (inside : State → Answer Polynomial) where
  read_number : (n len column start : ℕ) (rest : List Placed) → n < 2 ^ 32
      → atom F meaning inside (standing (placed_from column ((Number n, len) ∷ []) ++ rest) start column) ≡ Ok (term (n % F.characteristic) origin, standing rest column (column + len))
  unfolding atom atom_of constant next
  read_number n len column start rest low = let narrow : leb (2 ^ 32) n ≡ false = lt-leb _ _ low in rw narrow refl

  read_word : (word : List ℕ) (len i column start : ℕ) (rest : List Placed) → meaning word ≡ meanings.Variable i
      → atom F meaning inside (standing (placed_from column ((Word word, len) ∷ []) ++ rest) start column) ≡ Ok (term 1 (variable_exponents i), standing rest column (column + len))
  unfolding atom atom_of variable next
  read_word word len i column start rest known = rw known refl

  bare_factor : (f : Polynomial) (s t : State) → atom F meaning inside s ≡ Ok (f, t) → after_sign caret t ≡ None → factor F meaning inside s ≡ Ok (f, t)
  unfolding factor
  bare_factor f s t base none = rw (base, none) refl

  raised_factor : (f g : Polynomial) (s : State) (k len start column : ℕ) (rest : List Placed) → k ≤ 1000 → power_within F f k ≡ Some g
      → atom F meaning inside s ≡ Ok (f, standing (placed_from column ((Sign 94, 1) ∷ (Number k, len) ∷ []) ++ rest) start column)
      → factor F meaning inside s ≡ Ok (g, standing rest (column + 1) (column + 1 + len))
  unfolding factor exponent_of after_sign next
  raised_factor f g s k len start column rest low power base =
      let narrow : leb (2 ^ 32) k ≡ false = lt-leb _ _ (omega arith) in
      let small : ltb 1000 k ≡ false = le-ltb _ _ low in
      rw (base, narrow, small, power) refl

  -- These tokens are read as a factor of this value; a `-` doesn't come first.
  pub record IsFactor (tokens : List Spelled) (f : Polynomial) : Type 0 where
    pub some : 0 < length tokens
    pub reads : (column start : ℕ) (rest : List Placed) → LacksSign caret rest → IsAnswered (factor F meaning inside (standing (placed_from column tokens ++ rest) start column)) f rest (end_column column tokens)
    pub plain : (column : ℕ) (rest : List Placed) → LacksSign minus (placed_from column tokens ++ rest)

  pub number_factor : (n len : ℕ) → n < 2 ^ 32 → IsFactor ((Number n, len) ∷ []) (term (n % F.characteristic) origin)
  number_factor n len low =
      record {
        some = omega arith;
        reads = λ column start rest ends. record { start = column; is = bare_factor _ _ _ (read_number n len column start rest low) (ends column _) };
        plain = λ column rest. lacks_at_number minus n _ _ rest;
      }

  pub power_factor : (name : List ℕ) (i e : ℕ) (g : Polynomial) → meaning name ≡ meanings.Variable i → e ≤ 1000 → power_within F (term 1 (variable_exponents i)) e ≡ Some g → IsFactor (power_tokens name e) g
  unfolding power_within
  power_factor name i e g known low power =
      elim (cases_Bool (eqb e 1)) [
        | inl one ↦ rw one (
            let same : term 1 (variable_exponents i) ≡ g = same_Some _ _ (ap (power_within F (term 1 (variable_exponents i))) (sym (eqb-true e 1 one)) ∙ power) in
            record {
              some = omega arith;
              reads = λ column start rest ends. record { start = column; is = bare_factor _ _ _ (read_word name (length name) i column start rest known) (ends column _) ∙ ap (λ f. Ok (f, standing rest column (column + length name))) same };
              plain = λ column rest. lacks_at_word minus name _ _ rest;
            })
        | inr other ↦ rw other (
            record {
              some = omega arith;
              reads = λ column start rest ends. record {
                start = column + length name + 1;
                is = raised_factor (term 1 (variable_exponents i)) g _ e (length (decimal e)) column (column + length name) rest low power
                    (read_word name (length name) i column start (placed_from (column + length name) ((Sign 94, 1) ∷ number_tokens e) ++ rest) known);
              };
              plain = λ column rest. lacks_at_word minus name _ _ _;
            })
      ]

  -- ---- terms

  split : (column : ℕ) (front later : List Spelled) (rest : List Placed) → placed_from column (front ++ later) ++ rest ≡ placed_from column front ++ (placed_from (end_column column front) later ++ rest)
  split column front later rest = ap (λ ps. ps ++ rest) (placed_from-append column front later) ∙ append_assoc (placed_from column front) (placed_from (end_column column front) later) rest

  abbrev pub IsTimes : Polynomial → List Spelled → Polynomial → Type 0
  IsTimes f tokens g = IsTurned (times_factor F meaning inside) 42 (LacksSign caret) f tokens g

  pub times_turned : (f g h : Polynomial) (tokens : List Spelled) → IsFactor tokens g → within (product F f g) ≡ Some h → IsTimes f tokens h
  unfolding times_factor
  times_turned f g h tokens factor_g formed_h =
      record {
        turns = λ column start rest ends.
            let read = factor_g.reads (column + 1) column rest ends in
            let sign = sign_taken_next star column (column + 1) (placed_from (column + 1) tokens ++ rest) start column in
            (read.start, rw (sign, read.is, formed_h) refl);
      }

  -- What ends a term.
  pub record EndsTerm (rest : List Placed) : Type 0 where
    pub lacks_caret : LacksSign caret rest
    pub lacks_star : LacksSign star rest

  -- These tokens are read as a term of this value; a `-` doesn't come first.
  pub record IsReadTerm (tokens : List Spelled) (f : Polynomial) : Type 0 where
    pub some : 0 < length tokens
    pub reads : (column start : ℕ) (rest : List Placed) → EndsTerm rest → IsAnswered (term_at F meaning inside (standing (placed_from column tokens ++ rest) start column)) f rest (end_column column tokens)
    pub plain : (column : ℕ) (rest : List Placed) → LacksSign minus (placed_from column tokens ++ rest)

  no_factor : (f : Polynomial) (s : State) → after_sign star s ≡ None → times_factor F meaning inside f s ≡ None
  unfolding times_factor
  no_factor f s none = rw none refl

  then_factors : (s t : State) (f : Polynomial) → factor F meaning inside s ≡ Ok (f, t) → term_at F meaning inside s ≡ repeat (times_factor F meaning inside) (length t.left) f t
  unfolding term_at
  then_factors s t f first = rw first refl

  pub factors_term : (tokens : List Spelled) (pieces : List (List Spelled)) (f g : Polynomial) → IsFactor tokens f → AreTurned (times_factor F meaning inside) 42 (LacksSign caret) f pieces g → IsReadTerm (parted 42 (tokens ∷ pieces)) g
  factors_term tokens pieces f g first turned =
      let later : List Spelled = behind_signs 42 pieces in
      record {
        some = omega (arith, first.some, length-append tokens later);
        reads = λ column start rest ends.
            let behind = end_column column tokens in
            let left : List Placed = placed_from behind later ++ rest in
            let one = first.reads column start left (ends_later (times_factor F meaning inside) 42 (LacksSign caret) (λ s e more. lacks_at_sign caret 42 s e more refl) pieces rest ends.lacks_caret behind) in
            let all = repeated (times_factor F meaning inside) 42 (LacksSign caret) (λ s e more. lacks_at_sign caret 42 s e more refl) (length left) f pieces g turned (pieces_below 42 behind pieces rest) rest ends.lacks_caret
            (λ s e. no_factor g (standing rest s e) (ends.lacks_star s e)) behind one.start in
            record {
              start = all.start;
              is = ap (λ ts. term_at F meaning inside (standing ts start column)) (split column tokens later rest) ∙ then_factors _ _ f one.is ∙ all.is ∙ ap (λ e. Ok (g, standing rest all.start e)) (sym (end_column-append column tokens later));
            };
        plain = λ column rest. subst (LacksSign minus) (sym (split column tokens later rest)) (first.plain column (placed_from (end_column column tokens) later ++ rest));
      }

  -- ---- sums

  pub plus_turned : (f g h : Polynomial) (tokens : List Spelled) → IsReadTerm tokens g → within (sum F f g) ≡ Some h → IsTurned (plus_term F meaning inside) 43 EndsTerm f tokens h
  unfolding plus_term
  plus_turned f g h tokens term_g formed_h =
      record {
        turns = λ column start rest ends.
            let read = term_g.reads (column + 1) column rest ends in
            let sign = sign_taken_next plus column (column + 1) (placed_from (column + 1) tokens ++ rest) start column in
            (read.start, rw (sign, read.is, formed_h) refl);
      }

  no_term : (f : Polynomial) (start end : ℕ) → plus_term F meaning inside f (standing [] start end) ≡ None
  unfolding plus_term
  no_term f start end = rw (lacks_at_end plus start end, lacks_at_end minus start end) refl

  then_terms : (s t : State) (f : Polynomial) → after_sign minus s ≡ None → term_at F meaning inside s ≡ Ok (f, t) → sum_at F meaning inside s ≡ repeat (plus_term F meaning inside) (length t.left) f t
  unfolding sum_at first_term
  then_terms s t f plain first = rw (plain, first) refl

  ends_at_plus : (s e : ℕ) (rest : List Placed) → EndsTerm (record { token = Sign 43; start = s; end = e } ∷ rest)
  ends_at_plus s e rest = record { lacks_caret = lacks_at_sign caret 43 s e rest refl; lacks_star = lacks_at_sign star 43 s e rest refl }

  pub terms_sum : (tokens : List Spelled) (pieces : List (List Spelled)) (f g : Polynomial) → IsReadTerm tokens f → AreTurned (plus_term F meaning inside) 43 EndsTerm f pieces g
      → (column start : ℕ) → IsAnswered (sum_at F meaning inside (standing (placed_from column (parted 43 (tokens ∷ pieces)) ++ []) start column)) g [] (end_column column (parted 43 (tokens ∷ pieces)))
  terms_sum tokens pieces f g first turned column start =
      let later : List Spelled = behind_signs 43 pieces in
      let behind = end_column column tokens in
      let left : List Placed = placed_from behind later ++ [] in
      let at_end : EndsTerm [] = record { lacks_caret = lacks_at_end caret; lacks_star = lacks_at_end star } in
      let one = first.reads column start left (ends_later (plus_term F meaning inside) 43 EndsTerm ends_at_plus pieces [] at_end behind) in
      let all = repeated (plus_term F meaning inside) 43 EndsTerm ends_at_plus (length left) f pieces g turned (pieces_below 43 behind pieces []) [] at_end (no_term g) behind one.start in
      record {
        start = all.start;
        is = ap (λ ts. sum_at F meaning inside (standing ts start column)) (split column tokens later []) ∙ then_terms _ _ f (first.plain column left start column) one.is ∙ all.is
            ∙ ap (λ e. Ok (g, standing [] all.start e)) (sym (end_column-append column tokens later));
      }
