-- What is in the grammar is read.
use Rattle.std.proofs.Common.{◌≡◌, ◌≢◌, ℕ, suc, ◌%◌, ◌^◌, ◌<◌, ◌≤◌, true, false, cond, leb, ltb, eqb, List, [], ◌∷◌, ◌++◌, length, map, Some, None, Ok, Err, refl, sym, ap, ap₂, ◌∙◌, subst, arith, rules, append_assoc}
use Rattle.std.specs.Option.{option_and_then, option_map, option_map_or}
use Rattle.std.proofs.lemmas.Bool.{le-ltb, lt-leb, ne_eqb}
use Rattle.std.proofs.lemmas.List.{length-append, length-map}
use Rattle.fj_coeff.specs.Field.{Field, IsField}
use Rattle.fj_theory.specs.Exponents.{origin}
use Rattle.fj_theory.specs.PointIdeal.{variable_exponents}
use Rattle.fj_theory.specs.Polynomial.{Polynomial, negation, power, product, sum, term}
use Rattle.fj_text.specs.declared.fault.Cause.TheVariants as causes
use Rattle.fj_text.specs.declared.scope.Meaning.{Meaning}
use Rattle.fj_text.specs.declared.scope.Meaning.TheVariants as meanings
use Rattle.fj_text.specs.Expression.{Answer, atom, atom_of, constant, exponent_of, expression, factor, first_term, formed, parenthesised, plus_term, power_within, sum_at, term_at, times_factor, variable, within}
use Rattle.fj_text.specs.Grammar as grammar
use Rattle.fj_text.specs.Grammar.{AreBehind, IsAtom, IsExpression, IsFactor, IsWithinLimits, IsTerm, tokens_left}
use Rattle.fj_text.specs.State.{State, ◌>>=◌, after, after_sign, fault_at, is_the_sign, next, unexpected}
use Rattle.fj_text.specs.Token.{Token, Word, Number, Sign, BadByte, Placed, star, caret, plus, minus, opening, closing}
use Rattle.fj_text.proofs.Grammars.{IsPolynomial-atom, small-power, small-within}
use Rattle.fj_text.proofs.Parentheses.{closed, sum-begins, term-begins}
use Rattle.fj_text.proofs.Repeats.{Repeats, repeat-begins, repeat-more, repeat-stops}

-- ---- tokens

-- no such sign is first
abbrev pub NotFirst : ℕ → List Token → Type 0
NotFirst sign [] = Unit {0}
NotFirst sign (Sign b ∷ ts) = b ≢ sign
NotFirst sign (Word w ∷ ts) = Unit {0}
NotFirst sign (Number n ∷ ts) = Unit {0}
NotFirst sign (BadByte ∷ ts) = Unit {0}

behind-all : (ts : List Token) → AreBehind ts → NotFirst caret ts × NotFirst star ts × NotFirst plus ts × NotFirst minus ts
behind-all [] h = (tt, tt, tt, tt)
behind-all (Sign b ∷ ts) h = h
behind-all (Word w ∷ ts) h = (tt, tt, tt, tt)
behind-all (Number n ∷ ts) h = (tt, tt, tt, tt)
behind-all (BadByte ∷ ts) h = (tt, tt, tt, tt)

-- the first token is the next one
pub next-tokens : (s : State) (tok : Token) (rest : List Token) → tokens_left s ≡ tok ∷ rest → (u : State) × (next s ≡ Some (tok, u)) × (tokens_left u ≡ rest)
unfolding next
next-tokens s tok rest e = by s.left s.start s.end e
  where
    by : (ts : List Placed) (start end : ℕ) → map (λ (v : Placed). v.token) ts ≡ tok ∷ rest → (u : State) × (next (record { left = ts; start = start; end = end }) ≡ Some (tok, u)) × (tokens_left u ≡ rest)
    by [] start end h = absurd cc
    by (v ∷ vs) start end h =
        let first : v.token ≡ tok = cc in
        let others : map (λ (v : Placed). v.token) vs ≡ rest = cc in
        (after v vs, ap (λ t. Some (t, after v vs)) first, others)

-- a sign that is first is taken
pub sign-read : (sign : ℕ) (s : State) (rest : List Token) → tokens_left s ≡ Sign sign ∷ rest → (u : State) × (after_sign sign s ≡ Some u) × (tokens_left u ≡ rest)
unfolding after_sign
sign-read sign s rest e =
    let x = next-tokens s (Sign sign) rest e in
    (x.0, ap (option_and_then (λ t. cond (is_the_sign sign t.0) (Some t.1) None)) x.1 ∙ ap (λ b. cond b (Some x.0) None) (same sign), x.2)
  where
    same : (n : ℕ) → eqb n n ≡ true
    same n = search rules

-- and one that isn't first is not
pub sign-not : (sign : ℕ) (s : State) (ts : List Token) → tokens_left s ≡ ts → NotFirst sign ts → after_sign sign s ≡ None
unfolding after_sign next
sign-not sign s ts e n = by s.left s.start s.end (subst (NotFirst sign) (sym e) n)
  where
    of : (u : State) (tok : Token) (others : List Token) → NotFirst sign (tok ∷ others) → cond (is_the_sign sign tok) (Some u) None ≡ None
    of u (Word w) others h = refl
    of u (Number k) others h = refl
    of u BadByte others h = refl
    of u (Sign b) others h = ap (λ q. cond q (Some u) None) (ne_eqb b sign h)

    by : (vs : List Placed) (start end : ℕ) → NotFirst sign (map (λ (v : Placed). v.token) vs) → after_sign sign (record { left = vs; start = start; end = end }) ≡ None
    by [] start end h = refl
    by (v ∷ vs) start end h = of (after v vs) v.token (map (λ (w : Placed). w.token) vs) h

-- what was taken is missing
pub fewer : (s t : State) (tok : Token) (us rest : List Token) → tokens_left s ≡ tok ∷ us ++ rest → tokens_left t ≡ rest → length t.left < length s.left
fewer s t tok us rest e h =
    let of_s = sym (length-map s.left (λ (v : Placed). v.token)) ∙ ap length e in
    let of_t = sym (length-map t.left (λ (v : Placed). v.token)) ∙ ap length h in
    let all = length-append us rest in
    omega (arith, of_s, of_t, all)

-- ---- no expression begins with a sign but `(` and `-`

module _ {F : Field} {meaning : List ℕ → Meaning} where
  atom-start : {depth : ℕ} {ts : List Token} {f : Polynomial} → IsAtom F meaning depth ts f → (rest : List Token) → NotFirst minus (ts ++ rest)
  atom-start (grammar.number h) rest = tt
  atom-start (grammar.word h) rest = tt
  atom-start (grammar.parentheses d) rest = λ e. absurd (let wrong : opening ≡ minus = e in omega arith)

  factor-start : {depth : ℕ} {ts : List Token} {f : Polynomial} → IsFactor F meaning depth ts f → (rest : List Token) → NotFirst minus (ts ++ rest)
  factor-start (grammar.atom d) rest = atom-start d rest
  factor-start (grammar.raised {depth} {k} {ts} d few h) rest = subst (NotFirst minus) (sym (append_assoc ts (Sign caret ∷ Number k ∷ []) rest)) (atom-start d (Sign caret ∷ Number k ∷ rest))

  term-start : {depth : ℕ} {ts : List Token} {f : Polynomial} → IsTerm F meaning depth ts f → (rest : List Token) → NotFirst minus (ts ++ rest)
  term-start (grammar.factor d) rest = factor-start d rest
  term-start (grammar.times {depth} {ts} {us} d e h) rest = subst (NotFirst minus) (sym (append_assoc ts (Sign star ∷ us) rest)) (term-start d (Sign star ∷ us ++ rest))

module _ {F : Field} (L : IsField F) (meaning : List ℕ → Meaning) where
  -- a value whose tokens are followed by no factor is a term
  term-ends : (inside : State → Answer Polynomial) (s t : State) (f : Polynomial) (rest : List Token) → Repeats (times_factor F meaning inside) f t (term_at F meaning inside s) → tokens_left t ≡ rest → NotFirst star rest → term_at F meaning inside s ≡ Ok (f, t)
  unfolding times_factor
  term-ends inside s t f rest r e n = repeat-stops (times_factor F meaning inside) f t _ r (ap (option_map _) (sign-not star t rest e n))

  sum-ends : (inside : State → Answer Polynomial) (s t : State) (f : Polynomial) (rest : List Token) → Repeats (plus_term F meaning inside) f t (sum_at F meaning inside s) → tokens_left t ≡ rest → NotFirst plus rest → NotFirst minus rest → sum_at F meaning inside s ≡ Ok (f, t)
  unfolding plus_term
  sum-ends inside s t f rest r e n m =
      repeat-stops (plus_term F meaning inside) f t _ r
      (ap₂ (λ o q. option_map_or (λ u. Some (term_at F meaning inside u >>= λ h. formed (within (sum F f h.0)) h.1)) o (option_map (λ u. term_at F meaning inside u >>= λ h. formed (within (sum F f (negation F h.0))) h.1) q)) (sign-not plus t rest e n) (sign-not minus t rest e m))

  -- a turn of a product and of a sum
  times-turn : (inside : State → Answer Polynomial) (f g : Polynomial) (t u v : State) → after_sign star t ≡ Some u → factor F meaning inside u ≡ Ok (g, v) → IsWithinLimits (product F f g) → times_factor F meaning inside f t ≡ Some (Ok (product F f g, v))
  unfolding times_factor
  times-turn inside f g t u v e h small =
      ap (option_map (λ w. factor F meaning inside w >>= λ r. formed (within (product F f r.0)) r.1)) e
      ∙ ap (λ a. Some (a >>= λ r. formed (within (product F f r.0)) r.1)) h ∙ ap (λ o. Some (formed o v)) (small-within (product F f g) small)

  plus-turn : (inside : State → Answer Polynomial) (f g : Polynomial) (t u v : State) → after_sign plus t ≡ Some u → term_at F meaning inside u ≡ Ok (g, v) → IsWithinLimits (sum F f g) → plus_term F meaning inside f t ≡ Some (Ok (sum F f g, v))
  unfolding plus_term
  plus-turn inside f g t u v e h small =
      ap (λ o. option_map_or (λ w. Some (term_at F meaning inside w >>= λ r. formed (within (sum F f r.0)) r.1)) o (option_map (λ w. term_at F meaning inside w >>= λ r. formed (within (sum F f (negation F r.0))) r.1) (after_sign minus t))) e
      ∙ ap (λ a. Some (a >>= λ r. formed (within (sum F f r.0)) r.1)) h ∙ ap (λ o. Some (formed o v)) (small-within (sum F f g) small)

  minus-turn : (inside : State → Answer Polynomial) (f g : Polynomial) (t u v : State) → after_sign plus t ≡ None → after_sign minus t ≡ Some u → term_at F meaning inside u ≡ Ok (g, v) → IsWithinLimits (sum F f (negation F g)) → plus_term F meaning inside f t ≡ Some (Ok (sum F f (negation F g), v))
  unfolding plus_term
  minus-turn inside f g t u v none e h small =
      ap₂ (λ o q. option_map_or (λ w. Some (term_at F meaning inside w >>= λ r. formed (within (sum F f r.0)) r.1)) o (option_map (λ w. term_at F meaning inside w >>= λ r. formed (within (sum F f (negation F r.0))) r.1) q)) none e
      ∙ ap (λ a. Some (a >>= λ r. formed (within (sum F f (negation F r.0))) r.1)) h ∙ ap (λ o. Some (formed o v)) (small-within (sum F f (negation F g)) small)

  first-plain : (inside : State → Answer Polynomial) (s t : State) (f : Polynomial) → after_sign minus s ≡ None → term_at F meaning inside s ≡ Ok (f, t) → first_term F meaning inside s ≡ Ok (f, t)
  unfolding first_term
  first-plain inside s t f none e = ap (λ o. option_map_or (λ u. term_at F meaning inside u >>= λ r. Ok (negation F r.0, r.1)) o (term_at F meaning inside s)) none ∙ e

  first-negative : (inside : State → Answer Polynomial) (s u t : State) (f : Polynomial) → after_sign minus s ≡ Some u → term_at F meaning inside u ≡ Ok (f, t) → first_term F meaning inside s ≡ Ok (negation F f, t)
  unfolding first_term
  first-negative inside s u t f e h =
      ap (λ o. option_map_or (λ w. term_at F meaning inside w >>= λ r. Ok (negation F r.0, r.1)) o (term_at F meaning inside s)) e ∙ ap (λ a. a >>= λ r. Ok (negation F r.0, r.1)) h

  -- the token that is first is an atom, or begins one
  atom-next : (inside : State → Answer Polynomial) (s u : State) (tok : Token) → next s ≡ Some (tok, u) → atom F meaning inside s ≡ atom_of F meaning inside tok u
  unfolding atom
  atom-next inside s u tok e = ap (λ o. option_map_or (λ t. atom_of F meaning inside t.0 t.1) o (Err (unexpected s))) e

  constant-read : (inside : State → Answer Polynomial) (n : ℕ) (u : State) → n < 2 ^ 32 → atom_of F meaning inside (Number n) u ≡ Ok (term (n % F.characteristic) origin, u)
  unfolding atom_of constant
  constant-read inside n u h = ap (λ b. cond b (Err (fault_at causes.Wide u)) (Ok (term (n % F.characteristic) origin, u))) (lt-leb (2 ^ 32) n h)

  variable-read : (inside : State → Answer Polynomial) (w : List ℕ) (i : ℕ) (u : State) → meaning w ≡ meanings.Variable i → atom_of F meaning inside (Word w) u ≡ Ok (term 1 (variable_exponents i), u)
  unfolding atom_of variable
  variable-read inside w i u h = ap (λ m. variable m u) h

  parentheses-read : (inside : State → Answer Polynomial) (u t : State) (f : Polynomial) → inside u ≡ Ok (f, t) → atom_of F meaning inside (Sign opening) u ≡ Ok (f, t)
  unfolding atom_of
  parentheses-read inside u t f e = e

  closing-read : (depth : ℕ) (s t v : State) (f : Polynomial) → sum_at F meaning (parenthesised F meaning depth) s ≡ Ok (f, t) → after_sign closing t ≡ Some v → parenthesised F meaning (suc depth) s ≡ Ok (f, v)
  unfolding parenthesised
  closing-read depth s t v f e h = ap (λ a. a >>= closed F meaning) e ∙ ap (λ o. option_map_or (λ u. Ok (f, u)) o (Err (unexpected t))) h

  power-read : (inside : State → Answer Polynomial) (s t u v : State) (f g : Polynomial) (k : ℕ) → atom F meaning inside s ≡ Ok (f, t) → after_sign caret t ≡ Some u → next u ≡ Some (Number k, v) → k ≤ 1000 → power_within F f k ≡ Some g → factor F meaning inside s ≡ Ok (g, v)
  unfolding factor exponent_of
  power-read inside s t u v f g k e h j few p =
      let wide : leb (2 ^ 32) k ≡ false = lt-leb (2 ^ 32) k (omega arith) in
      let large : ltb 1000 k ≡ false = le-ltb 1000 k few in
      let rest : Polynomial × State → Answer Polynomial = λ b. option_map_or (λ w. option_map_or (λ x. exponent_of x.0 x.1) (next w) (Err (unexpected w)) >>= λ x. formed (power_within F b.0 x.0) x.1) (after_sign caret b.1) (Ok b) in
      let number : cond (leb (2 ^ 32) k) (Err (fault_at causes.Wide v)) (cond (ltb 1000 k) (Err (fault_at causes.Large v)) (Ok (k, v))) ≡ Ok (k, v) = rw (wide, large) refl in
      ap (λ a. a >>= rest) e
      ∙ ap (λ o. option_map_or (λ w. option_map_or (λ x. exponent_of x.0 x.1) (next w) (Err (unexpected w)) >>= λ x. formed (power_within F f x.0) x.1) o (Ok (f, t))) h
      ∙ ap (λ o. option_map_or (λ x. exponent_of x.0 x.1) o (Err (unexpected u)) >>= λ x. formed (power_within F f x.0) x.1) j
      ∙ ap (λ a. a >>= λ x. formed (power_within F f x.0) x.1) number
      ∙ ap (λ o. formed o v) p

  bare-read : (inside : State → Answer Polynomial) (s t : State) (f : Polynomial) → atom F meaning inside s ≡ Ok (f, t) → after_sign caret t ≡ None → factor F meaning inside s ≡ Ok (f, t)
  unfolding factor
  bare-read inside s t f e none =
      let rest : Polynomial × State → Answer Polynomial = λ b. option_map_or (λ w. option_map_or (λ x. exponent_of x.0 x.1) (next w) (Err (unexpected w)) >>= λ x. formed (power_within F b.0 x.0) x.1) (after_sign caret b.1) (Ok b) in
      ap (λ a. a >>= rest) e
      ∙ ap (λ o. option_map_or (λ w. option_map_or (λ x. exponent_of x.0 x.1) (next w) (Err (unexpected w)) >>= λ x. formed (power_within F f x.0) x.1) o (Ok (f, t))) none

  -- ---- each kind of tokens is read, whatever follows that doesn't go on with them

  mutual
    atom-read : {depth : ℕ} {ts : List Token} {f : Polynomial} → IsAtom F meaning depth ts f → (s : State) (rest : List Token) → tokens_left s ≡ ts ++ rest
        → (t : State) × (atom F meaning (parenthesised F meaning depth) s ≡ Ok (f, t)) × (tokens_left t ≡ rest)
    atom-read (grammar.number {depth} {n} h) s rest e =
        let x = next-tokens s (Number n) rest e in
        (x.0, atom-next _ s x.0 (Number n) x.1 ∙ constant-read _ n x.0 h, x.2)
    atom-read (grammar.word {depth} {i} {w} h) s rest e =
        let x = next-tokens s (Word w) rest e in
        (x.0, atom-next _ s x.0 (Word w) x.1 ∙ variable-read _ w i x.0 h, x.2)
    atom-read (grammar.parentheses {depth} {ts} {f} d) s rest e =
        let x = next-tokens s (Sign opening) (ts ++ Sign closing ∷ rest) (e ∙ ap (λ us. Sign opening ∷ us) (append_assoc ts (Sign closing ∷ []) rest)) in
        let y = expression-read d x.0 (Sign closing ∷ rest) x.2 (λ c. absurd (omega arith)) (λ c. absurd (omega arith)) in
        let z = sign-read closing y.0 rest y.1 in
        let inner = sum-ends _ x.0 y.0 f (Sign closing ∷ rest) y.2 y.1 (λ c. absurd (omega arith)) (λ c. absurd (omega arith)) in
        (z.0, atom-next _ s x.0 (Sign opening) x.1 ∙ parentheses-read _ x.0 z.0 f (closing-read depth x.0 y.0 z.0 f inner z.1), z.2)

    factor-read : {depth : ℕ} {ts : List Token} {f : Polynomial} → IsFactor F meaning depth ts f → (s : State) (rest : List Token) → tokens_left s ≡ ts ++ rest → NotFirst caret rest
        → (t : State) × (factor F meaning (parenthesised F meaning depth) s ≡ Ok (f, t)) × (tokens_left t ≡ rest)
    factor-read (grammar.atom {depth} {ts} {f} d) s rest e n =
        let x = atom-read d s rest e in
        (x.0, bare-read _ s x.0 f x.1 (sign-not caret x.0 rest x.2 n), x.2)
    factor-read (grammar.raised {depth} {k} {ts} {f} d few h) s rest e n =
        let x = atom-read d s (Sign caret ∷ Number k ∷ rest) (e ∙ append_assoc ts (Sign caret ∷ Number k ∷ []) rest) in
        let y = sign-read caret x.0 (Number k ∷ rest) x.2 in
        let z = next-tokens y.0 (Number k) rest y.2 in
        (z.0, power-read _ s x.0 y.0 z.0 f (power F f k) k x.1 y.1 z.1 few (small-power L (IsPolynomial-atom L meaning d) k h), z.2)

    terms-read : {depth : ℕ} {ts : List Token} {f : Polynomial} → IsTerm F meaning depth ts f → (s : State) (rest : List Token) → tokens_left s ≡ ts ++ rest → NotFirst caret rest
        → (t : State) × (tokens_left t ≡ rest) × Repeats (times_factor F meaning (parenthesised F meaning depth)) f t (term_at F meaning (parenthesised F meaning depth) s)
    terms-read (grammar.factor {depth} {ts} {f} d) s rest e n =
        let x = factor-read d s rest e n in
        (x.0, x.2, repeat-begins _ f x.0 _ (term-begins F meaning (parenthesised F meaning depth) s x.0 f x.1))
    terms-read (grammar.times {depth} {ts} {us} {f} {g} d b small) s rest e n =
        let x = terms-read d s (Sign star ∷ us ++ rest) (e ∙ append_assoc ts (Sign star ∷ us) rest) (λ c. absurd (omega arith)) in
        let y = sign-read star x.0 (us ++ rest) x.1 in
        let z = factor-read b y.0 rest y.2 n in
        (z.0, z.2, repeat-more _ f (product F f g) x.0 z.0 _ x.2 (times-turn _ f g x.0 y.0 z.0 y.1 z.1 small) (fewer x.0 z.0 (Sign star) us rest x.1 z.2))

    expression-read : {depth : ℕ} {ts : List Token} {f : Polynomial} → IsExpression F meaning depth ts f → (s : State) (rest : List Token) → tokens_left s ≡ ts ++ rest → NotFirst caret rest → NotFirst star rest
        → (t : State) × (tokens_left t ≡ rest) × Repeats (plus_term F meaning (parenthesised F meaning depth)) f t (sum_at F meaning (parenthesised F meaning depth) s)
    expression-read (grammar.first {depth} {ts} {f} d) s rest e n m =
        let x = terms-read d s rest e n in
        let ends = term-ends _ s x.0 f rest x.2 x.1 m in
        let plain = first-plain _ s x.0 f (sign-not minus s (ts ++ rest) e (term-start d rest)) ends in
        (x.0, x.1, repeat-begins _ f x.0 _ (sum-begins F meaning (parenthesised F meaning depth) s x.0 f plain))
    expression-read (grammar.negative {depth} {ts} {f} d) s rest e n m =
        let w = sign-read minus s (ts ++ rest) e in
        let x = terms-read d w.0 rest w.2 n in
        let ends = term-ends _ w.0 x.0 f rest x.2 x.1 m in
        (x.0, x.1, repeat-begins _ (negation F f) x.0 _ (sum-begins F meaning (parenthesised F meaning depth) s x.0 (negation F f) (first-negative _ s w.0 x.0 f w.1 ends)))
    expression-read (grammar.add {depth} {ts} {us} {f} {g} d b small) s rest e n m =
        let x = expression-read d s (Sign plus ∷ us ++ rest) (e ∙ append_assoc ts (Sign plus ∷ us) rest) (λ c. absurd (omega arith)) (λ c. absurd (omega arith)) in
        let y = sign-read plus x.0 (us ++ rest) x.1 in
        let z = terms-read b y.0 rest y.2 n in
        let ends = term-ends _ y.0 z.0 g rest z.2 z.1 m in
        (z.0, z.1, repeat-more _ f (sum F f g) x.0 z.0 _ x.2 (plus-turn _ f g x.0 y.0 z.0 y.1 ends small) (fewer x.0 z.0 (Sign plus) us rest x.1 z.1))
    expression-read (grammar.less {depth} {ts} {us} {f} {g} d b small) s rest e n m =
        let x = expression-read d s (Sign minus ∷ us ++ rest) (e ∙ append_assoc ts (Sign minus ∷ us) rest) (λ c. absurd (omega arith)) (λ c. absurd (omega arith)) in
        let none = sign-not plus x.0 (Sign minus ∷ us ++ rest) x.1 (λ c. absurd (omega arith)) in
        let y = sign-read minus x.0 (us ++ rest) x.1 in
        let z = terms-read b y.0 rest y.2 n in
        let ends = term-ends _ y.0 z.0 g rest z.2 z.1 m in
        (z.0, z.1, repeat-more _ f (sum F f (negation F g)) x.0 z.0 _ x.2 (minus-turn _ f g x.0 y.0 z.0 none y.1 ends small) (fewer x.0 z.0 (Sign minus) us rest x.1 z.1))

  pub expression-complete : (s : State) (ts rest : List Token) (f : Polynomial) → IsExpression F meaning 64 ts f → tokens_left s ≡ ts ++ rest → AreBehind rest
      → (t : State) × (expression F meaning s ≡ Ok (f, t)) × (tokens_left t ≡ rest)
  unfolding expression
  expression-complete s ts rest f d e h =
      let n = behind-all rest h in
      let x = expression-read d s rest e n.0 n.1 in
      (x.0, sum-ends _ s x.0 f rest x.2 x.1 n.2 n.3, x.1)
