-- What is read is in the grammar.
use Rattle.std.proofs.Common.{◌≡◌, ℕ, zero, suc, ◌%◌, ◌^◌, ◌≤◌, Bool, true, false, cond, leb, ltb, eqb, List, [], ◌∷◌, ◌++◌, length, map, Option, Some, None, Result, Ok, Err, refl, sym, ap, ap₂, ◌∙◌, subst, append_assoc}
use Rattle.std.specs.Option.{option_map, option_map_or}
use Rattle.std.proofs.lemmas.Bool.{eqb-true, leb-false, ltb-false}
use Rattle.std.proofs.lemmas.List.{append-nil}
use Rattle.fj_coeff.specs.Field.{Field, IsField}
use Rattle.fj_theory.specs.Exponents.{origin}
use Rattle.fj_theory.specs.PointIdeal.{variable_exponents}
use Rattle.fj_theory.specs.Polynomial.{Polynomial, negation, product, sum, term}
use Rattle.fj_text.specs.declared.fault.Cause.TheVariants as causes
use Rattle.fj_text.specs.declared.fault.Fault.{Fault}
use Rattle.fj_text.specs.declared.scope.Meaning.{Meaning}
use Rattle.fj_text.specs.declared.scope.Meaning.TheVariants as meanings
use Rattle.fj_text.specs.Expression.{Answer, atom, atom_of, constant, exponent_of, expression, factor, first_term, formed, is_wide, parenthesised, plus_term, power_within, repeat, sum_at, term_at, times_factor, variable, within}
use Rattle.fj_text.specs.Grammar as grammar
use Rattle.fj_text.specs.Grammar.{IsAtom, IsExpression, IsFactor, IsWithinLimits, IsTerm, tokens_left}
use Rattle.fj_text.specs.State.{State, ◌>>=◌, after, after_sign, fault_at, is_the_sign, next, unexpected}
use Rattle.fj_text.specs.Token.{Token, Word, Number, Sign, BadByte, Placed, star, caret, plus, minus, opening, closing}
use Rattle.fj_text.proofs.Grammars.{IsPolynomial-atom, power-small, within-small}
use Rattle.fj_text.proofs.Parentheses.{closed}

-- ---- answers

pub bind_ok : {A B : Type 0} (r : Result A Fault) (f : A → Result B Fault) (y : B) → (r >>= f) ≡ Ok y → (x : A) × (r ≡ Ok x) × (f x ≡ Ok y)
bind_ok (Ok x) f y e = (x, refl, e)
bind_ok (Err e) f y h = absurd cc

pub ok_same : {A : Type 0} (x y : A) (s t : State) → ◌≡◌ {A = Answer A} (Ok (x, s)) (Ok (y, t)) → (x ≡ y) × (s ≡ t)
ok_same x y s t e = (ap (λ r. elim r [ Ok p ↦ p.0 | Err f ↦ x ]) e, ap (λ r. elim r [ Ok p ↦ p.1 | Err f ↦ s ]) e)

pub formed_ok : (o : Option Polynomial) (f : Polynomial) (s t : State) → formed o s ≡ Ok (f, t) → (o ≡ Some f) × (s ≡ t)
formed_ok None f s t e = absurd cc
formed_ok (Some g) f s t e = let both = ok_same g f s t e in (ap (λ h. Some h) both.0, both.1)

-- ---- signs

-- behind a sign that was taken its token is missing
pub sign-tokens : (sign : ℕ) (s t : State) → after_sign sign s ≡ Some t → tokens_left s ≡ Sign sign ∷ tokens_left t
unfolding after_sign next
sign-tokens sign s t e = by s.left s.start s.end e
  where
    of : (u : Placed) (ts : List Placed) (tok : Token) → u.token ≡ tok → cond (is_the_sign sign tok) (Some (after u ts)) None ≡ Some t → map (λ (v : Placed). v.token) (u ∷ ts) ≡ Sign sign ∷ tokens_left t
    of u ts (Word w) is h = absurd cc
    of u ts (Number n) is h = absurd cc
    of u ts BadByte is h = absurd cc
    of u ts (Sign b) is h = equal (eqb b sign) refl h
      where
        equal : (q : Bool) → eqb b sign ≡ q → cond q (Some (after u ts)) None ≡ Some t → map (λ (v : Placed). v.token) (u ∷ ts) ≡ Sign sign ∷ tokens_left t
        equal true same_sign k =
            let same : after u ts ≡ t = ap (λ o. option_map_or (λ v. v) o (after u ts)) k in
            ap₂ (λ x xs. x ∷ xs) (is ∙ ap Sign (eqb-true b sign same_sign)) (ap tokens_left same)
        equal false other k = absurd cc

    by : (ts : List Placed) (start end : ℕ) → after_sign sign (record { left = ts; start = start; end = end }) ≡ Some t → map (λ (v : Placed). v.token) ts ≡ Sign sign ∷ tokens_left t
    by [] start end h = absurd cc
    by (u ∷ ts) start end h = of u ts u.token refl h

-- the next token that is taken
pub taking_ok : {A : Type 0} (read : Token → State → Answer A) (s t : State) (x : A)
    → option_map_or (λ u. read u.0 u.1) (next s) (Err (unexpected s)) ≡ Ok (x, t)
    → (tok : Token) × (u : State) × (tokens_left s ≡ tok ∷ tokens_left u) × (read tok u ≡ Ok (x, t))
unfolding next
taking_ok read s t x e = by s.left s.start s.end e
  where
    by : (ts : List Placed) (start end : ℕ) → option_map_or (λ u. read u.0 u.1) (next (record { left = ts; start = start; end = end })) (Err (unexpected (record { left = ts; start = start; end = end }))) ≡ Ok (x, t)
        → (tok : Token) × (u : State) × (map (λ (v : Placed). v.token) ts ≡ tok ∷ tokens_left u) × (read tok u ≡ Ok (x, t))
    by [] start end h = absurd cc
    by (u ∷ ts) start end h = (u.token, after u ts, refl, h)

-- ---- repeated turns

-- what turns make of a value stands for the tokens before it and those that they take
pub repeat_sound : {A : Type 0} (turn : A → State → Option (Answer A)) (In : List Token → A → Type 0)
    → ((ts : List Token) (x y : A) (s t : State) → In ts x → turn x s ≡ Some (Ok (y, t)) → (us : List Token) × (tokens_left s ≡ us ++ tokens_left t) × In (ts ++ us) y)
    → (n : ℕ) (ts : List Token) (x y : A) (s t : State) → In ts x → repeat turn n x s ≡ Ok (y, t) → (us : List Token) × (tokens_left s ≡ us ++ tokens_left t) × In (ts ++ us) y
unfolding repeat
repeat_sound {A} turn In each zero ts x y s t h e =
    let both = ok_same x y s t e in
    let P : List Token → Type 0 = λ us. In us y in
    ([], ap tokens_left both.1, subst P (sym (append-nil ts)) (subst (In ts) both.0 h))
repeat_sound {A} turn In each (suc n) ts x y s t h e = by (turn x s) refl (λ vs z u. repeat_sound turn In each n vs z y u t) e
  where
    by : (o : Option (Answer A)) → turn x s ≡ o
        → ((vs : List Token) (z : A) (u : State) → In vs z → repeat turn n z u ≡ Ok (y, t) → (us : List Token) × (tokens_left u ≡ us ++ tokens_left t) × In (vs ++ us) y)
        → option_map_or (λ a. a >>= λ r. repeat turn n r.0 r.1) o (Ok (x, s)) ≡ Ok (y, t) → (us : List Token) × (tokens_left s ≡ us ++ tokens_left t) × In (ts ++ us) y
    by None is go k =
        let both = ok_same x y s t k in
        let P : List Token → Type 0 = λ us. In us y in
        ([], ap tokens_left both.1, subst P (sym (append-nil ts)) (subst (In ts) both.0 h))
    by (Some (Err f)) is go k = absurd cc
    by (Some (Ok (z, u))) is go k =
        let now = each ts x z s u h is in
        let later = go (ts ++ now.0) z u now.2 k in
        let P : List Token → Type 0 = λ vs. In vs y in (
          now.0 ++ later.0,
          now.1 ∙ ap (λ vs. now.0 ++ vs) later.1 ∙ sym (append_assoc now.0 later.0 (tokens_left t)),
          subst P (append_assoc ts now.0 later.0) later.2,
        )

some_same : {A : Type 0} (x y : A) → ◌≡◌ {A = Option A} (Some x) (Some y) → x ≡ y
some_same x y e = ap (λ o. option_map_or (λ v. v) o x) e

-- an exponent that was read
exponent_ok : (tok : Token) (v t : State) (k : ℕ) → exponent_of tok v ≡ Ok (k, t) → (tok ≡ Number k) × (k ≤ 1000) × (v ≡ t)
unfolding exponent_of
exponent_ok (Word w) v t k e = absurd cc
exponent_ok (Sign b) v t k e = absurd cc
exponent_ok BadByte v t k e = absurd cc
exponent_ok (Number n) v t k e = by (is_wide n) (ltb 1000 n) refl e
  where
    by : (wide large : Bool) → ltb 1000 n ≡ large → cond {A = Answer ℕ} wide (Err (fault_at causes.Wide v)) (cond {A = Answer ℕ} large (Err (fault_at causes.Large v)) (Ok (n, v))) ≡ Ok (k, t) → (Number n ≡ Number k) × (k ≤ 1000) × (v ≡ t)
    by true large is h = absurd cc
    by false true is h = absurd cc
    by false false is h = let both = ok_same n k v t h in (ap Number both.0, subst (λ m. m ≤ 1000) both.0 (ltb-false _ _ is), both.1)

module _ {F : Field} (L : IsField F) (meaning : List ℕ → Meaning) where
  -- what stands behind an opening parenthesis is in the grammar
  abbrev InsideSound : ℕ → Type 0
  InsideSound depth = (s t : State) (f : Polynomial) → parenthesised F meaning depth s ≡ Ok (f, t)
      → (us : List Token) × (tokens_left s ≡ us ++ Sign closing ∷ tokens_left t) × IsAtom F meaning depth (Sign opening ∷ us ++ Sign closing ∷ []) f

  module _ (depth : ℕ) (H : InsideSound depth) where
    constant-sound : (n : ℕ) (u t : State) (f : Polynomial) → constant F n u ≡ Ok (f, t) → (ts : List Token) × (Number n ∷ tokens_left u ≡ ts ++ tokens_left t) × IsAtom F meaning depth ts f
    unfolding constant
    constant-sound n u t f e = by (is_wide n) refl e
      where
        by : (wide : Bool) → leb (2 ^ 32) n ≡ wide → cond {A = Answer Polynomial} wide (Err (fault_at causes.Wide u)) (Ok (term (n % F.characteristic) origin, u)) ≡ Ok (f, t) → (ts : List Token) × (Number n ∷ tokens_left u ≡ ts ++ tokens_left t) × IsAtom F meaning depth ts f
        by true is h = absurd cc
        by false is h =
            let both = ok_same (term (n % F.characteristic) origin) f u t h in
            (Number n ∷ [], ap (λ (v : State). Number n ∷ tokens_left v) both.1, subst (IsAtom F meaning depth (Number n ∷ [])) both.0 (grammar.number (leb-false _ _ is)))

    variable-sound : (w : List ℕ) (u t : State) (f : Polynomial) → variable (meaning w) u ≡ Ok (f, t) → (ts : List Token) × (Word w ∷ tokens_left u ≡ ts ++ tokens_left t) × IsAtom F meaning depth ts f
    unfolding variable
    variable-sound w u t f e = by (meaning w) refl e
      where
        by : (m : Meaning) → meaning w ≡ m → variable m u ≡ Ok (f, t) → (ts : List Token) × (Word w ∷ tokens_left u ≡ ts ++ tokens_left t) × IsAtom F meaning depth ts f
        by meanings.Unknown is h = absurd cc
        by meanings.OtherKind is h = absurd cc
        by (meanings.Variable i) is h =
            let both = ok_same (term 1 (variable_exponents i)) f u t h in
            (Word w ∷ [], ap (λ (v : State). Word w ∷ tokens_left v) both.1, subst (IsAtom F meaning depth (Word w ∷ [])) both.0 (grammar.word is))

    atom_of-sound : (tok : Token) (u t : State) (f : Polynomial) → atom_of F meaning (parenthesised F meaning depth) tok u ≡ Ok (f, t) → (ts : List Token) × (tok ∷ tokens_left u ≡ ts ++ tokens_left t) × IsAtom F meaning depth ts f
    unfolding atom_of
    atom_of-sound (Number n) u t f e = constant-sound n u t f e
    atom_of-sound (Word w) u t f e = variable-sound w u t f e
    atom_of-sound BadByte u t f e = absurd cc
    atom_of-sound (Sign b) u t f e = by (eqb b opening) refl e
      where
        by : (q : Bool) → eqb b opening ≡ q → cond q (parenthesised F meaning depth u) (Err (fault_at causes.Syntax u)) ≡ Ok (f, t) → (ts : List Token) × (Sign b ∷ tokens_left u ≡ ts ++ tokens_left t) × IsAtom F meaning depth ts f
        by false is h = absurd cc
        by true is h =
            let x = H u t f h in (
              Sign opening ∷ x.0 ++ Sign closing ∷ [],
              ap₂ (λ c ts. Sign c ∷ ts) (eqb-true b opening is) (x.1 ∙ sym (append_assoc x.0 (Sign closing ∷ []) (tokens_left t))),
              x.2,
            )

    atom-sound : (s t : State) (f : Polynomial) → atom F meaning (parenthesised F meaning depth) s ≡ Ok (f, t) → (ts : List Token) × (tokens_left s ≡ ts ++ tokens_left t) × IsAtom F meaning depth ts f
    unfolding atom
    atom-sound s t f e =
        let x = taking_ok (atom_of F meaning (parenthesised F meaning depth)) s t f e in
        let y = atom_of-sound x.0 x.1 t f x.3 in
        (y.0, x.2 ∙ y.1, y.2)

    factor-sound : (s t : State) (f : Polynomial) → factor F meaning (parenthesised F meaning depth) s ≡ Ok (f, t) → (ts : List Token) × (tokens_left s ≡ ts ++ tokens_left t) × IsFactor F meaning depth ts f
    unfolding factor
    factor-sound s t f e =
        let rest : Polynomial × State → Answer Polynomial = λ b. option_map_or (λ u. option_map_or (λ v. exponent_of v.0 v.1) (next u) (Err (unexpected u)) >>= λ k. formed (power_within F b.0 k.0) k.1) (after_sign caret b.1) (Ok b) in
        let a = bind_ok (atom F meaning (parenthesised F meaning depth) s) rest (f, t) e in
        let x = atom-sound s a.0.1 a.0.0 a.1 in
        by a.0.0 a.0.1 x.0 x.1 x.2 (after_sign caret a.0.1) refl a.2
      where
        by : (g : Polynomial) (v : State) (ts : List Token) → tokens_left s ≡ ts ++ tokens_left v → IsAtom F meaning depth ts g → (o : Option State) → after_sign caret v ≡ o
            → option_map_or (λ u. option_map_or (λ w. exponent_of w.0 w.1) (next u) (Err (unexpected u)) >>= λ k. formed (power_within F g k.0) k.1) o (Ok (g, v)) ≡ Ok (f, t) → (us : List Token) × (tokens_left s ≡ us ++ tokens_left t) × IsFactor F meaning depth us f
        by g v ts all d None is h = let both = ok_same g f v t h in (ts, all ∙ ap (λ (w : State). ts ++ tokens_left w) both.1, subst (IsFactor F meaning depth ts) both.0 (grammar.atom d))
        by g v ts all d (Some u) is h =
            let y = bind_ok (option_map_or (λ w. exponent_of w.0 w.1) (next u) (Err (unexpected u))) (λ k. formed (power_within F g k.0) k.1) (f, t) h in
            let k : ℕ × State = y.0 in
            let x = taking_ok exponent_of u k.1 k.0 y.1 in
            let n = exponent_ok x.0 x.1 k.1 k.0 x.3 in
            let o = formed_ok (power_within F g k.0) f k.1 t y.2 in
            let p = power-small L (IsPolynomial-atom L meaning d) k.0 f o.0 in (
              ts ++ Sign caret ∷ Number k.0 ∷ [],
              all ∙ ap (λ us. ts ++ us) (sign-tokens caret v u is ∙ ap (λ us. Sign caret ∷ us) (x.2 ∙ ap₂ (λ tok (w : State). tok ∷ tokens_left w) n.0 (n.2 ∙ o.1)))
                  ∙ sym (append_assoc ts (Sign caret ∷ Number k.0 ∷ []) (tokens_left t)),
              subst (IsFactor F meaning depth (ts ++ Sign caret ∷ Number k.0 ∷ [])) (sym p.0) (grammar.raised d n.1 p.1),
            )

    times-sound : (ts : List Token) (f g : Polynomial) (s t : State) → IsTerm F meaning depth ts f → times_factor F meaning (parenthesised F meaning depth) f s ≡ Some (Ok (g, t))
        → (us : List Token) × (tokens_left s ≡ us ++ tokens_left t) × IsTerm F meaning depth (ts ++ us) g
    unfolding times_factor
    times-sound ts f g s t D e = by (after_sign star s) refl e
      where
        by : (o : Option State) → after_sign star s ≡ o → option_map (λ u. factor F meaning (parenthesised F meaning depth) u >>= λ h. formed (within (product F f h.0)) h.1) o ≡ Some (Ok (g, t))
            → (us : List Token) × (tokens_left s ≡ us ++ tokens_left t) × IsTerm F meaning depth (ts ++ us) g
        by None is h = absurd cc
        by (Some u) is h =
            let y = bind_ok (factor F meaning (parenthesised F meaning depth) u) (λ r. formed (within (product F f r.0)) r.1) (g, t) (some_same _ _ h) in
            let r : Polynomial × State = y.0 in
            let x = factor-sound u r.1 r.0 y.1 in
            let o = formed_ok (within (product F f r.0)) g r.1 t y.2 in
            let p = within-small (product F f r.0) g o.0 in (
              Sign star ∷ x.0,
              sign-tokens star s u is ∙ ap (λ vs. Sign star ∷ vs) (x.1 ∙ ap (λ (v : State). x.0 ++ tokens_left v) o.1),
              subst (IsTerm F meaning depth (ts ++ Sign star ∷ x.0)) p.0 (grammar.times D x.2 p.1),
            )

    term-sound : (s t : State) (f : Polynomial) → term_at F meaning (parenthesised F meaning depth) s ≡ Ok (f, t) → (ts : List Token) × (tokens_left s ≡ ts ++ tokens_left t) × IsTerm F meaning depth ts f
    unfolding term_at
    term-sound s t f e =
        let turn = times_factor F meaning (parenthesised F meaning depth) in
        let a = bind_ok (factor F meaning (parenthesised F meaning depth) s) (λ r. repeat turn (length r.1.left) r.0 r.1) (f, t) e in
        let r : Polynomial × State = a.0 in
        let x = factor-sound s r.1 r.0 a.1 in
        let y = repeat_sound turn (IsTerm F meaning depth) times-sound (length r.1.left) x.0 r.0 f r.1 t (grammar.factor x.2) a.2 in
        (x.0 ++ y.0, x.1 ∙ ap (λ vs. x.0 ++ vs) y.1 ∙ sym (append_assoc x.0 y.0 (tokens_left t)), y.2)

    first-sound : (s t : State) (f : Polynomial) → first_term F meaning (parenthesised F meaning depth) s ≡ Ok (f, t) → (ts : List Token) × (tokens_left s ≡ ts ++ tokens_left t) × IsExpression F meaning depth ts f
    unfolding first_term
    first-sound s t f e = by (after_sign minus s) refl e
      where
        by : (o : Option State) → after_sign minus s ≡ o → option_map_or (λ u. term_at F meaning (parenthesised F meaning depth) u >>= λ r. Ok (negation F r.0, r.1)) o (term_at F meaning (parenthesised F meaning depth) s) ≡ Ok (f, t)
            → (ts : List Token) × (tokens_left s ≡ ts ++ tokens_left t) × IsExpression F meaning depth ts f
        by None is h = let x = term-sound s t f h in (x.0, x.1, grammar.first x.2)
        by (Some u) is h =
            let y = bind_ok (term_at F meaning (parenthesised F meaning depth) u) (λ r. Ok (negation F r.0, r.1)) (f, t) h in
            let r : Polynomial × State = y.0 in
            let x = term-sound u r.1 r.0 y.1 in
            let both = ok_same (negation F r.0) f r.1 t y.2 in (
              Sign minus ∷ x.0,
              sign-tokens minus s u is ∙ ap (λ vs. Sign minus ∷ vs) (x.1 ∙ ap (λ (v : State). x.0 ++ tokens_left v) both.1),
              subst (IsExpression F meaning depth (Sign minus ∷ x.0)) both.0 (grammar.negative x.2),
            )

    plus-sound : (ts : List Token) (f g : Polynomial) (s t : State) → IsExpression F meaning depth ts f → plus_term F meaning (parenthesised F meaning depth) f s ≡ Some (Ok (g, t))
        → (us : List Token) × (tokens_left s ≡ us ++ tokens_left t) × IsExpression F meaning depth (ts ++ us) g
    unfolding plus_term
    plus-sound ts f g s t D e = by (after_sign plus s) (after_sign minus s) refl refl e
      where
        by : (o q : Option State) → after_sign plus s ≡ o → after_sign minus s ≡ q
            → option_map_or (λ u. Some (term_at F meaning (parenthesised F meaning depth) u >>= λ h. formed (within (sum F f h.0)) h.1)) o (option_map (λ u. term_at F meaning (parenthesised F meaning depth) u >>= λ h. formed (within (sum F f (negation F h.0))) h.1) q) ≡ Some (Ok (g, t))
            → (us : List Token) × (tokens_left s ≡ us ++ tokens_left t) × IsExpression F meaning depth (ts ++ us) g
        by None None is not h = absurd cc
        by (Some u) q is not h =
            let y = bind_ok (term_at F meaning (parenthesised F meaning depth) u) (λ r. formed (within (sum F f r.0)) r.1) (g, t) (some_same _ _ h) in
            let r : Polynomial × State = y.0 in
            let x = term-sound u r.1 r.0 y.1 in
            let o = formed_ok (within (sum F f r.0)) g r.1 t y.2 in
            let p = within-small (sum F f r.0) g o.0 in (
              Sign plus ∷ x.0,
              sign-tokens plus s u is ∙ ap (λ vs. Sign plus ∷ vs) (x.1 ∙ ap (λ (v : State). x.0 ++ tokens_left v) o.1),
              subst (IsExpression F meaning depth (ts ++ Sign plus ∷ x.0)) p.0 (grammar.add D x.2 p.1),
            )
        by None (Some u) not is h =
            let y = bind_ok (term_at F meaning (parenthesised F meaning depth) u) (λ r. formed (within (sum F f (negation F r.0))) r.1) (g, t) (some_same _ _ h) in
            let r : Polynomial × State = y.0 in
            let x = term-sound u r.1 r.0 y.1 in
            let o = formed_ok (within (sum F f (negation F r.0))) g r.1 t y.2 in
            let p = within-small (sum F f (negation F r.0)) g o.0 in (
              Sign minus ∷ x.0,
              sign-tokens minus s u is ∙ ap (λ vs. Sign minus ∷ vs) (x.1 ∙ ap (λ (v : State). x.0 ++ tokens_left v) o.1),
              subst (IsExpression F meaning depth (ts ++ Sign minus ∷ x.0)) p.0 (grammar.less D x.2 p.1),
            )

    sum-sound : (s t : State) (f : Polynomial) → sum_at F meaning (parenthesised F meaning depth) s ≡ Ok (f, t) → (ts : List Token) × (tokens_left s ≡ ts ++ tokens_left t) × IsExpression F meaning depth ts f
    unfolding sum_at
    sum-sound s t f e =
        let turn = plus_term F meaning (parenthesised F meaning depth) in
        let a = bind_ok (first_term F meaning (parenthesised F meaning depth) s) (λ r. repeat turn (length r.1.left) r.0 r.1) (f, t) e in
        let r : Polynomial × State = a.0 in
        let x = first-sound s r.1 r.0 a.1 in
        let y = repeat_sound turn (IsExpression F meaning depth) plus-sound (length r.1.left) x.0 r.0 f r.1 t x.2 a.2 in
        (x.0 ++ y.0, x.1 ∙ ap (λ vs. x.0 ++ vs) y.1 ∙ sym (append_assoc x.0 y.0 (tokens_left t)), y.2)

  inside-sound : (depth : ℕ) → InsideSound depth
  unfolding parenthesised
  inside-sound zero s t f e = absurd cc
  inside-sound (suc depth) s t f e =
      let a = bind_ok (sum_at F meaning (parenthesised F meaning depth) s) (closed F meaning) (f, t) e in
      let x = sum-sound depth (inside-sound depth) s a.0.1 a.0.0 a.1 in
      by a.0.0 a.0.1 x.0 x.1 x.2 (after_sign closing a.0.1) refl a.2
    where
      by : (g : Polynomial) (v : State) (ts : List Token) → tokens_left s ≡ ts ++ tokens_left v → IsExpression F meaning depth ts g → (o : Option State) → after_sign closing v ≡ o → option_map_or {U = Answer Polynomial} (λ u. Ok (g, u)) o (Err (unexpected v)) ≡ Ok (f, t)
          → (us : List Token) × (tokens_left s ≡ us ++ Sign closing ∷ tokens_left t) × IsAtom F meaning (suc depth) (Sign opening ∷ us ++ Sign closing ∷ []) f
      by g v ts all d None is h = absurd cc
      by g v ts all d (Some u) is h =
          let both = ok_same g f u t h in (
            ts,
            all ∙ ap (λ vs. ts ++ vs) (sign-tokens closing v u is ∙ ap (λ (w : State). Sign closing ∷ tokens_left w) both.1),
            subst (IsAtom F meaning (suc depth) (Sign opening ∷ ts ++ Sign closing ∷ [])) both.0 (grammar.parentheses d),
          )

  pub expression-sound : (s t : State) (f : Polynomial) → expression F meaning s ≡ Ok (f, t) → (ts : List Token) × (tokens_left s ≡ ts ++ tokens_left t) × IsExpression F meaning 64 ts f
  unfolding expression
  expression-sound s t f e = sum-sound 64 (inside-sound 64) s t f e
