-- How far a line was read, what of it can go on, and what is said of its fault.
use Rattle.std.proofs.Common.{◌≡◌, ℕ, zero, suc, ◌^◌, ◌<◌, ◌≤◌, Bool, true, false, cond, eqb, List, [], ◌∷◌, ◌++◌, length, map, Option, Some, None, Result, Ok, Err, refl, sym, ap, ◌∙◌, subst, arith, append_assoc, ◌⊎◌}
use Rattle.std.specs.Option.{option_map_or}
use Rattle.std.proofs.lemmas.Bool.{eqb-true}
use Rattle.std.proofs.lemmas.List.{append-nil, append_cancel_left, length-append, map-append}
use Rattle.std.proofs.lemmas.Option.{same_Some}
use Rattle.fj_theory.specs.Polynomial.{Polynomial}
use Rattle.fj_text.specs.Expression as text
use Rattle.fj_text.specs.State.{State, after, after_sign, blame, end_of, is_the_sign, next, unexpected}
use Rattle.fj_text.specs.Token.{Token, Word, Number, Sign, BadByte, Placed}
use Rattle.fj_script.specs.declared.fault.FaultKind.{FaultKind}
use Rattle.fj_script.specs.declared.fault.FaultKind.TheVariants as kinds
use Rattle.fj_script.specs.declared.fault.LineFault.{LineFault}
use Rattle.fj_script.specs.LineFault.{◌>>=◌, fault_of, kind_of}
use Rattle.fj_grammar.proofs.ExpressionEnds.{EndsNarrow, IsNarrow}

abbrev pub toks : List Placed → List Token
toks ts = map (λ (t : Placed). t.token) ts

abbrev pub StandsAt : ℕ → List Placed → ℕ → Type 0
StandsAt c [] e = c ≡ e
StandsAt c (t ∷ ts) e = c ≡ t.start

pub end_last : (ts : List Placed) (t : Placed) (e : ℕ) → end_of (ts ++ t ∷ []) e ≡ t.end
end_last [] t e = refl
end_last (u ∷ us) t e = end_last us t u.end

pub front_same : (ts us : List Token) (a b : Token) → ts ++ a ∷ [] ≡ us ++ b ∷ [] → ts ≡ us
front_same [] [] a b e = refl
front_same [] (u ∷ us) a b e = let long = ap length e in absurd (omega (arith, long, length-append us (b ∷ [])))
front_same (t ∷ ts) [] a b e = let long = ap length e in absurd (omega (arith, long, length-append ts (a ∷ [])))
front_same (t ∷ ts) (u ∷ us) a b e = let rest : ts ++ a ∷ [] ≡ us ++ b ∷ [] = cc in let first : t ≡ u = cc in let same = front_same ts us a b rest in cc

pub last_same : (ts us : List Token) (a b : Token) → ts ++ a ∷ [] ≡ us ++ b ∷ [] → a ≡ b
last_same ts us a b e = let same = append_cancel_left us (a ∷ []) (b ∷ []) (sym (ap (λ vs. vs ++ a ∷ []) (front_same ts us a b e)) ∙ e) in cc

-- A token that isn't a bad byte.
abbrev pub IsSound : Token → Type 0
IsSound (Word w) = Unit {0}
IsSound (Number n) = Unit {0}
IsSound (Sign b) = Unit {0}
IsSound BadByte = ⊥

-- At a bad byte no other kind stands.
abbrev pub Blames : FaultKind → List Placed → Type 0
Blames k [] = Unit {0}
Blames k (t ∷ ts) = t.token ≡ BadByte → k ≡ kinds.Byte

abbrev pub BeginsNarrow : List Token → Type 0
BeginsNarrow [] = Unit {0}
BeginsNarrow (t ∷ ts) = IsNarrow t

sound_blames : (k : FaultKind) (t : Placed) (ts : List Placed) → IsSound t.token → Blames k (t ∷ ts)
sound_blames k t ts sound e = absurd (subst IsSound e sound)

blame_is : (t : Token) → t ≡ BadByte → kind_of (blame t) ≡ kinds.Byte
blame_is t e = ap (λ u. kind_of (blame u)) e

pub unexpected_blames : (t : State) → Blames (fault_of (unexpected t)).kind t.left
unfolding unexpected
unexpected_blames t = by t.left
  where
    by : (us : List Placed) → Blames (fault_of (unexpected (record { left = us; start = t.start; end = t.end }))).kind us
    by [] = tt
    by (u ∷ us) = λ e. blame_is u.token e

-- What may be said of a line: that there is a ring before it. And of tokens: that they can go on, that they can go on with a
-- token, what causes a fault of this kind at the last one, and that the token after them is wrong in this way. Of numbers in
-- the lines after the ring's it is known when they are.
pub record Sayings : Type 1 where
  pub HasRing : Type 0
  pub Goes : List Token → Type 0
  pub Next : List Token → Token → Type 0
  pub Cause : FaultKind → List Token → Type 0
  pub Wrong : List Token → FaultKind → Token → Type 0
  pub wide : HasRing → (ts : List Token) (n : ℕ) → 2 ^ 32 ≤ n → Wrong ts kinds.Wide (Number n)
  pub narrow : HasRing → (ts : List Token) (n : ℕ) → n < 2 ^ 32 → Wrong ts kinds.Range (Number n)

-- A line was read from the state s0 on.
module _ (s0 : State) where
  -- These tokens were taken so far.
  pub record Reached (ts : List Token) (t : State) : Type 0 where
    pub init : List Placed
    pub last : Placed
    pub all : s0.left ≡ init ++ last ∷ t.left
    pub tokens : ts ≡ toks init ++ last.token ∷ []
    pub start : t.start ≡ last.start
    pub end : t.end ≡ last.end

  tokens_all : {ts : List Token} {t : State} (H : Reached ts t) → ts ≡ toks (H.init ++ H.last ∷ [])
  tokens_all H = H.tokens ∙ sym (map-append (λ (t : Placed). t.token) H.init (H.last ∷ []))

  all_left : {ts : List Token} {t : State} (H : Reached ts t) → s0.left ≡ (H.init ++ H.last ∷ []) ++ t.left
  all_left {ts} {t} H = H.all ∙ sym (append_assoc H.init (H.last ∷ []) t.left)

  abbrev next_reached : {ts : List Token} {t : State} → Reached ts t → (p : Placed) (rest : List Placed) → t.left ≡ p ∷ rest → Reached (ts ++ p.token ∷ []) (after p rest)
  next_reached H p rest e = record {
    init = H.init ++ H.last ∷ [];
    last = p;
    all = all_left H ∙ ap (λ us. (H.init ++ H.last ∷ []) ++ us) e;
    tokens = ap (λ us. us ++ p.token ∷ []) (tokens_all H);
    start = refl;
    end = refl;
  }

  pub sign_reached : {ws : List Token} (b : ℕ) (t u : State) → Reached ws t → after_sign b t ≡ Some u → Reached (ws ++ Sign b ∷ []) u
  unfolding after_sign next
  sign_reached {ws} b t u H is = by t.left refl is
    where
      test : (p : Placed) (rest : List Placed) (tok : Token) → Reached (ws ++ tok ∷ []) (after p rest) → cond (is_the_sign b tok) (Some (after p rest)) None ≡ Some u → Reached (ws ++ Sign b ∷ []) u
      test p rest (Word w) K e = absurd cc
      test p rest (Number n) K e = absurd cc
      test p rest BadByte K e = absurd cc
      test p rest (Sign s) K e = at (eqb s b) refl e
        where
          at : (c : Bool) → eqb s b ≡ c → cond c (Some (after p rest)) None ≡ Some u → Reached (ws ++ Sign b ∷ []) u
          at true same h = subst (Reached (ws ++ Sign b ∷ [])) (same_Some _ _ h) (subst (λ n. Reached (ws ++ Sign n ∷ []) (after p rest)) (eqb-true s b same) K)
          at false same h = absurd cc

      by : (us : List Placed) → t.left ≡ us → after_sign b (record { left = us; start = t.start; end = t.end }) ≡ Some u → Reached (ws ++ Sign b ∷ []) u
      by [] e h = absurd cc
      by (p ∷ rest) e h = test p rest p.token (next_reached H p rest e) h

module _ (s0 : State) (V : Sayings) where
  -- Before the last of these tokens they could go on.
  pub record Took (ts : List Token) (t : State) : Type 0 where
    pub reached : Reached s0 ts t
    pub goes_on : V.Goes (toks reached.init)

  -- The same, and the last one is no bad byte.
  pub record SoFar (ts : List Token) (t : State) : Type 0 where
    pub reached : Reached s0 ts t
    pub goes_on : V.Goes (toks reached.init)
    pub sound : IsSound reached.last.token

  pub sound : (ts : List Token) (tok : Token) {t : State} → IsSound tok → Took (ts ++ tok ∷ []) t → SoFar (ts ++ tok ∷ []) t
  sound ts tok is H = record { reached = H.reached; goes_on = H.goes_on; sound = subst IsSound (last_same ts (toks H.reached.init) tok H.reached.last.token H.reached.tokens) is }

  -- After the ring's line tokens can go on with a number; and they can go on with a word.
  abbrev pub Numbers : List Token → Type 0
  Numbers ts = V.HasRing × (n : ℕ) × (V.Goes (ts ++ Number n ∷ []) ⊎ V.Next ts (Number n))

  abbrev pub Words : List Token → Type 0
  Words ts = (w : List ℕ) × (V.Goes (ts ++ Word w ∷ []) ⊎ V.Next ts (Word w))

  -- A number that is wrong in this way comes next, or such a word.
  abbrev pub WrongNumber : FaultKind → List Token → List Token → Type 0
  WrongNumber k ts us = (n : ℕ) × (vs : List Token) × (us ≡ Number n ∷ vs) × V.Wrong ts k (Number n)

  abbrev pub WrongWord : FaultKind → List Token → List Token → Type 0
  WrongWord k ts us = (w : List ℕ) × (vs : List Token) × (us ≡ Word w ∷ vs) × V.Wrong ts k (Word w)

  abbrev pub Caused : FaultKind → List Token → List Token → Type 0
  Caused k ts us = (t : Token) × (vs : List Token) × (us ≡ t ∷ vs) × V.Cause k (ts ++ t ∷ [])

  -- What is said of the tokens before a fault of this kind, and of those from its place on: which tokens might stand there, and
  -- what the kinds that are higher have to do with it.
  abbrev pub Fits : FaultKind → List Token → List Token → Type 0
  Fits kinds.Prime ts us = ((n : ℕ) × V.Next ts (Number n)) × WrongNumber kinds.Prime ts us
  Fits kinds.Wide ts us = Numbers ts × WrongNumber kinds.Wide ts us
  Fits kinds.Range ts us = (Numbers ts × WrongNumber kinds.Range ts us) × BeginsNarrow us
  Fits kinds.Vars ts us = Words ts × WrongWord kinds.Vars ts us
  Fits kinds.Taken ts us = (Words ts × WrongWord kinds.Taken ts us) × (V.HasRing ⊎ (length ts ≤ 14))
  Fits kinds.Unknown ts us = Words ts × WrongWord kinds.Unknown ts us
  Fits kinds.Kind ts us = Words ts × WrongWord kinds.Kind ts us
  Fits kinds.Constant ts us = Words ts × WrongWord kinds.Constant ts us
  Fits kinds.Many ts us = Caused kinds.Many ts us
  Fits kinds.Long ts us = ⊥
  Fits kinds.Byte ts us = (vs : List Token) × (us ≡ BadByte ∷ vs)
  Fits kinds.Syntax ts us = Unit {0}
  Fits kinds.NoRing ts us = WrongWord kinds.NoRing ts us
  Fits kinds.Large ts us = BeginsNarrow us × Caused kinds.Large ts us
  Fits kinds.Arity ts us = Caused kinds.Arity ts us

  -- A fault stands at its column, and the tokens before it can go on.
  pub record Stuck (f : LineFault) : Type 0 where
    pub before : List Placed
    pub rest : List Placed
    pub all : s0.left ≡ before ++ rest
    pub at : StandsAt f.column rest (end_of before s0.end)
    pub goes_on : V.Goes (toks before)
    pub fits : Fits f.kind (toks before) (toks rest)
    pub blames : Blames f.kind rest

  blame_fits : (tok : Token) (ts us : List Token) → Fits (kind_of (blame tok)) ts (tok ∷ us)
  blame_fits (Word w) ts us = tt
  blame_fits (Number n) ts us = tt
  blame_fits (Sign b) ts us = tt
  blame_fits BadByte ts us = (us, refl)

  -- What was read after these tokens, or such a fault.
  pub data Reading {E A : Type 0} (fault : E → LineFault) (Q : A → List Token → Type 0) (ts : List Token) : Result (A × State) E → Type 0 where
    read : {x : A} {u : State} (us : List Token) → Q x us → SoFar (ts ++ us) u → Reading fault Q ts (Ok (x, u))
    stuck : {e : E} → Stuck (fault e) → Reading fault Q ts (Err e)

  -- a fault at the token that was taken last
  pub late : {k : FaultKind} {ts : List Token} {t : State} (H : SoFar ts t) → Fits k (toks H.reached.init) (H.reached.last.token ∷ toks t.left) → Stuck (record { kind = k; column = t.start })
  late {k} {ts} {t} H fits = record { before = H.reached.init; rest = H.reached.last ∷ t.left; all = H.reached.all; at = H.reached.start; goes_on = H.goes_on; fits = fits; blames = sound_blames k H.reached.last t.left H.sound }

  -- the same, where it may not stand
  pub wrong_token : (ts : List Token) (tok : Token) {t : State} → Took (ts ++ tok ∷ []) t → Stuck (record { kind = kind_of (blame tok); column = t.start })
  wrong_token ts tok {t} H = record {
    before = H.reached.init;
    rest = H.reached.last ∷ t.left;
    all = H.reached.all;
    at = H.reached.start;
    goes_on = H.goes_on;
    fits = subst (λ u. Fits (kind_of (blame tok)) (toks H.reached.init) (u ∷ toks t.left)) (last_same ts (toks H.reached.init) tok H.reached.last.token H.reached.tokens) (blame_fits tok (toks H.reached.init) (toks t.left));
    blames = λ e. blame_is tok (last_same ts (toks H.reached.init) tok H.reached.last.token H.reached.tokens ∙ e);
  }

  -- The token at the place, and those before it.
  pub init_is : (ws us front : List Token) (tok : Token) {u : State} (H : SoFar (ws ++ us) u) → us ≡ front ++ tok ∷ [] → ws ++ front ≡ toks H.reached.init
  init_is ws us front tok H e = front_same (ws ++ front) (toks H.reached.init) tok H.reached.last.token (append_assoc ws front (tok ∷ []) ∙ ap (λ vs. ws ++ vs) (sym e) ∙ H.reached.tokens)

  pub last_is : (ws us front : List Token) (tok : Token) {u : State} (H : SoFar (ws ++ us) u) → us ≡ front ++ tok ∷ [] → tok ≡ H.reached.last.token
  last_is ws us front tok H e = last_same (ws ++ front) (toks H.reached.init) tok H.reached.last.token (append_assoc ws front (tok ∷ []) ∙ ap (λ vs. ws ++ vs) (sym e) ∙ H.reached.tokens)

  pub narrow_at : (ws us : List Token) {u : State} (H : SoFar (ws ++ us) u) → EndsNarrow us → IsNarrow H.reached.last.token
  narrow_at ws us H h = subst IsNarrow (last_is ws us h.front h.last H h.whole) h.narrow

  pub number_narrow : (ws : List Token) {us : List Token} {n : ℕ} {u : State} (H : SoFar (ws ++ us) u) → us ≡ Number n ∷ [] → n < 2 ^ 32 → IsNarrow H.reached.last.token
  number_narrow ws {us} {n} H e few = subst IsNarrow (last_is ws us [] (Number n) H e) few

  pub number_first : (k : FaultKind) (ws us front : List Token) (n : ℕ) {u : State} (H : SoFar (ws ++ us) u) → us ≡ front ++ Number n ∷ [] → V.Wrong (ws ++ front) k (Number n) → WrongNumber k (toks H.reached.init) (H.reached.last.token ∷ toks u.left)
  number_first k ws us front n {u} H e wrong = (n, toks u.left, ap (λ t. t ∷ toks u.left) (sym (last_is ws us front (Number n) H e)), subst (λ ts. V.Wrong ts k (Number n)) (init_is ws us front (Number n) H e) wrong)

  pub word_first : (k : FaultKind) (ws us front : List Token) (w : List ℕ) {u : State} (H : SoFar (ws ++ us) u) → us ≡ front ++ Word w ∷ [] → V.Wrong (ws ++ front) k (Word w) → WrongWord k (toks H.reached.init) (H.reached.last.token ∷ toks u.left)
  word_first k ws us front w {u} H e wrong = (w, toks u.left, ap (λ t. t ∷ toks u.left) (sym (last_is ws us front (Word w) H e)), subst (λ ts. V.Wrong ts k (Word w)) (init_is ws us front (Word w) H e) wrong)

  -- before a number, and before a word
  pub numbers_at : (k : FaultKind) {ws us : List Token} {n : ℕ} {u : State} (H : SoFar (ws ++ us) u) → us ≡ Number n ∷ [] → Numbers ws → V.Wrong ws k (Number n) → Numbers (toks H.reached.init) × WrongNumber k (toks H.reached.init) (H.reached.last.token ∷ toks u.left)
  numbers_at k {ws} {us} {n} {u} H e may wrong = (subst Numbers (sym (append-nil ws) ∙ init_is ws us [] (Number n) H e) may, number_first k ws us [] n H e (subst (λ ts. V.Wrong ts k (Number n)) (sym (append-nil ws)) wrong))

  pub words_at : (k : FaultKind) {ws us : List Token} {w : List ℕ} {u : State} (H : SoFar (ws ++ us) u) → us ≡ Word w ∷ [] → Words ws → V.Wrong ws k (Word w) → Words (toks H.reached.init) × WrongWord k (toks H.reached.init) (H.reached.last.token ∷ toks u.left)
  words_at k {ws} {us} {w} {u} H e may wrong = (subst Words (sym (append-nil ws) ∙ init_is ws us [] (Word w) H e) may, word_first k ws us [] w H e (subst (λ ts. V.Wrong ts k (Word w)) (sym (append-nil ws)) wrong))

  pub caused : (k : FaultKind) {ts : List Token} {t : State} (H : SoFar ts t) → V.Cause k ts → Caused k (toks H.reached.init) (H.reached.last.token ∷ toks t.left)
  caused k {ts} {t} H cause = (H.reached.last.token, toks t.left, refl, subst (V.Cause k) H.reached.tokens cause)

  unexpected_fits : (ts : List Token) (t : State) → Fits (fault_of (unexpected t)).kind ts (toks t.left)
  unfolding unexpected
  unexpected_fits ts t = by t.left
    where
      by : (us : List Placed) → Fits (fault_of (unexpected (record { left = us; start = t.start; end = t.end }))).kind ts (toks us)
      by [] = tt
      by (u ∷ us) = blame_fits u.token ts (toks us)

  -- a fault at the next token, or after the last one
  pub wrong_next : {ts : List Token} {t : State} → Reached s0 ts t → V.Goes ts → Stuck (fault_of (unexpected t))
  unfolding unexpected
  wrong_next {ts} {t} H v = record {
    before = H.init ++ H.last ∷ [];
    rest = t.left;
    all = all_left s0 H;
    at = by t.left;
    goes_on = subst V.Goes (tokens_all s0 H) v;
    fits = unexpected_fits (toks (H.init ++ H.last ∷ [])) t;
    blames = unexpected_blames t;
  }
    where
      by : (us : List Placed) → StandsAt (unexpected (record { left = us; start = t.start; end = t.end })).place us (end_of (H.init ++ H.last ∷ []) s0.end)
      by [] = H.end ∙ sym (end_last H.init H.last s0.end)
      by (u ∷ us) = refl

  pub taken : {ts : List Token} {t : State} → Reached s0 ts t → V.Goes ts → (p : Placed) (rest : List Placed) → t.left ≡ p ∷ rest → Took (ts ++ p.token ∷ []) (after p rest)
  taken H v p rest e = record { reached = next_reached s0 H p rest e; goes_on = subst V.Goes (tokens_all s0 H) v }

  pub regrouped : (ts us vs : List Token) {t : State} → SoFar ((ts ++ us) ++ vs) t → SoFar (ts ++ (us ++ vs)) t
  regrouped ts us vs {t} H = subst (λ ws. SoFar ws t) (append_assoc ts us vs) H

  pub sign_taken : {ws : List Token} (b : ℕ) (t u : State) → Reached s0 ws t → V.Goes ws → after_sign b t ≡ Some u → SoFar (ws ++ Sign b ∷ []) u
  sign_taken {ws} b t u H v is =
      let K = sign_reached s0 b t u H is in
      let goes = subst V.Goes (front_same ws (toks K.init) (Sign b) K.last.token K.tokens) v in
      sound ws (Sign b) tt (record { reached = K; goes_on = goes })

  module _ {E : Type 0} (fault : E → LineFault) where
    -- what was read after more tokens
    pub behind : {A : Type 0} {Q R : A → List Token → Type 0} (ts us : List Token) (r : Result (A × State) E) → Reading fault Q (ts ++ us) r → ((x : A) (vs : List Token) → Q x vs → R x (us ++ vs)) → Reading fault R ts r
    behind ts us r (read vs h H) f = read (us ++ vs) (f _ vs h) (regrouped ts us vs H)
    behind ts us r (stuck H) f = stuck H

    pub then_reading : {A B : Type 0} {Q : A → List Token → Type 0} {R : B → List Token → Type 0} {ts : List Token} {r : Result (A × State) E} (f : A × State → Result (B × State) E)
        → Reading fault Q ts r → ((x : A) (us : List Token) (u : State) → Q x us → SoFar (ts ++ us) u → Reading fault R ts (f (x, u))) → Reading fault R ts (r >>= f)
    then_reading f (read {x = x} {u = u} us h H) k = k x us u h H
    then_reading f (stuck H) k = stuck H

    pub reading_if : {A : Type 0} {Q : A → List Token → Type 0} {ts : List Token} (b : Bool) (x y : Result (A × State) E) → (b ≡ true → Reading fault Q ts x) → (b ≡ false → Reading fault Q ts y) → Reading fault Q ts (cond b x y)
    reading_if true x y p q = p refl
    reading_if false x y p q = q refl

    -- the next token
    pub reading_next : {A : Type 0} {Q : A → List Token → Type 0} {ts ws : List Token} {t : State} (f : Token × State → Result (A × State) E) (wrong : E) → fault wrong ≡ fault_of (unexpected t) → Reached s0 ws t → V.Goes ws
        → ((tok : Token) (u : State) → Took (ws ++ tok ∷ []) u → Reading fault Q ts (f (tok, u))) → Reading fault Q ts (option_map_or f (next t) (Err wrong))
    unfolding next
    reading_next {A} {Q} {ts} {ws} {t} f wrong is H v each = by t.left refl
      where
        by : (us : List Placed) → t.left ≡ us → Reading fault Q ts (option_map_or f (next (record { left = us; start = t.start; end = t.end })) (Err wrong))
        by [] e = stuck (subst Stuck (sym is) (wrong_next H v))
        by (p ∷ rest) e = each p.token (after p rest) (taken H v p rest e)

    -- a sign, where it is next
    pub reading_sign : {A : Type 0} {Q : A → List Token → Type 0} {ts ws : List Token} {t : State} (b : ℕ) (f : State → Result (A × State) E) (d : Result (A × State) E) → Reached s0 ws t → V.Goes ws
        → ((u : State) → SoFar (ws ++ Sign b ∷ []) u → Reading fault Q ts (f u)) → Reading fault Q ts d → Reading fault Q ts (option_map_or f (after_sign b t) d)
    reading_sign {A} {Q} {ts} {ws} {t} b f d H v some none = by (after_sign b t) refl
      where
        by : (o : Option State) → after_sign b t ≡ o → Reading fault Q ts (option_map_or f o d)
        by None e = none
        by (Some u) e = some u (sign_taken b t u H v e)

  -- ---- repetitions, and values that are formed

  -- Again and again a turn, and each time what was read is such a value.
  pub repeat_reading : {A : Type 0} (turn : A → State → Option (text.Answer A)) (W : A → List Token → Type 0) (ts : List Token)
      → ((x : A) (us : List Token) (t : State) (r : text.Answer A) → W x us → SoFar (ts ++ us) t → turn x t ≡ Some r → Reading fault_of W ts r)
      → (n : ℕ) (x : A) (us : List Token) (t : State) → W x us → SoFar (ts ++ us) t → Reading fault_of W ts (text.repeat turn n x t)
  unfolding text.repeat
  repeat_reading turn W ts each zero x us t w H = read us w H
  repeat_reading {A} turn W ts each (suc n) x us t w H = by (turn x t) refl (repeat_reading turn W ts each n)
    where
      by : (o : Option (text.Answer A)) → turn x t ≡ o → ((x : A) (us : List Token) (t : State) → W x us → SoFar (ts ++ us) t → Reading fault_of W ts (text.repeat turn n x t))
          → Reading fault_of W ts (option_map_or (λ a. a >>= λ r. text.repeat turn n r.0 r.1) o (Ok (x, t)))
      by None e rec = read us w H
      by (Some r) e rec = then_reading fault_of (λ r. text.repeat turn n r.0 r.1) (each x us t r w H e) (λ y vs u k K. rec y vs u k K)

  pub formed_reading : {W : Polynomial → List Token → Type 0} (ts us : List Token) (o : Option Polynomial) (u : State) → SoFar (ts ++ us) u → EndsNarrow us → (o ≡ None → V.Cause kinds.Large (ts ++ us)) → ((f : Polynomial) → o ≡ Some f → W f us) → Reading fault_of W ts (text.formed o u)
  formed_reading ts us None u H ends large w = stuck (late H (narrow_at ts us H ends, caused kinds.Large H (large refl)))
  formed_reading ts us (Some f) u H ends large w = read us (w f refl) H
