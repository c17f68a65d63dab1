-- The tokens of a line stand one after the other.
use Rattle.std.proofs.Common.{◌≡◌, ℕ, zero, suc, ◌+◌, ◌-◌, ◌<◌, ◌≤◌, Bool, true, false, cond, ltb, List, [], ◌∷◌, ◌++◌, All, Contains, Option, Some, None, IfSome, refl, sym, ap, ◌∙◌, subst, arith, inl, inr}
use Rattle.std.specs.Char.{is_ascii_digit}
use Rattle.std.specs.List.{filter, prefix_len}
use Rattle.std.specs.Option.{option_map_or}
use Rattle.std.proofs.lemmas.Bool.{le-ltb, ltb-false, ltb-true}
use Rattle.std.proofs.lemmas.List.Elements.{All-cons, All-nil}
use Rattle.fj_text.specs.State.{end_of}
use Rattle.fj_text.specs.Token.{Token, BadByte, Placed, is_blank, is_sign, token_at, tokens_from}
use Rattle.fj_text.specs.Word.{is_word_byte, is_word_start}
use Rattle.fj_text.proofs.Words.{start_is_byte}
use Rattle.fj_grammar.proofs.TwoRuns.{AreHigh, FirstHigh, IsEdge, IsEdgeBehind}

-- Tokens from a column on, each after the one before it.
abbrev pub AreRising : ℕ → List Placed → Type 0
AreRising n [] = Unit {0}
AreRising n (t ∷ ts) = (n ≤ t.start) × (t.start < t.end) × AreRising t.end ts

rising_from : (m n : ℕ) (ts : List Placed) → m ≤ n → AreRising n ts → AreRising m ts
rising_from m n [] h rises = tt
rising_from m n (t ∷ ts) h rises = (omega (arith, rises.0), rises.1, rises.2)

-- A token has a byte.
some_byte : (test : ℕ → Bool) (b : ℕ) (bytes : List ℕ) → test b ≡ true → 1 ≤ prefix_len test (b ∷ bytes)
some_byte test b bytes e = rw e (omega arith)

choose : {X : Type 0} (P : X → Type 0) (b : Bool) (x y : X) → (b ≡ true → P x) → P y → P (cond b x y)
choose P true x y p q = p refl
choose P false x y p q = q

token_long : (b : ℕ) (bytes : List ℕ) → IfSome (token_at (b ∷ bytes)) (λ t. 1 ≤ t.1)
unfolding token_at
token_long b bytes =
    let P : Option (Token × ℕ) → Type 0 = λ o. IfSome o (λ t. 1 ≤ t.1) in
    choose P (is_word_start b) _ _ (λ e. some_byte is_word_byte b bytes (start_is_byte b e))
    (choose P (is_ascii_digit b) _ _ (λ e. some_byte is_ascii_digit b bytes e) (choose P (is_sign b) _ _ (λ e. omega arith) (choose P _ None (Some (BadByte, 1)) (λ e. tt) (omega arith))))

tokens_rise : (taken column : ℕ) (bytes : List ℕ) → AreRising (column + taken) (tokens_from taken column bytes)
unfolding tokens_from
tokens_rise zero column [] = tt
tokens_rise (suc taken) column [] = tt
tokens_rise (suc taken) column (b ∷ bytes) = let same : column + 1 + taken ≡ column + suc taken = omega arith in subst (λ n. AreRising n (tokens_from taken (column + 1) bytes)) same (tokens_rise taken (column + 1) bytes)
tokens_rise zero column (b ∷ bytes) =
    choose (AreRising (column + zero)) (is_blank b) _ _ (λ e. rising_from (column + zero) (column + 1 + zero) _ (omega arith) (tokens_rise zero (column + 1) bytes))
    (by (token_at (b ∷ bytes)) (token_long b bytes) (λ taken. tokens_rise taken (column + 1) bytes))
  where
    by : (o : Option (Token × ℕ)) → IfSome o (λ t. 1 ≤ t.1) → ((taken : ℕ) → AreRising (column + 1 + taken) (tokens_from taken (column + 1) bytes))
        → AreRising (column + zero) (option_map_or (λ t. record { token = t.0; start = column; end = column + t.1 } ∷ tokens_from (t.1 - 1) (column + 1) bytes) o [])
    by None long rest = tt
    by (Some t) long rest = (omega arith, omega arith, let same : column + 1 + (t.1 - 1) ≡ column + t.1 = omega arith in subst (λ n. AreRising n (tokens_from (t.1 - 1) (column + 1) bytes)) same (rest (t.1 - 1)))

pub line_rises : (line : List ℕ) → AreRising 0 (tokens_from zero zero line)
line_rises line = let none : 0 + 0 ≡ 0 = refl in subst (λ n. AreRising n (tokens_from zero zero line)) none (tokens_rise zero zero line)

-- All of these stand after a column.
pub rising_all : (n : ℕ) (ts : List Placed) → AreRising n ts → All (λ t. (n ≤ t.start) × (n < t.end)) ts
rising_all n [] h = All-nil _
rising_all n (t ∷ ts) h = All-cons (λ t. (n ≤ t.start) × (n < t.end)) t ts (h.0, omega (arith, h.0, h.1)) (λ i d inside. let later = rising_all t.end ts h.2 i d inside in (omega (arith, h.0, h.1, later.0), omega (arith, h.0, h.1, later.1)))

-- What follows tokens rises after them.
pub rising_behind : (n : ℕ) (ts us : List Placed) → AreRising n (ts ++ us) → AreRising (end_of ts n) us
rising_behind n [] us h = h
rising_behind n (t ∷ ts) us h = rising_behind t.end ts us h.2

-- The end of the last one is after the start of each, and after the column that they rise from.
pub end_above : (n : ℕ) (ts us : List Placed) → AreRising n (ts ++ us) → n ≤ end_of ts n
end_above n [] us h = omega arith
end_above n (t ∷ ts) us h = let rest = end_above t.end ts us h.2 in omega (arith, h.0, h.1, rest)

pub starts_below : (n : ℕ) (ts us : List Placed) → AreRising n (ts ++ us) → All (λ t. t.start < end_of ts n) ts
starts_below n [] us h = All-nil _
starts_below n (t ∷ ts) us h = All-cons (λ u. u.start < end_of (t ∷ ts) n) t ts (let rest = end_above t.end ts us h.2 in omega (arith, h.1, rest)) (starts_below t.end ts us h.2)

-- ---- the tokens before a column

abbrev pub starts_before : ℕ → Placed → Bool
starts_before column t = ltb (t.start + 1) column

pub none_before : (column n : ℕ) (ts : List Placed) → column ≤ n + 1 → AreRising n ts → filter (starts_before column) ts ≡ []
none_before column n [] h rises = refl
none_before column n (t ∷ ts) h rises =
    let no : starts_before column t ≡ false = le-ltb (t.start + 1) column (omega (arith, rises.0)) in
    ap (λ c. cond c (t ∷ filter (starts_before column) ts) (filter (starts_before column) ts)) no ∙ none_before column t.end ts (omega (arith, rises.0, rises.1)) rises.2

-- Tokens, separated at a column.
pub record Parted (column : ℕ) (ts : List Placed) : Type 0 where
  pub rest : List Placed
  pub all : ts ≡ filter (starts_before column) ts ++ rest
  pub before : All (λ t. t.start + 1 < column) (filter (starts_before column) ts)
  pub behind : All (λ t. column ≤ t.start + 1) rest

pub parted : (column n : ℕ) (ts : List Placed) → AreRising n ts → Parted column ts
parted column n [] h = record { rest = []; all = refl; before = All-nil _; behind = All-nil _ }
parted column n (t ∷ ts) h = by (starts_before column t) refl (parted column t.end ts h.2)
  where
    by : (c : Bool) → starts_before column t ≡ c → Parted column ts → Parted column (t ∷ ts)
    by true e later =
        let here : filter (starts_before column) (t ∷ ts) ≡ t ∷ filter (starts_before column) ts = ap (λ c. cond c (t ∷ filter (starts_before column) ts) (filter (starts_before column) ts)) e in
        record {
          rest = later.rest;
          all = ap (λ us. t ∷ us) later.all ∙ ap (λ us. us ++ later.rest) (sym here);
          before = subst (All (λ t. t.start + 1 < column)) (sym here) (All-cons (λ u. u.start + 1 < column) t _ (ltb-true _ _ e) later.before);
          behind = later.behind;
        }
    by false e later =
        let from : column ≤ t.start + 1 = ltb-false _ _ e in
        let here : filter (starts_before column) (t ∷ ts) ≡ [] = ap (λ c. cond c (t ∷ filter (starts_before column) ts) (filter (starts_before column) ts)) e ∙ none_before column t.end ts (omega (arith, h.1)) h.2 in
        record {
          rest = t ∷ ts;
          all = ap (λ us. us ++ t ∷ ts) (sym here);
          before = subst (All (λ t. t.start + 1 < column)) (sym here) (All-nil _);
          behind = All-cons (λ u. column ≤ u.start + 1) t ts from (λ i d inside. let later = rising_all t.end ts h.2 i d inside in omega (arith, h.1, later.0));
        }

-- ---- what is known after a column

pub high_all : (M : Type 0) (b c : ℕ) (r q : List Placed) (n : ℕ) (ts : List Placed) → c < n → AreRising n ts → AreHigh M b c r q ts
high_all M b c r q n ts h rises i d inside = let at = rising_all n ts rises i d inside in (omega (arith, at.0), omega (arith, at.1))

pub first_high : (M : Type 0) (b c : ℕ) (r q : List Placed) (n : ℕ) (ts : List Placed) → AreRising n ts → All (λ t. c ≤ t.start) ts → FirstHigh M b c r q ts
first_high M b c r q n [] rises h = tt
first_high M b c r q n (t ∷ ts) rises h = let here = h 0 t (omega arith) in (omega (arith, rises.1, here), high_all M b c r q t.end ts (omega (arith, rises.1, here)) rises.2)

-- Tokens with an edge: M holds, or the last one stands after c.
pub edge_here : (M : Type 0) (b c : ℕ) (r q : List Placed) → M → (ts : List Placed) → IsEdge M b c r q ts
edge_here M b c r q m [] = m
edge_here M b c r q m (t ∷ ts) = behind t ts
  where
    behind : (t : Placed) (ts : List Placed) → IsEdgeBehind M b c r q t ts
    behind t [] = inl m
    behind t (u ∷ us) = behind u us

pub edge_passed : (M : Type 0) (b c : ℕ) (r q : List Placed) (x : Placed) → (c < x.start) × (c < x.end) × AreHigh M b c r q r → (ts : List Placed) → IsEdge M b c r q (ts ++ x ∷ [])
edge_passed M b c r q x h [] = inr h
edge_passed M b c r q x h (t ∷ ts) = behind t ts
  where
    behind : (t : Placed) (ts : List Placed) → IsEdgeBehind M b c r q t (ts ++ x ∷ [])
    behind t [] = inr h
    behind t (u ∷ us) = behind u us

-- ---- one token at a place

above : (m : ℕ) (us vs : List Placed) (t : Placed) → AreRising m (us ++ t ∷ vs) → m ≤ t.start
above m us vs t rises = let first = end_above m us (t ∷ vs) rises in let then = rising_behind m us (t ∷ vs) rises in omega (arith, first, then.0)

one_there : (m : ℕ) (us vs : List Placed) (t : Placed) → AreRising m (us ++ t ∷ vs) → All (λ u. u.start ≡ t.start → u.token ≡ t.token) (us ++ t ∷ vs)
one_there m [] vs t rises = All-cons (λ u. u.start ≡ t.start → u.token ≡ t.token) t vs (λ e. refl) (λ i d inside e. let high = rising_all t.end vs rises.2 i d inside in absurd (omega (arith, e, high.0, rises.1)))
one_there m (u ∷ us) vs t rises = All-cons (λ u. u.start ≡ t.start → u.token ≡ t.token) u (us ++ t ∷ vs) (λ e. let high = above u.end us vs t rises.2 in absurd (omega (arith, e, high, rises.1))) (one_there u.end us vs t rises.2)

pub token_is : {all : List Placed} → AreRising 0 all → (us vs : List Placed) (t : Placed) → all ≡ us ++ t ∷ vs → (at : Placed) → Contains all at → at.start ≡ t.start → at.token ≡ t.token
token_is {all} rises us vs t whole at (k, inside, is) e =
    let each : All (λ u. u.start ≡ t.start → u.token ≡ t.token) all = subst (All (λ (u : Placed). u.start ≡ t.start → u.token ≡ t.token)) (sym whole) (one_there 0 us vs t (subst (AreRising 0) whole rises)) in
    subst (λ (u : Placed). u.start ≡ t.start → u.token ≡ t.token) is (each k at inside) e
