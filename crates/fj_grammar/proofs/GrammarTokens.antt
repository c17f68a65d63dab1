-- What readings take, as tokens: what was read stood there, and what stands there is read.
use Rattle.std.proofs.Common.{◌≡◌, ℕ, zero, suc, ◌^◌, ◌<◌, Bool, false, cond, List, [], ◌∷◌, ◌++◌, length, map, Option, Some, None, Result, Ok, Err, refl, sym, ap, ap₂, ◌∙◌, subst, arith, append_assoc}
use Rattle.std.specs.Option.{option_map_or}
use Rattle.std.proofs.lemmas.Bool.{leb-false, lt-leb}
use Rattle.std.proofs.lemmas.List.{append-nil}
use Rattle.std.proofs.lemmas.Option.{same_Some}
use Rattle.fj_text.specs.Expression.{is_wide}
use Rattle.fj_text.specs.Grammar.{AreBehind, tokens_left}
use Rattle.fj_text.specs.State.{State, after_sign, next}
use Rattle.fj_text.specs.Token.{Token, Word, Number, Sign, BadByte, Placed, closing, opening}
use Rattle.fj_text.proofs.Completeness.{NotFirst, fewer, next-tokens, sign-not, sign-read}
use Rattle.fj_text.proofs.Soundness.{sign-tokens}
use Rattle.fj_script.specs.declared.fault.LineFault.{LineFault}
use Rattle.fj_grammar.specs.Grammar as grammar
use Rattle.fj_grammar.specs.Grammar.{AreListed}
use Rattle.fj_script.specs.Items.{at_end, comma, enclosed, listed, more, narrow, number, number_of, sign, word, word_of}
use Rattle.fj_script.specs.LineFault.{Answer, ◌>>=◌, not_here}
use Rattle.fj_script.proofs.AcceptedYields.{Yields, yields_if, yields_option, yields_then}
use Rattle.fj_script.proofs.More.{GoesOn, list_begins, list_goes, list_stops}

-- ---- what was read stood there

next_some : (s : State) (tok : Token) (u : State) → next s ≡ Some (tok, u) → tokens_left s ≡ tok ∷ tokens_left u
unfolding next
next_some s tok u e = by s.left e
  where
    by : (ts : List Placed) → next (record { left = ts; start = s.start; end = s.end }) ≡ Some (tok, u) → map (λ (v : Placed). v.token) ts ≡ tok ∷ tokens_left u
    by [] h = absurd cc
    by (v ∷ vs) h = let same = same_Some _ _ h in ap₂ (λ a b. a ∷ b) (ap (λ p. p.0) same) (ap (λ p. tokens_left p.1) same)

pub next_none : (s : State) → next s ≡ None → tokens_left s ≡ []
unfolding next
next_none s e = by s.left e
  where
    by : (ts : List Placed) → next (record { left = ts; start = s.start; end = s.end }) ≡ None → map (λ (v : Placed). v.token) ts ≡ []
    by [] h = refl
    by (v ∷ vs) h = absurd cc

-- the next token, where there is one
pub on_next : {B : Type 0} (Q : B → Type 0) (s : State) (f : Token × State → Result B LineFault) (none : Result B LineFault)
    → ((tok : Token) (u : State) → tokens_left s ≡ tok ∷ tokens_left u → Yields Q (f (tok, u))) → (tokens_left s ≡ [] → Yields Q none) → Yields Q (option_map_or f (next s) none)
on_next {B} Q s f none some otherwise = by (next s) refl
  where
    by : (o : Option (Token × State)) → next s ≡ o → Yields Q (option_map_or f o none)
    by None e = otherwise (next_none s e)
    by (Some t) e = some t.0 t.1 (next_some s t.0 t.1 e)

-- this sign, where it is next
pub on_sign : {B : Type 0} (Q : B → Type 0) (b : ℕ) (s : State) (f : State → Result B LineFault) (none : Result B LineFault)
    → ((u : State) → tokens_left s ≡ Sign b ∷ tokens_left u → Yields Q (f u)) → Yields Q none → Yields Q (option_map_or f (after_sign b s) none)
on_sign Q b s f none some otherwise = yields_option Q (after_sign b s) f none (λ u e. some u (sign-tokens b s u e)) otherwise

pub word_of_takes : (s : State) (tok : Token) (u : State) → tokens_left s ≡ tok ∷ tokens_left u → Yields (λ w. tokens_left s ≡ Word w.0 ∷ tokens_left w.1) (word_of tok u)
unfolding word_of
word_of_takes s (Word w) u e = e
word_of_takes s (Number n) u e = tt
word_of_takes s (Sign b) u e = tt
word_of_takes s BadByte u e = tt

number_of_takes : (s : State) (tok : Token) (u : State) → tokens_left s ≡ tok ∷ tokens_left u → Yields (λ n. tokens_left s ≡ Number n.0 ∷ tokens_left n.1) (number_of tok u)
unfolding number_of
number_of_takes s (Word w) u e = tt
number_of_takes s (Number n) u e = e
number_of_takes s (Sign b) u e = tt
number_of_takes s BadByte u e = tt

pub word_takes : (s : State) → Yields (λ w. tokens_left s ≡ Word w.0 ∷ tokens_left w.1) (word s)
unfolding word
word_takes s = on_next (λ w. tokens_left s ≡ Word w.0 ∷ tokens_left w.1) s (λ t. word_of t.0 t.1) _ (word_of_takes s) (λ _. tt)

pub number_takes : (s : State) → Yields (λ n. tokens_left s ≡ Number n.0 ∷ tokens_left n.1) (number s)
unfolding number
number_takes s = on_next (λ n. tokens_left s ≡ Number n.0 ∷ tokens_left n.1) s (λ t. number_of t.0 t.1) _ (number_of_takes s) (λ _. tt)

pub narrow_takes : (s : State) → Yields (λ n. (tokens_left s ≡ Number n.0 ∷ tokens_left n.1) × (n.0 < 2 ^ 32)) (narrow s)
unfolding narrow
narrow_takes s =
    yields_then (λ n. tokens_left s ≡ Number n.0 ∷ tokens_left n.1) (λ n. (tokens_left s ≡ Number n.0 ∷ tokens_left n.1) × (n.0 < 2 ^ 32)) (number s) _ (number_takes s)
    (λ n h. yields_if (λ n. (tokens_left s ≡ Number n.0 ∷ tokens_left n.1) × (n.0 < 2 ^ 32)) (is_wide n.0) _ _ (λ _. tt) (λ e. (h, leb-false _ _ e)))

pub sign_takes : (b : ℕ) (s : State) → Yields (λ t. tokens_left s ≡ Sign b ∷ tokens_left t) (sign b s)
unfolding sign
sign_takes b s = on_sign (λ t. tokens_left s ≡ Sign b ∷ tokens_left t) b s (λ t. Ok t) _ (λ u e. e) tt

-- what was read, where the line ends with it
pub end_takes : {A : Type 0} (P : A → Type 0) (x : A) (s : State) → (tokens_left s ≡ [] → P x) → Yields P (at_end (x, s))
unfolding at_end
end_takes P x s h = on_next P s (λ _. Err (not_here s)) (Ok x) (λ tok u e. tt) h

-- Tokens of this kind were taken.
abbrev pub Takes : {A : Type 0} → (List Token → A → Type 0) → State → A × State → Type 0
Takes Is s r = (ts : List Token) × (tokens_left s ≡ ts ++ tokens_left r.1) × Is ts r.0

-- Items after commas.
data AreBehindCommas {A : Type 0} (Is : List Token → A → Type 0) : List Token → List A → Type 0 where
  no_more : AreBehindCommas Is [] []
  behind : {ts : List Token} {xs : List A} → AreListed Is ts xs → AreBehindCommas Is (Sign comma ∷ ts) xs

module _ {A : Type 0} (Is : List Token → A → Type 0) (Fits : List A → Type 0) (item : List A → State → Answer A) (each : (xs : List A) (s : State) → Fits xs → Yields (λ r. Takes Is s r × Fits (xs ++ r.0 ∷ [])) (item xs s)) where
  abbrev GoOn : List A → State → List A × State → Type 0
  GoOn xs s r = (us : List Token) × (ys : List A) × (tokens_left s ≡ us ++ tokens_left r.1) × (r.0 ≡ xs ++ ys) × AreBehindCommas Is us ys × Fits r.0

  listed_behind : {ts us : List Token} {x : A} {ys : List A} → Is ts x → AreBehindCommas Is us ys → AreListed Is (ts ++ us) (x ∷ ys)
  listed_behind {ts} {us} {x} h no_more = subst (λ vs. AreListed Is vs (x ∷ [])) (sym (append-nil ts)) (grammar.last h)
  listed_behind h (behind l) = grammar.more h l

  more_takes : (n : ℕ) (xs : List A) (s : State) → Fits xs → Yields (GoOn xs s) (more item n xs s)
  unfolding more
  more_takes zero xs s fits = ([], [], refl, sym (append-nil xs), no_more, fits)
  more_takes (suc n) xs s fits =
      on_sign (GoOn xs s) comma s (λ t. item xs t >>= λ x. more item n (xs ++ x.0 ∷ []) x.1) (Ok (xs, s))
      (λ t e. yields_then (λ r. Takes Is t r × Fits (xs ++ r.0 ∷ [])) (GoOn xs s) (item xs t) _ (each xs t fits)
      (λ x h. yields_on (more item n (xs ++ x.0 ∷ []) x.1) (more_takes n (xs ++ x.0 ∷ []) x.1 h.1)
      (λ r k. (
        Sign comma ∷ h.0.0 ++ k.0,
        x.0 ∷ k.1,
        e ∙ ap (λ us. Sign comma ∷ us) (h.0.1 ∙ ap (λ us. h.0.0 ++ us) k.2 ∙ sym (append_assoc h.0.0 k.0 (tokens_left r.1))),
        k.3 ∙ append_assoc xs (x.0 ∷ []) k.1,
        behind (listed_behind h.0.2 k.4),
        k.5,
      ))))
      ([], [], refl, sym (append-nil xs), no_more, fits)
    where
      yields_on : {P Q : List A × State → Type 0} (r : Answer (List A)) → Yields P r → ((x : List A × State) → P x → Q x) → Yields Q r
      yields_on (Ok x) h f = f x h
      yields_on (Err fault) h f = tt

  pub listed_takes : Fits [] → (s : State) → Yields (Takes (λ ts xs. AreListed Is ts xs × Fits xs) s) (listed item s)
  unfolding listed
  listed_takes fits s =
      yields_then (λ r. Takes Is s r × Fits (r.0 ∷ [])) (Takes (λ ts xs. AreListed Is ts xs × Fits xs) s) (item [] s) _ (each [] s fits)
      (λ x h. yields_on (more item (length x.1.left) (x.0 ∷ []) x.1) (more_takes (length x.1.left) (x.0 ∷ []) x.1 h.1)
      (λ r k. (
        h.0.0 ++ k.0,
        h.0.1 ∙ ap (λ us. h.0.0 ++ us) k.2 ∙ sym (append_assoc h.0.0 k.0 (tokens_left r.1)),
        (subst (AreListed Is (h.0.0 ++ k.0)) (sym k.3) (listed_behind h.0.2 k.4), k.5),
      )))
    where
      yields_on : {P Q : List A × State → Type 0} (r : Answer (List A)) → Yields P r → ((x : List A × State) → P x → Q x) → Yields Q r
      yields_on (Ok x) h f = f x h
      yields_on (Err fault) h f = tt

pub enclosed_takes : {A : Type 0} (In : List Token → A → Type 0) (inside : State → Answer A) → ((s : State) → Yields (Takes In s) (inside s)) → (s : State)
    → Yields (λ r. (ts : List Token) × (tokens_left s ≡ Sign opening ∷ ts ++ Sign closing ∷ tokens_left r.1) × In ts r.0) (enclosed inside s)
unfolding enclosed
enclosed_takes {A} In inside each s =
    yields_then (λ t. tokens_left s ≡ Sign opening ∷ tokens_left t) Encloses (sign opening s) _ (sign_takes opening s)
    (λ t e. yields_then (Takes In t) Encloses (inside t) _ (each t)
    (λ x h. yields_then (λ u. tokens_left x.1 ≡ Sign closing ∷ tokens_left u) Encloses (sign closing x.1) _ (sign_takes closing x.1)
    (λ u k. (h.0, e ∙ ap (λ us. Sign opening ∷ us) (h.1 ∙ ap (λ us. h.0 ++ us) k), h.2))))
  where
    Encloses : A × State → Type 0
    Encloses r = (ts : List Token) × (tokens_left s ≡ Sign opening ∷ ts ++ Sign closing ∷ tokens_left r.1) × In ts r.0

-- ---- what stands there is read

-- This is read, and these tokens are left.
pub record IsRead {A : Type 0} (answer : Answer A) (x : A) (rest : List Token) : Type 0 where
  pub state : State
  pub is : answer ≡ Ok (x, state)
  pub left : tokens_left state ≡ rest

pub then_read : {A B : Type 0} {answer : Answer A} {x : A} {between : List Token} (f : A × State → Answer B) {y : B} {rest : List Token}
    → IsRead answer x between → ((t : State) → tokens_left t ≡ between → IsRead (f (x, t)) y rest) → IsRead (answer >>= f) y rest
then_read f h k = let last = k h.state h.left in record { state = last.state; is = ap (λ a. a >>= f) h.is ∙ last.is; left = last.left }

pub then_is : {A B : Type 0} {answer : Answer A} {x : A} {between : List Token} (f : A × State → Result B LineFault) {y : B}
    → IsRead answer x between → ((t : State) → tokens_left t ≡ between → f (x, t) ≡ Ok y) → (answer >>= f) ≡ Ok y
then_is f h k = ap (λ a. a >>= f) h.is ∙ k h.state h.left

pub done : {A : Type 0} {x : A} {t : State} {rest : List Token} → tokens_left t ≡ rest → IsRead (Ok (x, t)) x rest
done {A} {x} {t} e = record { state = t; is = refl; left = e }

-- the next token, and an answer for it
pub next_read : {B : Type 0} (s : State) (tok : Token) (rest : List Token) (f : Token × State → Answer B) (none : Answer B) {y : B} {last : List Token} → tokens_left s ≡ tok ∷ rest
    → ((u : State) → tokens_left u ≡ rest → IsRead (f (tok, u)) y last) → IsRead (option_map_or f (next s) none) y last
next_read s tok rest f none e k =
    let x = next-tokens s tok rest e in
    let h = k x.0 x.2 in
    record { state = h.state; is = ap (λ o. option_map_or f o none) x.1 ∙ h.is; left = h.left }

pub no_next : (s : State) → tokens_left s ≡ [] → next s ≡ None
unfolding next
no_next s e = by s.left e
  where
    by : (ts : List Placed) → map (λ (v : Placed). v.token) ts ≡ [] → next (record { left = ts; start = s.start; end = s.end }) ≡ None
    by [] h = refl
    by (v ∷ vs) h = absurd cc

pub word_read : (s : State) (w : List ℕ) (rest : List Token) → tokens_left s ≡ Word w ∷ rest → IsRead (word s) w rest
unfolding word word_of
word_read s w rest e = next_read s (Word w) rest (λ t. word_of t.0 t.1) _ e (λ u h. done h)

pub number_read : (s : State) (n : ℕ) (rest : List Token) → tokens_left s ≡ Number n ∷ rest → IsRead (number s) n rest
unfolding number number_of
number_read s n rest e = next_read s (Number n) rest (λ t. number_of t.0 t.1) _ e (λ u h. done h)

pub otherwise_read : {A : Type 0} (b : Bool) (answer other : Answer A) {x : A} {rest : List Token} → b ≡ false → IsRead other x rest → IsRead (cond b answer other) x rest
otherwise_read b answer other e h = record { state = h.state; is = ap (λ c. cond c answer other) e ∙ h.is; left = h.left }

pub narrow_read : (s : State) (n : ℕ) (rest : List Token) → n < 2 ^ 32 → tokens_left s ≡ Number n ∷ rest → IsRead (narrow s) n rest
unfolding narrow
narrow_read s n rest h e = then_read _ (number_read s n rest e) (λ t k. otherwise_read (is_wide n) _ _ (lt-leb (2 ^ 32) n h) (done k))

-- a sign that is next
pub sign_is : (b : ℕ) (s : State) (rest : List Token) → tokens_left s ≡ Sign b ∷ rest → (t : State) × (sign b s ≡ Ok t) × (tokens_left t ≡ rest)
unfolding sign
sign_is b s rest e = let x = sign-read b s rest e in (x.0, ap (λ o. option_map_or (λ t. Ok t) o (Err (not_here s))) x.1, x.2)

pub end_is : {A : Type 0} (x : A) (s : State) → tokens_left s ≡ [] → at_end (x, s) ≡ Ok x
unfolding at_end
end_is x s e = ap (λ o. option_map_or (λ _. Err (not_here s)) o (Ok x)) (no_next s e)

pub behind_comma : (ts : List Token) → AreBehind (Sign comma ∷ ts)
behind_comma ts = (λ e. absurd (omega arith), λ e. absurd (omega arith), λ e. absurd (omega arith), λ e. absurd (omega arith))

pub behind_closing : (ts : List Token) → AreBehind (Sign closing ∷ ts)
behind_closing ts = (λ e. absurd (omega arith), λ e. absurd (omega arith), λ e. absurd (omega arith), λ e. absurd (omega arith))

-- A list is read where each of its items is, after those before it.
module _ {A : Type 0} (Is : List Token → A → Type 0) (item : List A → State → Answer A) (whole : List A)
    (each : (ys : List A) (x : A) (zs : List A) → whole ≡ ys ++ x ∷ zs → (ts rest : List Token) (s : State) → Is ts x → AreBehind rest → tokens_left s ≡ ts ++ rest → IsRead (item ys s) x rest)
    (rest : List Token) (last : AreBehind rest) (ends : NotFirst comma rest) where
  goes_read : (answer : Answer (List A)) {ts : List Token} {xs : List A} → AreListed Is ts xs → (ys : List A) → whole ≡ ys ++ xs → (s : State) → GoesOn item ys s answer → tokens_left s ≡ Sign comma ∷ ts ++ rest
      → IsRead answer whole rest
  goes_read answer (grammar.last {ts} {x} h) ys all s goes e =
      let t = sign-read comma s (ts ++ rest) e in
      let r = each ys x [] all ts rest t.0 h last t.2 in
      let g = list_goes item ys s t.0 r.state x answer goes t.1 (fewer s r.state (Sign comma) ts rest e r.left) r.is in
      record { state = r.state; is = list_stops item (ys ++ x ∷ []) r.state answer g (sign-not comma r.state rest r.left ends) ∙ ap (λ xs. Ok (xs, r.state)) (sym all); left = r.left }
  goes_read answer (grammar.more {ts} {us} {x} {xs} h l) ys all s goes e =
      let parts = ap (λ vs. Sign comma ∷ vs) (append_assoc ts (Sign comma ∷ us) rest) in
      let t = sign-read comma s (ts ++ (Sign comma ∷ us ++ rest)) (e ∙ parts) in
      let r = each ys x xs all ts (Sign comma ∷ us ++ rest) t.0 h (behind_comma (us ++ rest)) t.2 in
      let g = list_goes item ys s t.0 r.state x answer goes t.1 (fewer s r.state (Sign comma) ts (Sign comma ∷ us ++ rest) (e ∙ parts) r.left) r.is in
      goes_read answer l (ys ++ x ∷ []) (all ∙ sym (append_assoc ys (x ∷ []) xs)) r.state g r.left

  pub listed_read : {ts : List Token} → AreListed Is ts whole → (s : State) → tokens_left s ≡ ts ++ rest → IsRead (listed item s) whole rest
  listed_read l s e = by l refl e
    where
      by : {ts : List Token} {xs : List A} → AreListed Is ts xs → whole ≡ xs → tokens_left s ≡ ts ++ rest → IsRead (listed item s) whole rest
      by (grammar.last {ts} {x} h) all k =
          let r = each [] x [] all ts rest s h last k in
          record { state = r.state; is = list_stops item (x ∷ []) r.state (listed item s) (list_begins item s r.state x r.is) (sign-not comma r.state rest r.left ends) ∙ ap (λ xs. Ok (xs, r.state)) (sym all); left = r.left }
      by (grammar.more {ts} {us} {x} {xs} h l) all k =
          let r = each [] x xs all ts (Sign comma ∷ us ++ rest) s h (behind_comma (us ++ rest)) (k ∙ append_assoc ts (Sign comma ∷ us) rest) in
          goes_read (listed item s) l (x ∷ []) all r.state (list_begins item s r.state x r.is) r.left

-- what stands in parentheses
pub enclosed_read : {A : Type 0} (inside : State → Answer A) (s : State) (ts rest : List Token) (x : A) → tokens_left s ≡ Sign opening ∷ ts ++ Sign closing ∷ rest
    → ((t : State) → tokens_left t ≡ ts ++ Sign closing ∷ rest → IsRead (inside t) x (Sign closing ∷ rest)) → IsRead (enclosed inside s) x rest
unfolding enclosed
enclosed_read inside s ts rest x e each =
    let opened = sign_is opening s (ts ++ Sign closing ∷ rest) e in
    let r = each opened.0 opened.2 in
    let closed = sign_is closing r.state rest r.left in
    record {
      state = closed.0;
      is = ap (λ o. o >>= λ t. inside t >>= λ y. sign closing y.1 >>= λ u. Ok (y.0, u)) opened.1 ∙ ap (λ a. a >>= λ y. sign closing y.1 >>= λ u. Ok (y.0, u)) r.is ∙ ap (λ o. o >>= λ u. Ok (x, u)) closed.1;
      left = closed.2;
    }
