-- The reading of a line: its next token, and what is left behind it.
use Rattle.std.proofs.Common.{◌≡◌, ℕ, zero, ◌<◌, Bool, true, false, cond, List, length, drop, Option, Some, None, MatchOption, refl, sym, ap, ◌∙◌, arith}
use Rattle.std.specs.Option.{OnSome, option_and_then, option_map_or}
use Rattle.fj_text.specs.declared.token.Token as code
use Rattle.fj_text.specs.declared.token.Placed as held
use Rattle.fj_text.specs.declared.fault.Cause.{Cause}
use Rattle.fj_text.specs.declared.fault.Cause.TheVariants as causes
use Rattle.fj_text.specs.Seen.{left_from, seen}
use Rattle.fj_text.specs.State.{State, after_sign, blame, end_of, is_bad, is_bad_next, is_the_sign, next, state_at, state_from, unexpected}
use Rattle.fj_text.specs.Token.{Token, Placed, tokens_from}

-- the state of a reader
abbrev pub state_of : Option held.Placed → List ℕ → ℕ → ℕ → State
state_of t line start end = record { left = left_from t line; start = start; end = end }

module _ (s : State) (o : Option held.Placed) (line : List ℕ) (start end : ℕ) (is : state_of o line start end ≡ s) where
  state_is : (t : Option held.Placed) → o ≡ t → s ≡ state_of t line start end
  state_is t e = sym is ∙ ap (λ u. state_of u line start end) e

  module _ (ends : o ≡ None) where
    pub next-none : next s ≡ None
    unfolding next left_from
    next-none = ap next (state_is None ends)

    pub unexpected-none : record { cause = causes.Syntax; place = end } ≡ unexpected s
    unfolding unexpected left_from
    unexpected-none = sym (ap unexpected (state_is None ends))

    pub is_bad-none : false ≡ is_bad_next s
    unfolding is_bad_next
    is_bad-none = sym (ap (λ n. option_map_or (λ t. is_bad t.0) n false) next-none)

    pub sign-none : (sign : ℕ) → after_sign sign s ≡ None
    unfolding after_sign
    sign-none sign = ap (λ n. option_and_then (λ t. cond (is_the_sign sign t.0) (Some t.1) None) n) next-none

  module _ (t : held.Placed) (begins : o ≡ Some t) where
    pub next-some : (more : List Placed) → more ≡ tokens_from zero t.end (drop t.end line) → next s ≡ Some (seen t.token, record { left = more; start = t.start; end = t.end })
    unfolding next left_from
    next-some more others = ap next (state_is (Some t) begins) ∙ ap (λ ts. Some (seen t.token, record { left = ts; start = t.start; end = t.end })) (sym others)

    pub fewer : (more : List Placed) → more ≡ tokens_from zero t.end (drop t.end line) → length more < length s.left
    unfolding left_from
    fewer more others = let e = ap (λ (u : State). length u.left) (state_is (Some t) begins) in omega (arith, e, ap length others)

    pub unexpected-some : (cause : Cause) → cause ≡ blame (seen t.token) → record { cause = cause; place = t.start } ≡ unexpected s
    unfolding unexpected left_from
    unexpected-some cause e = ap (λ c. record { cause = c; place = t.start }) e ∙ sym (ap unexpected (state_is (Some t) begins))

    pub is_bad-some : (bad : Bool) → bad ≡ is_bad (seen t.token) → bad ≡ is_bad_next s
    unfolding is_bad_next
    is_bad-some bad e = e ∙ sym (ap (λ n. option_map_or (λ u. is_bad u.0) n false) (next-some _ refl))

    pub sign-other : (sign : ℕ) → is_the_sign sign (seen t.token) ≡ false → after_sign sign s ≡ None
    unfolding after_sign
    sign-other sign e = ap (λ n. option_and_then (λ u. cond (is_the_sign sign u.0) (Some u.1) None) n) (next-some _ refl) ∙ ap (λ b. cond b (Some (record { left = tokens_from zero t.end (drop t.end line); start = t.start; end = t.end })) None) e

-- the next token is the sign
sign-next : (s after : State) (token : Token) (sign : ℕ) → next s ≡ Some (token, after) → is_the_sign sign token ≡ true → after_sign sign s ≡ Some after
unfolding after_sign
sign-next s after token sign e h = ap (λ n. option_and_then (λ u. cond (is_the_sign sign u.0) (Some u.1) None) n) e ∙ ap (λ b. cond b (Some after) None) h

abbrev Takes : State → State → Option code.Token → Type 0
Takes s new r = MatchOption r (next s ≡ None) (λ u. next s ≡ Some (seen u, new))

same_state : (t u : Token) (x y : State) → ◌≡◌ {A = Option (Token × State)} (Some (t, x)) (Some (u, y)) → x ≡ y
same_state t u x y e = ap (λ o. option_map_or (λ p. p.1) o x) e

-- and it was taken
pub sign-taken : (s after new : State) (token : Token) (r : Option code.Token) (sign : ℕ) → next s ≡ Some (token, after) → Takes s new r → is_the_sign sign token ≡ true → after_sign sign s ≡ Some new
sign-taken s after new token None sign e h is = absurd cc
sign-taken s after new token (Some u) sign e h is = sign-next s after token sign e is ∙ ap (λ x. Some x) (same_state token (seen u) after new (sym e ∙ h))

pub fewer-taken : (s after new : State) (token : Token) (r : Option code.Token) → next s ≡ Some (token, after) → Takes s new r → OnSome r (length new.left < length s.left) → length new.left < length s.left
fewer-taken s after new token None e h less = absurd cc
fewer-taken s after new token (Some u) e h less = less

-- the state before the first token
starts : (line : List ℕ) (column : ℕ) (left : List Placed) → left ≡ tokens_from zero column (drop column line) → state_from left column line ≡ state_at line column
unfolding state_at
starts line column left e = ap (λ ts. state_from ts column line) e

module _ (line : List ℕ) (column end : ℕ) (o : Option held.Placed) (tokens : left_from o line ≡ tokens_from zero column (drop column line)) where
  start_is : (u : Option held.Placed) (e : ℕ) → o ≡ u → end ≡ e → state_of u line column e ≡ state_of o line column end
  start_is u e h k = ap (λ v. state_of v line column e) (sym h) ∙ ap (state_of o line column) (sym k)

  pub starts-some : (t : held.Placed) → o ≡ Some t → end ≡ column → state_of o line column end ≡ state_at line column
  unfolding left_from
  starts-some t h k = sym (start_is (Some t) column h k) ∙ starts line column (left_from (Some t) line) (ap (λ v. left_from v line) (sym h) ∙ tokens)

  pub starts-none : o ≡ None → end ≡ end_of (tokens_from zero zero line) column → state_of o line column end ≡ state_at line column
  unfolding left_from
  starts-none h k = sym (start_is None _ h k) ∙ starts line column (left_from None line) (ap (λ v. left_from v line) (sym h) ∙ tokens)
