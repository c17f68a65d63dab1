-- Repeated turns: how a repetition begins, goes on, stops and fails.
use Rattle.std.proofs.Common.{◌≡◌, ℕ, zero, suc, ◌<◌, ◌≤◌, List, [], ◌∷◌, length, Option, Some, None, IfNone, IfSome, Ok, Err, refl, sym, ap, ◌∙◌, subst, arith}
use Rattle.std.specs.Option.{option_map_or}
use Rattle.fj_text.specs.declared.fault.Fault.{Fault}
use Rattle.fj_text.specs.declared.fault.ReadFault.{ReadFault}
use Rattle.fj_text.specs.declared.fault.ReadFault.TheVariants as refusals
use Rattle.fj_text.specs.Expression.{Answer, repeat}
use Rattle.fj_text.specs.Reading.{Reads, ReadsTurn}
use Rattle.fj_text.specs.State.{State, ◌>>=◌, after_sign, next}
use Rattle.fj_text.specs.Token.{Placed}

-- the answer is what turns make of this value, and there are turns enough for the tokens that are left
pub record Repeats {A : Type 0} (turn : A → State → Option (Answer A)) (x : A) (s : State) (answer : Answer A) : Type 0 where
  pub turns : ℕ
  pub enough : length s.left ≤ turns
  pub is : answer ≡ repeat turn turns x s

module _ {A : Type 0} (turn : A → State → Option (Answer A)) where
  pub repeat-begins : (x : A) (s : State) (answer : Answer A) → answer ≡ repeat turn (length s.left) x s → Repeats turn x s answer
  repeat-begins x s answer e = record { turns = length s.left; enough = omega arith; is = e }

  more : (n : ℕ) (x y : A) (s t : State) (answer : Answer A) → length s.left ≤ n → answer ≡ repeat turn n x s → turn x s ≡ Some (Ok (y, t)) → length t.left < length s.left → Repeats turn y t answer
  unfolding repeat
  more zero x y s t answer h is e less = absurd (omega arith)
  more (suc n) x y s t answer h is e less = record {
    turns = n;
    enough = omega arith;
    is = is ∙ ap (λ o. option_map_or (λ a. a >>= λ r. repeat turn n r.0 r.1) o (Ok (x, s))) e;
  }

  pub repeat-more : (x y : A) (s t : State) (answer : Answer A) → Repeats turn x s answer → turn x s ≡ Some (Ok (y, t)) → length t.left < length s.left → Repeats turn y t answer
  repeat-more x y s t answer r e less = more r.turns x y s t answer r.enough r.is e less

  stops : (n : ℕ) (x : A) (s : State) → turn x s ≡ None → repeat turn n x s ≡ Ok (x, s)
  unfolding repeat
  stops zero x s e = refl
  stops (suc n) x s e = ap (λ o. option_map_or (λ a. a >>= λ r. repeat turn n r.0 r.1) o (Ok (x, s))) e

  pub repeat-stops : (x : A) (s : State) (answer : Answer A) → Repeats turn x s answer → turn x s ≡ None → answer ≡ Ok (x, s)
  repeat-stops x s answer r e = r.is ∙ stops r.turns x s e

  fails : (n : ℕ) (x : A) (s : State) (fault : Fault) → length s.left ≤ n → 0 < length s.left → turn x s ≡ Some (Err fault) → repeat turn n x s ≡ Err fault
  unfolding repeat
  fails zero x s fault h some e = absurd (omega arith)
  fails (suc n) x s fault h some e = ap (λ o. option_map_or (λ a. a >>= λ r. repeat turn n r.0 r.1) o (Ok (x, s))) e

  pub repeat-fails : (x : A) (s : State) (answer : Answer A) (fault : Fault) → Repeats turn x s answer → 0 < length s.left → turn x s ≡ Some (Err fault) → answer ≡ Err fault
  repeat-fails x s answer fault r some e = r.is ∙ fails r.turns x s fault r.enough some e

  -- a turn that was refused
  pub reads-refused : (x : A) (old new : State) (answer : Answer A) (e : ReadFault) → Repeats turn x old answer → ((r : Answer A) → turn x old ≡ Some r → 0 < length old.left) → ReadsTurn (Err e) old new (turn x old) → Reads (Err e) new answer
  reads-refused x old new answer (refusals.At fault) r some h = repeat-fails x old answer fault r (some (Err fault) h) h
  reads-refused x old new answer refusals.Memory r some h = tt

  -- no turn more
  pub reads-stopped : (x : A) (old new : State) (answer : Answer A) → Repeats turn x old answer → (turn x old ≡ None) × (new ≡ old) → answer ≡ Ok (x, new)
  reads-stopped x old new answer r h = repeat-stops x old answer r h.0 ∙ ap (λ s. Ok (x, s)) (sym h.1)

-- a sign that was taken was left
pub after_sign-left : (sign : ℕ) (s t : State) → after_sign sign s ≡ Some t → 0 < length s.left
unfolding after_sign next
after_sign-left sign s t e = by s.left s.start s.end e
  where
    by : (ts : List Placed) (start end : ℕ) → after_sign sign (record { left = ts; start = start; end = end }) ≡ Some t → 0 < length ts
    by [] start end h = absurd cc
    by (u ∷ ts) start end h = omega arith

-- a turn more, and none
pub turn-some : {A : Type 0} (o : Option A) (x : A) (old new : State) (turn : Option (Answer A)) → o ≡ Some x → ReadsTurn (Ok o) old new turn → turn ≡ Some (Ok (x, new))
turn-some {A} o x old new turn e h = let P : Option A → Type 0 = λ u. ReadsTurn (Ok u) old new turn in subst P e h

pub turn-none : {A : Type 0} (o : Option A) (old new : State) (turn : Option (Answer A)) → o ≡ None → ReadsTurn (Ok o) old new turn → (turn ≡ None) × (new ≡ old)
turn-none {A} o old new turn e h = let P : Option A → Type 0 = λ u. ReadsTurn (Ok u) old new turn in subst P e h

pub of_some : {A : Type 0} (o : Option A) (x : A) (P : Type 0) → o ≡ Some x → IfSome o (λ _. P) → P
of_some {A} o x P e h = let Q : Option A → Type 0 = λ u. IfSome u (λ _. P) in subst Q e h

pub of_none : {A : Type 0} (o : Option A) (P : Type 0) → o ≡ None → IfNone o P → P
of_none {A} o P e h = let Q : Option A → Type 0 = λ u. IfNone u P in subst Q e h
