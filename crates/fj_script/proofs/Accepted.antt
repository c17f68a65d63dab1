-- Accepted sessions: what is known of their values and questions.
use Rattle.std.proofs.Common.{◌≡◌, ◌≢◌, ℕ, ◌+◌, ◌≤◌, Bool, true, false, cond, ltb, leb, List, [], ◌∷◌, length, Contains, Option, Some, None, Result, Ok, Err, subst, arith}
use Rattle.std.specs.Prelude.{codes}
use Rattle.std.specs.Str.{bytes_eq}
use Rattle.std.proofs.lemmas.Option.{none-some, same_Some}
use Rattle.std.proofs.lemmas.List.Elements.{All-nil}
use Rattle.fj_coeff.specs.Field.{primes}
use Rattle.fj_plain.specs.declared.order_name.OrderName.{OrderName}
use Rattle.fj_plain.specs.declared.order_name.OrderName.TheVariants as orders
use Rattle.fj_text.specs.State.{State, next, state_at}
use Rattle.fj_script.specs.declared.fault.LineFault.{LineFault}
use Rattle.fj_script.specs.declared.statement.Keyword.{Keyword}
use Rattle.fj_script.specs.declared.statement.Keyword.TheVariants as keywords
use Rattle.fj_script.specs.Items.{listed, number, word, word_of}
use Rattle.fj_script.specs.Numbers as numbers
use Rattle.fj_script.specs.Question.{question_at}
use Rattle.fj_script.specs.Ring as rings
use Rattle.fj_script.specs.Script as script
use Rattle.fj_script.specs.Session.{Session, ask, new_session}
use Rattle.fj_script.specs.Statement as statements
use Rattle.fj_script.proofs.AcceptedNumbers.{within_limits}
use Rattle.fj_coeff.specs.Field.{is_prime}
use Rattle.fj_coeff.specs.PrimeTest.{prime_listed}
use Rattle.fj_script.proofs.AcceptedArguments.{IsSoundQuestion}
use Rattle.fj_script.proofs.AcceptedQuestions.{question_sound}
use Rattle.fj_script.proofs.AcceptedDeclarations.{IsSound, ask_sound, at_end_sound, ideal_sound, named_result_sound, point_sound, poly_sound}
use Rattle.fj_script.proofs.AcceptedYields.{Yields, Anything, yielded, yields_anything, yields_if, yields_option, yields_then}

prime_read : (s : State) → Yields (λ p. Contains primes p.0) (rings.prime s)
unfolding rings.prime
prime_read s =
    yields_then Anything (λ p. Contains primes p.0) (number s) _ (yields_anything _)
    (λ n _. yields_if (λ p. Contains primes p.0) (is_prime n.0) _ _ (λ h. prime_listed n.0 h) (λ _. tt))

grevlex_named : orders.Grevlex ≢ orders.Elim
grevlex_named e = cc

grlex_named : orders.Grlex ≢ orders.Elim
grlex_named e = cc

lex_named : orders.Lex ≢ orders.Elim
lex_named e = cc

ring_sound : (s : State) → Yields IsSound (rings.ring s)
unfolding rings.ring
ring_sound s =
    yields_then (λ p. Contains primes p.0) IsSound (rings.prime s) _ (prime_read s)
    (λ p h. yields_then Anything IsSound (listed rings.variable p.1) _ (yields_anything _)
    (λ vs _. let new : IsSound (new_session p.0 vs.0) = record { prime = h; printing = record { named = grevlex_named; positive = omega arith; low = omega arith }; values = All-nil _; earlier = λ i v e. absurd (none-some _ e); asked = All-nil _ } in at_end_sound (new_session p.0 vs.0) new (new_session p.0 vs.0, vs.1) new))

first_sound : (k : Option Keyword) (s : State) → Yields IsSound (statements.first k s)
unfolding statements.first
first_sound (Some keywords.Ring) s = ring_sound s
first_sound (Some keywords.Order) s = tt
first_sound (Some keywords.Budget) s = tt
first_sound (Some keywords.Poly) s = tt
first_sound (Some keywords.Ideal) s = tt
first_sound (Some keywords.Point) s = tt
first_sound (Some keywords.Let) s = tt
first_sound (Some keywords.Ask) s = tt
first_sound None s = tt

-- The orders that sessions name.
order_named : (w : List ℕ) (name : OrderName) → statements.order_of w ≡ Some name → name ≢ orders.Elim
order_named w name = by (bytes_eq w (codes "grevlex")) (bytes_eq w (codes "grlex")) (bytes_eq w (codes "lex"))
  where
    by : (a b c : Bool) → cond a (Some orders.Grevlex) (cond b (Some orders.Grlex) (cond c (Some orders.Lex) None)) ≡ Some name → name ≢ orders.Elim
    by true b c e = subst (λ o. o ≢ orders.Elim) (same_Some _ _ e) grevlex_named
    by false true c e = subst (λ o. o ≢ orders.Elim) (same_Some _ _ e) grlex_named
    by false false true e = subst (λ o. o ≢ orders.Elim) (same_Some _ _ e) lex_named
    by false false false e = absurd (none-some _ e)

module _ (S : Session) (H : IsSound S) where
  order_sound : (s : State) → Yields IsSound (statements.order S s)
  unfolding statements.order
  order_sound s =
      yields_then Anything IsSound (word s) _ (yields_anything _)
      (λ w _. yields_option IsSound (statements.order_of w.0) _ _
      (λ name e. at_end_sound S H (record S { order = name }, w.1) (record { prime = H.prime; printing = record { named = order_named w.0 name e; positive = H.printing.positive; low = H.printing.low }; values = H.values; earlier = H.earlier; asked = H.asked })) tt)

  budget_sound : (s : State) → Yields IsSound (statements.budget S s)
  unfolding statements.budget
  budget_sound s =
      yields_then (λ b. (1 ≤ b.0) × (b.0 ≤ 10000000)) IsSound (numbers.within 1 10000000 s) _ (within_limits 1 10000000 s)
      (λ b k. at_end_sound S H (record S { budget = b.0 }, b.1) (record { prime = H.prime; printing = record { named = H.printing.named; positive = k.0; low = k.1 }; values = H.values; earlier = H.earlier; asked = H.asked }))

  asking_sound : (s : State) → Yields IsSound (statements.asking S s)
  unfolding statements.asking
  asking_sound s =
      yields_if IsSound (leb 4096 (length S.asked)) _ _ (λ _. tt)
      (λ _. yields_then (λ q. IsSoundQuestion S.prime S.values q.0) IsSound (question_at S s) _ (question_sound S s) (λ q h. at_end_sound S H (ask S q.0, q.1) (ask_sound S H q.0 h)))

  later_sound : (k : Option Keyword) (s : State) → Yields IsSound (statements.later k S s)
  unfolding statements.later
  later_sound (Some keywords.Ring) s = tt
  later_sound (Some keywords.Order) s = order_sound s
  later_sound (Some keywords.Budget) s = budget_sound s
  later_sound (Some keywords.Poly) s = poly_sound S H s
  later_sound (Some keywords.Ideal) s = ideal_sound S H s
  later_sound (Some keywords.Point) s = point_sound S H s
  later_sound (Some keywords.Let) s = named_result_sound S H s
  later_sound (Some keywords.Ask) s = asking_sound s
  later_sound None s = tt

-- A session, where there is one yet.
abbrev SoundYet : Option Session → Type 0
SoundYet None = Unit {0}
SoundYet (Some S) = IsSound S

statement_sound : (before : Option Session) → SoundYet before → (k : Option Keyword) (s : State) → Yields IsSound (statements.statement_of before k s)
statement_sound None h k s = first_sound k s
statement_sound (Some S) h k s = later_sound S h k s

line_sound : (before : Option Session) → SoundYet before → (bytes : List ℕ) → Yields SoundYet (statements.line before bytes)
unfolding statements.line statements.statement
line_sound before h bytes =
    yields_option SoundYet (next (state_at bytes 0)) _ _
    (λ t _. yields_then IsSound SoundYet (statements.statement before t.0 t.1) _
    (yields_then Anything IsSound (word_of t.0 t.1) _ (yields_anything _) (λ w _. statement_sound before h (statements.keyword_of w.0) w.1)) (λ S k. k)) h

in_line_sound : (number : ℕ) (r : Result (Option Session) LineFault) → Yields SoundYet r → Yields SoundYet (script.in_line number r)
in_line_sound number (Ok o) h = h
in_line_sound number (Err fault) h = tt

from_line_sound : (number : ℕ) (before : Option Session) → SoundYet before → (ls : List (List ℕ)) → Yields SoundYet (script.from_line number before ls)
unfolding script.from_line
from_line_sound number before h [] = h
from_line_sound number before h (l ∷ ls) =
    yields_then SoundYet SoundYet (script.in_line number (statements.line before l)) _ (in_line_sound number (statements.line before l) (line_sound before h l))
    (λ after k. from_line_sound (number + 1) after k ls)

with_ring_sound : (o : Option Session) → SoundYet o → Yields IsSound (script.with_ring o)
with_ring_sound None h = tt
with_ring_sound (Some S) h = h

script_sound : (bytes : List ℕ) → Yields IsSound (script.script bytes)
unfolding script.script
script_sound bytes =
    yields_if IsSound (ltb 1048576 (length bytes)) _ _ (λ _. tt)
    (λ _. yields_then SoundYet IsSound (script.from_line 1 None (script.lines bytes)) script.with_ring (from_line_sound 1 None tt (script.lines bytes)) with_ring_sound)

-- An accepted session is sound.
pub accepted_sound : (bytes : List ℕ) (S : Session) → script.script bytes ≡ Ok S → IsSound S
accepted_sound bytes S e = yielded IsSound (script.script bytes) S e (script_sound bytes)
