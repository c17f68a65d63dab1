-- Where the faults of a line stand: within the line.
use Rattle.std.proofs.Common.{◌≡◌, ℕ, zero, suc, ◌≤◌, Bool, ◌||◌, nat_le, if◌then◌else◌, List, [], ◌∷◌, ◌++◌, length, Option, Some, None, Result, Ok, Err, subst}
use Rattle.std.specs.Option.{is_some, option_map_or}
use Rattle.fj_coeff.specs.PrimeField.{prime_field}
use Rattle.fj_text.specs.Expression as text
use Rattle.fj_theory.specs.Polynomial.{Polynomial}
use Rattle.fj_text.specs.State.{State, after_sign, next, state_at}
use Rattle.fj_text.specs.Token.{Token, Word, Number, Sign, BadByte, closing, minus, opening}
use Rattle.fj_text.specs.Word.{place_of}
use Rattle.fj_script.specs.declared.fault.LineFault.{LineFault}
use Rattle.fj_script.specs.declared.ask.Ask.{Ask}
use Rattle.fj_script.specs.declared.ask.Ask.TheVariants as asks
use Rattle.fj_script.specs.declared.fault.FaultKind.{FaultKind}
use Rattle.fj_script.specs.declared.statement.Keyword.{Keyword}
use Rattle.fj_script.specs.declared.statement.Keyword.TheVariants as keywords
use Rattle.fj_script.specs.declared.value.Kind.{Kind}
use Rattle.fj_script.specs.declared.value.Kind.TheVariants as kinds
use Rattle.fj_script.specs.LineFault.{Answer, ◌>>=◌, not_here}
use Rattle.fj_script.specs.Items.{at_end, comma, enclosed, equals, listed, more, narrow, number, number_of, sign, slash, taking, word, word_of}
use Rattle.fj_script.specs.Session.{Session, Terms}
use Rattle.fj_script.specs.Names as names
use Rattle.fj_script.specs.Names.{declared, declared_by, declared_names, is_variable, meaning, new_name, of_kind, point_by}
use Rattle.fj_script.specs.Ring.{prime, ring, variable}
use Rattle.fj_script.specs.Declaration as declaration
use Rattle.fj_script.specs.Declaration.{coordinate, counted, expression, generator, name_equals, of_text}
use Rattle.fj_script.specs.Numbers.{exponent, level, lowest, ratio, ratio_of, within}
use Rattle.fj_script.specs.Question as question
use Rattle.fj_script.specs.Question.{arguments, ask_of, ideal_ask_of, ideal_question_at, question_at, question_by, target_at, target_of}
use Rattle.fj_script.specs.Statement.{asking, budget, first, later, line, order, statement, statement_of}
use Rattle.fj_script.proofs.Places.{IsNear, Near, Stands, at_next, at_sign, choose, expression_near, faulty, fine, unexpected_near}
use Rattle.fj_script.proofs.Tokens.{line_near}

module _ (n : ℕ) where
  -- A value, or a fault within n columns; an answer has a state after it, within them too.
  abbrev pub Ends : {A : Type 0} → (A → Type 0) → Result A LineFault → Type 0
  Ends P result = Stands (λ (e : LineFault). e.column) n P result

  abbrev pub Gives : {A : Type 0} → Answer A → Type 0
  Gives answer = Ends (λ r. IsNear n r.1) answer

  abbrev pub Stops : {A : Type 0} → Result A LineFault → Type 0
  Stops result = Ends (λ _. Unit {0}) result

  bind : {A B : Type 0} {P : A → Type 0} {Q : B → Type 0} (r : Result A LineFault) (f : A → Result B LineFault) → Ends P r → ((x : A) → P x → Ends Q (f x)) → Ends Q (r >>= f)
  bind (Ok x) f (fine p) g = g x p
  bind (Err e) f (faulty near) g = faulty near

  either : {A : Type 0} {P : A → Type 0} (b : Bool) (x y : Result A LineFault) → Ends P x → Ends P y → Ends P (if b then x else y)
  either {A = A} {P = P} b x y p q = choose {R = Result A LineFault} (λ r. Ends {A = A} P r) b x y p q

  some_or : {X A : Type 0} {P : A → Type 0} (o : Option X) (f : X → Result A LineFault) (d : Result A LineFault) → ((x : X) → Ends P (f x)) → Ends P d → Ends P (option_map_or f o d)
  some_or None f d each none = none
  some_or (Some x) f d each none = each x

  on_next : {A : Type 0} {P : A → Type 0} (f : Token × State → Result A LineFault) (d : Result A LineFault) (s : State) → IsNear n s → ((t : Token × State) → IsNear n t.1 → Ends P (f t)) → Ends P d → Ends P (option_map_or f (next s) d)
  on_next {A = A} {P = P} f d s near some none = at_next n {R = Result A LineFault} (λ r. Ends {A = A} P r) f d s near some none

  on_sign : {A : Type 0} {P : A → Type 0} (f : State → Result A LineFault) (d : Result A LineFault) (b : ℕ) (s : State) → IsNear n s → ((t : State) → IsNear n t → Ends P (f t)) → Ends P d → Ends P (option_map_or f (after_sign b s) d)
  on_sign {A = A} {P = P} f d b s near some none = at_sign n {R = Result A LineFault} (λ r. Ends {A = A} P r) f d b s near some none

  taking_ends : {A : Type 0} (read : Token → State → Answer A) → ((t : Token) (s : State) → IsNear n s → Gives (read t s)) → (s : State) → IsNear n s → Gives (taking read s)
  taking_ends read each s near = on_next (λ t. read t.0 t.1) (Err (not_here s)) s near (λ t. each t.0 t.1) (faulty (unexpected_near n s near))

  word_of_ends : (t : Token) (s : State) → IsNear n s → Gives (word_of t s)
  unfolding word_of
  word_of_ends (Word w) s near = fine near
  word_of_ends (Number k) s near = faulty near.start
  word_of_ends (Sign b) s near = faulty near.start
  word_of_ends BadByte s near = faulty near.start

  number_of_ends : (t : Token) (s : State) → IsNear n s → Gives (number_of t s)
  unfolding number_of
  number_of_ends (Number k) s near = fine near
  number_of_ends (Word w) s near = faulty near.start
  number_of_ends (Sign b) s near = faulty near.start
  number_of_ends BadByte s near = faulty near.start

  word_ends : (s : State) → IsNear n s → Gives (word s)
  unfolding word
  word_ends s near = taking_ends word_of word_of_ends s near

  number_ends : (s : State) → IsNear n s → Gives (number s)
  unfolding number
  number_ends s near = taking_ends number_of number_of_ends s near

  narrow_ends : (s : State) → IsNear n s → Gives (narrow s)
  unfolding narrow
  narrow_ends s near = bind _ _ (number_ends s near) (λ k now. either _ _ _ (faulty now.start) (fine now))

  sign_ends : (b : ℕ) (s : State) → IsNear n s → Ends (λ t. IsNear n t) (sign b s)
  unfolding sign
  sign_ends b s near = on_sign (λ t. Ok t) (Err (not_here s)) b s near (λ t now. fine now) (faulty (unexpected_near n s near))

  at_end_ends : {A : Type 0} (x : A) (s : State) → IsNear n s → Stops (at_end (x, s))
  unfolding at_end
  at_end_ends x s near = on_next (λ _. Err (not_here s)) (Ok x) s near (λ t now. faulty (unexpected_near n s near)) (fine tt)

  more_ends : {A : Type 0} (item : List A → State → Answer A) → ((xs : List A) (s : State) → IsNear n s → Gives (item xs s)) → (turns : ℕ) (xs : List A) (s : State) → IsNear n s → Gives (more item turns xs s)
  unfolding more
  more_ends item each zero xs s near = fine near
  more_ends item each (suc turns) xs s near = on_sign _ _ comma s near (λ t now. bind _ _ (each xs t now) (λ x last. more_ends item each turns (xs ++ x.0 ∷ []) x.1 last)) (fine near)

  listed_ends : {A : Type 0} (item : List A → State → Answer A) → ((xs : List A) (s : State) → IsNear n s → Gives (item xs s)) → (s : State) → IsNear n s → Gives (listed item s)
  unfolding listed
  listed_ends item each s near = bind _ _ (each [] s near) (λ x now. more_ends item each _ _ x.1 now)

  enclosed_ends : {A : Type 0} (inside : State → Answer A) → ((s : State) → IsNear n s → Gives (inside s)) → (s : State) → IsNear n s → Gives (enclosed inside s)
  unfolding enclosed
  enclosed_ends inside each s near = bind _ _ (sign_ends opening s near) (λ t now. bind _ _ (each t now) (λ x behind. bind _ _ (sign_ends closing x.1 behind) (λ t last. fine last)))

  new_name_ends : (S : Session) (s : State) → IsNear n s → Gives (new_name S s)
  unfolding new_name
  new_name_ends S s near =
      bind _ _ (word_ends s near)
      (λ w now. either (is_variable S w.0 || is_some (place_of (declared_names S.values) w.0)) _ _ (faulty now.start) (either (nat_le 4096 (length S.values)) _ _ (faulty now.start) (fine now)))

  declared_by_ends : (S : Session) (t : Token) (s : State) → IsNear n s → Gives (declared_by S t s)
  unfolding declared_by
  declared_by_ends S t s near = bind _ _ (word_of_ends t s near) (λ w now. some_or _ _ _ (λ v. fine now) (faulty now.start))

  declared_ends : (S : Session) (s : State) → IsNear n s → Gives (declared S s)
  unfolding declared
  declared_ends S s near = taking_ends (declared_by S) (declared_by_ends S) s near

  of_kind_ends : (taken : Kind → Option FaultKind) (v : (ℕ × Kind) × State) → IsNear n v.1 → Gives (of_kind taken v)
  of_kind_ends taken v near = some_or (taken v.0.1) _ _ (λ fault. faulty near.start) (fine near)

  polynomial_ends : (S : Session) (s : State) → IsNear n s → Gives (names.polynomial S s)
  unfolding names.polynomial
  polynomial_ends S s near = bind _ _ (declared_ends S s near) (of_kind_ends _)

  nonconstant_ends : (S : Session) (s : State) → IsNear n s → Gives (names.nonconstant S s)
  unfolding names.nonconstant
  nonconstant_ends S s near = bind _ _ (declared_ends S s near) (of_kind_ends _)

  ideal_named_ends : (S : Session) (s : State) → IsNear n s → Gives (names.ideal S s)
  unfolding names.ideal
  ideal_named_ends S s near = bind _ _ (declared_ends S s near) (of_kind_ends _)

  point_by_ends : (S : Session) (t : Token) (s : State) → IsNear n s → Gives (point_by S t s)
  unfolding point_by
  point_by_ends S t s near = bind _ _ (declared_by_ends S t s near) (of_kind_ends _)

  prime_ends : (s : State) → IsNear n s → Gives (prime s)
  unfolding prime
  prime_ends s near = bind _ _ (number_ends s near) (λ p now. either _ _ _ (fine now) (faulty now.start))

  variable_ends : (names : List (List ℕ)) (s : State) → IsNear n s → Gives (variable names s)
  unfolding variable
  variable_ends names s near =
      bind _ _ (word_ends s near) (λ w now. either (nat_le 7 (length names)) _ _ (faulty now.start) (either (is_some (place_of names w.0)) _ _ (faulty now.start) (fine now)))

  ring_ends : (s : State) → IsNear n s → Stops (ring s)
  unfolding ring
  ring_ends s near = bind _ _ (prime_ends s near) (λ p now. bind _ _ (listed_ends variable variable_ends p.1 now) (λ names last. at_end_ends _ names.1 last))

  of_text_ends : (answer : text.Answer Polynomial) → Near n answer → Gives (of_text answer)
  of_text_ends (Ok (f, s)) (fine near) = fine near
  of_text_ends (Err fault) (faulty near) = faulty near

  expression_ends : (S : Session) (s : State) → IsNear n s → Gives (expression S s)
  unfolding expression
  expression_ends S s near = of_text_ends _ (expression_near n (prime_field S.prime) (meaning S) s near)

  counted_ends : (S : Session) (terms : ℕ) (s : State) → IsNear n s → Gives (counted S terms s)
  unfolding counted
  counted_ends S terms s near = bind _ _ (expression_ends S s near) (λ f now. either _ _ _ (faulty now.start) (fine now))

  name_equals_ends : (S : Session) (s : State) → IsNear n s → Gives (name_equals S s)
  unfolding name_equals
  name_equals_ends S s near = bind _ _ (new_name_ends S s near) (λ name now. bind _ _ (sign_ends equals name.1 now) (λ e last. fine last))

  poly_ends : (S : Session) (s : State) → IsNear n s → Stops (declaration.poly S s)
  unfolding declaration.poly
  poly_ends S s near = bind _ _ (name_equals_ends S s near) (λ name now. bind _ _ (counted_ends S _ name.1 now) (λ f last. at_end_ends _ f.1 last))

  generator_ends : (S : Session) (fs : List Terms) (s : State) → IsNear n s → Gives (generator S fs s)
  unfolding generator
  generator_ends S fs s near = either _ _ _ (faulty near.start) (counted_ends S _ s near)

  ideal_ends : (S : Session) (s : State) → IsNear n s → Stops (declaration.ideal S s)
  unfolding declaration.ideal
  ideal_ends S s near =
      bind _ _ (name_equals_ends S s near)
      (λ name now. bind _ _ (enclosed_ends (listed (generator S)) (listed_ends (generator S) (generator_ends S)) name.1 now) (λ fs last. at_end_ends _ fs.1 last))

  constant_ends : (p : ℕ) (s : State) → IsNear n s → Gives (declaration.constant p s)
  unfolding declaration.constant
  constant_ends p s near = on_sign _ _ minus s near (λ t now. bind _ _ (narrow_ends t now) (λ k last. fine last)) (bind _ _ (narrow_ends s near) (λ k last. fine last))

  coordinate_ends : (S : Session) (cs : List ℕ) (s : State) → IsNear n s → Gives (coordinate S cs s)
  unfolding coordinate
  coordinate_ends S cs s near = either _ _ _ (faulty near.start) (constant_ends S.prime s near)

  point_ends : (S : Session) (s : State) → IsNear n s → Stops (declaration.point S s)
  unfolding declaration.point
  point_ends S s near =
      bind _ _ (name_equals_ends S s near)
      (λ name now. bind _ _ (enclosed_ends (listed (coordinate S)) (listed_ends (coordinate S) (coordinate_ends S)) name.1 now)
      (λ cs last. either _ _ _ (faulty last.start) (at_end_ends _ cs.1 last)))

  within_ends : (low high : ℕ) (s : State) → IsNear n s → Gives (within low high s)
  unfolding within
  within_ends low high s near = bind _ _ (narrow_ends s near) (λ k now. either _ _ _ (faulty now.start) (fine now))

  exponent_ends : (s : State) → IsNear n s → Gives (exponent s)
  unfolding exponent
  exponent_ends s near = within_ends 0 12 s near

  level_ends : (p : ℕ) (s : State) → IsNear n s → Gives (level p s)
  unfolding level
  level_ends p s near = bind _ _ (narrow_ends s near) (λ k now. either _ _ _ (faulty now.start) (fine now))

  ratio_of_ends : (positive : Bool) (k m : ℕ) (s : State) → IsNear n s → Gives (ratio_of positive k m s)
  unfolding ratio_of
  ratio_of_ends positive k m s near = some_or (lowest k m) _ _ (λ t. either _ _ _ (fine near) (faulty near.start)) (faulty near.start)

  ratio_ends : (positive : Bool) (s : State) → IsNear n s → Gives (ratio positive s)
  unfolding ratio
  ratio_ends positive s near =
      bind _ _ (narrow_ends s near)
      (λ k now. on_sign _ _ slash k.1 now (λ t behind. bind _ _ (narrow_ends t behind) (λ m last. ratio_of_ends positive k.0 m.0 m.1 last)) (ratio_of_ends positive k.0 1 k.1 now))

  target_of_ends : (v : (ℕ × Kind) × State) → IsNear n v.1 → Gives (target_of v)
  target_of_ends ((i, kinds.Ideal), s) near = fine near
  target_of_ends ((i, kinds.Point), s) near = fine near
  target_of_ends ((i, kinds.Nonconstant), s) near = faulty near.start
  target_of_ends ((i, kinds.Constant), s) near = faulty near.start

  target_at_ends : (S : Session) (s : State) → IsNear n s → Gives (target_at S s)
  unfolding target_at
  target_at_ends S s near = bind _ _ (declared_ends S s near) target_of_ends

  arguments_ends : (ask : Ask) (S : Session) (s : State) → IsNear n s → Gives (arguments ask S s)
  unfolding arguments question.parts question.member question.of_ideal question.of_two_ideals question.of_frobenius question.of_test_ideal question.jumps question.nu question.threshold question.pure question.compatible
  arguments_ends asks.Parts S s near = bind _ _ (exponent_ends s near) (λ e now. bind _ _ (polynomial_ends S e.1 now) (λ f last. fine last))
  arguments_ends asks.Member S s near = bind _ _ (polynomial_ends S s near) (λ f now. bind _ _ (ideal_named_ends S f.1 now) (λ j last. fine last))
  arguments_ends (asks.OneIdeal which) S s near = bind _ _ (ideal_named_ends S s near) (λ j last. fine last)
  arguments_ends (asks.TwoIdeals which) S s near = bind _ _ (ideal_named_ends S s near) (λ j now. bind _ _ (ideal_named_ends S j.1 now) (λ k last. fine last))
  arguments_ends (asks.Frobenius which) S s near = bind _ _ (exponent_ends s near) (λ e now. bind _ _ (ideal_named_ends S e.1 now) (λ j last. fine last))
  arguments_ends (asks.TestIdeal which) S s near = bind _ _ (nonconstant_ends S s near) (λ f now. bind _ _ (ratio_ends _ f.1 now) (λ t last. fine last))
  arguments_ends asks.Jumps S s near = bind _ _ (nonconstant_ends S s near) (λ f now. bind _ _ (level_ends S.prime f.1 now) (λ e last. fine last))
  arguments_ends asks.Nu S s near =
      bind _ _ (exponent_ends s near) (λ e now. bind _ _ (nonconstant_ends S e.1 now) (λ f behind. bind _ _ (ideal_named_ends S f.1 behind) (λ j last. fine last)))
  arguments_ends asks.Threshold S s near =
      bind _ _ (nonconstant_ends S s near) (λ f now. bind _ _ (target_at_ends S f.1 now) (λ x behind. bind _ _ (level_ends S.prime x.1 behind) (λ e last. fine last)))
  arguments_ends asks.Pure S s near =
      bind _ _ (ideal_named_ends S s near) (λ j now. on_next _ _ j.1 now (λ t behind. bind _ _ (point_by_ends S t.0 t.1 behind) (λ at last. fine last)) (fine now))
  arguments_ends asks.Compatible S s near =
      bind _ _ (exponent_ends s near) (λ e now. bind _ _ (polynomial_ends S e.1 now) (λ u behind. bind _ _ (ideal_named_ends S u.1 behind) (λ j last. fine last)))

  question_by_ends : (named : List ℕ → Option Ask) (S : Session) (s : State) → IsNear n s → Gives (question_by named S s)
  unfolding question_by
  question_by_ends named S s near = bind _ _ (word_ends s near) (λ w now. some_or _ _ _ (λ ask. arguments_ends ask S w.1 now) (faulty now.start))

  question_ends : (S : Session) (s : State) → IsNear n s → Gives (question_at S s)
  unfolding question_at
  question_ends S s near = question_by_ends ask_of S s near

  ideal_question_ends : (S : Session) (s : State) → IsNear n s → Gives (ideal_question_at S s)
  unfolding ideal_question_at
  ideal_question_ends S s near = question_by_ends ideal_ask_of S s near

  named_result_ends : (S : Session) (s : State) → IsNear n s → Stops (declaration.named_result S s)
  unfolding declaration.named_result
  named_result_ends S s near = bind _ _ (name_equals_ends S s near) (λ name now. bind _ _ (ideal_question_ends S name.1 now) (λ q last. at_end_ends _ q.1 last))

  order_ends : (S : Session) (s : State) → IsNear n s → Stops (order S s)
  unfolding order
  order_ends S s near = bind _ _ (word_ends s near) (λ w now. some_or _ _ _ (λ name. at_end_ends _ w.1 now) (faulty now.start))

  budget_ends : (S : Session) (s : State) → IsNear n s → Stops (budget S s)
  unfolding budget
  budget_ends S s near = bind _ _ (within_ends 1 10000000 s near) (λ b now. at_end_ends _ b.1 now)

  asking_ends : (S : Session) (s : State) → IsNear n s → Stops (asking S s)
  unfolding asking
  asking_ends S s near = either _ _ _ (faulty near.start) (bind _ _ (question_ends S s near) (λ q now. at_end_ends _ q.1 now))

  statement_of_ends : (before : Option Session) (w : Option Keyword) (s : State) → IsNear n s → Stops (statement_of before w s)
  unfolding first later
  statement_of_ends None (Some keywords.Ring) s near = ring_ends s near
  statement_of_ends None (Some keywords.Order) s near = faulty near.start
  statement_of_ends None (Some keywords.Budget) s near = faulty near.start
  statement_of_ends None (Some keywords.Poly) s near = faulty near.start
  statement_of_ends None (Some keywords.Ideal) s near = faulty near.start
  statement_of_ends None (Some keywords.Point) s near = faulty near.start
  statement_of_ends None (Some keywords.Let) s near = faulty near.start
  statement_of_ends None (Some keywords.Ask) s near = faulty near.start
  statement_of_ends None None s near = faulty near.start
  statement_of_ends (Some S) (Some keywords.Ring) s near = faulty near.start
  statement_of_ends (Some S) (Some keywords.Order) s near = order_ends S s near
  statement_of_ends (Some S) (Some keywords.Budget) s near = budget_ends S s near
  statement_of_ends (Some S) (Some keywords.Poly) s near = poly_ends S s near
  statement_of_ends (Some S) (Some keywords.Ideal) s near = ideal_ends S s near
  statement_of_ends (Some S) (Some keywords.Point) s near = point_ends S s near
  statement_of_ends (Some S) (Some keywords.Let) s near = named_result_ends S s near
  statement_of_ends (Some S) (Some keywords.Ask) s near = asking_ends S s near
  statement_of_ends (Some S) None s near = faulty near.start

  statement_ends : (before : Option Session) (t : Token) (s : State) → IsNear n s → Stops (statement before t s)
  unfolding statement
  statement_ends before t s near = bind _ _ (word_of_ends t s near) (λ w now. statement_of_ends before _ w.1 now)

  line_ends : (before : Option Session) (bytes : List ℕ) → IsNear n (state_at bytes 0) → Stops (line before bytes)
  unfolding line
  line_ends before bytes near = on_next _ _ (state_at bytes 0) near (λ t now. bind _ _ (statement_ends before t.0 t.1 now) (λ S done. fine tt)) (fine tt)

  fault_within : {A : Type 0} (result : Result A LineFault) (fault : LineFault) → Stops result → result ≡ Err fault → fault.column ≤ n
  fault_within (Ok x) fault h e = absurd cc
  fault_within (Err other) fault (faulty near) e = let same : other ≡ fault = cc in subst (λ f. f.column ≤ n) same near

-- The fault of a line stands in it, or right behind its last byte.
pub fault_in_line : (before : Option Session) (bytes : List ℕ) (fault : LineFault) → line before bytes ≡ Err fault → fault.column ≤ length bytes
fault_in_line before bytes fault e = fault_within (length bytes) (line before bytes) fault (line_ends (length bytes) before bytes (line_near bytes)) e
