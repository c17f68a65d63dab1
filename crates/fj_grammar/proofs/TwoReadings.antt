-- Two lines that begin with the same tokens: each rule of sessions reads them alike.
use Rattle.std.proofs.Common.{◌≡◌, ℕ, zero, suc, ◌+◌, ◌%◌, ◌^◌, ◌==◌, Bool, true, false, cond, ◌||◌, leb, ltb, eqb, List, [], ◌∷◌, ◌++◌, ◌≤◌, length, All, Option, Some, None, Result, Ok, Err, refl, ap, subst, inl, inr}
use Rattle.std.specs.Option.{is_some, option_map, option_map_or}
use Rattle.fj_coeff.specs.Field.{Field, is_prime}
use Rattle.fj_coeff.specs.PrimeField.{prime_field}
use Rattle.fj_theory.specs.MonomialOrder.{grevlex_key}
use Rattle.fj_theory.specs.Polynomial.{Polynomial, negation, product, sum, terms_falling}
use Rattle.fj_text.specs.declared.fault.Cause.{Cause}
use Rattle.fj_text.specs.declared.fault.Cause.TheVariants as causes
use Rattle.fj_text.specs.declared.fault.Fault as faults
use Rattle.fj_text.specs.declared.scope.Meaning.{Meaning}
use Rattle.fj_text.specs.declared.scope.Meaning.TheVariants as meanings
use Rattle.fj_text.specs.Expression as text
use Rattle.fj_text.specs.State.{State, after, after_sign, end_of, next, unexpected}
use Rattle.fj_text.specs.Token.{Token, Word, Number, Sign, BadByte, Placed, caret, closing, minus, opening, plus, star}
use Rattle.fj_text.specs.Word.{place_of}
use Rattle.fj_script.specs.declared.ask.Ask.{Ask}
use Rattle.fj_script.specs.declared.ask.Ask.TheVariants as asks
use Rattle.fj_script.specs.declared.fault.FaultKind.{FaultKind}
use Rattle.fj_script.specs.declared.fault.FaultKind.TheVariants as kinds
use Rattle.fj_script.specs.declared.fault.LineFault.{LineFault}
use Rattle.fj_script.specs.declared.question.Question.TheVariants as questions
use Rattle.fj_script.specs.declared.statement.Keyword.{Keyword}
use Rattle.fj_script.specs.declared.statement.Keyword.TheVariants as keywords
use Rattle.fj_script.specs.declared.value.Kind.{Kind}
use Rattle.fj_script.specs.declared.value.Kind.TheVariants as values
use Rattle.fj_script.specs.Declaration as declaration
use Rattle.fj_script.specs.Items.{at_end, enclosed, equals, listed, narrow, number, number_of, slash, taking, word, word_of}
use Rattle.fj_script.specs.LineFault.{Answer, ◌>>=◌, fault_at, not_here}
use Rattle.fj_script.specs.Names as names
use Rattle.fj_script.specs.Numbers as numbers
use Rattle.fj_script.specs.Question as question
use Rattle.fj_script.specs.Ring as rings
use Rattle.fj_script.specs.Session.{Session, Terms, Poly, Ideal, Point, Let, ask, declare, new_session, terms_in}
use Rattle.fj_script.specs.Statement as statements
use Rattle.fj_grammar.proofs.TwoRuns.{AlongAnswer, AlongStop, Any, IsAhead, IsEdge, after_near, edge_ahead, stands_then, taken, AreBehindBoth, IsRule, IsStop, IsTurn, Low, Stands, alike, choice_rule, choice_stop, enclosed_rule, end_stop, fault_rule, fault_stop, faulty, fine, idle_rule, later_rule, later_stop, listed_rule, next_else, next_rule, no_turn_more, option_rule, option_stop, repeat_rule, same, sign_else, sign_or, sign_then, sign_turn, then_rule, then_stop, value_rule, void, well, wrong_rule}

pub mapped : {X Y : Type 0} (f : X → Y) (o : Option X) → option_map_or (λ x. Some (f x)) o None ≡ option_map f o
mapped f (Some x) = refl
mapped f None = refl

of_text_stands : {P : ℕ → Type 0} {Q : Polynomial × State → Type 0} {R : Terms × State → Type 0} (answer : text.Answer Polynomial) → Stands (λ (e : faults.Fault). e.place) P Q answer → ((f : Polynomial) (s : State) → Q (f, s) → R (terms_falling grevlex_key f, s))
    → Stands (λ (e : LineFault). e.column) P R (declaration.of_text answer)
of_text_stands answer (well {x = (f, s)} h) k = well (k f s h)
of_text_stands answer (faulty h) k = faulty h

-- A line, from its tokens on.
abbrev pub line_from : Option Session → State → Result (Option Session) LineFault
line_from before s = option_map_or (λ t. statements.statement before t.0 t.1 >>= λ S. Ok (Some S)) (next s) (Ok before)

module _ (M : Type 0) (b c : ℕ) (r q : List Placed) (H : AreBehindBoth M b c r q) where
  -- ---- expressions

  abbrev TextRule : {A : Type 0} → Bool → (State → text.Answer A) → Type 0
  TextRule k R = IsRule M b c r q (λ (e : faults.Fault). e.place) k false R

  text_then : {A B : Type 0} (k : Bool) (R : State → text.Answer A) (f : A × State → text.Answer B) → TextRule k R → ((x : A) → TextRule false (λ s. f (x, s))) → TextRule k (λ s. R s >>= f)
  text_then k R f = then_rule M b c r q k false R false f

  text_value : {A : Type 0} (x : A) → TextRule false (λ s. Ok (x, s))
  text_value x = value_rule M b c r q (λ (e : faults.Fault). e.place) x

  text_fault : {A : Type 0} (cause : Cause) → TextRule {A = A} false (λ s. Err (record { cause = cause; place = s.start }))
  text_fault {A} cause = fault_rule M b c r q {A = A} (λ (e : faults.Fault). e.place) false (λ n. record { cause = cause; place = n }) (λ n. refl)

  text_if : {A : Type 0} (k test : Bool) (R Q : State → text.Answer A) → TextRule k R → TextRule k Q → TextRule k (λ s. cond test (R s) (Q s))
  text_if k test R Q = choice_rule M b c r q (λ (e : faults.Fault). e.place) k false test R Q

  text_taking : {A : Type 0} (read : Token → State → text.Answer A) → ((tok : Token) → TextRule false (read tok)) → TextRule true (text.taking read)
  text_taking read each = next_rule M b c r q H (λ (e : faults.Fault). e.place) (λ t. read t.0 t.1) unexpected (λ s. refl) false each

  text_later : {A : Type 0} (R : State → text.Answer A) → TextRule true R → TextRule false R
  text_later R = later_rule M b c r q (λ (e : faults.Fault). e.place) false R

  unexpected_alone : (t : Placed) (ts us : List Placed) (start end : ℕ) → unexpected (record { left = t ∷ ts; start = start; end = end }) ≡ unexpected (record { left = t ∷ us; start = start; end = end })
  unfolding unexpected
  unexpected_alone t ts us start end = refl

  constant_rule : (F : Field) (n : ℕ) → TextRule false (text.constant F n)
  unfolding text.constant
  constant_rule F n = text_if false (text.is_wide n) _ _ (text_fault causes.Wide) (text_value _)

  variable_rule : (m : Meaning) → TextRule false (text.variable m)
  unfolding text.variable
  variable_rule (meanings.Variable i) = text_value _
  variable_rule meanings.Unknown = text_fault causes.Unknown
  variable_rule meanings.OtherKind = text_fault causes.Kind

  exponent_of_rule : (tok : Token) → TextRule false (text.exponent_of tok)
  unfolding text.exponent_of
  exponent_of_rule (Number n) = text_if false (text.is_wide n) _ _ (text_fault causes.Wide) (text_if false (ltb 1000 n) _ _ (text_fault causes.Large) (text_value n))
  exponent_of_rule (Word w) = text_fault causes.Syntax
  exponent_of_rule (Sign s) = text_fault causes.Syntax
  exponent_of_rule BadByte = text_fault causes.Byte

  formed_rule : (o : Option Polynomial) → TextRule false (text.formed o)
  formed_rule None = text_fault causes.Large
  formed_rule (Some f) = text_value f

  module _ (F : Field) (meaning : List ℕ → Meaning) where
    module _ (inside : State → text.Answer Polynomial) (I : TextRule false inside) where
      atom_of_rule : (tok : Token) → TextRule false (text.atom_of F meaning inside tok)
      unfolding text.atom_of
      atom_of_rule (Number n) = constant_rule F n
      atom_of_rule (Word w) = variable_rule (meaning w)
      atom_of_rule (Sign s) = text_if false (s == opening) inside _ I (text_fault causes.Syntax)
      atom_of_rule BadByte = text_fault causes.Byte

      factor_rule : TextRule true (text.factor F meaning inside)
      unfolding text.factor text.atom
      factor_rule =
          text_then true (text.atom F meaning inside) _ (text_taking (text.atom_of F meaning inside) atom_of_rule)
          (λ base. sign_or M b c r q H (λ (e : faults.Fault). e.place) false false caret _ (λ s. Ok (base, s))
          (text_then true (text.taking text.exponent_of) _ (text_taking text.exponent_of exponent_of_rule) (λ k. formed_rule (text.power_within F base k))) (text_value base))

      times_rule : (f : Polynomial) → IsTurn M b c r q H (text.times_factor F meaning inside f)
      unfolding text.times_factor
      times_rule f =
          let times : State → text.Answer Polynomial = λ t. text.factor F meaning inside t >>= λ g. text.formed (text.within (product F f g.0)) g.1 in
          let turn = sign_turn M b c r q H star times (λ s. None) (text_then true (text.factor F meaning inside) _ factor_rule (λ g. formed_rule (text.within (product F f g)))) (no_turn_more M b c r q H) in
          subst (IsTurn M b c r q H) (λ i. λ s. mapped times (after_sign star s) i) turn

      term_rule : TextRule true (text.term_at F meaning inside)
      unfolding text.term_at
      term_rule = text_then true (text.factor F meaning inside) _ factor_rule (λ f. repeat_rule M b c r q H (text.times_factor F meaning inside) times_rule f)

      first_rule : TextRule true (text.first_term F meaning inside)
      unfolding text.first_term
      first_rule = sign_or M b c r q H (λ (e : faults.Fault). e.place) true false minus _ (text.term_at F meaning inside) (text_then true (text.term_at F meaning inside) _ term_rule (λ f. text_value (negation F f))) term_rule

      plus_rule : (f : Polynomial) → IsTurn M b c r q H (text.plus_term F meaning inside f)
      unfolding text.plus_term
      plus_rule f =
          let added : State → text.Answer Polynomial = λ t. text.term_at F meaning inside t >>= λ g. text.formed (text.within (sum F f g.0)) g.1 in
          let less : State → text.Answer Polynomial = λ t. text.term_at F meaning inside t >>= λ g. text.formed (text.within (sum F f (negation F g.0))) g.1 in
          let other = sign_turn M b c r q H minus less (λ s. None) (text_then true (text.term_at F meaning inside) _ term_rule (λ g. formed_rule (text.within (sum F f (negation F g))))) (no_turn_more M b c r q H) in
          sign_turn M b c r q H plus added (λ s. option_map less (after_sign minus s)) (text_then true (text.term_at F meaning inside) _ term_rule (λ g. formed_rule (text.within (sum F f g))))
          (subst (IsTurn M b c r q H) (λ i. λ s. mapped less (after_sign minus s) i) other)

      sum_rule : TextRule true (text.sum_at F meaning inside)
      unfolding text.sum_at
      sum_rule = text_then true (text.first_term F meaning inside) _ first_rule (λ f. repeat_rule M b c r q H (text.plus_term F meaning inside) plus_rule f)

    parenthesised_rule : (depth : ℕ) → TextRule false (text.parenthesised F meaning depth)
    unfolding text.parenthesised
    parenthesised_rule zero = text_fault causes.Large
    parenthesised_rule (suc depth) =
        let wrong : TextRule {A = Polynomial} true (λ s. Err (unexpected s)) = wrong_rule M b c r q H (λ (e : faults.Fault). e.place) false unexpected (λ s. refl) unexpected_alone in
        text_later _ (text_then true (text.sum_at F meaning (text.parenthesised F meaning depth)) _ (sum_rule (text.parenthesised F meaning depth) (parenthesised_rule depth))
        (λ f. sign_else M b c r q H (λ (e : faults.Fault). e.place) false false closing (λ t. Ok (f, t)) (λ s. Err (unexpected s)) (text_value f) (text_later _ wrong) (λ s h. wrong.low s h)))

    expression_rule : TextRule true (text.expression F meaning)
    unfolding text.expression
    expression_rule = sum_rule (text.parenthesised F meaning 64) (parenthesised_rule 64)

  -- ---- statements

  abbrev Rule : {A : Type 0} → Bool → Bool → (State → Answer A) → Type 0
  Rule k j R = IsRule M b c r q (λ (e : LineFault). e.column) k j R

  abbrev Stop : {A : Type 0} → Bool → (State → Result A LineFault) → Type 0
  Stop k R = IsStop M b c r q (λ (e : LineFault). e.column) k R

  then : {A B : Type 0} (k : Bool) (R : State → Answer A) (f : A × State → Answer B) → Rule k false R → ((x : A) → Rule false false (λ s. f (x, s))) → Rule k false (λ s. R s >>= f)
  then k R f = then_rule M b c r q k false R false f

  last : {A B : Type 0} (k i : Bool) (R : State → Answer A) (f : A × State → Result B LineFault) → Rule k i R → ((x : A) → Stop i (λ s. f (x, s))) → Stop k (λ s. R s >>= f)
  last k i R f = then_stop M b c r q k i R f

  value : {A : Type 0} (x : A) → Rule false false (λ s. Ok (x, s))
  value x = value_rule M b c r q (λ (e : LineFault). e.column) x

  wrong_at : {A : Type 0} (kind : FaultKind) → Rule {A = A} false false (λ s. Err (fault_at kind s))
  wrong_at {A} kind = fault_rule M b c r q {A = A} (λ (e : LineFault). e.column) false (λ n. record { kind = kind; column = n }) (λ n. refl)

  either : {A : Type 0} (k test : Bool) (R Q : State → Answer A) → Rule k false R → Rule k false Q → Rule k false (λ s. cond test (R s) (Q s))
  either k test R Q = choice_rule M b c r q (λ (e : LineFault). e.column) k false test R Q

  some_or : {X A : Type 0} (k : Bool) (o : Option X) (f : X → State → Answer A) (d : State → Answer A) → ((x : X) → Rule k false (f x)) → Rule k false d → Rule k false (λ s. option_map_or (λ x. f x s) o (d s))
  some_or k o f d = option_rule M b c r q (λ (e : LineFault). e.column) k false o f d

  taking_next : {A : Type 0} (read : Token → State → Answer A) → ((tok : Token) → Rule false false (read tok)) → Rule true false (taking read)
  taking_next read each = next_rule M b c r q H (λ (e : LineFault). e.column) (λ t. read t.0 t.1) not_here (λ s. refl) false each

  later : {A : Type 0} (R : State → Answer A) → Rule true false R → Rule false false R
  later R = later_rule M b c r q (λ (e : LineFault). e.column) false R

  ends : {A : Type 0} (x : A) → Stop true (λ s. at_end (x, s))
  ends x = end_stop M b c r q H x

  ends_later : {A : Type 0} (x : A) → Stop false (λ s. at_end (x, s))
  ends_later x = later_stop M b c r q (λ (e : LineFault). e.column) _ (ends x)

  wrong_stop : {A : Type 0} (kind : FaultKind) → Stop {A = A} false (λ s. Err (fault_at kind s))
  wrong_stop {A} kind = fault_stop M b c r q {B = A} (λ (e : LineFault). e.column) (λ n. record { kind = kind; column = n }) (λ n. refl)

  word_of_rule : (tok : Token) → Rule false false (word_of tok)
  unfolding word_of
  word_of_rule (Word w) = value w
  word_of_rule (Number n) = wrong_at kinds.Syntax
  word_of_rule (Sign s) = wrong_at kinds.Syntax
  word_of_rule BadByte = wrong_at kinds.Byte

  number_of_rule : (tok : Token) → Rule false false (number_of tok)
  unfolding number_of
  number_of_rule (Number n) = value n
  number_of_rule (Word w) = wrong_at kinds.Syntax
  number_of_rule (Sign s) = wrong_at kinds.Syntax
  number_of_rule BadByte = wrong_at kinds.Byte

  word_rule : Rule true false word
  unfolding word
  word_rule = taking_next word_of word_of_rule

  number_rule : Rule true false number
  unfolding number
  number_rule = taking_next number_of number_of_rule

  narrow_rule : Rule true false narrow
  unfolding narrow
  narrow_rule = then true number _ number_rule (λ n. either false (text.is_wide n) _ _ (wrong_at kinds.Wide) (value n))

  new_name_rule : (S : Session) → Rule true false (names.new_name S)
  unfolding names.new_name
  new_name_rule S =
      then true word _ word_rule
      (λ w. either false (names.is_variable S w || is_some (place_of (names.declared_names S.values) w)) _ _ (wrong_at kinds.Taken) (either false (leb 4096 (length S.values)) _ _ (wrong_at kinds.Many) (value w)))

  declared_by_rule : (S : Session) (tok : Token) → Rule false false (names.declared_by S tok)
  unfolding names.declared_by
  declared_by_rule S tok =
      then false (word_of tok) _ (word_of_rule tok) (λ w. some_or false (names.declared_as S w) (λ v s. Ok (v, s)) _ (λ v. value v) (wrong_at (cond (names.is_variable S w) kinds.Kind kinds.Unknown)))

  declared_rule : (S : Session) → Rule true false (names.declared S)
  unfolding names.declared
  declared_rule S = taking_next (names.declared_by S) (declared_by_rule S)

  of_kind_rule : (taken : Kind → Option FaultKind) (v : ℕ × Kind) → Rule false false (λ s. names.of_kind taken (v, s))
  of_kind_rule taken v = some_or false (taken v.1) (λ fault s. Err (fault_at fault s)) (λ s. Ok (v.0, s)) wrong_at (value v.0)

  polynomial_rule : (S : Session) → Rule true false (names.polynomial S)
  unfolding names.polynomial
  polynomial_rule S = then true (names.declared S) (names.of_kind names.as_polynomial) (declared_rule S) (of_kind_rule names.as_polynomial)

  nonconstant_rule : (S : Session) → Rule true false (names.nonconstant S)
  unfolding names.nonconstant
  nonconstant_rule S = then true (names.declared S) (names.of_kind names.as_nonconstant) (declared_rule S) (of_kind_rule names.as_nonconstant)

  ideal_rule : (S : Session) → Rule true false (names.ideal S)
  unfolding names.ideal
  ideal_rule S = then true (names.declared S) (names.of_kind names.as_ideal) (declared_rule S) (of_kind_rule names.as_ideal)

  point_by_rule : (S : Session) (tok : Token) → Rule false false (names.point_by S tok)
  unfolding names.point_by
  point_by_rule S tok = then false (names.declared_by S tok) (names.of_kind names.as_point) (declared_by_rule S tok) (of_kind_rule names.as_point)

  within_rule : (low high : ℕ) → Rule true false (numbers.within low high)
  unfolding numbers.within
  within_rule low high = then true narrow _ narrow_rule (λ n. either false (ltb n low || ltb high n) _ _ (wrong_at kinds.Range) (value n))

  exponent_rule : Rule true false numbers.exponent
  unfolding numbers.exponent
  exponent_rule = within_rule 0 12

  level_rule : (p : ℕ) → Rule true false (numbers.level p)
  unfolding numbers.level
  level_rule p = then true narrow _ narrow_rule (λ n. either false (eqb n 0 || ltb 65536 (p ^ n)) _ _ (wrong_at kinds.Range) (value n))

  ratio_of_rule : (positive : Bool) (m n : ℕ) → Rule false false (numbers.ratio_of positive m n)
  unfolding numbers.ratio_of
  ratio_of_rule positive m n = some_or false (numbers.lowest m n) (λ t s. cond (numbers.is_exponent positive t) (Ok (t, s)) (Err (fault_at kinds.Range s))) _ (λ t. either false (numbers.is_exponent positive t) _ _ (value t) (wrong_at kinds.Range)) (wrong_at kinds.Range)

  ratio_rule : (positive : Bool) → Rule true false (numbers.ratio positive)
  unfolding numbers.ratio
  ratio_rule positive =
      then true narrow _ narrow_rule
      (λ m. sign_or M b c r q H (λ (e : LineFault). e.column) false false slash _ (numbers.ratio_of positive m 1) (then true narrow _ narrow_rule (λ n. ratio_of_rule positive m n)) (ratio_of_rule positive m 1))

  -- ---- questions

  target_rule : (S : Session) → Rule true false (question.target_at S)
  unfolding question.target_at
  target_rule S = then true (names.declared S) question.target_of (declared_rule S) by
    where
      by : (v : ℕ × Kind) → Rule false false (λ s. question.target_of (v, s))
      by (i, values.Ideal) = value (question.Ideal i)
      by (i, values.Point) = value (question.Point i)
      by (i, values.Nonconstant) = wrong_at kinds.Kind
      by (i, values.Constant) = wrong_at kinds.Kind

  idle : {A : Type 0} (k : Bool) (R : State → Answer A) → Rule k false R → Rule k true R
  idle k R = idle_rule M b c r q (λ (e : LineFault). e.column) k R

  arguments_rule : (a : Ask) (S : Session) → Rule true true (question.arguments a S)
  unfolding question.arguments question.parts question.member question.of_ideal question.of_two_ideals question.of_frobenius question.of_test_ideal question.jumps question.nu question.threshold question.pure question.compatible
  arguments_rule asks.Parts S = idle true _ (then true numbers.exponent _ exponent_rule (λ e. later _ (then true (names.polynomial S) _ (polynomial_rule S) (λ f. value _))))
  arguments_rule asks.Member S = idle true _ (then true (names.polynomial S) _ (polynomial_rule S) (λ f. later _ (then true (names.ideal S) _ (ideal_rule S) (λ j. value _))))
  arguments_rule (asks.OneIdeal which) S = idle true _ (then true (names.ideal S) _ (ideal_rule S) (λ j. value _))
  arguments_rule (asks.TwoIdeals which) S = idle true _ (then true (names.ideal S) _ (ideal_rule S) (λ j. later _ (then true (names.ideal S) _ (ideal_rule S) (λ k. value _))))
  arguments_rule (asks.Frobenius which) S = idle true _ (then true numbers.exponent _ exponent_rule (λ e. later _ (then true (names.ideal S) _ (ideal_rule S) (λ j. value _))))
  arguments_rule (asks.TestIdeal which) S =
      idle true _ (then true (names.nonconstant S) _ (nonconstant_rule S) (λ f. later _ (then true (numbers.ratio (question.is_above_zero which)) _ (ratio_rule (question.is_above_zero which)) (λ t. value _))))
  arguments_rule asks.Jumps S = idle true _ (then true (names.nonconstant S) _ (nonconstant_rule S) (λ f. later _ (then true (numbers.level S.prime) _ (level_rule S.prime) (λ e. value _))))
  arguments_rule asks.Nu S =
      idle true _ (then true numbers.exponent _ exponent_rule (λ e. later _ (then true (names.nonconstant S) _ (nonconstant_rule S) (λ f. later _ (then true (names.ideal S) _ (ideal_rule S) (λ j. value _))))))
  arguments_rule asks.Threshold S =
      idle true _ (then true (names.nonconstant S) _ (nonconstant_rule S) (λ f. later _ (then true (question.target_at S) _ (target_rule S) (λ x. later _ (then true (numbers.level S.prime) _ (level_rule S.prime) (λ e. value _))))))
  arguments_rule asks.Pure S =
      then_rule M b c r q true false (names.ideal S) true _ (ideal_rule S)
      (λ j. next_else M b c r q H (λ (e : LineFault). e.column) (questions.Pure j) (λ t. names.point_by S t.0 t.1 >>= λ at. Ok (questions.PureAt j at.0, at.1)) (λ tok. idle false _ (then false (names.point_by S tok) _ (point_by_rule S tok) (λ at. value _))))
  arguments_rule asks.Compatible S =
      idle true _ (then true numbers.exponent _ exponent_rule (λ e. later _ (then true (names.polynomial S) _ (polynomial_rule S) (λ u. later _ (then true (names.ideal S) _ (ideal_rule S) (λ j. value _))))))

  question_by_rule : (named : List ℕ → Option Ask) (S : Session) → Rule true true (question.question_by named S)
  unfolding question.question_by
  question_by_rule named S =
      then_rule M b c r q true false word true _ word_rule
      (λ w. option_rule M b c r q (λ (e : LineFault). e.column) false true (named w) (λ a. question.arguments a S) _ (λ a. later_rule M b c r q (λ (e : LineFault). e.column) true _ (arguments_rule a S)) (idle false _ (wrong_at kinds.Syntax)))

  question_rule : (S : Session) → Rule true true (question.question_at S)
  unfolding question.question_at
  question_rule S = question_by_rule question.ask_of S

  ideal_question_rule : (S : Session) → Rule true true (question.ideal_question_at S)
  unfolding question.ideal_question_at
  ideal_question_rule S = question_by_rule question.ideal_ask_of S

  -- ---- declarations

  of_text_rule : (k : Bool) (R : State → text.Answer Polynomial) → TextRule k R → Rule k false (λ s. declaration.of_text (R s))
  of_text_rule k R K = record {
    low = λ s h. of_text_stands (R s) (K.low s h) (λ f t near. near);
    high = λ s h. of_text_stands (R s) (K.high s h) (λ f t near. near);
    along = λ s t g. by (R s) (R t) (K.along s t g);
    short = λ s. of_text_stands (R s) (K.short s) (λ f t less. less);
  }
    where
      by : (u v : text.Answer Polynomial) → AlongAnswer M b c r q (λ (e : faults.Fault). e.place) false u v → AlongAnswer M b c r q (λ (e : LineFault). e.column) false (declaration.of_text u) (declaration.of_text v)
      by u v (alike {x = (f, s)} {y = (g, t)} h) = alike (ap (terms_falling grevlex_key) h.0, h.1)
      by u v same = same
      by u v (fine m h) = fine m (of_text_stands v h (λ f t near. near))
      by u v (void h) = void (of_text_stands u h (λ f t near. near))

  expression_line_rule : (S : Session) → Rule true false (declaration.expression S)
  unfolding declaration.expression
  expression_line_rule S = of_text_rule true (text.expression (prime_field S.prime) (names.meaning S)) (expression_rule (prime_field S.prime) (names.meaning S))

  counted_rule : (S : Session) (terms : ℕ) → Rule true false (declaration.counted S terms)
  unfolding declaration.counted
  counted_rule S terms = then true (declaration.expression S) _ (expression_line_rule S) (λ f. either false (ltb 1000000 (terms + length f)) _ _ (wrong_at kinds.Many) (value f))

  name_equals_rule : (S : Session) → Rule true false (declaration.name_equals S)
  unfolding declaration.name_equals
  name_equals_rule S = then true (names.new_name S) _ (new_name_rule S) (λ name. later _ (sign_then M b c r q H false equals (λ t. Ok (name, t)) (value name)))

  poly_stop : (S : Session) → Stop true (declaration.poly S)
  unfolding declaration.poly
  poly_stop S = last true false (declaration.name_equals S) _ (name_equals_rule S) (λ name. later_stop M b c r q (λ (e : LineFault). e.column) _ (last true false (declaration.counted S S.terms) _ (counted_rule S S.terms) (λ f. ends_later (declare S name (Poly f) (length f)))))

  generator_rule : (S : Session) (fs : List Terms) → Rule false false (declaration.generator S fs)
  unfolding declaration.generator
  generator_rule S fs = either false (leb 256 (length fs)) _ _ (wrong_at kinds.Many) (later _ (counted_rule S (S.terms + terms_in fs)))

  ideal_stop : (S : Session) → Stop true (declaration.ideal S)
  unfolding declaration.ideal enclosed
  ideal_stop S =
      last true false (declaration.name_equals S) _ (name_equals_rule S)
      (λ name. later_stop M b c r q (λ (e : LineFault). e.column) _ (last true false (enclosed (listed (declaration.generator S))) _ (enclosed_rule M b c r q H opening closing (listed (declaration.generator S)) (listed_rule M b c r q H (declaration.generator S) (generator_rule S)))
      (λ fs. ends_later (declare S name (Ideal fs) (terms_in fs)))))

  constant_line_rule : (p : ℕ) → Rule true false (declaration.constant p)
  unfolding declaration.constant
  constant_line_rule p =
      sign_or M b c r q H (λ (e : LineFault). e.column) true false minus _ (λ s. narrow s >>= λ n. Ok (n.0 % p, n.1)) (then true narrow _ narrow_rule (λ n. value _)) (then true narrow _ narrow_rule (λ n. value _))

  coordinate_rule : (S : Session) (cs : List ℕ) → Rule false false (declaration.coordinate S cs)
  unfolding declaration.coordinate
  coordinate_rule S cs = either false (leb (length S.variables) (length cs)) _ _ (wrong_at kinds.Arity) (later _ (constant_line_rule S.prime))

  point_stop : (S : Session) → Stop true (declaration.point S)
  unfolding declaration.point enclosed
  point_stop S =
      last true false (declaration.name_equals S) _ (name_equals_rule S)
      (λ name. later_stop M b c r q (λ (e : LineFault). e.column) _ (last true false (enclosed (listed (declaration.coordinate S))) _ (enclosed_rule M b c r q H opening closing (listed (declaration.coordinate S)) (listed_rule M b c r q H (declaration.coordinate S) (coordinate_rule S)))
      (λ cs. choice_stop M b c r q (λ (e : LineFault). e.column) false (ltb (length cs) (length S.variables)) _ _ (wrong_stop kinds.Arity) (ends_later (declare S name (Point cs) 0)))))

  named_result_stop : (S : Session) → Stop true (declaration.named_result S)
  unfolding declaration.named_result
  named_result_stop S =
      last true false (declaration.name_equals S) _ (name_equals_rule S)
      (λ name. later_stop M b c r q (λ (e : LineFault). e.column) _ (last true true (question.ideal_question_at S) _ (ideal_question_rule S) (λ q. ends (declare S name (Let S.budget q) 0))))

  -- ---- the ring

  prime_rule : Rule true false rings.prime
  unfolding rings.prime
  prime_rule = then true number _ number_rule (λ n. either false (is_prime n) _ _ (value n) (wrong_at kinds.Prime))

  ring_variable_rule : (vs : List (List ℕ)) → Rule false false (rings.variable vs)
  unfolding rings.variable
  ring_variable_rule vs = later _ (then true word _ word_rule (λ w. either false (leb 7 (length vs)) _ _ (wrong_at kinds.Vars) (either false (is_some (place_of vs w)) _ _ (wrong_at kinds.Taken) (value w))))

  ring_stop : Stop true rings.ring
  unfolding rings.ring
  ring_stop =
      last true false rings.prime _ prime_rule (λ p. last false true (listed rings.variable) _ (listed_rule M b c r q H rings.variable ring_variable_rule) (λ vs. ends (new_session p vs)))

  -- ---- statements

  order_stop : (S : Session) → Stop true (statements.order S)
  unfolding statements.order
  order_stop S =
      last true false word _ word_rule (λ w. option_stop M b c r q (λ (e : LineFault). e.column) false (statements.order_of w) (λ name s. at_end (record S { order = name }, s)) _ (λ name. ends_later (record S { order = name })) (wrong_stop kinds.Syntax))

  budget_stop : (S : Session) → Stop true (statements.budget S)
  unfolding statements.budget
  budget_stop S = last true false (numbers.within 1 10000000) _ (within_rule 1 10000000) (λ n. ends_later (record S { budget = n }))

  asking_stop : (S : Session) → Stop false (statements.asking S)
  unfolding statements.asking
  asking_stop S =
      choice_stop M b c r q (λ (e : LineFault). e.column) false (leb 4096 (length S.asked)) _ _ (wrong_stop kinds.Many)
      (later_stop M b c r q (λ (e : LineFault). e.column) _ (last true true (question.question_at S) _ (question_rule S) (λ q. ends (ask S q))))

  stop_later : {A : Type 0} (R : State → Result A LineFault) → Stop true R → Stop false R
  stop_later R = later_stop M b c r q (λ (e : LineFault). e.column) R

  statement_of_stop : (before : Option Session) (w : Option Keyword) → Stop false (statements.statement_of before w)
  unfolding statements.first statements.later
  statement_of_stop None (Some keywords.Ring) = stop_later _ ring_stop
  statement_of_stop None (Some keywords.Order) = wrong_stop kinds.NoRing
  statement_of_stop None (Some keywords.Budget) = wrong_stop kinds.NoRing
  statement_of_stop None (Some keywords.Poly) = wrong_stop kinds.NoRing
  statement_of_stop None (Some keywords.Ideal) = wrong_stop kinds.NoRing
  statement_of_stop None (Some keywords.Point) = wrong_stop kinds.NoRing
  statement_of_stop None (Some keywords.Let) = wrong_stop kinds.NoRing
  statement_of_stop None (Some keywords.Ask) = wrong_stop kinds.NoRing
  statement_of_stop None None = wrong_stop kinds.Syntax
  statement_of_stop (Some S) (Some keywords.Ring) = wrong_stop kinds.Syntax
  statement_of_stop (Some S) (Some keywords.Order) = stop_later _ (order_stop S)
  statement_of_stop (Some S) (Some keywords.Budget) = stop_later _ (budget_stop S)
  statement_of_stop (Some S) (Some keywords.Poly) = stop_later _ (poly_stop S)
  statement_of_stop (Some S) (Some keywords.Ideal) = stop_later _ (ideal_stop S)
  statement_of_stop (Some S) (Some keywords.Point) = stop_later _ (point_stop S)
  statement_of_stop (Some S) (Some keywords.Let) = stop_later _ (named_result_stop S)
  statement_of_stop (Some S) (Some keywords.Ask) = asking_stop S
  statement_of_stop (Some S) None = wrong_stop kinds.Syntax

  pub statement_stop : (before : Option Session) (tok : Token) → Stop false (statements.statement before tok)
  unfolding statements.statement
  statement_stop before tok = last false false (word_of tok) _ (word_of_rule tok) (λ w. statement_of_stop before (statements.keyword_of w))

  -- ---- lines

  line_low : (before : Option Session) (s : State) → IsAhead (Low M b c r q) s → Stands (λ (e : LineFault). e.column) (Low M b c r q) Any (line_from before s)
  unfolding next
  line_low before s h = by s.left h.left
    where
      by : (ts : List Placed) → All (λ t. Low M b c r q t.start × Low M b c r q t.end) ts → Stands (λ (e : LineFault). e.column) (Low M b c r q) Any (line_from before (record { left = ts; start = s.start; end = s.end }))
      by [] all = well tt
      by (t ∷ ts) all = stands_then (λ S. Ok (Some S)) ((statement_stop before t.token).low (after t ts) (after_near (Low M b c r q) t ts all)) (λ S done. well tt)

  pub line_along : (before : Option Session) (ts : List Placed) → b ≤ end_of ts 0 → IsEdge M b c r q ts
      → AlongStop M b c r q (λ (e : LineFault). e.column) (line_from before (record { left = ts ++ r; start = 0; end = 0 })) (line_from before (record { left = ts ++ q; start = 0; end = 0 }))
  unfolding next
  line_along before [] h m = fine m (line_low before (record { left = q; start = 0; end = 0 }) (edge_ahead M b c r q H 0 0 h))
  line_along before (x ∷ ts) h edge =
      elim (taken M b c r q H x ts 0 h edge) [
        | inl g ↦ by _ _ ((statement_stop before x.token).along (after x (ts ++ r)) (after x (ts ++ q)) g)
        | inr near ↦ void (stands_then (λ S. Ok (Some S)) ((statement_stop before x.token).high (after x (ts ++ r)) near) (λ S done. well tt))
      ]
    where
      by : (u v : Result Session LineFault) → AlongStop M b c r q (λ (e : LineFault). e.column) u v → AlongStop M b c r q {A = Option Session} (λ (e : LineFault). e.column) (u >>= λ S. Ok (Some S)) (v >>= λ S. Ok (Some S))
      by u v (alike k) = alike tt
      by u v same = same
      by u v (fine m k) = fine m (stands_then (λ S. Ok (Some S)) k (λ S done. well tt))
      by u v (void k) = void (stands_then (λ S. Ok (Some S)) k (λ S done. well tt))
