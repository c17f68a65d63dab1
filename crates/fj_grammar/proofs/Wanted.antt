-- What may come next in a line, as a stack of what is still wanted. Values and limits don't matter: any number may stand where
-- one may, any word where a name may, and lists and parentheses are as long and as deep as one likes.
use Rattle.std.proofs.Common.{◌≡◌, ℕ, ◌==◌, ◌≤◌, Bool, true, false, cond, eqb, List, [], ◌∷◌, ◌++◌, length, Option, Some, None, refl, sym, ap, ◌∙◌, subst, arith}
use Rattle.std.specs.Option.{is_some, option_and_then, option_map, option_map_or}
use Rattle.fj_text.specs.State.{State, after, after_sign, is_the_sign, next}
use Rattle.fj_text.specs.Token.{Token, Word, Number, Sign, BadByte, Placed, caret, closing, minus, opening, plus, star}
use Rattle.fj_script.specs.declared.ask.Ask.{Ask}
use Rattle.fj_script.specs.declared.ask.Ask.TheVariants as asks
use Rattle.fj_script.specs.declared.statement.Keyword.{Keyword}
use Rattle.fj_script.specs.declared.statement.Keyword.TheVariants as keywords
use Rattle.fj_script.specs.Items.{comma, equals, slash}
use Rattle.fj_script.specs.Question.{ask_of, ideal_ask_of}
use Rattle.fj_script.specs.Statement.{keyword_of, order_of}

-- A statement, where there is a ring or not; a name; a number; a sign; the word of an order, of a question, and of a question that
-- has an ideal as its answer; and an atom.
-- The others may be missing: a name, a power, more factors, more summands, a `-`, a denominator, more variables, more generators
-- and more coordinates.
pub data Want : Type 0 where
  Beginning : Bool → Want
  Name : Want
  Numeral : Want
  Mark : ℕ → Want
  OrderWord : Want
  QuestionWord : Want
  IdealWord : Want
  Operand : Want
  PerhapsName : Want
  Power : Want
  Factors : Want
  Summands : Want
  Negative : Want
  Denominator : Want
  Variables : Want
  Generators : Want
  Coordinates : Want

abbrev pub a_term : List Want → List Want
a_term ws = Operand ∷ Power ∷ Factors ∷ ws

abbrev pub an_expression : List Want → List Want
an_expression ws = Negative ∷ a_term (Summands ∷ ws)

abbrev pub a_coordinate : List Want → List Want
a_coordinate ws = Negative ∷ Numeral ∷ ws

abbrev pub wants_of_ask : Ask → List Want
wants_of_ask asks.Parts = Numeral ∷ Name ∷ []
wants_of_ask asks.Member = Name ∷ Name ∷ []
wants_of_ask (asks.OneIdeal which) = Name ∷ []
wants_of_ask (asks.TwoIdeals which) = Name ∷ Name ∷ []
wants_of_ask (asks.Frobenius which) = Numeral ∷ Name ∷ []
wants_of_ask (asks.TestIdeal which) = Name ∷ Numeral ∷ Denominator ∷ []
wants_of_ask asks.Jumps = Name ∷ Numeral ∷ []
wants_of_ask asks.Nu = Numeral ∷ Name ∷ Name ∷ []
wants_of_ask asks.Threshold = Name ∷ Name ∷ Numeral ∷ []
wants_of_ask asks.Pure = Name ∷ PerhapsName ∷ []
wants_of_ask asks.Compatible = Numeral ∷ Name ∷ Name ∷ []

-- Without a ring another statement's word may stand there, and nothing may follow it. With one, `ring` may not.
abbrev pub wants_of_keyword : Bool → Keyword → Option (List Want)
wants_of_keyword false keywords.Ring = Some (Numeral ∷ Name ∷ Variables ∷ [])
wants_of_keyword false keywords.Order = Some []
wants_of_keyword false keywords.Budget = Some []
wants_of_keyword false keywords.Poly = Some []
wants_of_keyword false keywords.Ideal = Some []
wants_of_keyword false keywords.Point = Some []
wants_of_keyword false keywords.Let = Some []
wants_of_keyword false keywords.Ask = Some []
wants_of_keyword true keywords.Ring = None
wants_of_keyword true keywords.Order = Some (OrderWord ∷ [])
wants_of_keyword true keywords.Budget = Some (Numeral ∷ [])
wants_of_keyword true keywords.Poly = Some (Name ∷ Mark equals ∷ an_expression [])
wants_of_keyword true keywords.Ideal = Some (Name ∷ Mark equals ∷ Mark opening ∷ an_expression (Generators ∷ Mark closing ∷ []))
wants_of_keyword true keywords.Point = Some (Name ∷ Mark equals ∷ Mark opening ∷ a_coordinate (Coordinates ∷ Mark closing ∷ []))
wants_of_keyword true keywords.Let = Some (Name ∷ Mark equals ∷ IdealWord ∷ [])
wants_of_keyword true keywords.Ask = Some (QuestionWord ∷ [])

abbrev pub at_word : List ℕ → Want → List Want → Option (List Want) → Option (List Want)
at_word w (Beginning ring) ws others = option_map_or (wants_of_keyword ring) (keyword_of w) None
at_word w Name ws others = Some ws
at_word w Numeral ws others = None
at_word w (Mark b) ws others = None
at_word w OrderWord ws others = cond (is_some (order_of w)) (Some ws) None
at_word w QuestionWord ws others = option_map wants_of_ask (ask_of w)
at_word w IdealWord ws others = option_map wants_of_ask (ideal_ask_of w)
at_word w Operand ws others = Some ws
at_word w PerhapsName ws others = Some ws
at_word w Power ws others = others
at_word w Factors ws others = others
at_word w Summands ws others = others
at_word w Negative ws others = others
at_word w Denominator ws others = others
at_word w Variables ws others = others
at_word w Generators ws others = others
at_word w Coordinates ws others = others

abbrev pub at_number : Want → List Want → Option (List Want) → Option (List Want)
at_number (Beginning ring) ws others = None
at_number Name ws others = None
at_number Numeral ws others = Some ws
at_number (Mark b) ws others = None
at_number OrderWord ws others = None
at_number QuestionWord ws others = None
at_number IdealWord ws others = None
at_number Operand ws others = Some ws
at_number PerhapsName ws others = others
at_number Power ws others = others
at_number Factors ws others = others
at_number Summands ws others = others
at_number Negative ws others = others
at_number Denominator ws others = others
at_number Variables ws others = others
at_number Generators ws others = others
at_number Coordinates ws others = others

abbrev pub at_sign : ℕ → Want → List Want → Option (List Want) → Option (List Want)
at_sign b (Beginning ring) ws others = None
at_sign b Name ws others = None
at_sign b Numeral ws others = None
at_sign b (Mark c) ws others = cond (b == c) (Some ws) None
at_sign b OrderWord ws others = None
at_sign b QuestionWord ws others = None
at_sign b IdealWord ws others = None
at_sign b Operand ws others = cond (b == opening) (Some (an_expression (Mark closing ∷ ws))) None
at_sign b PerhapsName ws others = others
at_sign b Power ws others = cond (b == caret) (Some (Numeral ∷ ws)) others
at_sign b Factors ws others = cond (b == star) (Some (a_term ws)) others
at_sign b Summands ws others = cond (b == plus) (Some (a_term (Summands ∷ ws))) (cond (b == minus) (Some (a_term (Summands ∷ ws))) others)
at_sign b Negative ws others = cond (b == minus) (Some ws) others
at_sign b Denominator ws others = cond (b == slash) (Some (Numeral ∷ ws)) others
at_sign b Variables ws others = cond (b == comma) (Some (Name ∷ Variables ∷ ws)) others
at_sign b Generators ws others = cond (b == comma) (Some (an_expression (Generators ∷ ws))) others
at_sign b Coordinates ws others = cond (b == comma) (Some (a_coordinate (Coordinates ∷ ws))) others

-- What is wanted after a token, and none where it may not stand there.
abbrev pub step : Token → List Want → Option (List Want)
step t [] = None
step (Word w) (x ∷ ws) = at_word w x ws (step (Word w) ws)
step (Number n) (x ∷ ws) = at_number x ws (step (Number n) ws)
step (Sign b) (x ∷ ws) = at_sign b x ws (step (Sign b) ws)
step BadByte (x ∷ ws) = step BadByte ws

abbrev pub run : List Token → List Want → Option (List Want)
run [] ws = Some ws
run (t ∷ ts) ws = option_and_then (run ts) (step t ws)

pub run_behind : (ts us : List Token) (ws vs : List Want) → run ts ws ≡ Some vs → run (ts ++ us) ws ≡ run us vs
run_behind [] us ws vs e = let same : ws ≡ vs = cc in ap (run us) same
run_behind (t ∷ ts) us ws vs e = by (step t ws) refl e (λ xs h. run_behind ts us xs vs h)
  where
    by : (o : Option (List Want)) → step t ws ≡ o → option_and_then (run ts) o ≡ Some vs → ((xs : List Want) → run ts xs ≡ Some vs → run (ts ++ us) xs ≡ run us vs) → option_and_then (run (ts ++ us)) (step t ws) ≡ run us vs
    by None is h rec = absurd cc
    by (Some xs) is h rec = ap (option_and_then (run (ts ++ us))) is ∙ rec xs h

-- All that is still wanted may be missing: the line may end.
abbrev pub MayBeMissing : Want → Type 0
MayBeMissing (Beginning ring) = ⊥
MayBeMissing Name = ⊥
MayBeMissing Numeral = ⊥
MayBeMissing (Mark b) = ⊥
MayBeMissing OrderWord = ⊥
MayBeMissing QuestionWord = ⊥
MayBeMissing IdealWord = ⊥
MayBeMissing Operand = ⊥
MayBeMissing PerhapsName = Unit {0}
MayBeMissing Power = Unit {0}
MayBeMissing Factors = Unit {0}
MayBeMissing Summands = Unit {0}
MayBeMissing Negative = Unit {0}
MayBeMissing Denominator = Unit {0}
MayBeMissing Variables = Unit {0}
MayBeMissing Generators = Unit {0}
MayBeMissing Coordinates = Unit {0}

pub data MayEnd : List Want → Type 0 where
  ended : MayEnd []
  missing : {w : Want} {ws : List Want} → MayBeMissing w → MayEnd ws → MayEnd (w ∷ ws)

pub still_wanted : {w : Want} {ws : List Want} → (MayBeMissing w → ⊥) → MayEnd (w ∷ ws) → ⊥
still_wanted needed (missing h k) = absurd (needed h)

pub others_end : {w : Want} {ws : List Want} → MayEnd (w ∷ ws) → MayEnd ws
others_end (missing h k) = k

-- Whatever goes on must have begun.
pub run_front : (ts us : List Token) (ws vs : List Want) → run (ts ++ us) ws ≡ Some vs → (xs : List Want) × (run ts ws ≡ Some xs) × (run us xs ≡ Some vs)
run_front [] us ws vs e = (ws, refl, e)
run_front (t ∷ ts) us ws vs e = by (step t ws) refl e (λ xs h. run_front ts us xs vs h)
  where
    by : (o : Option (List Want)) → step t ws ≡ o → option_and_then (run (ts ++ us)) o ≡ Some vs → ((ys : List Want) → run (ts ++ us) ys ≡ Some vs → (xs : List Want) × (run ts ys ≡ Some xs) × (run us xs ≡ Some vs))
        → (xs : List Want) × (option_and_then (run ts) (step t ws) ≡ Some xs) × (run us xs ≡ Some vs)
    by None is h rec = absurd cc
    by (Some ys) is h rec = let x = rec ys h in (x.0, ap (option_and_then (run ts)) is ∙ x.1, x.2)

-- ---- wants that may be missing

-- This want may be missing. With this sign so much is wanted in its place.
pub record IsOptional (b : ℕ) (w : Want) (inside : List Want → List Want) : Type 0 where
  pub is : (t : Token) (ws : List Want) → step t (w ∷ ws) ≡ cond (is_the_sign b t) (Some (inside ws)) (step t ws)

pub power_optional : IsOptional caret Power (λ ws. Numeral ∷ ws)
power_optional = record { is = λ t ws. elim t as (λ t. step t (Power ∷ ws) ≡ cond (is_the_sign caret t) (Some (Numeral ∷ ws)) (step t ws)) [ Word v ↦ refl | Number n ↦ refl | Sign c ↦ refl | BadByte ↦ refl ] }

pub factors_optional : IsOptional star Factors a_term
factors_optional = record { is = λ t ws. elim t as (λ t. step t (Factors ∷ ws) ≡ cond (is_the_sign star t) (Some (a_term ws)) (step t ws)) [ Word v ↦ refl | Number n ↦ refl | Sign c ↦ refl | BadByte ↦ refl ] }

pub negative_optional : IsOptional minus Negative (λ ws. ws)
negative_optional = record { is = λ t ws. elim t as (λ t. step t (Negative ∷ ws) ≡ cond (is_the_sign minus t) (Some ws) (step t ws)) [ Word v ↦ refl | Number n ↦ refl | Sign c ↦ refl | BadByte ↦ refl ] }

pub denominator_optional : IsOptional slash Denominator (λ ws. Numeral ∷ ws)
denominator_optional = record { is = λ t ws. elim t as (λ t. step t (Denominator ∷ ws) ≡ cond (is_the_sign slash t) (Some (Numeral ∷ ws)) (step t ws)) [ Word v ↦ refl | Number n ↦ refl | Sign c ↦ refl | BadByte ↦ refl ] }

pub variables_optional : IsOptional comma Variables (λ ws. Name ∷ Variables ∷ ws)
variables_optional = record { is = λ t ws. elim t as (λ t. step t (Variables ∷ ws) ≡ cond (is_the_sign comma t) (Some (Name ∷ Variables ∷ ws)) (step t ws)) [ Word v ↦ refl | Number n ↦ refl | Sign c ↦ refl | BadByte ↦ refl ] }

pub generators_optional : IsOptional comma Generators (λ ws. an_expression (Generators ∷ ws))
generators_optional = record { is = λ t ws. elim t as (λ t. step t (Generators ∷ ws) ≡ cond (is_the_sign comma t) (Some (an_expression (Generators ∷ ws))) (step t ws)) [ Word v ↦ refl | Number n ↦ refl | Sign c ↦ refl | BadByte ↦ refl ] }

pub coordinates_optional : IsOptional comma Coordinates (λ ws. a_coordinate (Coordinates ∷ ws))
coordinates_optional = record { is = λ t ws. elim t as (λ t. step t (Coordinates ∷ ws) ≡ cond (is_the_sign comma t) (Some (a_coordinate (Coordinates ∷ ws))) (step t ws)) [ Word v ↦ refl | Number n ↦ refl | Sign c ↦ refl | BadByte ↦ refl ] }

pub mark_step : (ws : List Want) (b : ℕ) (tok : Token) → is_the_sign b tok ≡ true → step tok (Mark b ∷ ws) ≡ Some ws
mark_step ws b (Word w) is = absurd cc
mark_step ws b (Number n) is = absurd cc
mark_step ws b (Sign c) is = ap (λ x. cond x (Some ws) None) is
mark_step ws b BadByte is = absurd cc

pub plus_step : (ws : List Want) (tok : Token) → is_the_sign plus tok ≡ true → step tok (Summands ∷ ws) ≡ Some (a_term (Summands ∷ ws))
plus_step ws (Word w) is = absurd cc
plus_step ws (Number n) is = absurd cc
plus_step ws (Sign b) is = ap (λ c. cond c (Some (a_term (Summands ∷ ws))) (cond (eqb b minus) (Some (a_term (Summands ∷ ws))) (step (Sign b) ws))) is
plus_step ws BadByte is = absurd cc

pub minus_step : (ws : List Want) (tok : Token) → is_the_sign plus tok ≡ false → is_the_sign minus tok ≡ true → step tok (Summands ∷ ws) ≡ Some (a_term (Summands ∷ ws))
minus_step ws (Word w) unlike is = absurd cc
minus_step ws (Number n) unlike is = absurd cc
minus_step ws (Sign b) unlike is =
    ap (λ c. cond c (Some (a_term (Summands ∷ ws))) (cond (eqb b minus) (Some (a_term (Summands ∷ ws))) (step (Sign b) ws))) unlike ∙ ap (λ c. cond c (Some (a_term (Summands ∷ ws))) (step (Sign b) ws)) is
minus_step ws BadByte unlike is = absurd cc

pub neither_step : (ws : List Want) (tok : Token) → is_the_sign plus tok ≡ false → is_the_sign minus tok ≡ false → step tok (Summands ∷ ws) ≡ step tok ws
neither_step ws (Word w) unlike other = refl
neither_step ws (Number n) unlike other = refl
neither_step ws (Sign b) unlike other =
    ap (λ c. cond c (Some (a_term (Summands ∷ ws))) (cond (eqb b minus) (Some (a_term (Summands ∷ ws))) (step (Sign b) ws))) unlike ∙ ap (λ c. cond c (Some (a_term (Summands ∷ ws))) (step (Sign b) ws)) other
neither_step ws BadByte unlike other = refl

-- ---- the next sign

-- No such sign is next.
abbrev pub NotNext : ℕ → List Placed → Type 0
NotNext b [] = Unit {0}
NotNext b (t ∷ ts) = is_the_sign b t.token ≡ false

-- what follows a sign, where it is next, and something else where it isn't
pub on_sign : {X : Type 0} (Z : X → Type 0) (b : ℕ) (f : State → X) (d : X) (s : State) → ((t : Placed) (ts : List Placed) → s.left ≡ t ∷ ts → is_the_sign b t.token ≡ true → Z (f (after t ts))) → (NotNext b s.left → Z d) → Z (option_map_or f (after_sign b s) d)
unfolding after_sign next
on_sign {X} Z b f d s taken absent = by s.left refl
  where
    test : (t : Placed) (ts : List Placed) → s.left ≡ t ∷ ts → (c : Bool) → is_the_sign b t.token ≡ c → Z (option_map_or f (cond c (Some (after t ts)) None) d)
    test t ts e true is = taken t ts e is
    test t ts e false is = absent (subst (NotNext b) (sym e) is)

    by : (ts : List Placed) → s.left ≡ ts → Z (option_map_or f (after_sign b (record { left = ts; start = s.start; end = s.end })) d)
    by [] e = absent (subst (NotNext b) (sym e) tt)
    by (t ∷ ts) e = test t ts e (is_the_sign b t.token) refl

pub none_left : (s : State) → length s.left ≤ 0 → s.left ≡ []
none_left s h = by s.left h
  where
    by : (ts : List Placed) → length ts ≤ 0 → ts ≡ []
    by [] k = refl
    by (t ∷ ts) k = absurd (omega arith)

pub left_none : (b : ℕ) (s : State) → s.left ≡ [] → NotNext b s.left
left_none b s e = subst (NotNext b) (sym e) tt
