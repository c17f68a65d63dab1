-- Expressions: what stands at the front of the tokens that are left, by the rules
--
--   expr   = [ "-" ] term { ("+" | "-") term }
--   term   = factor { "*" factor }
--   factor = atom [ "^" number ]
--   atom   = number | word | "(" expr ")"
--
-- Each rule answers a value and the state after it, or the first fault. A rule takes as many tokens as it can.
use Rattle.std.specs.Prelude.{ℕ, zero, suc, ◌%◌, ◌^◌, ◌==◌, Bool, ◌||◌, if◌then◌else◌, nat_le, nat_lt, List, length, unwrap_or, Result, Ok, Err, Some, None}
use Rattle.std.specs.declared.option.Option.{Option}
use Rattle.std.specs.FinMap.{len}
use Rattle.std.specs.Option.{option_map, option_map_or, option_and_then}
use Rattle.fj_coeff.specs.Field.{Field}
use Rattle.fj_theory.specs.Exponents.{origin}
use Rattle.fj_theory.specs.PointIdeal.{variable_exponents}
use Rattle.fj_theory.specs.Polynomial.{Polynomial, degree, negation, product, sum, term}
use Rattle.fj_text.specs.declared.fault.Cause.TheVariants as causes
use Rattle.fj_text.specs.declared.fault.Fault.{Fault}
use Rattle.fj_text.specs.declared.scope.Meaning.{Meaning}
use Rattle.fj_text.specs.declared.scope.Meaning.TheVariants as meanings
use Rattle.fj_text.specs.Token.{Token, Word, Number, Sign, BadByte, star, caret, plus, minus, opening, closing}
use Rattle.fj_text.specs.State.{State, ◌>>=◌, after_sign, fault_at, next, unexpected}

-- A value and the state after it, or the first fault.
abbrev pub Answer : Type 0 → Type 0
Answer A = Result (A × State) Fault

-- A number above 2^32 - 1.
abbrev pub is_wide : ℕ → Bool
is_wide n = nat_le (2 ^ 32) n

-- More than 1,000 terms, or a degree above 1,000.
unfoldable pub is_large : Polynomial → Bool
is_large f = nat_lt 1000 (len f) || nat_lt 1000 (unwrap_or (degree f) 0)

-- A value, where it isn't large.
abbrev pub within : Polynomial → Option Polynomial
within f = if is_large f then None else Some f

-- The value of the subexpression that ends with the last token. Where there is none, a value formed for it is large.
abbrev pub formed : Option Polynomial → State → Answer Polynomial
formed None s = Err (fault_at causes.Large s)
formed (Some f) s = Ok (f, s)

-- The k-th power: k - 1 products from the left, none of them large. The power 0 is 1.
unfoldable pub power_within : Field → Polynomial → ℕ → Option Polynomial
power_within F f zero = Some (term 1 origin)
power_within F f (suc zero) = Some f
power_within F f (suc (suc k)) = option_and_then (λ g. within (product F g f)) (power_within F f (suc k))

-- A value, and then again and again what a turn makes of the value before. A turn is none where the text doesn't go on.
-- Each turn takes a token, so there are no more turns than tokens.
unfoldable pub repeat : {A : Type 0} → (A → State → Option (Answer A)) → ℕ → A → State → Answer A
repeat turn zero x s = Ok (x, s)
repeat turn (suc more) x s = option_map_or (λ answer. answer >>= λ r. repeat turn more r.0 r.1) (turn x s) (Ok (x, s))

-- A number, as a value, is taken modulo the characteristic.
unfoldable pub constant : Field → ℕ → State → Answer Polynomial
constant F n s = if is_wide n then Err (fault_at causes.Wide s) else Ok (term (n % F.characteristic) origin, s)

-- What a word stands for.
unfoldable pub variable : Meaning → State → Answer Polynomial
variable (meanings.Variable i) s = Ok (term 1 (variable_exponents i), s)
variable meanings.Unknown s = Err (fault_at causes.Unknown s)
variable meanings.OtherKind s = Err (fault_at causes.Kind s)

-- An exponent is at most 1,000.
unfoldable pub exponent_of : Token → State → Answer ℕ
exponent_of (Number n) s = if is_wide n then Err (fault_at causes.Wide s) else (if nat_lt 1000 n then Err (fault_at causes.Large s) else Ok (n, s))
exponent_of (Word w) s = Err (fault_at causes.Syntax s)
exponent_of (Sign b) s = Err (fault_at causes.Syntax s)
exponent_of BadByte s = Err (fault_at causes.Byte s)

-- What is read of the next token, which has to be there.
abbrev pub taking : {A : Type 0} → (Token → State → Answer A) → State → Answer A
taking read s = option_map_or (λ t. read t.0 t.1) (next s) (Err (unexpected s))

-- In a text over a field whose words have these meanings.
module _ (F : Field) (meaning : List ℕ → Meaning) where
  -- Inside is what is read behind an opening parenthesis.
  module _ (inside : State → Answer Polynomial) where
    unfoldable pub atom_of : Token → State → Answer Polynomial
    atom_of (Number n) s = constant F n s
    atom_of (Word w) s = variable (meaning w) s
    atom_of (Sign b) s = if b == opening then inside s else Err (fault_at causes.Syntax s)
    atom_of BadByte s = Err (fault_at causes.Byte s)

    unfoldable pub atom : State → Answer Polynomial
    atom s = taking atom_of s

    -- an atom, to the power that stands behind it
    unfoldable pub factor : State → Answer Polynomial
    factor s = do
      base ← atom s
      option_map_or (λ t. do
        k ← taking exponent_of t
        formed (power_within F base.0 k.0) k.1) (after_sign caret base.1) (Ok base)

    -- a value times the factor behind a `*`
    unfoldable pub times_factor : Polynomial → State → Option (Answer Polynomial)
    times_factor f s = option_map (λ t. do
      g ← factor t
      formed (within (product F f g.0)) g.1) (after_sign star s)

    unfoldable pub term_at : State → Answer Polynomial
    term_at s = do
      f ← factor s
      repeat times_factor (length f.1.left) f.0 f.1

    -- a leading `-` negates the first term
    unfoldable pub first_term : State → Answer Polynomial
    first_term s = option_map_or (λ t. do
      f ← term_at t
      Ok (negation F f.0, f.1)) (after_sign minus s) (term_at s)

    -- a value plus the term behind a `+`, or less the term behind a `-`
    unfoldable pub plus_term : Polynomial → State → Option (Answer Polynomial)
    plus_term f s = option_map_or (λ t. Some (do
      g ← term_at t
      formed (within (sum F f g.0)) g.1)) (after_sign plus s) (option_map (λ t. do
        g ← term_at t
        formed (within (sum F f (negation F g.0))) g.1) (after_sign minus s))

    unfoldable pub sum_at : State → Answer Polynomial
    sum_at s = do
      f ← first_term s
      repeat plus_term (length f.1.left) f.0 f.1

  -- Behind an opening parenthesis, where so many more may be nested in it.
  unfoldable pub parenthesised : ℕ → State → Answer Polynomial
  parenthesised zero s = Err (fault_at causes.Large s)
  parenthesised (suc depth) s = do
    f ← sum_at (parenthesised depth) s
    option_map_or (λ t. Ok (f.0, t)) (after_sign closing f.1) (Err (unexpected f.1))

  -- An expression, with at most 64 parentheses around each other.
  unfoldable pub expression : State → Answer Polynomial
  expression s = sum_at (parenthesised 64) s
