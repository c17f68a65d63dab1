-- The state of the reading of a line: the tokens left, and the columns of the token that was taken last.
use Rattle.std.specs.Prelude.{ℕ, zero, ◌==◌, Bool, true, false, if◌then◌else◌, List, [], ◌∷◌, drop, Result, Ok, Err, Some, None}
use Rattle.std.specs.declared.option.Option.{Option}
use Rattle.std.specs.Option.{option_and_then, option_map_or}
use Rattle.fj_text.specs.Token.{Token, Word, Number, Sign, BadByte, Placed, tokens_from}
use Rattle.fj_text.specs.declared.fault.Cause.{Cause}
use Rattle.fj_text.specs.declared.fault.Cause.TheVariants as causes
use Rattle.fj_text.specs.declared.fault.Fault.{Fault}

pub record State : Type 0 where
  pub left : List Placed
  pub start : ℕ
  pub end : ℕ

infixl 10 ◌>>=◌
abbrev pub ◌>>=◌ : {A B : Type 0} → Result A Fault → (A → Result B Fault) → Result B Fault
(Ok x) >>= f = f x
(Err e) >>= f = Err e

-- the column behind the last token, or a column where there is none
abbrev pub end_of : List Placed → ℕ → ℕ
end_of [] column = column
end_of (t ∷ ts) column = end_of ts t.end

-- Before the first token from a column on. A line that ends there too early ends behind its last token, and at that
-- column where the whole line holds no token.
abbrev pub state_from : List Placed → ℕ → List ℕ → State
state_from [] column line = record { left = []; start = column; end = end_of (tokens_from zero zero line) column }
state_from (t ∷ ts) column line = record { left = t ∷ ts; start = column; end = column }

unfoldable pub state_at : List ℕ → ℕ → State
state_at line column = state_from (tokens_from zero column (drop column line)) column line

-- the state after a token, which the others follow
abbrev pub after : Placed → List Placed → State
after t ts = record { left = ts; start = t.start; end = t.end }

-- a fault at the token that was taken last
abbrev pub fault_at : Cause → State → Fault
fault_at cause s = record { cause = cause; place = s.start }

-- What is wrong with a token that may not stand where it stands.
abbrev pub blame : Token → Cause
blame (Word w) = causes.Syntax
blame (Number n) = causes.Syntax
blame (Sign b) = causes.Syntax
blame BadByte = causes.Byte

-- The fault where no token that is left may stand: at the next one, or behind the last one taken where the line ends.
unfoldable pub unexpected : State → Fault
unexpected s = elim s.left [ [] ↦ record { cause = causes.Syntax; place = s.end } | t ∷ ts ↦ record { cause = blame t.token; place = t.start } ]

-- The next token, and the state after it.
unfoldable pub next : State → Option (Token × State)
next s = elim s.left [ [] ↦ None | t ∷ ts ↦ Some (t.token, after t ts) ]

abbrev pub is_the_sign : ℕ → Token → Bool
is_the_sign sign (Word w) = false
is_the_sign sign (Number n) = false
is_the_sign sign (Sign b) = b == sign
is_the_sign sign BadByte = false

-- The state after the next token, where it is this sign.
unfoldable pub after_sign : ℕ → State → Option State
after_sign sign s = option_and_then (λ t. if is_the_sign sign t.0 then Some t.1 else None) (next s)

abbrev pub is_bad : Token → Bool
is_bad (Word w) = false
is_bad (Number n) = false
is_bad (Sign b) = false
is_bad BadByte = true

-- Whether the next token is a bad byte.
unfoldable pub is_bad_next : State → Bool
is_bad_next s = option_map_or (λ t. is_bad t.0) (next s) false
