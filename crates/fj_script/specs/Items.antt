-- What statements are made of: words, numbers, signs, lists with commas, and the end of the line.
use Rattle.std.specs.Prelude.{ℕ, zero, suc, if◌then◌else◌, List, [], ◌∷◌, ◌++◌, length, Result, Ok, Err}
use Rattle.std.specs.Option.{option_map_or}
use Rattle.fj_text.specs.Token.{Token, Word, Number, Sign, BadByte, opening, closing}
use Rattle.fj_text.specs.State.{State, after_sign, next}
use Rattle.fj_text.specs.Expression.{is_wide}
use Rattle.fj_script.specs.declared.fault.FaultKind.TheVariants as kinds
use Rattle.fj_script.specs.declared.fault.LineFault.{LineFault}
use Rattle.fj_script.specs.LineFault.{Answer, ◌>>=◌, fault_at, not_here}

abbrev pub equals : ℕ
equals = 61

abbrev pub comma : ℕ
comma = 44

abbrev pub slash : ℕ
slash = 47

unfoldable pub word_of : Token → State → Answer (List ℕ)
word_of (Word w) s = Ok (w, s)
word_of (Number n) s = Err (fault_at kinds.Syntax s)
word_of (Sign b) s = Err (fault_at kinds.Syntax s)
word_of BadByte s = Err (fault_at kinds.Byte s)

unfoldable pub number_of : Token → State → Answer ℕ
number_of (Number n) s = Ok (n, s)
number_of (Word w) s = Err (fault_at kinds.Syntax s)
number_of (Sign b) s = Err (fault_at kinds.Syntax s)
number_of BadByte s = Err (fault_at kinds.Byte s)

-- what is read of the next token, which has to be there
abbrev pub taking : {A : Type 0} → (Token → State → Answer A) → State → Answer A
taking read s = option_map_or (λ t. read t.0 t.1) (next s) (Err (not_here s))

unfoldable pub word : State → Answer (List ℕ)
word s = taking word_of s

unfoldable pub number : State → Answer ℕ
number s = taking number_of s

-- A number of at most 2^32 - 1.
unfoldable pub narrow : State → Answer ℕ
narrow s = do
  n ← number s
  if is_wide n.0 then Err (fault_at kinds.Wide n.1) else Ok n

-- the state after this sign, which has to be next
unfoldable pub sign : ℕ → State → Result State LineFault
sign b s = option_map_or (λ t. Ok t) (after_sign b s) (Err (not_here s))

-- what was read, where the line ends with it
unfoldable pub at_end : {A : Type 0} → A × State → Result A LineFault
at_end (x, s) = option_map_or (λ _. Err (not_here s)) (next s) (Ok x)

-- More items, each behind a comma. An item knows those before it. There are no more commas than tokens.
unfoldable pub more : {A : Type 0} → (List A → State → Answer A) → ℕ → List A → State → Answer (List A)
more item zero xs s = Ok (xs, s)
more item (suc turns) xs s = option_map_or (λ t. do
  x ← item xs t
  more item turns (xs ++ x.0 ∷ []) x.1) (after_sign comma s) (Ok (xs, s))

-- An item, and more of them.
unfoldable pub listed : {A : Type 0} → (List A → State → Answer A) → State → Answer (List A)
listed item s = do
  x ← item [] s
  more item (length x.1.left) (x.0 ∷ []) x.1

-- What stands in parentheses.
unfoldable pub enclosed : {A : Type 0} → (State → Answer A) → State → Answer A
enclosed inside s = do
  opened ← sign opening s
  x ← inside opened
  closed ← sign closing x.1
  Ok (x.0, closed)
