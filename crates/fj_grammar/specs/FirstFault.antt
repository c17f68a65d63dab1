-- The fault of a session is the first: what stands before its place has no fault, and what stands up to it has this one.
use Rattle.std.specs.Prelude.{◌≡◌, ◌≢◌, ℕ, zero, ◌+◌, ◌-◌, ◌<◌, ◌≤◌, ◌⊎◌, nat_lt, List, [], take, filter, length, slice_index_or, All, Err}
use Rattle.fj_text.specs.Token.{Placed, tokens_from}
use Rattle.fj_script.specs.declared.fault.Fault.{Fault}
use Rattle.fj_script.specs.declared.fault.FaultKind.TheVariants as kinds
use Rattle.fj_grammar.specs.Grammar.{tokens_of}
use Rattle.fj_script.specs.Script.{lines, script}

-- The line with this number, counted from 1. After the last line there are lines without a token.
abbrev pub line_at : ℕ → List ℕ → List ℕ
line_at number bytes = slice_index_or (lines bytes) (number - 1) []

-- The tokens of a line that start before a column, counted from 1.
abbrev pub tokens_before : ℕ → List ℕ → List Placed
tokens_before column line = filter (λ t. nat_lt (t.start + 1) column) (tokens_from zero zero line)

-- The tokens of a line that start up to a column, counted from 1, and the one after them.
abbrev pub tokens_through : ℕ → List ℕ → List Placed
tokens_through column line = take (length (tokens_before (column + 1) line) + 1) (tokens_from zero zero line)

-- At most 1,048,576 bytes, and a line with a token.
pub record HasStatements (bytes : List ℕ) : Type 0 where
  pub short : length bytes ≤ 1048576
  pub number : ℕ
  pub some : tokens_of (line_at number bytes) ≢ []

-- Two sessions are the same before a place: in the lines before it, and in the tokens of its line before it.
pub record AreSameBefore (place : Fault) (bytes other : List ℕ) : Type 0 where
  pub lines_before : take (place.line - 1) (lines bytes) ≡ take (place.line - 1) (lines other)
  pub tokens : tokens_before place.column (line_at place.line bytes) ≡ tokens_before place.column (line_at place.line other)

-- Two sessions are the same through a place and the token after it; where the line of the one ends there, so does that of
-- the other.
pub record AreSameThrough (place : Fault) (bytes other : List ℕ) : Type 0 where
  pub lines_before : take (place.line - 1) (lines bytes) ≡ take (place.line - 1) (lines other)
  pub tokens : tokens_through place.column (line_at place.line bytes) ≡ tokens_through place.column (line_at place.line other)

-- A fault stands in a later line, or in this line after the start of each token before the place.
abbrev pub StandsBehind : Fault → List ℕ → Fault → Type 0
StandsBehind place bytes fault = (place.line < fault.line) ⊎ ((fault.line ≡ place.line) × All (λ t. t.start + 1 < fault.column) (tokens_before place.column (line_at place.line bytes)))

-- Nothing before the place of a fault is wrong: a session that is the same before it has no fault there.
abbrev pub NothingBeforeIsWrong : Type 0
NothingBeforeIsWrong =
    (bytes other : List ℕ) (place fault : Fault) → HasStatements bytes → HasStatements other → script bytes ≡ Err place → AreSameBefore place bytes other
    → script other ≡ Err fault → StandsBehind place bytes fault

-- What stands through the place is wrong: a session that is the same through it has this fault, whatever follows.
abbrev pub FaultIsKnown : Type 0
FaultIsKnown = (bytes other : List ℕ) (place : Fault) → HasStatements bytes → HasStatements other → script bytes ≡ Err place → AreSameThrough place bytes other → script other ≡ Err place

-- The other sessions: a longer one is Long at 1:1, and one without a token is NoRing there.
abbrev pub OthersFailAtFirst : Type 0
OthersFailAtFirst =
    (bytes : List ℕ)
    → (1048576 < length bytes → script bytes ≡ Err (record { kind = kinds.Long; line = 1; column = 1 }))
    × (length bytes ≤ 1048576 → ((number : ℕ) → tokens_of (line_at number bytes) ≡ []) → script bytes ≡ Err (record { kind = kinds.NoRing; line = 1; column = 1 }))
