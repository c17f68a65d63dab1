-- Statements: what a line does to a session.
use Rattle.std.specs.Prelude.{ℕ, if◌then◌else◌, nat_le, List, length, Result, Ok, Err, Some, None, codes}
use Rattle.std.specs.declared.option.Option.{Option}
use Rattle.std.specs.Option.{option_map_or}
use Rattle.std.specs.Str.{bytes_eq}
use Rattle.fj_plain.specs.declared.order_name.OrderName.{OrderName}
use Rattle.fj_plain.specs.declared.order_name.OrderName.TheVariants as orders
use Rattle.fj_text.specs.Token.{Token}
use Rattle.fj_text.specs.State.{State, next, state_at}
use Rattle.fj_script.specs.declared.fault.FaultKind.TheVariants as kinds
use Rattle.fj_script.specs.declared.fault.LineFault.{LineFault}
use Rattle.fj_script.specs.declared.statement.Keyword.{Keyword}
use Rattle.fj_script.specs.declared.statement.Keyword.TheVariants as keywords
use Rattle.fj_script.specs.LineFault.{◌>>=◌, fault_at}
use Rattle.fj_script.specs.Items.{at_end, word, word_of}
use Rattle.fj_script.specs.Session.{Session, ask}
use Rattle.fj_script.specs.Ring.{ring}
use Rattle.fj_script.specs.Declaration.{ideal, named_result, point, poly}
use Rattle.fj_script.specs.Numbers.{within}
use Rattle.fj_script.specs.Question.{question_at}

-- `order lex`, `order grlex` or `order grevlex`
abbrev pub order_of : List ℕ → Option OrderName
order_of w =
    if bytes_eq w (codes "grevlex") then Some orders.Grevlex
    else (if bytes_eq w (codes "grlex") then Some orders.Grlex
    else (if bytes_eq w (codes "lex") then Some orders.Lex
    else None))

unfoldable pub order : Session → State → Result Session LineFault
order S s = do
  w ← word s
  option_map_or (λ name. at_end (record S { order = name }, w.1)) (order_of w.0) (Err (fault_at kinds.Syntax w.1))

-- `budget b`, from 1 to 10,000,000
unfoldable pub budget : Session → State → Result Session LineFault
budget S s = do
  b ← within 1 10000000 s
  at_end (record S { budget = b.0 }, b.1)

-- `ask` and a question, at most the 4,096th line that begins so
unfoldable pub asking : Session → State → Result Session LineFault
asking S s = if nat_le 4096 (length S.asked) then Err (fault_at kinds.Many s) else (do
  q ← question_at S s
  at_end (ask S q.0, q.1))

-- The words that begin statements.
unfoldable pub keyword_of : List ℕ → Option Keyword
keyword_of w =
    if bytes_eq w (codes "ring") then Some keywords.Ring
    else (if bytes_eq w (codes "order") then Some keywords.Order
    else (if bytes_eq w (codes "budget") then Some keywords.Budget
    else (if bytes_eq w (codes "poly") then Some keywords.Poly
    else (if bytes_eq w (codes "ideal") then Some keywords.Ideal
    else (if bytes_eq w (codes "point") then Some keywords.Point
    else (if bytes_eq w (codes "let") then Some keywords.Let
    else (if bytes_eq w (codes "ask") then Some keywords.Ask
    else None)))))))

-- The first statement is the ring's, and without a ring no other begins.
unfoldable pub first : Option Keyword → State → Result Session LineFault
first (Some keywords.Ring) s = ring s
first (Some keywords.Order) s = Err (fault_at kinds.NoRing s)
first (Some keywords.Budget) s = Err (fault_at kinds.NoRing s)
first (Some keywords.Poly) s = Err (fault_at kinds.NoRing s)
first (Some keywords.Ideal) s = Err (fault_at kinds.NoRing s)
first (Some keywords.Point) s = Err (fault_at kinds.NoRing s)
first (Some keywords.Let) s = Err (fault_at kinds.NoRing s)
first (Some keywords.Ask) s = Err (fault_at kinds.NoRing s)
first None s = Err (fault_at kinds.Syntax s)

unfoldable pub later : Option Keyword → Session → State → Result Session LineFault
later (Some keywords.Ring) S s = Err (fault_at kinds.Syntax s)
later (Some keywords.Order) S s = order S s
later (Some keywords.Budget) S s = budget S s
later (Some keywords.Poly) S s = poly S s
later (Some keywords.Ideal) S s = ideal S s
later (Some keywords.Point) S s = point S s
later (Some keywords.Let) S s = named_result S s
later (Some keywords.Ask) S s = asking S s
later None S s = Err (fault_at kinds.Syntax s)

-- A statement, after the sessions' lines so far; there is no session before the ring.
abbrev pub statement_of : Option Session → Option Keyword → State → Result Session LineFault
statement_of None w s = first w s
statement_of (Some S) w s = later w S s

unfoldable pub statement : Option Session → Token → State → Result Session LineFault
statement before token s = do
  w ← word_of token s
  statement_of before (keyword_of w.0) w.1

-- A line. One without a token is skipped.
unfoldable pub line : Option Session → List ℕ → Result (Option Session) LineFault
line before bytes = option_map_or (λ t. do
  S ← statement before t.0 t.1
  Ok (Some S)) (next (state_at bytes 0)) (Ok before)
