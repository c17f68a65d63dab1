-- Declarations. A declared name is a name from the next line on.
use Rattle.std.specs.Prelude.{ℕ, ◌+◌, ◌-◌, ◌%◌, if◌then◌else◌, nat_le, nat_lt, List, length, Result, Ok, Err}
use Rattle.std.specs.Option.{option_map_or}
use Rattle.fj_coeff.specs.PrimeField.{prime_field}
use Rattle.fj_theory.specs.MonomialOrder.{grevlex_key}
use Rattle.fj_theory.specs.Polynomial.{Polynomial, terms_falling}
use Rattle.fj_text.specs.Token.{minus}
use Rattle.fj_text.specs.State.{State, after_sign}
use Rattle.fj_text.specs.Expression as text
use Rattle.fj_script.specs.declared.fault.FaultKind.TheVariants as kinds
use Rattle.fj_script.specs.declared.fault.LineFault.{LineFault}
use Rattle.fj_script.specs.LineFault.{Answer, ◌>>=◌, fault_at, fault_of}
use Rattle.fj_script.specs.Items.{at_end, enclosed, equals, listed, narrow, sign}
use Rattle.fj_script.specs.Session.{Session, Terms, Poly, Ideal, Point, Let, declare, terms_in}
use Rattle.fj_script.specs.Names.{meaning, new_name}
use Rattle.fj_script.specs.Question.{ideal_question_at}

-- What an expression answers, in a line of a session.
abbrev pub of_text : text.Answer Polynomial → Answer Terms
of_text (Ok (f, s)) = Ok (terms_falling grevlex_key f, s)
of_text (Err fault) = Err (fault_of fault)

-- An expression over the field of the ring.
unfoldable pub expression : Session → State → Answer Terms
expression S s = of_text (text.expression (prime_field S.prime) (meaning S) s)

-- An expression whose terms count for the limit on all terms, of which so many are declared.
unfoldable pub counted : Session → ℕ → State → Answer Terms
counted S terms s = do
  f ← expression S s
  if nat_lt 1000000 (terms + length f.0) then Err (fault_at kinds.Many f.1) else Ok f

-- A new name and `=`
unfoldable pub name_equals : Session → State → Answer (List ℕ)
name_equals S s = do
  name ← new_name S s
  e ← sign equals name.1
  Ok (name.0, e)

-- `poly N = expr`
unfoldable pub poly : Session → State → Result Session LineFault
poly S s = do
  name ← name_equals S s
  f ← counted S S.terms name.1
  at_end (declare S name.0 (Poly f.0) (length f.0), f.1)

-- A generator, at most the 256th. A comma before a 257th is the fault.
unfoldable pub generator : Session → List Terms → State → Answer Terms
generator S fs s = if nat_le 256 (length fs) then Err (fault_at kinds.Many s) else counted S (S.terms + terms_in fs) s

-- `ideal N = (expr, expr, ..)`
unfoldable pub ideal : Session → State → Result Session LineFault
ideal S s = do
  name ← name_equals S s
  fs ← enclosed (listed (generator S)) name.1
  at_end (declare S name.0 (Ideal fs.0) (terms_in fs.0), fs.1)

-- `c` or `- c`, taken modulo p
unfoldable pub constant : ℕ → State → Answer ℕ
constant p s = option_map_or (λ t. do
  n ← narrow t
  Ok ((p - n.0 % p) % p, n.1)) (after_sign minus s) (do
    n ← narrow s
    Ok (n.0 % p, n.1))

-- A coordinate. A comma behind the last one that the ring takes is the fault.
unfoldable pub coordinate : Session → List ℕ → State → Answer ℕ
coordinate S cs s = if nat_le (length S.variables) (length cs) then Err (fault_at kinds.Arity s) else constant S.prime s

-- `point N = (c, c, ..)`, one coordinate for each variable
unfoldable pub point : Session → State → Result Session LineFault
point S s = do
  name ← name_equals S s
  cs ← enclosed (listed (coordinate S)) name.1
  if nat_lt (length cs.0) (length S.variables) then Err (fault_at kinds.Arity cs.1)
      else at_end (declare S name.0 (Point cs.0) 0, cs.1)

-- `let N = ` and a question that has an ideal as its answer, with the turn budget that stands here
unfoldable pub named_result : Session → State → Result Session LineFault
named_result S s = do
  name ← name_equals S s
  q ← ideal_question_at S name.1
  at_end (declare S name.0 (Let S.budget q.0) 0, q.1)
