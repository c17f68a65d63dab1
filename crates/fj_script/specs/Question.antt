-- Questions: the word that names one, and the arguments that it takes.
use Rattle.std.specs.Prelude.{ℕ, Bool, true, false, if◌then◌else◌, List, Ok, Err, Some, None, codes}
use Rattle.std.specs.declared.option.Option.{Option}
use Rattle.std.specs.Option.{option_and_then, option_map_or}
use Rattle.std.specs.Str.{bytes_eq}
use Rattle.fj_theory.specs.Fraction.{Fraction}
use Rattle.fj_text.specs.State.{State, next}
use Rattle.fj_script.specs.declared.fault.FaultKind.TheVariants as faults
use Rattle.fj_script.specs.declared.question.Question.{Question}
use Rattle.fj_script.specs.declared.question.Question.TheVariants as questions
use Rattle.fj_script.specs.declared.value.Kind.{Kind}
use Rattle.fj_script.specs.declared.value.Kind.TheVariants as kinds
use Rattle.fj_script.specs.declared.ask.Ask.{Ask}
use Rattle.fj_script.specs.declared.ask.Ask.TheVariants as asks
use Rattle.fj_script.specs.declared.ask.OneIdeal.{OneIdeal}
use Rattle.fj_script.specs.declared.ask.OneIdeal.TheVariants as ones
use Rattle.fj_script.specs.declared.ask.TwoIdeals.{TwoIdeals}
use Rattle.fj_script.specs.declared.ask.TwoIdeals.TheVariants as twos
use Rattle.fj_script.specs.declared.ask.Frobenius.{Frobenius}
use Rattle.fj_script.specs.declared.ask.Frobenius.TheVariants as frobenius
use Rattle.fj_script.specs.declared.ask.TestIdeal.{TestIdeal}
use Rattle.fj_script.specs.declared.ask.TestIdeal.TheVariants as tests
use Rattle.fj_script.specs.declared.question.Target as held
use Rattle.fj_script.specs.declared.question.Target.TheVariants as targets
use Rattle.fj_script.specs.LineFault.{Answer, ◌>>=◌, fault_at}
use Rattle.fj_script.specs.Items.{word}
use Rattle.fj_script.specs.Session.{Session}
use Rattle.fj_script.specs.Names.{declared, ideal, nonconstant, point_by, polynomial}
use Rattle.fj_script.specs.Numbers.{exponent, level, ratio}

-- The words of questions.
unfoldable pub ask_of : List ℕ → Option Ask
ask_of w =
    if bytes_eq w (codes "parts") then Some asks.Parts
    else (if bytes_eq w (codes "basis") then Some (asks.OneIdeal ones.Basis)
    else (if bytes_eq w (codes "member") then Some asks.Member
    else (if bytes_eq w (codes "same") then Some (asks.TwoIdeals twos.Same)
    else (if bytes_eq w (codes "sum") then Some (asks.TwoIdeals twos.Sum)
    else (if bytes_eq w (codes "product") then Some (asks.TwoIdeals twos.Product)
    else (if bytes_eq w (codes "meet") then Some (asks.TwoIdeals twos.Meet)
    else (if bytes_eq w (codes "colon") then Some (asks.TwoIdeals twos.Colon)
    else (if bytes_eq w (codes "power") then Some (asks.Frobenius frobenius.Power)
    else (if bytes_eq w (codes "root") then Some (asks.Frobenius frobenius.Root)
    else (if bytes_eq w (codes "test") then Some (asks.TestIdeal tests.Test)
    else (if bytes_eq w (codes "left") then Some (asks.TestIdeal tests.Left)
    else (if bytes_eq w (codes "isjump") then Some (asks.TestIdeal tests.IsJump)
    else (if bytes_eq w (codes "regular") then Some (asks.TestIdeal tests.Regular)
    else (if bytes_eq w (codes "jumps") then Some asks.Jumps
    else (if bytes_eq w (codes "nu") then Some asks.Nu
    else (if bytes_eq w (codes "threshold") then Some asks.Threshold
    else (if bytes_eq w (codes "fpure") then Some asks.Pure
    else (if bytes_eq w (codes "split") then Some (asks.OneIdeal ones.Split)
    else (if bytes_eq w (codes "compatible") then Some asks.Compatible
    else None)))))))))))))))))))

-- The words of the questions that have an ideal as their answer.
abbrev pub asks_ideal : Ask → Bool
asks_ideal (asks.OneIdeal ones.Basis) = true
asks_ideal (asks.OneIdeal ones.Split) = true
asks_ideal (asks.TwoIdeals twos.Same) = false
asks_ideal (asks.TwoIdeals twos.Sum) = true
asks_ideal (asks.TwoIdeals twos.Product) = true
asks_ideal (asks.TwoIdeals twos.Meet) = true
asks_ideal (asks.TwoIdeals twos.Colon) = true
asks_ideal (asks.Frobenius frobenius.Power) = true
asks_ideal (asks.Frobenius frobenius.Root) = true
asks_ideal (asks.TestIdeal tests.Test) = true
asks_ideal (asks.TestIdeal tests.Left) = true
asks_ideal (asks.TestIdeal tests.IsJump) = false
asks_ideal (asks.TestIdeal tests.Regular) = false
asks_ideal asks.Parts = false
asks_ideal asks.Member = false
asks_ideal asks.Jumps = false
asks_ideal asks.Nu = false
asks_ideal asks.Threshold = false
asks_ideal asks.Pure = false
asks_ideal asks.Compatible = false

unfoldable pub ideal_ask_of : List ℕ → Option Ask
ideal_ask_of w = option_and_then (λ a. if asks_ideal a then Some a else None) (ask_of w)

-- `e F`
unfoldable pub parts : Session → State → Answer Question
parts S s = do
  e ← exponent s
  f ← polynomial S e.1
  Ok (questions.Parts e.0 f.0, f.1)

-- `F J`
unfoldable pub member : Session → State → Answer Question
member S s = do
  f ← polynomial S s
  j ← ideal S f.1
  Ok (questions.Member f.0 j.0, j.1)

-- `J`
abbrev pub about_ideal : OneIdeal → ℕ → Question
about_ideal ones.Basis j = questions.Basis j
about_ideal ones.Split j = questions.Split j

unfoldable pub of_ideal : OneIdeal → Session → State → Answer Question
of_ideal which S s = do
  j ← ideal S s
  Ok (about_ideal which j.0, j.1)

-- `J K`
abbrev pub about_two_ideals : TwoIdeals → ℕ → ℕ → Question
about_two_ideals twos.Same j k = questions.Same j k
about_two_ideals twos.Sum j k = questions.Sum j k
about_two_ideals twos.Product j k = questions.Product j k
about_two_ideals twos.Meet j k = questions.Meet j k
about_two_ideals twos.Colon j k = questions.Colon j k

unfoldable pub of_two_ideals : TwoIdeals → Session → State → Answer Question
of_two_ideals which S s = do
  j ← ideal S s
  k ← ideal S j.1
  Ok (about_two_ideals which j.0 k.0, k.1)

-- `e J`
abbrev pub about_frobenius : Frobenius → ℕ → ℕ → Question
about_frobenius frobenius.Power e j = questions.Power e j
about_frobenius frobenius.Root e j = questions.Root e j

unfoldable pub of_frobenius : Frobenius → Session → State → Answer Question
of_frobenius which S s = do
  e ← exponent s
  j ← ideal S e.1
  Ok (about_frobenius which e.0 j.0, j.1)

-- `F t`. Limits from the left and jumps are at numbers above 0.
abbrev pub about_test_ideal : TestIdeal → ℕ → Fraction → Question
about_test_ideal tests.Test f t = questions.Test f t
about_test_ideal tests.Left f t = questions.Left f t
about_test_ideal tests.IsJump f t = questions.IsJump f t
about_test_ideal tests.Regular f t = questions.Regular f t

abbrev pub is_above_zero : TestIdeal → Bool
is_above_zero tests.Test = false
is_above_zero tests.Left = true
is_above_zero tests.IsJump = true
is_above_zero tests.Regular = false

unfoldable pub of_test_ideal : TestIdeal → Session → State → Answer Question
of_test_ideal which S s = do
  f ← nonconstant S s
  t ← ratio (is_above_zero which) f.1
  Ok (about_test_ideal which f.0 t.0, t.1)

-- `F E`
unfoldable pub jumps : Session → State → Answer Question
jumps S s = do
  f ← nonconstant S s
  e ← level S.prime f.1
  Ok (questions.Jumps f.0 e.0, e.1)

-- `e F J`
unfoldable pub nu : Session → State → Answer Question
nu S s = do
  e ← exponent s
  f ← nonconstant S e.1
  j ← ideal S f.1
  Ok (questions.Nu e.0 f.0 j.0, j.1)

-- An ideal or a point, by its place.
pub data Target : Type 0 where
  Ideal : ℕ → Target
  Point : ℕ → Target

-- the code's target
abbrev pub target_seen : held.Target → Target
target_seen (targets.Ideal i) = Ideal i
target_seen (targets.Point i) = Point i

abbrev pub target_of : (ℕ × Kind) × State → Answer Target
target_of ((i, kinds.Ideal), s) = Ok (Ideal i, s)
target_of ((i, kinds.Point), s) = Ok (Point i, s)
target_of ((i, kinds.Nonconstant), s) = Err (fault_at faults.Kind s)
target_of ((i, kinds.Constant), s) = Err (fault_at faults.Kind s)

abbrev pub threshold_of : ℕ → Target → ℕ → Question
threshold_of f (Ideal j) e = questions.Threshold f j e
threshold_of f (Point at) e = questions.ThresholdAt f at e

unfoldable pub target_at : Session → State → Answer Target
target_at S s = declared S s >>= target_of

-- `F J E` or `F P E`: the name's kind decides which question it is.
unfoldable pub threshold : Session → State → Answer Question
threshold S s = do
  f ← nonconstant S s
  x ← target_at S f.1
  e ← level S.prime x.1
  Ok (threshold_of f.0 x.0 e.0, e.1)

-- `J` or `J P`
unfoldable pub pure : Session → State → Answer Question
pure S s = do
  j ← ideal S s
  option_map_or (λ t. do
    at ← point_by S t.0 t.1
    Ok (questions.PureAt j.0 at.0, at.1)) (next j.1) (Ok (questions.Pure j.0, j.1))

-- `e U J`
unfoldable pub compatible : Session → State → Answer Question
compatible S s = do
  e ← exponent s
  u ← polynomial S e.1
  j ← ideal S u.1
  Ok (questions.Compatible e.0 u.0 j.0, j.1)

-- The arguments of a question, from the word that names it.
unfoldable pub arguments : Ask → Session → State → Answer Question
arguments asks.Parts S s = parts S s
arguments asks.Member S s = member S s
arguments (asks.OneIdeal which) S s = of_ideal which S s
arguments (asks.TwoIdeals which) S s = of_two_ideals which S s
arguments (asks.Frobenius which) S s = of_frobenius which S s
arguments (asks.TestIdeal which) S s = of_test_ideal which S s
arguments asks.Jumps S s = jumps S s
arguments asks.Nu S s = nu S s
arguments asks.Threshold S s = threshold S s
arguments asks.Pure S s = pure S s
arguments asks.Compatible S s = compatible S s

-- A question, from the word that names it, which is one of a list.
unfoldable pub question_by : (List ℕ → Option Ask) → Session → State → Answer Question
question_by named S s = do
  w ← word s
  option_map_or (λ a. arguments a S w.1) (named w.0) (Err (fault_at faults.Syntax w.1))

unfoldable pub question_at : Session → State → Answer Question
question_at S s = question_by ask_of S s

-- A question that has an ideal as its answer.
unfoldable pub ideal_question_at : Session → State → Answer Question
ideal_question_at S s = question_by ideal_ask_of S s

-- The questions that have an ideal as their answer.
abbrev pub answers_ideal : Question → Bool
answers_ideal (questions.Parts e f) = false
answers_ideal (questions.Basis j) = true
answers_ideal (questions.Member f j) = false
answers_ideal (questions.Same j k) = false
answers_ideal (questions.Sum j k) = true
answers_ideal (questions.Product j k) = true
answers_ideal (questions.Meet j k) = true
answers_ideal (questions.Colon j k) = true
answers_ideal (questions.Power e j) = true
answers_ideal (questions.Root e j) = true
answers_ideal (questions.Test f t) = true
answers_ideal (questions.Left f t) = true
answers_ideal (questions.IsJump f t) = false
answers_ideal (questions.Regular f t) = false
answers_ideal (questions.Jumps f e) = false
answers_ideal (questions.Nu e f j) = false
answers_ideal (questions.Threshold f j e) = false
answers_ideal (questions.ThresholdAt f at e) = false
answers_ideal (questions.Pure j) = false
answers_ideal (questions.PureAt j at) = false
answers_ideal (questions.Split j) = true
answers_ideal (questions.Compatible e u j) = false
