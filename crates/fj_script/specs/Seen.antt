-- How the code's answers and values are seen.
use Rattle.std.specs.Prelude.{◌≡◌, ℕ, List, map, Result, Ok, Err}
use Rattle.fj_theory.specs.Plain.{PlainPolynomial}
use Rattle.fj_text.specs.State.{State}
use Rattle.fj_script.specs.declared.fault.Fault.{Fault}
use Rattle.fj_script.specs.declared.fault.LineFault.{LineFault}
use Rattle.fj_script.specs.declared.fault.LineRefusal.{LineRefusal}
use Rattle.fj_script.specs.declared.fault.LineRefusal.TheVariants as refusals
use Rattle.fj_script.specs.declared.fault.ScriptFault.{ScriptFault}
use Rattle.fj_script.specs.declared.fault.ScriptFault.TheVariants as faults
use Rattle.fj_script.specs.declared.value.Value as code
use Rattle.fj_script.specs.declared.value.Value.TheVariants as values
use Rattle.fj_script.specs.declared.script.Script.{Script}
use Rattle.fj_script.specs.LineFault.{Answer}
use Rattle.fj_script.specs.Session.{Session, Terms, Value, Poly, Ideal, Point, Let}

-- A function gives what a rule answers: the value, with this state after it, or the first fault.
abbrev pub Gives : {X A : Type 0} → (X → A) → Result X LineFault → State → Answer A → Type 0
Gives view (Ok x) s answer = answer ≡ Ok (view x, s)
Gives view (Err fault) s answer = answer ≡ Err fault

-- The same of a function that may want memory. Of that nothing is said.
abbrev pub Reads : {X A : Type 0} → (X → A) → Result X LineRefusal → State → Answer A → Type 0
Reads view (Ok x) s answer = answer ≡ Ok (view x, s)
Reads view (Err (refusals.At fault)) s answer = answer ≡ Err fault
Reads view (Err refusals.Memory) s answer = Unit {0}

-- The same of a function that answers a session, or changes one.
abbrev pub Makes : {X A : Type 0} → (X → A) → Result X LineRefusal → Result A LineFault → Type 0
Makes view (Ok x) answer = answer ≡ Ok (view x)
Makes view (Err (refusals.At fault)) answer = answer ≡ Err fault
Makes view (Err refusals.Memory) answer = Unit {0}

abbrev pub terms_of : List PlainPolynomial → List Terms
terms_of hs = map (λ h. h.terms) hs

abbrev pub seen : code.Value → Value
seen (values.Poly h) = Poly h.terms
seen (values.Ideal hs) = Ideal (terms_of hs)
seen (values.Point cs) = Point cs
seen (values.Let budget question) = Let budget question

abbrev pub seen_values : List (List ℕ × code.Value) → List (List ℕ × Value)
seen_values vs = map (λ v. (v.0, seen v.1)) vs

-- A script holds the ring, the values by their names in order of declaration and the questions of a session.
pub record Holds (script : Script) (S : Session) : Type 0 where
  pub prime : script.env.p ≡ S.prime
  pub variables : script.env.vars ≡ S.variables
  pub values : seen_values script.env.values ≡ S.values
  pub questions : script.asked ≡ S.asked

-- The answer of `read_script` is this: the script, or the first fault. Of want of memory nothing is said.
abbrev pub IsReadingOf : Result Session Fault → Result Script ScriptFault → Type 0
IsReadingOf read (Ok script) = (S : Session) × (read ≡ Ok S) × Holds script S
IsReadingOf read (Err (faults.At fault)) = read ≡ Err fault
IsReadingOf read (Err faults.Memory) = Unit {0}
