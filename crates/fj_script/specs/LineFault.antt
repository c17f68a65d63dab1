-- What is read of a line, and the first fault of a line.
use Rattle.std.specs.Prelude.{Result, Ok, Err}
use Rattle.fj_text.specs.declared.fault.Cause.{Cause}
use Rattle.fj_text.specs.declared.fault.Cause.TheVariants as causes
use Rattle.fj_text.specs.declared.fault.Fault as text
use Rattle.fj_text.specs.State.{State, unexpected}
use Rattle.fj_script.specs.declared.fault.FaultKind.{FaultKind}
use Rattle.fj_script.specs.declared.fault.FaultKind.TheVariants as kinds
use Rattle.fj_script.specs.declared.fault.LineFault.{LineFault}

-- What stands at the front of the tokens that are left and the state after it, or the first fault.
abbrev pub Answer : Type 0 → Type 0
Answer A = Result (A × State) LineFault

infixl 10 ◌>>=◌
abbrev pub ◌>>=◌ : {A B E : Type 0} → Result A E → (A → Result B E) → Result B E
(Ok x) >>= f = f x
(Err e) >>= f = Err e

-- a fault at the token that was taken last
abbrev pub fault_at : FaultKind → State → LineFault
fault_at kind s = record { kind = kind; column = s.start }

-- The fault of an expression.
abbrev pub kind_of : Cause → FaultKind
kind_of causes.Byte = kinds.Byte
kind_of causes.Syntax = kinds.Syntax
kind_of causes.Unknown = kinds.Unknown
kind_of causes.Kind = kinds.Kind
kind_of causes.Wide = kinds.Wide
kind_of causes.Large = kinds.Large

abbrev pub fault_of : text.Fault → LineFault
fault_of fault = record { kind = kind_of fault.cause; column = fault.place }

-- The fault where no token that is left may stand.
abbrev pub not_here : State → LineFault
not_here s = fault_of (unexpected s)
