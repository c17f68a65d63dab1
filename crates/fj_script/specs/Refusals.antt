-- A refusal of an expression, as one of a line.
use Rattle.fj_text.specs.declared.fault.ReadFault.{ReadFault}
use Rattle.fj_text.specs.declared.fault.ReadFault.TheVariants as texts
use Rattle.fj_script.specs.declared.fault.LineRefusal.{LineRefusal}
use Rattle.fj_script.specs.declared.fault.LineRefusal.TheVariants.{At, Memory}
use Rattle.fj_script.specs.LineFault.{fault_of}

abbrev pub refusal_of : ReadFault → LineRefusal
refusal_of (texts.At fault) = At (fault_of fault)
refusal_of texts.Memory = Memory
