use Rattle.std.proofs.Common.{arith}
use Rattle.fj_script.proofs.Columns.{fault_in_line}
use Rattle.fj_script.proofs.reading.numbered_line.Goals as goal

pub overflow_cast-result : goal.overflow_cast-result
overflow_cast-result c =
    omega (arith, fault_in_line c.args.before c.args.bytes.now c.in-Err-At.fault (rw c.in-Err-At.field-0-is at c.in-Err-At.ensures), c.requires)

pub overflow_add-result : goal.overflow_add-result
overflow_add-result c =
    omega (arith, fault_in_line c.args.before c.args.bytes.now c.in-Err-At.fault (rw c.in-Err-At.field-0-is at c.in-Err-At.ensures), c.requires)
