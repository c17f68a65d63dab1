use Rattle.std.proofs.Common.{arith}
use Rattle.fj_ratio.proofs.NextDigit.{step}
use Rattle.fj_ratio.proofs.digits.next_digit.Goals as goal

pub overflow_mul-product : goal.overflow_mul-product
overflow_mul-product c =
    let known = step _ _ _ c.requires.prime c.requires.above_zero c.requires.at_most_one c.requires.narrow in omega arith

pub overflow_sub-digit : goal.overflow_sub-digit
overflow_sub-digit c =
    let known = step _ _ _ c.requires.prime c.requires.above_zero c.requires.at_most_one c.requires.narrow in omega arith

pub overflow_mul-remainder : goal.overflow_mul-remainder
overflow_mul-remainder c =
    let known = step _ _ _ c.requires.prime c.requires.above_zero c.requires.at_most_one c.requires.narrow in omega arith

pub overflow_cast-result : goal.overflow_cast-result
overflow_cast-result c =
    let known = step _ _ _ c.requires.prime c.requires.above_zero c.requires.at_most_one c.requires.narrow in omega arith

pub returns-clause-above_zero : goal.returns-clause-above_zero
returns-clause-above_zero c =
    let known = step _ _ _ c.requires.prime c.requires.above_zero c.requires.at_most_one c.requires.narrow in omega arith
