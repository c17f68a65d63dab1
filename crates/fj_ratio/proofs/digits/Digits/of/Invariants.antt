use Rattle.fj_ratio.proofs.Expanded.{IsExpanded}
use Rattle.fj_ratio.proofs.digits.Digits.of.Given as goal

abbrev pub invariant-pre_digits : goal.invariant-pre_digits
invariant-pre_digits l = IsExpanded l.p l.t 0 l.counter l.pre.items l.remainder

abbrev pub invariant-period_digits : goal.invariant-period_digits
invariant-period_digits l = IsExpanded l.p l.t l.pre_count l.counter l.period.items l.remainder
