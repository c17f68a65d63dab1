use Rattle.std.proofs.Common.{nat_lt, arith, sym}
use Rattle.std.proofs.lemmas.List.Folds.{list_any_none}
use Rattle.fj_theory.specs.Exponents.{total}
use Rattle.fj_script.proofs.Values.{one_more, some_at}
use Rattle.fj_script.proofs.value.is_nonconstant.Goals as goal

pub returns-then-has_variable : goal.returns-then-has_variable
returns-then-has_variable c =
    some_at (λ t. nat_lt 0 (total t.0)) c.args.f.now.terms c.loop-i.i _ c.get.ensures (omega (arith, c.loop-i-test.true, c.len-i-end.ensures)) c.if-has_variable.ensures

pub loop-i-preserved : goal.loop-i-preserved
loop-i-preserved c =
    one_more (λ t. nat_lt 0 (total t.0)) c.args.f.now.terms c.loop-i.i _ c.get.ensures (sym c.if-has_variable.ensures) c.loop-i.invariant

pub returns : goal.returns
returns c =
    sym (list_any_none (λ t. nat_lt 0 (total t.0)) c.args.f.now.terms (λ k d inside. c.loop-i.invariant k d (omega (arith, c.loop-i-test.false, c.len-i-end.ensures))))
