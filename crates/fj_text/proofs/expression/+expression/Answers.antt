use Rattle.std.proofs.Common.{Ok, ap, sym, ◌∙◌, arith}
use Rattle.std.proofs.lemmas.Result.{err_from_is_err_and}
use Rattle.fj_text.specs.declared.fault.Fault.{Fault}
use Rattle.fj_text.specs.declared.fault.ReadFault.TheVariants.{At}
use Rattle.fj_text.specs.Expression.{parenthesised, plus_term, times_factor}
use Rattle.fj_text.specs.State.{unexpected}
use Rattle.fj_text.proofs.Parentheses.{closed, parenthesised-more, parenthesised-zero, closes, not_closed, plus_term-left, reads-fault, reads-passed, reads-same, times_factor-left}
use Rattle.fj_text.proofs.Repeats.{of_none, of_some, reads-refused, reads-stopped, repeat-more, turn-none, turn-some}
use Rattle.fj_text.proofs.expression.+expression.Goals as goal

pub parenthesised-returns-then-depth-eq0-clause-reads : goal.parenthesised-returns-then-depth-eq0-clause-reads
parenthesised-returns-then-depth-eq0-clause-reads g t c =
    reads-fault _ _ _ _ (c.into.ensures ∙ ap (λ (f : Fault). At f) c.fault.ensures) (parenthesised-zero g.K.Coeff.field (g.S.Scope.meaning c.args.scope.now) c.args.depth c.args.reader.now c.if-depth-eq0.true)

pub parenthesised-returns-in_err-value-clause-reads : goal.parenthesised-returns-in_err-value-clause-reads
parenthesised-returns-in_err-value-clause-reads g t c =
    let F = g.K.Coeff.field in
    let meaning = g.S.Scope.meaning c.args.scope.now in
    let p = err_from_is_err_and c.from_residual.result c.from_residual.ensures.1 in
    rw (p.1, p.2) (reads-same _ _ _ _ (parenthesised-more F meaning c.args.depth c.args.reader.now (omega (arith, c.if-depth-eq0.false))) (reads-passed _ _ _ (closed F meaning) c.in_err-value.ensures.reads))

pub parenthesised-returns-then-not-take_sign-clause-reads : goal.parenthesised-returns-then-not-take_sign-clause-reads
parenthesised-returns-then-not-take_sign-clause-reads g t c =
    let F = g.K.Coeff.field in
    let meaning = g.S.Scope.meaning c.args.scope.now in
    let stays = c.if-not-take_sign.ensures.stays in
    reads-fault _ _ _ _ (c.into-then-not-take_sign.ensures ∙ ap (λ (f : Fault). At f) (c.unexpected.ensures ∙ ap unexpected stays.1))
    (not_closed F meaning c.args.depth c.args.reader.now c.sum.new.reader c.in_ok-value.value (omega (arith, c.if-depth-eq0.false)) c.in_ok-value.ensures.reads stays.0)

pub parenthesised-returns-clause-reads : goal.parenthesised-returns-clause-reads
parenthesised-returns-clause-reads g t c =
    let F = g.K.Coeff.field in
    let meaning = g.S.Scope.meaning c.args.scope.now in
    closes F meaning c.args.depth c.args.reader.now c.sum.new.reader c.take_sign.new.self c.in_ok-value.value (omega (arith, c.if-depth-eq0.false)) c.in_ok-value.ensures.reads c.if-not-take_sign.ensures.taken

pub sum-returns-in_err-sum-clause-reads : goal.sum-returns-in_err-sum-clause-reads
sum-returns-in_err-sum-clause-reads g t c =
    let F = g.K.Coeff.field in
    let meaning = g.S.Scope.meaning c.args.scope.now in
    let inside = parenthesised F meaning c.args.depth in
    let p = err_from_is_err_and c.from_residual-in_err-sum.result c.from_residual-in_err-sum.ensures.1 in
    rw (p.1, p.2) (reads-refused (plus_term F meaning inside) c.terms.total c.terms.reader c.plus_term.new.reader _ _ c.terms.invariant.repeats (plus_term-left F meaning inside c.terms.total c.terms.reader) c.in_err-sum.ensures.reads)

pub sum-terms-preserved : goal.sum-terms-preserved
sum-terms-preserved g t c =
    let F = g.K.Coeff.field in
    let meaning = g.S.Scope.meaning c.args.scope.now in
    let turn = plus_term F meaning (parenthesised F meaning c.args.depth) in
    let fewer = of_some _ _ _ c.in-Some.is c.in_ok-sum.ensures.taken in record {
      repeats = repeat-more turn c.terms.total c.in-Some.sum c.terms.reader c.plus_term.new.reader _ c.terms.invariant.repeats (turn-some _ _ _ _ _ c.in-Some.is c.in_ok-sum.ensures.reads) fewer;
      taken = omega (arith, fewer, c.terms.invariant.taken);
    }

pub sum-returns-clause-reads : goal.sum-returns-clause-reads
sum-returns-clause-reads g t c =
    let F = g.K.Coeff.field in
    let meaning = g.S.Scope.meaning c.args.scope.now in
    reads-stopped (plus_term F meaning (parenthesised F meaning c.args.depth)) c.terms.total c.terms.reader c.plus_term.new.reader _ c.terms.invariant.repeats (turn-none _ _ _ _ c.in_default.is c.in_ok-sum.ensures.reads)
    ∙ ap (λ p. Ok (p, c.plus_term.new.reader)) (sym (of_none _ _ c.in_default.is c.in_ok-sum.ensures.kept))

pub term-returns-in_err-product-clause-reads : goal.term-returns-in_err-product-clause-reads
term-returns-in_err-product-clause-reads g t c =
    let F = g.K.Coeff.field in
    let meaning = g.S.Scope.meaning c.args.scope.now in
    let inside = parenthesised F meaning c.args.depth in
    let p = err_from_is_err_and c.from_residual-in_err-product.result c.from_residual-in_err-product.ensures.1 in
    rw (p.1, p.2) (reads-refused (times_factor F meaning inside) c.factors.value c.factors.reader c.times_factor.new.reader _ _ c.factors.invariant.repeats (times_factor-left F meaning inside c.factors.value c.factors.reader) c.in_err-product.ensures.reads)

pub term-factors-preserved : goal.term-factors-preserved
term-factors-preserved g t c =
    let F = g.K.Coeff.field in
    let meaning = g.S.Scope.meaning c.args.scope.now in
    let turn = times_factor F meaning (parenthesised F meaning c.args.depth) in
    let fewer = of_some _ _ _ c.in-Some.is c.in_ok-product.ensures.taken in record {
      repeats = repeat-more turn c.factors.value c.in-Some.product c.factors.reader c.times_factor.new.reader _ c.factors.invariant.repeats (turn-some _ _ _ _ _ c.in-Some.is c.in_ok-product.ensures.reads) fewer;
      taken = omega (arith, fewer, c.factors.invariant.taken);
    }

pub term-returns-clause-reads : goal.term-returns-clause-reads
term-returns-clause-reads g t c =
    let F = g.K.Coeff.field in
    let meaning = g.S.Scope.meaning c.args.scope.now in
    reads-stopped (times_factor F meaning (parenthesised F meaning c.args.depth)) c.factors.value c.factors.reader c.times_factor.new.reader _ c.factors.invariant.repeats (turn-none _ _ _ _ c.in_default.is c.in_ok-product.ensures.reads)
