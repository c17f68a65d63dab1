use Rattle.std.proofs.Common.{◌≢◌, AllPairs, refl, sym, subst, ◌∙◌}
use Rattle.std.proofs.lemmas.Bool.{true≢false}
use Rattle.std.proofs.lemmas.List.{take_all}
use Rattle.fj_plain.specs.declared.term.PlainTerm.{PlainTerm}
use Rattle.fj_plain.proofs.Distinct.{pairs_more, pairs_before}
use Rattle.fj_plain.proofs.plain.differ_pairwise.Goals as goal

pub returns-then-not-lacks_exponents : goal.returns-then-not-lacks_exponents
returns-then-not-lacks_exponents c = (
  λ no. absurd (true≢false (sym no)),
  λ pairs. sym c.if-not-lacks_exponents.true ∙ c.lacks_exponents.ensures.1 (pairs_before (λ (s t : PlainTerm). s.exps ≢ t.exps) c.args.terms.now c.loop-i.i c.index-terms-i.result c.loop-i-test.true c.index-terms-i.is pairs),
)

pub loop-i-preserved : goal.loop-i-preserved
loop-i-preserved c =
    pairs_more (λ (s t : PlainTerm). s.exps ≢ t.exps) c.args.terms.now c.loop-i.i c.index-terms-i.result c.loop-i-test.true c.index-terms-i.is (c.lacks_exponents.ensures.0 c.if-not-lacks_exponents.false) c.loop-i.invariant

pub returns : goal.returns
returns c = (λ _. subst (λ ts. AllPairs (λ (s t : PlainTerm). s.exps ≢ t.exps) ts) (take_all c.loop-i.i c.args.terms.now c.loop-i-test.false) c.loop-i.invariant, λ _. refl)
