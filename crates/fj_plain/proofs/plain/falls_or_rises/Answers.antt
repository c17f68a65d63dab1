use Rattle.std.proofs.Common.{◌≡◌, ◌≢◌, Equal, ◌≤◌, ◌<◌, length, rules, sym, ◌∙◌, arith}
use Rattle.fj_theory.specs.MonomialOrder.{compare_by}
use Rattle.fj_plain.specs.TermKey.{term_key}
use Rattle.fj_plain.proofs.Directions.{InDirection-more, AllPairs-from_InDirection}
use Rattle.fj_plain.proofs.plain.falls_or_rises.Goals as goal

pub loop-i-init : goal.loop-i-init
loop-i-init c =
    let strict : c.compare-direction.result ≢ Equal = search rules in
    record { strict = strict; ordered = λ a b d g l. absurd (omega arith) }

pub loop-i-preserved : goal.loop-i-preserved
loop-i-preserved c =
    let same : c.compare.result ≡ c.compare-direction.result = search rules in
    let step : c.compare.result ≡ compare_by (term_key c.args.order) c.index-terms-i.result.exps c.index-terms-i-in-loop-i.result.exps = c.compare.ensures in
    let first : 1 ≤ c.loop-i.i = omega arith in
    let within : c.loop-i.i < length c.args.terms.now = omega arith in
    InDirection-more (term_key c.args.order) c.compare-direction.result c.args.terms.now c.loop-i.i c.index-terms-i.result c.index-terms-i-in-loop-i.result
    first within c.index-terms-i.is c.index-terms-i-in-loop-i.is (sym step ∙ same) c.loop-i.invariant

pub returns : goal.returns
returns c = λ _. AllPairs-from_InDirection (term_key c.args.order) c.compare-direction.result c.args.terms.now c.loop-i.i c.loop-i-test.false c.loop-i.invariant
