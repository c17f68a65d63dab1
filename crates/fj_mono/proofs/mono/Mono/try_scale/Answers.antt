use Rattle.std.proofs.Common.{◌*◌, ◌<◌, ◌≤◌, ◌^◌, get_or, sum, refl, sym, ap, ◌∙◌, arith}
use Rattle.std.proofs.lemmas.List.{length-set}
use Rattle.std.proofs.lemmas.Bool.{true≢false}
use Rattle.fj_theory.proofs.Exponents.{total-times}
use Rattle.fj_mono.proofs.Combine.{times_written, written}
use Rattle.fj_mono.proofs.mono.Mono.try_scale.Goals as goal

pub loop-i-preserved : goal.loop-i-preserved
loop-i-preserved c =
    let m = ap (λ m. m.exponents) c.self.view_is in
    record {
      eight = length-set c.loop-i.exponents _ _ ∙ c.loop-i.invariant.eight;
      written = written (λ k. get_or c.args.self.now.exponents k 0 * c.args.q) c.loop-i.exponents c.loop-i.i _ (omega (arith, c.loop-i.invariant.eight)) c.loop-i.invariant.written (ap (λ a. get_or a c.loop-i.i 0 * c.args.q) m);
    }

pub returns-then-degree-gt-DEGREE_LIMIT-clause-high : goal.returns-then-degree-gt-DEGREE_LIMIT-clause-high
returns-then-degree-gt-DEGREE_LIMIT-clause-high c =
    let above : 2 ^ 40 < c.args.q * sum c.args.self.now.exponents =
    omega (arith, c.total.ensures, c.saturating_mul-degree.ensures, c.if-degree-gt-DEGREE_LIMIT.true, ap (λ t. t * c.args.q) c.total.ensures) in
    rw (total-times c.args.q c.args.self.now.exponents) (λ e. above, λ h. refl)

pub invariant_of-result : goal.invariant_of-result
invariant_of-result c =
    let small : c.args.q * sum c.args.self.now.exponents ≤ 2 ^ 40 =
    omega (arith, c.saturating_mul-degree.ensures, c.if-degree-gt-DEGREE_LIMIT.false, ap (λ t. t * c.args.q) c.total.ensures) in
    let made = times_written c.args.q c.args.self.now.exponents c.loop-i.exponents c.args.self.now.eight c.loop-i.invariant.eight (λ k l. c.loop-i.invariant.written k (omega arith)) in
    (c.loop-i.invariant.eight, (rw (made, total-times c.args.q c.args.self.now.exponents) small, tt))

pub returns-clause-value : goal.returns-clause-value
returns-clause-value c =
    times_written c.args.q c.args.self.now.exponents c.loop-i.exponents c.args.self.now.eight c.loop-i.invariant.eight (λ k l. c.loop-i.invariant.written k (omega arith))

pub returns-clause-high : goal.returns-clause-high
returns-clause-high c =
    let small : c.args.q * sum c.args.self.now.exponents ≤ 2 ^ 40 =
    omega (arith, c.saturating_mul-degree.ensures, c.if-degree-gt-DEGREE_LIMIT.false, ap (λ t. t * c.args.q) c.total.ensures) in
    rw (total-times c.args.q c.args.self.now.exponents) (λ e. absurd (true≢false (sym e)), λ above. absurd (omega arith))
