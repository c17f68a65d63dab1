use Rattle.std.proofs.Common.{◌≡◌, get_or, max, ap, ◌∙◌, ap₂, arith}
use Rattle.std.proofs.lemmas.List.{length-set}
use Rattle.fj_theory.specs.Exponents.{least_common_multiple}
use Rattle.fj_mono.proofs.Combine.{combined, least_common_multiple-combine, written}
use Rattle.fj_mono.proofs.mono.Mono.lcm.Goals as goal

pub loop-i-preserved : goal.loop-i-preserved
loop-i-preserved c =
    let m = ap (λ m. m.exponents) c.self.view_is in
    let n = ap (λ m. m.exponents) c.o.view_is in
    record {
      eight = length-set c.loop-i.exponents _ _ ∙ c.loop-i.invariant.eight;
      written = written (λ k. max (get_or c.args.self.now.exponents k 0) (get_or c.args.o.now.exponents k 0)) c.loop-i.exponents c.loop-i.i _ (omega (arith, c.loop-i.invariant.eight)) c.loop-i.invariant.written (c.max.ensures ∙ ap₂ (λ a b. max (get_or a c.loop-i.i 0) (get_or b c.loop-i.i 0)) m n);
    }

made : (c : goal.After-new) → c.loop-i.exponents ≡ least_common_multiple c.args.self.now.exponents c.args.o.now.exponents
made c =
    combined _ c.args.self.now.exponents c.args.o.now.exponents c.loop-i.exponents c.args.self.now.eight c.args.o.now.eight c.loop-i.invariant.eight (λ k l. c.loop-i.invariant.written k (omega arith))
    ∙ least_common_multiple-combine _ _

pub returns-clause-value : goal.returns-clause-value
returns-clause-value c = rw (← made c) c.new.ensures.value

pub returns-clause-high : goal.returns-clause-high
returns-clause-high c = rw (← made c) c.new.ensures.high
