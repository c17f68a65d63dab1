use Rattle.std.proofs.Common.{◌-◌, get_or, sym, ap, ◌∙◌, ap₂, arith}
use Rattle.std.proofs.lemmas.List.{length-set}
use Rattle.fj_mono.proofs.Combine.{minus_written, written, divides_entry, total-minus}
use Rattle.fj_mono.proofs.mono.Mono.quot.Goals as goal

pub loop-i-preserved : goal.loop-i-preserved
loop-i-preserved c =
    let m = ap (λ m. m.exponents) c.self.view_is in
    let n = ap (λ m. m.exponents) c.o.view_is in
    record {
      eight = length-set c.loop-i.exponents _ _ ∙ c.loop-i.invariant.eight;
      written = written (λ k. get_or c.args.self.now.exponents k 0 - get_or c.args.o.now.exponents k 0) c.loop-i.exponents c.loop-i.i _ (omega (arith, c.loop-i.invariant.eight)) c.loop-i.invariant.written (ap₂ (λ a b. get_or a c.loop-i.i 0 - get_or b c.loop-i.i 0) m n);
    }

pub overflow_sub-exponents : goal.overflow_sub-exponents
overflow_sub-exponents c =
    rw (ap (λ m. m.exponents) c.self.view_is, ap (λ m. m.exponents) c.o.view_is)
    (divides_entry _ _ (c.args.o.now.eight ∙ sym c.args.self.now.eight) c.requires c.loop-i.i)

pub invariant_of-result : goal.invariant_of-result
invariant_of-result c =
    (c.loop-i.invariant.eight, (rw (minus_written c.args.self.now.exponents c.args.o.now.exponents c.loop-i.exponents c.args.self.now.eight c.args.o.now.eight c.loop-i.invariant.eight (λ k l. c.loop-i.invariant.written k (omega arith))) (let below = total-minus c.args.self.now.exponents c.args.o.now.exponents (c.args.o.now.eight ∙ sym c.args.self.now.eight) c.requires in omega (arith, c.args.self.now.bounded)), tt))

pub returns : goal.returns
returns c = minus_written c.args.self.now.exponents c.args.o.now.exponents c.loop-i.exponents c.args.self.now.eight c.args.o.now.eight c.loop-i.invariant.eight (λ k l. c.loop-i.invariant.written k (omega arith))
