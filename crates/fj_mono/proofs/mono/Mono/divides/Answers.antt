use Rattle.std.proofs.Common.{sym, ap, ◌∙◌, arith}
use Rattle.fj_mono.proofs.Combine.{divides_not, divides_from_entries}
use Rattle.fj_mono.proofs.mono.Mono.divides.Goals as goal

pub returns-then-self-i : goal.returns-then-self-i
returns-then-self-i c =
    sym (divides_not c.args.self.now.exponents c.args.o.now.exponents (c.args.self.now.eight ∙ sym c.args.o.now.eight) c.loop-i.i
    (rw (ap (λ m. m.exponents) c.self.view_is, ap (λ m. m.exponents) c.o.view_is) at c.if-self-i.true))

pub returns : goal.returns
returns c = sym (divides_from_entries c.args.self.now.exponents c.args.o.now.exponents c.args.self.now.eight c.args.o.now.eight (λ k l. c.loop-i.invariant k (omega arith)))
