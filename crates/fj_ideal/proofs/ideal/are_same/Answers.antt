use Rattle.std.proofs.Common.{length, ap, rules, tests, arith}
use Rattle.std.proofs.lemmas.Bool.Decides.{Decides-eqb}
use Rattle.std.proofs.lemmas.Iterator.{same_from_all, YieldsList-from_slice, YieldsList-from_zip}
use Rattle.fj_ideal.proofs.ideal.are_same.Goals as goal

pub returns-then-list-others : goal.returns-then-list-others
returns-then-list-others g c =
    let xs = c.args.list.now in
    let ys = c.args.others.now in
    same_from_all c.all.new.self _ c.all.result xs ys c.all.ensures.ran (YieldsList-from_zip (YieldsList-from_slice xs cc) (YieldsList-from_slice ys cc)) (omega arith) (λ x q k. search (rules, tests)) (λ x q k. search (rules, tests))

pub returns-else-list-others : goal.returns-else-list-others
returns-else-list-others g c =
    let apart = c.if-list-others.false in
    (λ t. absurd (apart ((Decides-eqb (length c.args.list.now) (length c.args.others.now)).0 t)), λ e. absurd (apart (ap length e)))
