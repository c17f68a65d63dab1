use Rattle.std.proofs.Common.{◌+◌, ◌-◌, length, sym, ap, ◌∙◌, subst, arith}
use Rattle.fj_basis.specs.Forming.{AreMarked, IsMarked, UsesBelow}
use Rattle.fj_basis.proofs.Gathered.{whole-written}
use Rattle.fj_basis.proofs.Marks.{ClosedFrom, closed-marked}
use Rattle.fj_basis.proofs.forming.needed.Goals as goal

pub loop-k-preserved-then-index : goal.loop-k-preserved-then-index
loop-k-preserved-then-index g c =
    let k = c.loop-k.k - 1 in
    let needed = c.loop-k.needed in
    let new = c.mark_uses.new.marks in
    let long = c.mark_uses.ensures.long ∙ ap length c.deref_mut.ensures.value in
    let before : ClosedFrom c.args.makings.now c.args.from (k + 1) needed.items = subst (λ n. ClosedFrom c.args.makings.now c.args.from n needed.items) (omega (arith, c.loop-k-test.true)) c.loop-k.invariant in
    subst (ClosedFrom c.args.makings.now c.args.from k) (sym (whole-written needed.len new needed.items long needed.ok.0))
    (closed-marked c.args.makings.now c.requires c.args.from k needed.items before new c.index-makings-k.result c.index-makings-k.is long
    (subst (λ m. AreMarked new m.source) (sym c.index-makings-k.is) c.mark_uses.ensures.marked)
    (λ j own. c.mark_uses.ensures.kept j (subst (λ marks. IsMarked marks j) (sym c.deref_mut.ensures.value) own))
    (λ n j below le own. subst (λ marks. IsMarked marks j) c.deref_mut.ensures.value (c.mark_uses.ensures.beyond n j (subst (λ m. UsesBelow n m.source) c.index-makings-k.is below) le own)))
