use Rattle.std.proofs.Common.{◌≡◌, ◌^◌, ◌+◌, ◌++◌, ◌∷◌, [], take, sym, ap, ◌∙◌, subst}
use Rattle.std.proofs.lemmas.List.{take_all, take_more}
use Rattle.fj_root.specs.Root.{ArePartsOf}
use Rattle.fj_root.proofs.Roots.{ArePartsOf-more, IsRoot-ArePartsOf}
use Rattle.fj_root.proofs.root.root_list.Goals as goal

pub loop-h-preserved : goal.loop-h-preserved
loop-h-preserved g c =
    let before = take c.loop-h.h-index c.args.list.now in
    let more : take (c.loop-h.h-index + 1) c.args.list.now ≡ before ++ c.h-item.result ∷ [] =
    take_more c.args.list.now c.loop-h.h-index c.h-item.result c.loop-h-test.true ∙ ap (λ h. before ++ h ∷ []) (sym c.h-item.is) in
    let found = c.in_ok-push_parts.ensures in
    rw (more, found.2) (ArePartsOf-more c.loop-h.invariant found.1)

pub returns-clause-root : goal.returns-clause-root
returns-clause-root g c =
    let whole : take c.loop-h.h-index c.args.list.now ≡ c.args.list.now = take_all c.loop-h.h-index c.args.list.now c.loop-h-test.false in
    IsRoot-ArePartsOf g.met.K.Coeff.lawful c.args.e (subst (λ L. ArePartsOf g.K.Coeff.field (g.K.Coeff.field.characteristic ^ c.args.e) L c.loop-h.root.items) whole c.loop-h.invariant)
