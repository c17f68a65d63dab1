use Rattle.std.proofs.Common.{◌∷◌, ◌++◌, [], take, All, sym, ap, ◌∙◌, subst, add-one}
use Rattle.std.proofs.Math.Seq.{take-suc}
use Rattle.std.proofs.lemmas.List.Elements.{All-append, All-cons, All-nil}
use Rattle.fj_plain.specs.Holds.{Holds}
use Rattle.fj_audit_tests.proofs.handing.all_hold.Goals as goal

pub loop-c-preserved : goal.loop-c-preserved
loop-c-preserved c =
    subst (All Holds)
    (sym (ap (λ n. take n c.args.certs.now) (add-one c.loop-c.c-index) ∙ take-suc c.args.certs.now c.loop-c.c-index c.c-item.result c.loop-c-test.true ∙ ap (λ x. take c.loop-c.c-index c.args.certs.now ++ (x ∷ [])) (sym c.c-item.is)))
    (All-append Holds (take c.loop-c.c-index c.args.certs.now) (c.c-item.result ∷ []) c.loop-c.invariant (All-cons Holds c.c-item.result [] (c.in_ok-good.ensures.0 c.if-not-good.false) (All-nil Holds)))
