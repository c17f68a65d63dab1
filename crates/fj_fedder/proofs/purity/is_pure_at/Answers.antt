use Rattle.std.proofs.Common.{◌≢◌, ◌^◌, ◌∙◌, List, Any, sym, subst, true≢false}
use Rattle.fj_theory.specs.Evaluation.{value}
use Rattle.fj_theory.specs.Polynomial.{Polynomial}
use Rattle.fj_theory.specs.Root.{IsRoot}
use Rattle.fj_theory.proofs.Fedder.{IsFPureAt-exactly}
use Rattle.fj_fedder.proofs.purity.is_pure_at.Goals as goal

pub returns-then-has_nonzero-clause-value : goal.returns-then-has_nonzero-clause-value
returns-then-has_nonzero-clause-value g c =
    let F = g.K.Coeff.field in
    let root = subst (λ (G : List Polynomial). IsRoot F (F.characteristic ^ 1) G c.in_ok-root.root.items) c.deref.ensures.value c.in_ok-root.ensures.root in
    let law = IsFPureAt-exactly g.met.K.Coeff.lawful (c.given.ensures.ideal).polynomials (c.in_ok-colon.ensures.colon).colon root c.len.ensures.point in
    let some = subst (Any (λ r. value F r c.args.at.now ≢ 0)) c.deref-2.ensures.value (c.has_nonzero.ensures.0 c.if-has_nonzero.true) in
    (c.vanishes_at.ensures.given.0 c.if-not-vanishes_at.false, law.1 some)

pub returns-clause-value : goal.returns-clause-value
returns-clause-value g c =
    let F = g.K.Coeff.field in
    let root = subst (λ (G : List Polynomial). IsRoot F (F.characteristic ^ 1) G c.in_ok-root.root.items) c.deref.ensures.value c.in_ok-root.ensures.root in
    let law = IsFPureAt-exactly g.met.K.Coeff.lawful (c.given.ensures.ideal).polynomials (c.in_ok-colon.ensures.colon).colon root c.len.ensures.point in (
      c.vanishes_at.ensures.given.0 c.if-not-vanishes_at.false,
      λ pure. true≢false (sym (c.has_nonzero.ensures.1 (subst (Any (λ r. value F r c.args.at.now ≢ 0)) (sym c.deref-2.ensures.value) (law.0 pure))) ∙ c.if-has_nonzero.false),
    )
