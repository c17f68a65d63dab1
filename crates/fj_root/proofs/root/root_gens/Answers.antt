use Rattle.std.proofs.Common.{◌≡◌, ◌+◌, ◌^◌, ◌++◌, ◌∷◌, [], take, sym, ap, ◌∙◌, subst, All}
use Rattle.std.proofs.lemmas.List.{map-append, take_all, take_more}
use Rattle.std.proofs.lemmas.List.Elements.{All-push}
use Rattle.fj_theory.specs.Ideal.{multiples}
use Rattle.fj_theory.specs.Parts.{IsParts}
use Rattle.fj_theory.specs.Polynomial.{power, product}
use Rattle.fj_theory.specs.Root.{IsRoot}
use Rattle.fj_theory.proofs.PolynomialRing.{IsPolynomial-power}
use Rattle.fj_poly.specs.Limit.{IsHigh}
use Rattle.fj_root.proofs.Limits.{Any-map, handed_on, high_multiples, none_high_of_zeros}
use Rattle.fj_root.proofs.Roots.{ArePartsOf-more, ArePartsOf-zeros, IsRoot-ArePartsOf, zero_multiples}
use Rattle.fj_root.proofs.root.root_gens.Goals as goal

pub returns-then-not-has_nonzero-clause-parts : goal.returns-then-not-has_nonzero-clause-parts
returns-then-not-has_nonzero-clause-parts g c =
    rw c.new-root.ensures.items (ArePartsOf-zeros _ (zero_multiples g.K.Coeff.field (power g.K.Coeff.field c.args.f.now c.args.d) c.args.list.now c.if-not-has_nonzero.ensures))

pub returns-then-not-has_nonzero-clause-root : goal.returns-then-not-has_nonzero-clause-root
returns-then-not-has_nonzero-clause-root g c =
    rw c.new-root.ensures.items (IsRoot-ArePartsOf g.met.K.Coeff.lawful 1 (ArePartsOf-zeros _ (zero_multiples g.K.Coeff.field (power g.K.Coeff.field c.args.f.now c.args.d) c.args.list.now c.if-not-has_nonzero.ensures)))

pub returns-then-not-has_nonzero-clause-high : goal.returns-then-not-has_nonzero-clause-high
returns-then-not-has_nonzero-clause-high g c =
    none_high_of_zeros _ (zero_multiples g.K.Coeff.field (power g.K.Coeff.field c.args.f.now c.args.d) c.args.list.now c.if-not-has_nonzero.ensures)

pub returns-in_err-factor-clause-high : goal.returns-in_err-factor-clause-high
returns-in_err-factor-clause-high g c =
    let L = g.met.K.Coeff.lawful in
    handed_on c.in_err-factor.field-0.0 _ c.from_residual.ensures.1
    (high_multiples L c.args.list.now (IsPolynomial-power L c.pow.ensures.base c.args.d) c.if-not-has_nonzero.ensures) c.in_err-factor.ensures.high

pub returns-in_err-mul-clause-high : goal.returns-in_err-mul-clause-high
returns-in_err-mul-clause-high g c =
    let F = g.K.Coeff.field in
    let f = power F c.args.f.now c.args.d in
    let formed : product F c.in_ok-factor.factor c.g-item.result ≡ product F f c.g-item.result = ap (λ h. product F h c.g-item.result) c.in_ok-factor.ensures.value in
    handed_on c.in_err-mul.field-0.0 _ c.from_residual-in_err-mul.ensures.1
    (λ high. Any-map IsHigh (product F f) c.args.list.now c.loop-g.g-index c.g-item.result c.loop-g-test.true c.g-item.is (subst IsHigh formed high)) c.in_err-mul.ensures.high

pub loop-g-preserved : goal.loop-g-preserved
loop-g-preserved g c =
    let F = g.K.Coeff.field in
    let f = power F c.args.f.now c.args.d in
    let before = take c.loop-g.g-index c.args.list.now in
    let more : multiples F f (take (c.loop-g.g-index + 1) c.args.list.now) ≡ multiples F f before ++ product F f c.g-item.result ∷ [] =
    ap (multiples F f) (take_more c.args.list.now c.loop-g.g-index c.g-item.result c.loop-g-test.true ∙ ap (λ h. before ++ h ∷ []) (sym c.g-item.is))
    ∙ map-append (product F f) before (c.g-item.result ∷ []) in
    let formed : product F c.in_ok-factor.factor c.g-item.result ≡ product F f c.g-item.result = ap (λ h. product F h c.g-item.result) c.in_ok-factor.ensures.value in
    let is : c.in_ok-mul.field-0 ≡ product F f c.g-item.result = c.in_ok-mul.ensures.value ∙ formed in
    let found = c.in_ok-push_parts.ensures in
    record {
      parts = rw (more, found.2) (ArePartsOf-more c.loop-g.invariant.parts (subst (λ h. IsParts F (F.characteristic ^ 1) h found.0) is found.1));
      low = subst (All (λ h. IsHigh h → ⊥)) (sym more) (All-push (λ h. IsHigh h → ⊥) (multiples F f before) _ c.loop-g.invariant.low (subst (λ h. IsHigh h → ⊥) formed c.in_ok-mul.ensures.high));
    }

pub returns-clause-root : goal.returns-clause-root
returns-clause-root g c =
    let F = g.K.Coeff.field in
    let f = power F c.args.f.now c.args.d in
    let whole : multiples F f (take c.loop-g.g-index c.args.list.now) ≡ multiples F f c.args.list.now = ap (multiples F f) (take_all c.loop-g.g-index c.args.list.now c.loop-g-test.false) in
    subst (λ L. IsRoot F (F.characteristic ^ 1) L c.loop-g.root.items) whole (IsRoot-ArePartsOf g.met.K.Coeff.lawful 1 c.loop-g.invariant.parts)
