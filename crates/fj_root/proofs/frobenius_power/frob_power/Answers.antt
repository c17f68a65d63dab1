use Rattle.std.proofs.Common.{◌≡◌, ◌+◌, ◌++◌, ◌∷◌, [], take, sym, ap, ◌∙◌, subst, All}
use Rattle.std.proofs.lemmas.List.{map-append, take_more}
use Rattle.std.proofs.lemmas.List.Elements.{All-push}
use Rattle.fj_theory.specs.FrobeniusPower.{frobenius_power}
use Rattle.fj_theory.specs.Polynomial.{power}
use Rattle.fj_poly.specs.Limit.{IsHigh}
use Rattle.fj_root.proofs.Limits.{Any-map, handed_on}
use Rattle.fj_root.proofs.frobenius_power.frob_power.Goals as goal

pub returns-in_err-pow-clause-high : goal.returns-in_err-pow-clause-high
returns-in_err-pow-clause-high g c =
    rw (← c.frobenius_exponent-q.ensures) (handed_on c.in_err-pow.field-0.0 _ c.from_residual-in_err-pow.ensures.1
    (Any-map IsHigh (λ h. power g.K.Coeff.field h c.frobenius_exponent-q.result) c.args.list.now c.loop-g.g-index c.g-item.result c.loop-g-test.true c.g-item.is) c.in_err-pow.ensures.high)

pub loop-g-preserved : goal.loop-g-preserved
loop-g-preserved g c =
    let F = g.K.Coeff.field in
    let q = c.frobenius_exponent-q.result in
    let before = take c.loop-g.g-index c.args.list.now in
    let more : frobenius_power F q (take (c.loop-g.g-index + 1) c.args.list.now) ≡ frobenius_power F q before ++ power F c.g-item.result q ∷ [] =
    ap (frobenius_power F q) (take_more c.args.list.now c.loop-g.g-index c.g-item.result c.loop-g-test.true ∙ ap (λ h. before ++ h ∷ []) (sym c.g-item.is))
    ∙ map-append (λ h. power F h q) before (c.g-item.result ∷ []) in
    record {
      powers = c.push.ensures.items ∙ rw c.in_ok-push.was (ap (λ h. c.loop-g.powers.items ++ h ∷ []) c.in_ok-pow.ensures.value ∙ ap (λ L. L ++ power F c.g-item.result q ∷ []) c.loop-g.invariant.powers ∙ sym more);
      low = subst (All (λ h. IsHigh h → ⊥)) (sym more) (All-push (λ h. IsHigh h → ⊥) (frobenius_power F q before) (power F c.g-item.result q) c.loop-g.invariant.low c.in_ok-pow.ensures.high);
    }
