use Rattle.std.proofs.Common.{◌≡◌, ◌+◌, ◌^◌, ◌++◌, ◌∷◌, [], take, sym, ap, ap₂, ◌∙◌, subst}
use Rattle.std.proofs.lemmas.List.{map-append, take_more}
use Rattle.std.proofs.lemmas.List.Elements.{All-append}
use Rattle.fj_theory.specs.FrobeniusPower.{frobenius_power}
use Rattle.fj_theory.specs.Polynomial.{power}
use Rattle.fj_poly.specs.Limit.{IsHigh}
use Rattle.fj_ideal.specs.Lists.{AreLow, NoList}
use Rattle.fj_ideal.proofs.HighProducts.{Contains-of_single}
use Rattle.fj_ideal.proofs.Stops.{only_handed_on}
use Rattle.fj_frobenius.specs.Lists.{IsHighMember}
use Rattle.fj_frobenius.proofs.power.powers.Goals as goal

pub returns-in_err-power_of-clause-stop : goal.returns-in_err-power_of-clause-stop
returns-in_err-power_of-clause-stop g c =
    let F = g.K.Coeff.field in
    let q = F.characteristic ^ c.args.e in
    let L = c.args.list.now in
    only_handed_on F 0 NoList NoList (IsHighMember F q (c.g-item.result ∷ [])) (IsHighMember F q L) (λ o M e. e)
    (λ M e. record { g = e.g; there = Contains-of_single L c.loop-g.g-index c.g-item.result c.loop-g-test.true c.g-item.is e.g e.there; high = e.high; is = e.is })
    c.in_err-power_of.field-0.0 c.from_residual-in_err-power_of.result c.from_residual-in_err-power_of.ensures.1 c.in_err-power_of.ensures.stop

pub loop-g-preserved : goal.loop-g-preserved
loop-g-preserved g c =
    let F = g.K.Coeff.field in
    let q = F.characteristic ^ c.args.e in
    let before = take c.loop-g.g-index c.args.list.now in
    let more : frobenius_power F q (take (c.loop-g.g-index + 1) c.args.list.now) ≡ frobenius_power F q before ++ power F c.g-item.result q ∷ [] =
    ap (frobenius_power F q) (take_more c.args.list.now c.loop-g.g-index c.g-item.result c.loop-g-test.true ∙ ap (λ h. before ++ h ∷ []) (sym c.g-item.is))
    ∙ map-append (λ h. power F h q) before (c.g-item.result ∷ []) in
    let made : c.append.new.self.items ≡ c.loop-g.powers.items ++ c.in_ok-power_of.field-0.items = c.in_ok-append.ensures.items in
    record {
      value = made ∙ ap₂ (λ L M. L ++ M) c.loop-g.invariant.value c.in_ok-power_of.ensures.value ∙ sym more;
      low = subst AreLow (sym made) (All-append (λ h. IsHigh h → ⊥) c.loop-g.powers.items c.in_ok-power_of.field-0.items c.loop-g.invariant.low c.in_ok-power_of.ensures.low);
    }
