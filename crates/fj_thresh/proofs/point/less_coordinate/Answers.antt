use Rattle.std.proofs.Common.{◌≡◌, get_or, ap, ap₂, ◌∙◌, arith}
use Rattle.std.proofs.lemmas.Result.{IfOk-weaker}
use Rattle.fj_theory.specs.Evaluation.{value}
use Rattle.fj_theory.specs.Exponents.{origin}
use Rattle.fj_theory.specs.PointIdeal.{less_coordinate, variable_exponents}
use Rattle.fj_theory.specs.Polynomial.{negation, sum, term}
use Rattle.fj_thresh.proofs.Coordinates.{value-variable}
use Rattle.fj_thresh.proofs.point.less_coordinate.Goals as goal

pub returns : goal.returns
unfolding less_coordinate variable_exponents origin
returns g c =
    let F = g.K.Coeff.field in
    let few = c.requires.few in
    let x : c.in_ok-variable.variable ≡ term 1 (variable_exponents c.args.i) = c.in_ok-variable.ensures.value ∙ ap₂ term c.one.ensures c.in-Ok.ensures.value in
    let at : g.K.Coeff.rank c.eval.result ≡ get_or c.args.at.now c.args.i 0 = c.eval.ensures ∙ ap (λ h. value F h c.args.at.now) x ∙ value-variable g.met.K.Coeff.lawful c.len.ensures.point c.args.i (omega (arith, few)) in
    let coordinate : c.in_ok-coordinate.coordinate ≡ term (get_or c.args.at.now c.args.i 0) origin = c.in_ok-coordinate.ensures.value ∙ ap₂ term at c.one-2.ensures in
    IfOk-weaker c.sub.result _ _ (λ p is. is ∙ ap₂ (λ a b. sum F a (negation F b)) x coordinate) c.sub.ensures.value
