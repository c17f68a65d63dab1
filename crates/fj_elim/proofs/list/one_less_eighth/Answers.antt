use Rattle.std.proofs.Common.{◌≡◌, ◌∙◌, ap₂}
use Rattle.std.proofs.lemmas.Result.{IfOk-weaker}
use Rattle.fj_theory.specs.Polynomial.{term}
use Rattle.fj_elim.proofs.Eighth.{one_less_eighth-is}
use Rattle.fj_elim.proofs.list.one_less_eighth.Goals as goal

pub returns : goal.returns
returns g c =
    IfOk-weaker c.sub.result _ _ (λ p is. is ∙ one_less_eighth-is g.K.Coeff.field c.in_ok-one.one c.in_ok-t.t (c.in_ok-one.ensures.value ∙ ap₂ term c.one.ensures c.one-2.ensures) c.in_ok-t.ensures) c.sub.ensures.value
