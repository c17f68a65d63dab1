use Rattle.fj_groebner.proofs.Turns.{IsFinished-TooHigh, IsFinished-Unfinished, Unfinished-TooHigh}
use Rattle.fj_basis.proofs.MadeRows.{AreRows-long}
use Rattle.fj_basis.proofs.Stops.{stop_told}
use Rattle.fj_basis.proofs.buchberger.basis.Goals as goal

pub returns-in-Ok-clause-long : goal.returns-in-Ok-clause-long
returns-in-Ok-clause-long g c = AreRows-long g.K.Coeff.field _ c.args.list.now _ c.in-Ok.ensures.made.up

pub returns-in-Ok-clause-stop : goal.returns-in-Ok-clause-stop
returns-in-Ok-clause-stop g c =
    let f = c.in-Ok.ensures.value.finished in
    (λ u. IsFinished-Unfinished f u, λ h. IsFinished-TooHigh f h)

pub returns-in_ok-stop_of-in-Err-clause-stop : goal.returns-in_ok-stop_of-in-Err-clause-stop
returns-in_ok-stop_of-in-Err-clause-stop g c =
    stop_told (Unit {0}) (Unit {0}) _ _ g.K.Coeff.field _ g.O.Order.key c.args.list.now c.in-Err.fault _ (λ u h. Unfinished-TooHigh u h) c.in-Err.ensures.fault c.in_ok-stop_of-in-Err.ensures
