use Rattle.std.proofs.Common.{inl, inr, refl}
use Rattle.fj_ideal.specs.Lists.{NoProduct}
use Rattle.fj_session.specs.Ideals.{IsDeclared}
use Rattle.fj_session.proofs.Made.{compared_is, other_is, same_is}
use Rattle.fj_session.specs.Names.{standing_in}
use Rattle.fj_session.proofs.Standings.{there}
use Rattle.fj_session.proofs.OwnStops.{own_handed_on}
use Rattle.fj_session.proofs.ideals.same.Goals as goal

pub returns-in_err-first-clause-stop : goal.returns-in_err-first-clause-stop
returns-in_err-first-clause-stop g c =
    let J = standing_in c.args.names.now c.args.j in
    own_handed_on g.K.Coeff.field c.args.budget (IsDeclared J (standing_in c.args.names.now c.args.k)) NoProduct J (λ M d. inl d)
    c.in_err-first.field-0.0 c.from_residual.result c.from_residual.ensures.1 c.in_err-first.ensures.stop

pub returns-in_err-second-clause-stop : goal.returns-in_err-second-clause-stop
returns-in_err-second-clause-stop g c =
    let K = standing_in c.args.names.now c.args.k in
    own_handed_on g.K.Coeff.field c.args.budget (IsDeclared (standing_in c.args.names.now c.args.j) K) NoProduct K (λ M d. inr d)
    c.in_err-second.field-0.0 c.from_residual-in_err-second.result c.from_residual-in_err-second.ensures.1 c.in_err-second.ensures.stop

pub returns-in-Some-clause-verdict : goal.returns-in-Some-clause-verdict
returns-in-Some-clause-verdict g c =
    compared_is (there c.in_ok-first.first c.ideal-first.ensures c.in_ok-first.ensures.ideal) (other_is g.K.Coeff.field (λ n. (standing_in c.args.names.now n).list) c.args.j c.args.k c.in-Some.second c.in-Some.is c.ideal.ensures c.in_ok-second.ensures.ideal) c.in_ok-compared-in-Some.field-0 c.in_ok-compared-in-Some.ensures

pub returns-clause-verdict : goal.returns-clause-verdict
returns-clause-verdict g c =
    compared_is (there c.in_ok-first.first c.ideal-first.ensures c.in_ok-first.ensures.ideal) (same_is g.K.Coeff.field (λ n. (standing_in c.args.names.now n).list) c.args.j c.args.k c.in-None.is c.in_ok-second.ensures.ideal (there c.in_ok-first.first c.ideal-first.ensures c.in_ok-first.ensures.ideal)) c.in_ok-compared-in-None.field-0
    c.in_ok-compared-in-None.ensures
