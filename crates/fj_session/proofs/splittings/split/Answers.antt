use Rattle.std.proofs.Common.{inl, inr, subst, refl}
use Rattle.fj_ideal.specs.Ideal.{IsIdeal}
use Rattle.fj_ideal.proofs.Lists.{of_members}
use Rattle.fj_ideal.proofs.Stops.{only_of_more}
use Rattle.fj_fedder.specs.Fedder.{IsSplitIdeal}
use Rattle.fj_fedder.specs.Lists.{IsHighInSplit, IsSplitGiven, IsSplitList}
use Rattle.fj_session.specs.Outcome.{IsIdealFor}
use Rattle.fj_session.specs.Splittings.{IsHighOfSplit, IsLastOfSplit, IsListOfSplit}
use Rattle.fj_session.proofs.Declared.{members_lack}
use Rattle.fj_session.proofs.Made.{made_for, three_ok}
use Rattle.fj_session.specs.Names.{standing_in}
use Rattle.fj_session.proofs.Standings.{there}
use Rattle.fj_session.proofs.OwnStops.{declared_handed_on}
use Rattle.fj_session.proofs.splittings.split.Goals as goal

pub split_ideal-requires : goal.split_ideal-requires
split_ideal-requires g c = members_lack c.args.names.now c.len.ensures.names.few g.met.K.Coeff.lawful c.args.j c.requires.named (there c.in_ok-ideal.ideal c.ideal.ensures c.in_ok-ideal.ensures.ideal)

pub returns-in_err-ideal-clause-stop : goal.returns-in_err-ideal-clause-stop
returns-in_err-ideal-clause-stop g c =
    let F = g.K.Coeff.field in
    let J = standing_in c.args.names.now c.args.j in
    declared_handed_on F c.args.budget (IsListOfSplit F J) (IsHighOfSplit F J.list) J (λ M d. inl (refl, d)) c.in_err-ideal.field-0.0 c.from_residual.result c.from_residual.ensures.1 c.in_err-ideal.ensures.stop

pub returns-clause-ideal : goal.returns-clause-ideal
returns-clause-ideal g c =
    let F = g.K.Coeff.field in
    let L = g.met.K.Coeff.lawful in
    let J = standing_in c.args.names.now c.args.j in
    let declared = (there c.in_ok-ideal.ideal c.ideal.ensures c.in_ok-ideal.ensures.ideal) in
    let G = c.ideal.result.now.members in
    three_ok (λ M. IsSplitIdeal F c.ideal.result.now.given M.given) (IsIdeal F) (λ M. IsSplitGiven F G M.given) (IsIdealFor F (IsSplitIdeal F J.list) (IsLastOfSplit F J.list)) c.split_ideal.result
    (λ M split is made. made_for L (IsSplitIdeal F J.list) (IsLastOfSplit F J.list) (subst (λ I. IsSplitIdeal F I M.given) declared.given split) is (of_members declared (λ A. IsSplitGiven F A M.given) made))
    c.split_ideal.ensures.split c.split_ideal.ensures.ideal c.split_ideal.ensures.given

pub returns-clause-stop : goal.returns-clause-stop
returns-clause-stop g c =
    let F = g.K.Coeff.field in
    let J = standing_in c.args.names.now c.args.j in
    let G = c.ideal.result.now.members in
    let declared = (there c.in_ok-ideal.ideal c.ideal.ensures c.in_ok-ideal.ensures.ideal) in
    only_of_more F c.args.budget (IsSplitList F G) (IsListOfSplit F J) (IsHighInSplit F G) (IsHighOfSplit F J.list)
    (λ o M e. inr (of_members declared (λ H. IsSplitList F H o M) e)) (λ M e. of_members declared (λ H. IsHighInSplit F H M) e) c.split_ideal.result c.split_ideal.ensures.stop
