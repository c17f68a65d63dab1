use Rattle.std.proofs.Common.{inl, inr, refl}
use Rattle.fj_theory.specs.Colon.{IsColon}
use Rattle.fj_ideal.specs.Ideal.{IsIdealOf}
use Rattle.fj_ideal.proofs.Stops.{only_of_more}
use Rattle.fj_elim.specs.Lists.{IsColonGiven, IsColonList, IsHighInColon}
use Rattle.fj_session.specs.Ideals.{IsHighOfColon, IsListOfColon}
use Rattle.fj_session.proofs.Declared.{members_lack}
use Rattle.fj_session.proofs.Made.{made_of_two, of_bases, other_is, same_is}
use Rattle.fj_session.specs.Names.{standing_in}
use Rattle.fj_session.proofs.Standings.{there}
use Rattle.fj_session.proofs.OwnStops.{declared_handed_on}
use Rattle.fj_session.proofs.ideals.colon.Goals as goal

pub colon-requires-clause-first : goal.colon-requires-clause-first
colon-requires-clause-first g c = members_lack c.args.names.now c.len.ensures.names.few g.met.K.Coeff.lawful c.args.j c.requires.first (there c.in_ok-first.first c.ideal-first.ensures c.in_ok-first.ensures.ideal)

pub colon-requires-clause-second : goal.colon-requires-clause-second
colon-requires-clause-second g c =
    members_lack c.args.names.now c.len.ensures.names.few g.met.K.Coeff.lawful c.args.k c.requires.second (other_is g.K.Coeff.field (λ n. (standing_in c.args.names.now n).list) c.args.j c.args.k c.in-Some.second c.in-Some.is c.ideal.ensures c.in_ok-second.ensures.ideal)

pub colon-requires-in-None-clause-first : goal.colon-requires-in-None-clause-first
colon-requires-in-None-clause-first g c = members_lack c.args.names.now c.len.ensures.names.few g.met.K.Coeff.lawful c.args.j c.requires.first (there c.in_ok-first.first c.ideal-first.ensures c.in_ok-first.ensures.ideal)

pub colon-requires-in-None-clause-second : goal.colon-requires-in-None-clause-second
colon-requires-in-None-clause-second g c = members_lack c.args.names.now c.len.ensures.names.few g.met.K.Coeff.lawful c.args.j c.requires.first (there c.in_ok-first.first c.ideal-first.ensures c.in_ok-first.ensures.ideal)

pub returns-in_err-first-clause-stop : goal.returns-in_err-first-clause-stop
returns-in_err-first-clause-stop g c =
    let F = g.K.Coeff.field in
    let J = standing_in c.args.names.now c.args.j in
    let K = standing_in c.args.names.now c.args.k in
    declared_handed_on F c.args.budget (IsListOfColon F J K) (IsHighOfColon F J.list K.list) J (λ M d. inl (refl, inl d)) c.in_err-first.field-0.0 c.from_residual.result c.from_residual.ensures.1 c.in_err-first.ensures.stop

pub returns-in_err-second-clause-stop : goal.returns-in_err-second-clause-stop
returns-in_err-second-clause-stop g c =
    let F = g.K.Coeff.field in
    let J = standing_in c.args.names.now c.args.j in
    let K = standing_in c.args.names.now c.args.k in
    declared_handed_on F c.args.budget (IsListOfColon F J K) (IsHighOfColon F J.list K.list) K (λ M d. inl (refl, inr d)) c.in_err-second.field-0.0 c.from_residual-in_err-second.result c.from_residual-in_err-second.ensures.1
    c.in_err-second.ensures.stop

pub returns-in-Some-clause-ideal : goal.returns-in-Some-clause-ideal
returns-in-Some-clause-ideal g c =
    made_of_two (there c.in_ok-first.first c.ideal-first.ensures c.in_ok-first.ensures.ideal) (other_is g.K.Coeff.field (λ n. (standing_in c.args.names.now n).list) c.args.j c.args.k c.in-Some.second c.in-Some.is c.ideal.ensures c.in_ok-second.ensures.ideal) g.met.K.Coeff.lawful (IsColon g.K.Coeff.field) (IsColonGiven g.K.Coeff.field) c.colon.result c.colon.ensures.colon c.colon.ensures.ideal c.colon.ensures.given

pub returns-in-Some-clause-stop : goal.returns-in-Some-clause-stop
returns-in-Some-clause-stop g c =
    let F = g.K.Coeff.field in
    let J = standing_in c.args.names.now c.args.j in
    let K = standing_in c.args.names.now c.args.k in
    let G = c.ideal-first.result.now.members in
    let is_first = (there c.in_ok-first.first c.ideal-first.ensures c.in_ok-first.ensures.ideal) in
    let second : IsIdealOf F K.list _ = other_is g.K.Coeff.field (λ n. (standing_in c.args.names.now n).list) c.args.j c.args.k c.in-Some.second c.in-Some.is c.ideal.ensures c.in_ok-second.ensures.ideal in
    only_of_more F c.args.budget (IsColonList F G c.ideal.result.now.members) (IsListOfColon F J K) (IsHighInColon F G c.ideal.result.now.members) (IsHighOfColon F J.list K.list)
    (λ o M e. inr (of_bases is_first second (λ A B. IsColonList F A B o M) e)) (λ M e. of_bases is_first second (λ A B. IsHighInColon F A B M) e) c.colon.result c.colon.ensures.stop

pub returns-clause-ideal : goal.returns-clause-ideal
returns-clause-ideal g c =
    made_of_two (there c.in_ok-first.first c.ideal-first.ensures c.in_ok-first.ensures.ideal) (same_is g.K.Coeff.field (λ n. (standing_in c.args.names.now n).list) c.args.j c.args.k c.in-None.is c.in_ok-second.ensures.ideal (there c.in_ok-first.first c.ideal-first.ensures c.in_ok-first.ensures.ideal)) g.met.K.Coeff.lawful (IsColon g.K.Coeff.field) (IsColonGiven g.K.Coeff.field) c.colon-in-None.result c.colon-in-None.ensures.colon c.colon-in-None.ensures.ideal c.colon-in-None.ensures.given

pub returns-clause-stop : goal.returns-clause-stop
returns-clause-stop g c =
    let F = g.K.Coeff.field in
    let J = standing_in c.args.names.now c.args.j in
    let K = standing_in c.args.names.now c.args.k in
    let G = c.ideal-first.result.now.members in
    let is_first = (there c.in_ok-first.first c.ideal-first.ensures c.in_ok-first.ensures.ideal) in
    let second : IsIdealOf F K.list _ = same_is g.K.Coeff.field (λ n. (standing_in c.args.names.now n).list) c.args.j c.args.k c.in-None.is c.in_ok-second.ensures.ideal (there c.in_ok-first.first c.ideal-first.ensures c.in_ok-first.ensures.ideal) in
    only_of_more F c.args.budget (IsColonList F G c.ideal-first.result.now.members) (IsListOfColon F J K) (IsHighInColon F G c.ideal-first.result.now.members) (IsHighOfColon F J.list K.list)
    (λ o M e. inr (of_bases is_first second (λ A B. IsColonList F A B o M) e)) (λ M e. of_bases is_first second (λ A B. IsHighInColon F A B M) e) c.colon-in-None.result c.colon-in-None.ensures.stop
