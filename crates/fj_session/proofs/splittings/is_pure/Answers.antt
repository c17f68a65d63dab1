use Rattle.std.proofs.Common.{Bool, ◌↔◌, IsTrue, MatchBool, List, inl, inr, subst, refl}
use Rattle.std.proofs.lemmas.Result.{IfOk-weaker}
use Rattle.fj_theory.specs.Polynomial.{Polynomial}
use Rattle.fj_theory.specs.Splitting.{IsFPure}
use Rattle.fj_ideal.proofs.Lists.{of_members}
use Rattle.fj_ideal.proofs.Stops.{only_of_more}
use Rattle.fj_fedder.specs.Lists.{IsHighInSplit, IsSplitList}
use Rattle.fj_session.specs.Splittings.{IsHighOfSplit, IsListOfSplit}
use Rattle.fj_session.proofs.Declared.{members_lack}
use Rattle.fj_session.specs.Names.{standing_in}
use Rattle.fj_session.proofs.Standings.{there}
use Rattle.fj_session.proofs.OwnStops.{declared_handed_on}
use Rattle.fj_session.proofs.Verdicts.{decided}
use Rattle.fj_session.proofs.splittings.is_pure.Goals as goal

pub is_pure-requires : goal.is_pure-requires
is_pure-requires g c = members_lack c.args.names.now c.len.ensures.names.few g.met.K.Coeff.lawful c.args.j c.requires.named (there c.in_ok-ideal.ideal c.ideal.ensures c.in_ok-ideal.ensures.ideal)

pub returns-in_err-ideal-clause-stop : goal.returns-in_err-ideal-clause-stop
returns-in_err-ideal-clause-stop g c =
    let F = g.K.Coeff.field in
    let J = standing_in c.args.names.now c.args.j in
    declared_handed_on F c.args.budget (IsListOfSplit F J) (IsHighOfSplit F J.list) J (λ M d. inl (refl, d)) c.in_err-ideal.field-0.0 c.from_residual.result c.from_residual.ensures.1 c.in_err-ideal.ensures.stop

pub returns-clause-verdict : goal.returns-clause-verdict
returns-clause-verdict g c =
    let F = g.K.Coeff.field in
    let J = standing_in c.args.names.now c.args.j in
    let IsIt : List Polynomial → Bool → Type 0 = λ I b. IsTrue b ↔ IsFPure F I in
    IfOk-weaker c.is_pure.result (IsIt c.ideal.result.now.given) (λ b. MatchBool b (IsFPure F J.list) (IsFPure F J.list → ⊥))
    (λ b h. decided b (subst (λ (I : List Polynomial). IsIt I b) ((there c.in_ok-ideal.ideal c.ideal.ensures c.in_ok-ideal.ensures.ideal)).given h)) c.is_pure.ensures.value

pub returns-clause-stop : goal.returns-clause-stop
returns-clause-stop g c =
    let F = g.K.Coeff.field in
    let J = standing_in c.args.names.now c.args.j in
    let G = c.ideal.result.now.members in
    let declared = (there c.in_ok-ideal.ideal c.ideal.ensures c.in_ok-ideal.ensures.ideal) in
    only_of_more F c.args.budget (IsSplitList F G) (IsListOfSplit F J) (IsHighInSplit F G) (IsHighOfSplit F J.list)
    (λ o M e. inr (of_members declared (λ H. IsSplitList F H o M) e)) (λ M e. of_members declared (λ H. IsHighInSplit F H M) e) c.is_pure.result c.is_pure.ensures.stop
