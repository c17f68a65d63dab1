use Rattle.std.proofs.Common.{◌^◌, List, inl, inr, subst, refl}
use Rattle.fj_theory.specs.Polynomial.{Polynomial}
use Rattle.fj_theory.specs.Root.{IsRoot}
use Rattle.fj_ideal.specs.Lists.{NoProduct}
use Rattle.fj_ideal.proofs.Lists.{of_members}
use Rattle.fj_frobenius.specs.Lists.{IsRootList}
use Rattle.fj_ideal.specs.Ideal.{IsIdeal}
use Rattle.fj_session.specs.Outcome.{IsIdealFor}
use Rattle.fj_session.specs.Ideals.{IsLastOfRoot, IsListOfRoot}
use Rattle.fj_session.proofs.Made.{made_for, three_ok}
use Rattle.fj_session.specs.Names.{standing_in}
use Rattle.fj_session.proofs.Standings.{there}
use Rattle.fj_session.proofs.OwnStops.{own_handed_on, own_of}
use Rattle.fj_session.proofs.ideals.root.Goals as goal

pub returns-in_err-ideal-clause-stop : goal.returns-in_err-ideal-clause-stop
returns-in_err-ideal-clause-stop g c =
    let F = g.K.Coeff.field in
    let J = standing_in c.args.names.now c.args.j in
    own_handed_on F c.args.budget (IsListOfRoot F (F.characteristic ^ c.args.e) J) NoProduct J (λ M d. inl d) c.in_err-ideal.field-0.0 c.from_residual.result c.from_residual.ensures.1 c.in_err-ideal.ensures.stop

pub returns-clause-ideal : goal.returns-clause-ideal
returns-clause-ideal g c =
    let F = g.K.Coeff.field in
    let q = F.characteristic ^ c.args.e in
    let J = standing_in c.args.names.now c.args.j in
    let declared = there c.in_ok-ideal.ideal c.ideal.ensures c.in_ok-ideal.ensures.ideal in
    three_ok (λ I. IsRoot F q c.ideal.result.now.given I.given) (IsIdeal F) (λ I. IsRootList F q c.ideal.result.now.members I.given) (IsIdealFor F (IsRoot F q J.list) (IsLastOfRoot F q J.list)) c.frobenius_root.result
    (λ I root is list. made_for g.met.K.Coeff.lawful (IsRoot F q J.list) (IsLastOfRoot F q J.list) (subst (λ (L : List Polynomial). IsRoot F q L I.given) declared.given root) is (of_members declared (λ A. IsRootList F q A I.given) list))
    c.frobenius_root.ensures.root c.frobenius_root.ensures.ideal c.frobenius_root.ensures.list

pub returns-clause-stop : goal.returns-clause-stop
returns-clause-stop g c =
    let F = g.K.Coeff.field in
    let q = F.characteristic ^ c.args.e in
    let J = standing_in c.args.names.now c.args.j in
    own_of F c.args.budget (IsListOfRoot F q J) NoProduct (IsRootList F q c.ideal.result.now.members) NoProduct
    (λ M e. inr (of_members (there c.in_ok-ideal.ideal c.ideal.ensures c.in_ok-ideal.ensures.ideal) (λ A. IsRootList F q A M) e)) (λ M none. none) c.frobenius_root.result c.frobenius_root.ensures.stop
