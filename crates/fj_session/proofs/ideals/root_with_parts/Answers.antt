use Rattle.std.proofs.Common.{◌^◌, List, inl, inr, subst, refl}
use Rattle.fj_theory.specs.Polynomial.{Polynomial}
use Rattle.fj_theory.specs.Root.{IsRoot}
use Rattle.fj_plain.specs.declared.order_name.OrderName.TheVariants.{Grevlex}
use Rattle.fj_ideal.specs.Lists.{NoProduct, RunFor}
use Rattle.fj_ideal.proofs.Lists.{of_members}
use Rattle.fj_ideal.proofs.Stops.{only_handed_on}
use Rattle.fj_frobenius.specs.Lists.{IsRootList}
use Rattle.fj_session.specs.Certificates.{IsPartsCertificate}
use Rattle.fj_session.specs.Ideals.{IsLastOfRoot, IsListOfRoot}
use Rattle.fj_session.proofs.Certifying.{parts_certificate}
use Rattle.fj_session.proofs.Made.{made_for}
use Rattle.fj_session.specs.Names.{standing_in}
use Rattle.fj_session.proofs.Standings.{there}
use Rattle.fj_session.proofs.OwnStops.{own_handed_on}
use Rattle.fj_session.proofs.ideals.root_with_parts.Goals as goal

pub returns-in_err-ideal-clause-stop : goal.returns-in_err-ideal-clause-stop
returns-in_err-ideal-clause-stop g c =
    let F = g.K.Coeff.field in
    let J = standing_in c.args.names.now c.args.j in
    own_handed_on F c.args.budget (IsListOfRoot F (F.characteristic ^ c.args.e) J) NoProduct J (λ M d. inl d) c.in_err-ideal.field-0.0 c.from_residual.result c.from_residual.ensures.1 c.in_err-ideal.ensures.stop

pub returns-in_err-root-clause-stop : goal.returns-in_err-root-clause-stop
returns-in_err-root-clause-stop g c =
    let F = g.K.Coeff.field in
    let q = F.characteristic ^ c.args.e in
    let J = standing_in c.args.names.now c.args.j in
    let G = c.ideal-ideal.result.now.members in
    only_handed_on F c.args.budget (RunFor Grevlex (IsRootList F q G)) (RunFor Grevlex (IsListOfRoot F q J)) NoProduct NoProduct (λ o M e. (e.0, inr (of_members (there c.in_ok-ideal.ideal c.ideal-ideal.ensures c.in_ok-ideal.ensures.ideal) (λ A. IsRootList F q A M) e.1))) (λ M none. none)
    c.in_err-root.field-0.0 c.from_residual-in_err-root.result c.from_residual-in_err-root.ensures.1 c.in_err-root.ensures.stop

pub returns-clause-ideal : goal.returns-clause-ideal
returns-clause-ideal g c =
    let F = g.K.Coeff.field in
    let q = F.characteristic ^ c.args.e in
    let J = standing_in c.args.names.now c.args.j in
    let I = c.in_ok-root.root in
    let declared = (there c.in_ok-ideal.ideal c.ideal-ideal.ensures c.in_ok-ideal.ensures.ideal) in
    made_for g.met.K.Coeff.lawful (IsRoot F q J.list) (IsLastOfRoot F q J.list) (subst (λ (L : List Polynomial). IsRoot F q L I.given) declared.given c.in_ok-root.ensures.root) c.in_ok-root.ensures.ideal
    (of_members declared (λ A. IsRootList F q A I.given) c.in_ok-root.ensures.list)

pub returns-clause-parts : goal.returns-clause-parts
returns-clause-parts g c =
    of_members (there c.in_ok-ideal.ideal c.ideal-ideal.ensures c.in_ok-ideal.ensures.ideal) (λ A. IsPartsCertificate g.K.Coeff.field.characteristic c.args.e A c.in_ok-root_cert.field-0)
    (parts_certificate c.args.e g.met.K.Coeff.characteristic_is c.members.ensures.value c.in_ok-root_cert.ensures.value)
