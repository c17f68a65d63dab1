use Rattle.std.proofs.Common.{◌≡◌, ◌∙◌, List, All, sym, ap, subst, subst₂}
use Rattle.fj_theory.specs.Colon.{IsMeet}
use Rattle.fj_theory.specs.Ideal.{ArePolynomials}
use Rattle.fj_theory.specs.PointIdeal.{UsesFirst}
use Rattle.fj_theory.specs.Polynomial.{Polynomial}
use Rattle.fj_plain.specs.declared.order_name.OrderName.TheVariants.{Elim}
use Rattle.fj_ideal.specs.Lists.{RunFor}
use Rattle.fj_ideal.specs.Stop.{NothingStops, StopsExactlyWith}
use Rattle.fj_ideal.proofs.ReducedBasis.{ArePolynomials-members}
use Rattle.fj_ideal.proofs.Stops.{exactly_handed_on}
use Rattle.fj_elim.specs.Lists.{IsEliminated, IsHighInMeet, IsMeetList}
use Rattle.fj_elim.proofs.Meets.{eliminated-lacks, eliminated-meet, eliminated-reduced, meet_of_members}
use Rattle.fj_elim.proofs.elimination.meet.Goals as goal

pub of_reduced-requires : goal.of_reduced-requires
of_reduced-requires g c =
    let F = g.K.Coeff.field in
    let L = g.met.K.Coeff.lawful in
    eliminated-reduced L (ArePolynomials-members L c.members.ensures.ideal) (ArePolynomials-members L c.members-2.ensures.ideal)
    (subst₂ (λ G H. IsEliminated F G H c.in_ok-list.list.items) c.members.ensures.value c.members-2.ensures.value c.in_ok-list.ensures.members)

pub returns-in_err-list-clause-stop : goal.returns-in_err-list-clause-stop
returns-in_err-list-clause-stop g c =
    let F = g.K.Coeff.field in
    let Stops : List Polynomial → List Polynomial → Type 0 = λ G H. StopsExactlyWith F (RunFor Elim (IsMeetList F G H)) (IsHighInMeet F G H) c.args.pairs c.from_residual.result in
    subst₂ Stops c.members.ensures.value c.members-2.ensures.value
    (exactly_handed_on F c.args.pairs (List Polynomial) _ (RunFor Elim (IsMeetList F c.members.result.now c.members-2.result.now)) (IsHighInMeet F c.members.result.now c.members-2.result.now)
    c.in_err-list.field-0.0 c.from_residual.result c.from_residual.ensures.1 c.in_err-list.ensures.stop)

pub returns-clause-meet : goal.returns-clause-meet
returns-clause-meet g c =
    let F = g.K.Coeff.field in
    let L = g.met.K.Coeff.lawful in
    let I = c.members.ensures.ideal in
    let J = c.members-2.ensures.ideal in
    let N = c.in_ok-of_reduced.field-0 in
    let given_is : N.given ≡ c.in_ok-list.list.items = ap (λ M. M.given) c.in_ok-of_reduced.ensures.value in
    let e = subst (IsEliminated F c.args.a.now.members c.args.b.now.members) (sym given_is)
    (subst₂ (λ G H. IsEliminated F G H c.in_ok-list.list.items) c.members.ensures.value c.members-2.ensures.value c.in_ok-list.ensures.members) in
    meet_of_members L I J (c.in_ok-of_reduced.ensures.ideal).polynomials
    (eliminated-meet L (ArePolynomials-members L I) (ArePolynomials-members L J) e c.requires.first c.requires.second)

pub returns-clause-given : goal.returns-clause-given
returns-clause-given g c =
    let F = g.K.Coeff.field in
    subst (IsEliminated F c.args.a.now.members c.args.b.now.members) (sym (ap (λ M. M.given) c.in_ok-of_reduced.ensures.value))
    (subst₂ (λ G H. IsEliminated F G H c.in_ok-list.list.items) c.members.ensures.value c.members-2.ensures.value c.in_ok-list.ensures.members)

pub returns-clause-members : goal.returns-clause-members
returns-clause-members g c = ap (λ M. M.members) c.in_ok-of_reduced.ensures.value ∙ sym (ap (λ M. M.given) c.in_ok-of_reduced.ensures.value)

pub returns-clause-variables : goal.returns-clause-variables
returns-clause-variables g c =
    let F = g.K.Coeff.field in
    let L = g.met.K.Coeff.lawful in
    subst (All (UsesFirst 7)) (sym (ap (λ M. M.members) c.in_ok-of_reduced.ensures.value))
    (eliminated-lacks L (ArePolynomials-members L c.members.ensures.ideal) (ArePolynomials-members L c.members-2.ensures.ideal)
    (subst₂ (λ G H. IsEliminated F G H c.in_ok-list.list.items) c.members.ensures.value c.members-2.ensures.value c.in_ok-list.ensures.members))

pub returns-clause-stop : goal.returns-clause-stop
returns-clause-stop g c =
    let F = g.K.Coeff.field in
    let None : List Polynomial → List Polynomial → Type 0 = λ G H. NothingStops F (RunFor Elim (IsMeetList F G H)) (IsHighInMeet F G H) c.args.pairs in
    subst₂ None c.members.ensures.value c.members-2.ensures.value c.in_ok-list.ensures.stop
