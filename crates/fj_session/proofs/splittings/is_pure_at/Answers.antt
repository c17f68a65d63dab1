use Rattle.std.proofs.Common.{◌≡◌, ℕ, List, inl, inr, subst, refl}
use Rattle.fj_coeff.specs.Field.{Field}
use Rattle.fj_theory.specs.Polynomial.{Polynomial}
use Rattle.fj_ideal.proofs.Lists.{of_members}
use Rattle.fj_ideal.proofs.Stops.{only_handed_on}
use Rattle.fj_fedder.specs.Fedder.{IsVerdictAt}
use Rattle.fj_fedder.specs.Lists.{IsHighInSplit, IsListForColon, IsSplitList}
use Rattle.fj_fedder.specs.declared.purity.PureAt.{PureAt}
use Rattle.fj_session.specs.Splittings.{IsHighOfSplit, IsListOfSplit}
use Rattle.fj_session.proofs.Declared.{members_lack}
use Rattle.fj_session.specs.Names.{standing_in}
use Rattle.fj_session.proofs.Standings.{there}
use Rattle.fj_session.proofs.OwnStops.{declared_handed_on}
use Rattle.fj_session.proofs.splittings.is_pure_at.Goals as goal

-- The same verdict on what is equal.
same_verdict : (F : Field) {I J : List Polynomial} {p q : List ℕ} {v w : PureAt} → I ≡ J → p ≡ q → v ≡ w → IsVerdictAt F I p v → IsVerdictAt F J q w
same_verdict F {I} {J} {p} {q} {v} {w} e f is h = subst (IsVerdictAt F J q) is (subst (λ (x : List ℕ). IsVerdictAt F J x v) f (subst (λ (L : List Polynomial). IsVerdictAt F L p v) e h))

pub is_pure_at-requires : goal.is_pure_at-requires
is_pure_at-requires g c = members_lack c.args.names.now c.len.ensures.names.few g.met.K.Coeff.lawful c.args.j c.requires.ideal (there c.in_ok-ideal.ideal c.ideal.ensures c.in_ok-ideal.ensures.ideal)

pub returns-in_err-ideal-clause-stop : goal.returns-in_err-ideal-clause-stop
returns-in_err-ideal-clause-stop g c =
    let F = g.K.Coeff.field in
    let J = standing_in c.args.names.now c.args.j in
    declared_handed_on F c.args.budget (IsListOfSplit F J) (IsHighOfSplit F J.list) J (λ M d. inl (refl, d)) c.in_err-ideal.field-0.0 c.from_residual.result c.from_residual.ensures.1 c.in_err-ideal.ensures.stop

pub returns-in_err-is_pure_at-clause-stop : goal.returns-in_err-is_pure_at-clause-stop
returns-in_err-is_pure_at-clause-stop g c =
    let F = g.K.Coeff.field in
    let J = standing_in c.args.names.now c.args.j in
    let G = c.ideal.result.now.members in
    let declared = (there c.in_ok-ideal.ideal c.ideal.ensures c.in_ok-ideal.ensures.ideal) in
    only_handed_on F c.args.budget (IsListForColon F G) (IsListOfSplit F J) (IsHighInSplit F G) (IsHighOfSplit F J.list)
    (λ o M e. inr (of_members declared (λ H. IsSplitList F H o M) (inl e))) (λ M e. of_members declared (λ H. IsHighInSplit F H M) e)
    c.in_err-is_pure_at.field-0.0 c.from_residual-in_err-is_pure_at.result c.from_residual-in_err-is_pure_at.ensures.1 c.in_err-is_pure_at.ensures.stop
