use Rattle.std.proofs.Common.{◌≡◌, ℕ, ◌∷◌, [], ◌∙◌, Bool, ◌↔◌, IsTrue, MatchBool, List, Result, Ok, Err, subst, refl}
use Rattle.std.proofs.lemmas.Result.{IfOk-weaker}
use Rattle.fj_coeff.specs.Field.{Field}
use Rattle.fj_theory.specs.Polynomial.{Polynomial}
use Rattle.fj_theory.specs.Splitting.{IsCompatible}
use Rattle.fj_plain.specs.declared.order_name.OrderName.{OrderName}
use Rattle.fj_plain.specs.declared.order_name.OrderName.TheVariants.{Grevlex}
use Rattle.fj_basis.specs.declared.stop.Stop.{Stop}
use Rattle.fj_ideal.specs.Lists.{IsHighPair, NoList, RunFor}
use Rattle.fj_ideal.specs.Stop.{StopsOnlyWith}
use Rattle.fj_ideal.proofs.Lists.{of_members}
use Rattle.fj_ideal.proofs.Stops.{only_from_exactly, refused_only}
use Rattle.fj_shell.specs.Named.{polynomial_at}
use Rattle.fj_session.specs.Splittings.{IsHighOfCompatible}
use Rattle.fj_session.specs.Standing.{IsDeclaredList}
use Rattle.fj_session.specs.Names.{standing_in}
use Rattle.fj_session.proofs.Standings.{there}
use Rattle.fj_session.proofs.OwnStops.{declared_handed_on}
use Rattle.fj_session.proofs.Verdicts.{decided}
use Rattle.fj_session.proofs.splittings.is_compatible.Goals as goal

-- A call that runs no list stops only with a product.
only_products : (F : Field) (budget : ℕ) (P : OrderName → List Polynomial → Type 0) (R S : List Polynomial → Type 0) → ((M : List Polynomial) → R M → S M) → {T : Type 0} (r : Result T Stop) → StopsOnlyWith F NoList R 0 r → StopsOnlyWith F P S budget r
only_products F budget P R S f (Ok x) h = tt
only_products F budget P R S f {T} (Err s) h = refused_only F budget P R S f {T = T} s (Err s) refl h

pub returns-in_err-ideal-clause-stop : goal.returns-in_err-ideal-clause-stop
returns-in_err-ideal-clause-stop g c =
    let F = g.K.Coeff.field in
    let J = standing_in c.args.names.now c.args.j in
    let IsHigh = IsHighOfCompatible F (polynomial_at c.args.names.now.env.now c.args.u) J.list in
    declared_handed_on F c.args.budget (RunFor Grevlex (IsDeclaredList J)) IsHigh J (λ M d. (refl, d)) c.in_err-ideal.field-0.0 c.from_residual.result c.from_residual.ensures.1 c.in_err-ideal.ensures.stop

pub returns-clause-verdict : goal.returns-clause-verdict
returns-clause-verdict g c =
    let F = g.K.Coeff.field in
    let e = c.args.e in
    let u = polynomial_at c.args.names.now.env.now c.args.u in
    let J = standing_in c.args.names.now c.args.j in
    let is = c.in_ok-multiplier.ensures.value ∙ c.polynomial_at.ensures.value in
    let IsIt : Polynomial → List Polynomial → Bool → Type 0 = λ v I b. IsTrue b ↔ IsCompatible F e v I in
    IfOk-weaker c.compatible.result (IsIt c.in_ok-multiplier.multiplier c.ideal.result.now.given) (λ b. MatchBool b (IsCompatible F e u J.list) (IsCompatible F e u J.list → ⊥))
    (λ b h. decided b (subst (λ (v : Polynomial). IsIt v J.list b) is (subst (λ (I : List Polynomial). IsIt c.in_ok-multiplier.multiplier I b) ((there c.in_ok-ideal.ideal c.ideal.ensures c.in_ok-ideal.ensures.ideal)).given h))) c.compatible.ensures.value

pub returns-clause-stop : goal.returns-clause-stop
returns-clause-stop g c =
    let F = g.K.Coeff.field in
    let u = polynomial_at c.args.names.now.env.now c.args.u in
    let J = standing_in c.args.names.now c.args.j in
    let G = c.ideal.result.now.members in
    let is = c.in_ok-multiplier.ensures.value ∙ c.polynomial_at.ensures.value in
    let IsProduct : Polynomial → List Polynomial → Type 0 = λ v M. IsHighPair F (v ∷ []) G M in
    only_products F c.args.budget (RunFor Grevlex (IsDeclaredList J)) (IsProduct c.in_ok-multiplier.multiplier) (IsHighOfCompatible F u J.list)
    (λ M e. of_members (there c.in_ok-ideal.ideal c.ideal.ensures c.in_ok-ideal.ensures.ideal) (λ H. IsHighPair F (u ∷ []) H M) (subst (λ (v : Polynomial). IsProduct v M) is e)) c.compatible.result
    (only_from_exactly F 0 NoList (IsProduct c.in_ok-multiplier.multiplier) c.compatible.result c.compatible.ensures.stop)
