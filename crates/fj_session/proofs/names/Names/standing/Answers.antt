use Rattle.std.proofs.Common.{◌≡◌, ◌∙◌, All, ap, sym, subst, refl}
use Rattle.fj_theory.specs.Plain.{HasRanksBelow, PlainPolynomial}
use Rattle.std.proofs.Common.{List}
use Rattle.fj_plain.specs.declared.order_name.OrderName.TheVariants.{Grevlex}
use Rattle.fj_ideal.specs.Lists.{NoProduct, RunFor}
use Rattle.fj_shell.specs.Named.{polynomials}
use Rattle.fj_session.specs.Names.{standing_in}
use Rattle.fj_session.specs.Standing.{IsDeclaredList}
use Rattle.fj_session.proofs.OwnStops.{declared_handed_on}
use Rattle.fj_basis.specs.declared.stop.Stop.{Stop}
use Rattle.std.proofs.Common.{Result, Err}
use Rattle.fj_session.proofs.Standings.{declared_stop, standing_of_declared}
use Rattle.fj_session.proofs.names.Names.standing.Goals as goal

pub from_plain-requires-clause-ranks : goal.from_plain-requires-clause-ranks
from_plain-requires-clause-ranks g c =
    let named = c.in-Declared.ensures in
    subst (λ n. All (HasRanksBelow n) c.in-Declared.gens.now) (ap (λ F. F.size) (sym c.requires.field)) (subst (λ (l : List PlainPolynomial). All (HasRanksBelow c.args.self.now.env.now.p) l) named.1 named.0.ranks)

pub returns-in_err-ideal-in-Declared-clause-stop : goal.returns-in_err-ideal-in-Declared-clause-stop
returns-in_err-ideal-in-Declared-clause-stop g c =
    let F = g.K.Coeff.field in
    let named = c.in-Declared.ensures in
    let S = standing_in c.args.self.now c.args.j in
    let s = c.in_err-ideal-in-Declared.field-0.0 in
    declared_handed_on F c.args.budget (RunFor Grevlex (IsDeclaredList S)) NoProduct S (λ M d. (refl, d)) s c.from_residual-in_err-ideal-in-Declared.result c.from_residual-in_err-ideal-in-Declared.ensures.1
    (declared_stop {T = Unit {0}} F c.args.budget (standing_of_declared c.args.self.now named.0) (c.in_ok-from_plain-in-Declared.ensures ∙ ap polynomials (sym named.1)) (Err s) c.in_err-ideal-in-Declared.ensures.stop)
