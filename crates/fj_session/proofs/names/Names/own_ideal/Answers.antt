use Rattle.std.proofs.Common.{◌≡◌, ◌∙◌, All, ap, sym, subst, refl}
use Rattle.fj_theory.specs.Plain.{HasRanksBelow, PlainPolynomial}
use Rattle.std.proofs.Common.{List}
use Rattle.fj_plain.specs.declared.order_name.OrderName.TheVariants.{Grevlex}
use Rattle.fj_ideal.specs.Lists.{NoProduct, RunFor}
use Rattle.fj_shell.specs.Named.{polynomials}
use Rattle.fj_session.specs.Names.{standing_in}
use Rattle.fj_session.specs.Standing.{IsDeclaredList}
use Rattle.fj_session.proofs.Standings.{declared_stop, standing_of_declared}
use Rattle.fj_session.proofs.names.Names.own_ideal.Goals as goal

pub from_plain-requires-clause-ranks : goal.from_plain-requires-clause-ranks
from_plain-requires-clause-ranks g c =
    let named = c.in-Declared.ensures in
    subst (λ n. All (HasRanksBelow n) c.in-Declared.gens.now) (ap (λ F. F.size) (sym c.requires.field)) (subst (λ (l : List PlainPolynomial). All (HasRanksBelow c.args.self.now.env.now.p) l) named.1 named.0.ranks)

pub returns-in_ok-from_plain-in-Declared-clause-stop : goal.returns-in_ok-from_plain-in-Declared-clause-stop
returns-in_ok-from_plain-in-Declared-clause-stop g c =
    let named = c.in-Declared.ensures in
    declared_stop g.K.Coeff.field c.args.budget (standing_of_declared c.args.self.now named.0) (c.in_ok-from_plain-in-Declared.ensures ∙ ap polynomials (sym named.1)) c.of_owned.result c.of_owned.ensures.stop
