use Rattle.std.proofs.Common.{◌≢◌, ◌∙◌, inl, refl, subst, sym}
use Rattle.fj_theory.specs.MonomialOrder.{grevlex_key}
use Rattle.fj_groebner.specs.ReducedBasis.{IsReducedBasis}
use Rattle.fj_plain.specs.declared.order_name.OrderName.{OrderName}
use Rattle.fj_plain.specs.declared.order_name.OrderName.TheVariants.{Lex, Grlex, Grevlex, Elim}
use Rattle.fj_ideal.specs.Ideal.{basis_of}
use Rattle.fj_session.specs.Outcome.{IsShown}
use Rattle.fj_session.proofs.Certifying.{basis_certificate, shown_for}
use Rattle.fj_session.proofs.PrintStops.{print_stops}
use Rattle.fj_session.proofs.shown.shown_basis.Goals as goal

lex_is_other : Lex ≢ Grevlex
lex_is_other e = cc

grlex_is_other : Grlex ≢ Grevlex
grlex_is_other e = cc

elim_is_other : Elim ≢ Grevlex
elim_is_other e = cc

pub returns-in-Lex-clause-basis : goal.returns-in-Lex-clause-basis
returns-in-Lex-clause-basis g c = shown_for g.K.Coeff.field c.args.ideal.now (sym c.in-Lex.is) lex_is_other c.ordered_basis.result c.ordered_basis.ensures.basis c.ordered_basis.ensures.certificate c.ordered_basis.ensures.holds

pub returns-in-Lex-clause-stop : goal.returns-in-Lex-clause-stop
returns-in-Lex-clause-stop g c = print_stops g.K.Coeff.field c.args.budget c.args.ideal.now.members (sym c.in-Lex.is) lex_is_other c.ordered_basis.result c.ordered_basis.ensures.stop

pub returns-in-Grlex-clause-basis : goal.returns-in-Grlex-clause-basis
returns-in-Grlex-clause-basis g c = shown_for g.K.Coeff.field c.args.ideal.now (sym c.in-Grlex.is) grlex_is_other c.ordered_basis-in-Grlex.result c.ordered_basis-in-Grlex.ensures.basis c.ordered_basis-in-Grlex.ensures.certificate c.ordered_basis-in-Grlex.ensures.holds

pub returns-in-Grlex-clause-stop : goal.returns-in-Grlex-clause-stop
returns-in-Grlex-clause-stop g c = print_stops g.K.Coeff.field c.args.budget c.args.ideal.now.members (sym c.in-Grlex.is) grlex_is_other c.ordered_basis-in-Grlex.result c.ordered_basis-in-Grlex.ensures.stop

pub returns-in_ok-cert-in-Grevlex-clause-basis : goal.returns-in_ok-cert-in-Grevlex-clause-basis
returns-in_ok-cert-in-Grevlex-clause-basis g c =
    let F = g.K.Coeff.field in
    let J = c.args.ideal.now in
    let list = c.in_ok-plain_list-in-Grevlex.field-0 in
    let cert = c.in_ok-cert-in-Grevlex.field-0 in
    let same = c.in_ok-plain_list-in-Grevlex.ensures.value ∙ c.members.ensures.value in
    subst (λ (o : OrderName). IsShown F o J list cert) (sym c.in-Grevlex.is)
    (record {
      basis = record { reduced = subst (IsReducedBasis F grevlex_key J.given) (sym same) c.members.ensures.ideal.reduced; falling = c.in_ok-plain_list-in-Grevlex.ensures.falling };
      given = J.given;
      run = inl (refl, refl);
      certificate = basis_certificate (basis_of J) list g.met.K.Coeff.characteristic_is refl same c.in_ok-cert-in-Grevlex.ensures.value;
      holds = c.in_ok-cert-in-Grevlex.ensures.holds;
    })

pub returns-in-Elim-clause-basis : goal.returns-in-Elim-clause-basis
returns-in-Elim-clause-basis g c = shown_for g.K.Coeff.field c.args.ideal.now (sym c.in-Elim.is) elim_is_other c.ordered_basis-in-Elim.result c.ordered_basis-in-Elim.ensures.basis c.ordered_basis-in-Elim.ensures.certificate c.ordered_basis-in-Elim.ensures.holds

pub returns-in-Elim-clause-stop : goal.returns-in-Elim-clause-stop
returns-in-Elim-clause-stop g c = print_stops g.K.Coeff.field c.args.budget c.args.ideal.now.members (sym c.in-Elim.is) elim_is_other c.ordered_basis-in-Elim.result c.ordered_basis-in-Elim.ensures.stop
