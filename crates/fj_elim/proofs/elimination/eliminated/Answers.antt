use Rattle.std.proofs.Common.{◌≡◌, ◌∙◌, List, Ok, Err, sym, ap, subst}
use Rattle.fj_theory.specs.MonomialOrder.{elim_key}
use Rattle.fj_theory.specs.Polynomial.{Polynomial}
use Rattle.fj_groebner.specs.Elimination.{without_eighth}
use Rattle.fj_groebner.specs.ReducedBasis.{IsReducedBasis}
use Rattle.fj_plain.specs.declared.order_name.OrderName.TheVariants.{Elim}
use Rattle.fj_ideal.specs.Lists.{AreLow, NoProduct, RunFor}
use Rattle.fj_ideal.proofs.Stops.{exactly_handed_on, refused_exactly, run_as, run_exactly}
use Rattle.fj_elim.specs.Lists.{IsHighInMeet, IsMeetList}
use Rattle.fj_elim.proofs.Products.{low_in_meet}
use Rattle.fj_elim.proofs.elimination.eliminated.Goals as goal

pub returns-in_err-list-clause-stop : goal.returns-in_err-list-clause-stop
returns-in_err-list-clause-stop g c =
    let F = g.K.Coeff.field in
    let G = c.args.list.now in
    let H = c.args.others.now in
    refused_exactly F c.args.pairs (RunFor Elim (IsMeetList F G H)) (IsHighInMeet F G H) (IsHighInMeet F G H) (λ M e. e)
    c.in_err-list.field-0.0 c.from_residual.result c.from_residual.ensures.1 c.in_err-list.ensures.stop

pub returns-in_err-members-clause-stop : goal.returns-in_err-members-clause-stop
returns-in_err-members-clause-stop g c =
    let F = g.K.Coeff.field in
    let G = c.args.list.now in
    let H = c.args.others.now in
    let L = c.deref.result.now in
    let formed : IsMeetList F G H L = subst (IsMeetList F G H) (sym c.deref.ensures.value) c.in_ok-list.ensures.list in
    exactly_handed_on F c.args.pairs (List Polynomial) _ (RunFor Elim (IsMeetList F G H)) (IsHighInMeet F G H) c.in_err-members.field-0.0 c.from_residual-in_err-members.result c.from_residual-in_err-members.ensures.1
    (run_as F c.args.pairs Elim L (IsMeetList F G H) (IsHighInMeet F G H) formed {T = List Polynomial} (λ M e. e.is ∙ sym formed.is) (low_in_meet F G H (subst AreLow formed.is formed.low)) (Err c.in_err-members.field-0.0)
    (run_exactly F c.args.pairs {T = List Polynomial} Elim L (Err c.in_err-members.field-0.0) c.in_err-members.ensures.stop))

pub returns-clause-members : goal.returns-clause-members
returns-clause-members g c =
    let F = g.K.Coeff.field in
    record {
      list = c.in_ok-list.list.items;
      formed = c.in_ok-list.ensures.list;
      basis = c.in_ok-members.members.items;
      reduced = subst (λ (M : List Polynomial). IsReducedBasis F elim_key M c.in_ok-members.members.items) c.deref.ensures.value c.in_ok-members.ensures.reduced;
      is = c.in_ok-drop_t.ensures ∙ ap without_eighth c.deref-2.ensures.value;
    }

pub returns-clause-stop : goal.returns-clause-stop
returns-clause-stop g c =
    let F = g.K.Coeff.field in
    let G = c.args.list.now in
    let H = c.args.others.now in
    let L = c.deref.result.now in
    let formed : IsMeetList F G H L = subst (IsMeetList F G H) (sym c.deref.ensures.value) c.in_ok-list.ensures.list in
    run_as F c.args.pairs Elim L (IsMeetList F G H) (IsHighInMeet F G H) formed {T = List Polynomial} (λ M e. e.is ∙ sym formed.is) (low_in_meet F G H (subst AreLow formed.is formed.low)) (Ok c.in_ok-members.members.items)
    (run_exactly F c.args.pairs {T = List Polynomial} Elim L (Ok c.in_ok-members.members.items) c.in_ok-members.ensures.stop)
