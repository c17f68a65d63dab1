use Rattle.std.proofs.Common.{◌∷◌, [], suc, List, Contains, Err, take, drop, sym, subst, subst₂, arith}
use Rattle.std.proofs.lemmas.List.{take_all}
use Rattle.fj_theory.specs.Polynomial.{Polynomial}
use Rattle.fj_plain.specs.declared.order_name.OrderName.TheVariants.{Elim}
use Rattle.fj_ideal.specs.Lists.{RunFor}
use Rattle.fj_ideal.specs.Stop.{StopsExactlyWith}
use Rattle.fj_ideal.proofs.Stops.{only_from_exactly, only_handed_on}
use Rattle.fj_elim.specs.Lists.{IsColonBasis, IsColonList, IsEliminated, IsHighInColon, IsHighInMeet, IsMeetList, IsMetInColon, so_far}
use Rattle.fj_elim.proofs.Meets.{eliminated-lacks}
use Rattle.fj_elim.proofs.Quotients.{basis_of_meet, lists_of_meet, lists_of_one, one_more, products_of_meet, products_of_one, some_before, some_member, split_at}
use Rattle.fj_elim.proofs.bases.colon_basis.Goals as goal

pub loop-k-init : goal.loop-k-init
loop-k-init g c =
    let F = g.K.Coeff.field in
    let first = one_more c.args.others.now 0 c.index-others-0.result (some_member c.args.others.now c.requires.some) c.index-others-0.is in
    record {
      some = omega arith;
      basis = subst (λ N. IsColonBasis F c.args.list.now N c.in_ok-colon.colon.items) (sym first) c.in_ok-colon.ensures.basis;
      variables = c.in_ok-colon.ensures.variables;
    }

pub returns-in_err-colon-clause-stop : goal.returns-in_err-colon-clause-stop
returns-in_err-colon-clause-stop g c =
    let F = g.K.Coeff.field in
    let A = c.args.list.now in
    let B = c.args.others.now in
    let x = c.index-others-0.result in
    let there : Contains B x = (0, some_member B c.requires.some, sym c.index-others-0.is) in
    only_handed_on F c.args.pairs (IsColonList F A (x ∷ [])) (IsColonList F A B) (IsHighInColon F A (x ∷ [])) (IsHighInColon F A B) (lists_of_one F A B x there) (products_of_one F A B x there)
    c.in_err-colon.field-0.0 c.from_residual.result c.from_residual.ensures.1 c.in_err-colon.ensures.stop

pub returns-in_err-next-clause-stop : goal.returns-in_err-next-clause-stop
returns-in_err-next-clause-stop g c =
    let F = g.K.Coeff.field in
    let A = c.args.list.now in
    let B = c.args.others.now in
    let x = c.index-others-k.result in
    let there : Contains B x = (c.loop-k.k, c.loop-k-test.true, sym c.index-others-k.is) in
    only_handed_on F c.args.pairs (IsColonList F A (x ∷ [])) (IsColonList F A B) (IsHighInColon F A (x ∷ [])) (IsHighInColon F A B) (lists_of_one F A B x there) (products_of_one F A B x there)
    c.in_err-next.field-0.0 c.from_residual-in_err-next.result c.from_residual-in_err-next.ensures.1 c.in_err-next.ensures.stop

pub returns-in_err-colon-2-clause-stop : goal.returns-in_err-colon-2-clause-stop
returns-in_err-colon-2-clause-stop g c =
    let F = g.K.Coeff.field in
    let A = c.args.list.now in
    let B = c.args.others.now in
    let k = c.loop-k.k in
    let x = c.index-others-k.result in
    let G = c.loop-k.colon.items in
    let H = c.in_ok-next.next.items in
    let met : IsMetInColon F A B G H =
    so_far (take k B) (drop (suc k) B) x (split_at B k x c.loop-k-test.true c.index-others-k.is) (some_before B k c.loop-k.invariant.some c.loop-k-test.true) c.loop-k.invariant.basis c.in_ok-next.ensures.basis in
    let Stops : List Polynomial → List Polynomial → Type 0 = λ M N. StopsExactlyWith {T = List Polynomial} F (RunFor Elim (IsMeetList F M N)) (IsHighInMeet F M N) c.args.pairs (Err c.in_err-colon-2.field-0.0) in
    only_handed_on F c.args.pairs (RunFor Elim (IsMeetList F G H)) (IsColonList F A B) (IsHighInMeet F G H) (IsHighInColon F A B) (lists_of_meet F A B G H met) (products_of_meet F A B G H met)
    c.in_err-colon-2.field-0.0 c.from_residual-in_err-colon-2.result c.from_residual-in_err-colon-2.ensures.1
    (only_from_exactly F c.args.pairs {T = List Polynomial} (RunFor Elim (IsMeetList F G H)) (IsHighInMeet F G H) (Err c.in_err-colon-2.field-0.0)
    (subst₂ Stops c.deref.ensures.value c.deref-in-loop-k.ensures.value c.in_err-colon-2.ensures.stop))

pub loop-k-preserved : goal.loop-k-preserved
loop-k-preserved g c =
    let F = g.K.Coeff.field in
    let L = g.met.K.Coeff.lawful in
    let A = c.args.list.now in
    let B = c.args.others.now in
    let k = c.loop-k.k in
    let N = c.in_ok-colon-2.colon.items in
    let more = one_more B k c.index-others-k.result c.loop-k-test.true c.index-others-k.is in
    let e = subst₂ (λ G H. IsEliminated F G H N) c.deref.ensures.value c.deref-in-loop-k.ensures.value c.in_ok-colon-2.ensures.members in
    let b = c.loop-k.invariant.basis in
    let d = c.in_ok-next.ensures.basis in
    record {
      some = omega arith;
      basis = subst (λ M. IsColonBasis F A M N) (sym more) (basis_of_meet L b d c.loop-k.invariant.variables c.in_ok-next.ensures.variables e);
      variables = eliminated-lacks L b.colon.polynomials d.colon.polynomials e;
    }

pub returns-clause-basis : goal.returns-clause-basis
returns-clause-basis g c =
    subst (λ N. IsColonBasis g.K.Coeff.field c.args.list.now N c.loop-k.colon.items) (take_all c.loop-k.k c.args.others.now (omega (arith, c.loop-k-test.false))) c.loop-k.invariant.basis
