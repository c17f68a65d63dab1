use Rattle.std.proofs.Common.{◌^◌, IfOk, Result, Ok, Err, subst, sym}
use Rattle.fj_theory.specs.Parts.{IsParts}
use Rattle.fj_root.proofs.Gathered.{IsParts-gathered_parts}
use Rattle.fj_root.proofs.part.parts.Goals as goal

if_ok : {T E : Type 0} (r : Result T E) (P Q : T → Type 0) → ((x : T) → P x → Q x) → IfOk r P → IfOk r Q
if_ok (Ok x) P Q f p = f x p
if_ok (Err e) P Q f p = tt

pub returns : goal.returns
returns g c =
    let gathered = IsParts-gathered_parts g.met.K.Coeff.lawful g.met.O.Order.monomial_order c.args.e c.in_ok-gather.ensures.polynomial c.in_ok-gather.ensures.bounded
    c.in_ok-gather.field-0 c.list.ensures.ordered c.in_ok-gather.ensures.groups in
    if_ok c.list.result _ _ (λ parts is. subst (IsParts g.K.Coeff.field (g.K.Coeff.field.characteristic ^ c.args.e) c.args.h.now) (sym is) gathered) c.list.ensures.parts
