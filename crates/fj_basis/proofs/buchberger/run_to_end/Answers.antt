use Rattle.std.proofs.Common.{◌≡◌, ◌≢◌, ℕ, List, [], ◌∷◌, Contains, Result, Err, refl, sym, ◌∙◌, subst, arith, true≢false}
use Rattle.std.proofs.lemmas.List.Elements.{All-head}
use Rattle.std.proofs.lemmas.Result.{err_from_is_err_and}
use Rattle.fj_algebra.proofs.Pairs.{contains_nil}
use Rattle.fj_poly.specs.declared.fault.PolyFault.{PolyFault}
use Rattle.fj_poly.specs.declared.fault.PolyFault.TheVariants.{High, Memory}
use Rattle.fj_groebner.specs.Run.{IsRun, in_turn}
use Rattle.fj_groebner.specs.Run as definition
use Rattle.fj_basis.specs.declared.buchberger.RunFault.{RunFault}
use Rattle.fj_basis.specs.declared.pairs.Pair.{Pair}
use Rattle.fj_basis.specs.Outcome.{IsFaultOnlyWhere, IsHighOnlyWhere, run_fault}
use Rattle.fj_basis.specs.State.{ArePending, IsPairOf}
use Rattle.fj_basis.proofs.buchberger.run_to_end.Goals as goal

-- Where the code has pending pairs, so has the run.
some-pending : {O : Type 0} (key : List ℕ → List ℕ) (s : definition.Run) (keys : List (Pair O)) → ArePending key s keys → keys ≢ [] → s.pending ≢ []
some-pending key s [] pending some e = some refl
some-pending key s (p ∷ rest) pending some e =
    let own = (All-head (λ q. IsPairOf key s.members q × Contains s.pending (q.i, q.j)) p rest pending.sound).1 in
    contains_nil (p.i, p.j) (subst (λ pairs. Contains pairs (p.i, p.j)) e own)

-- A refused turn as the fault of the run.
fault-given : (T U P Q H : Type 0) (d : PolyFault) → (H → Q) → IsHighOnlyWhere {T = T} H (Err d) → IsFaultOnlyWhere {T = U} P Q (Err (run_fault d))
fault-given T U P Q H High f h = f h
fault-given T U P Q H Memory f h = tt

fault-of : (T U P Q H : Type 0) (r : Result U RunFault) (d : PolyFault) (e : RunFault) → r ≡ Err e → e ≡ run_fault d → (H → Q) → IsHighOnlyWhere {T = T} H (Err d) → IsFaultOnlyWhere P Q r
fault-of T U P Q H r d e is same f h =
    subst (IsFaultOnlyWhere {T = U} P Q) (sym is) (subst (λ (x : RunFault). IsFaultOnlyWhere {T = U} P Q (Err x)) (sym same) (fault-given T U P Q H d f h))

pub returns-then-made-pairs-clause-fault : goal.returns-then-made-pairs-clause-fault
returns-then-made-pairs-clause-fault g c =
    let after = c.loop-alloc.invariant.after in
    record {
      last = after.state;
      run = subst (λ n. IsRun g.K.Coeff.field g.O.Order.key c.args.list.now n after.state) c.if-made-pairs.true after.run;
      some_pending = some-pending g.O.Order.key after.state c.loop-alloc.run.pending.pairs after.pending (λ e. true≢false (sym (c.is_done.ensures.1 e) ∙ c.loop-alloc-test.true));
    }

pub returns-in_err-turn-clause-fault : goal.returns-in_err-turn-clause-fault
returns-in_err-turn-clause-fault g c =
    let after = c.loop-alloc.invariant.after in
    let within = c.loop-alloc.invariant.within in
    let other = c.if-made-pairs.false in
    let p = err_from_is_err_and c.from_residual-in_err-turn.result c.from_residual-in_err-turn.ensures.1 in
    fault-of (Unit {0}) _ _ _ _ _ c.in_err-turn.field-0.0 p.0 p.1 p.2
    (λ high. in_turn c.loop-alloc.made after.state after.run (omega (arith, within, other)) (high.high c.args.list.now c.loop-alloc.made after)) c.in_err-turn.ensures.high

pub returns-clause-value : goal.returns-clause-value
returns-clause-value g c = record {
  turns = c.loop-alloc.made;
  within = c.loop-alloc.invariant.within;
  after = c.loop-alloc.invariant.after;
  none = c.is_done.ensures.0 c.loop-alloc-test.false;
}
