use Rattle.std.proofs.Common.{ℕ, ◌+◌, ◌++◌, List, drop, take, subst, sym, ap, ◌∙◌}
use Rattle.std.proofs.Math.Seq.{take-add}
use Rattle.std.proofs.lemmas.List.{take_rest, drop-drop}
use Rattle.std.specs.Io.KnownBytes.{Appends}
use Rattle.fj_io.proofs.KnownBytes.{appends_more, appends_keeps, appends_none}
use Rattle.fj_io.proofs.standard.StdSinkSink.write_all.Goals as goal
use Rattle.fj_io.proofs.standard.StdSinkSink.write_all.Goals.{in_default-via-in-Ok+else-count-gt0, in_default-via-in_default}

pub loop-rest-preserved : goal.loop-rest-preserved
loop-rest-preserved g c =
    let piece = c.args.piece.now in
    let written = c.loop-rest.invariant.0 in
    let count = c.in-Ok.count in (
      written + count,
      take_rest c.loop-rest.rest.now count ∙ ap (drop count) c.loop-rest.invariant.1 ∙ drop-drop count written piece,
      subst (λ (front : List ℕ). Appends (g.W.Write.contents c.args.self.now.inner) (g.W.Write.contents c.write.new.self) front)
          (ap (λ (rest : List ℕ). take written piece ++ take count rest) c.loop-rest.invariant.1 ∙ sym (take-add written count piece))
          (appends_more _ _ _ _ _ c.loop-rest.invariant.2 c.in-Ok.ensures.bytes),
      c.loop-rest.invariant.3,
    )

pub returns-in_default-clause-err : goal.returns-in_default-clause-err
returns-in_default-clause-err g c = (
  c.loop-rest.invariant.0,
  elim c.in_default.branch [
    | in_default-via-in-Ok+else-count-gt0 w ↦ appends_none _ _ _ _ _ _ c.loop-rest.invariant.2 w.in-Ok.ensures.bytes w.if-count-gt0.false
    | in_default-via-in_default w ↦ appends_keeps _ _ _ _ c.loop-rest.invariant.2 w.in_default.ensures.bytes
  ],
)
