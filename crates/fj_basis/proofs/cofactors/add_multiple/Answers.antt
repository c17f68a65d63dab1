use Rattle.std.proofs.Common.{◌<◌, ◌≤◌, length, get_or, sym, ap, ◌∙◌, arith}
use Rattle.std.specs.FinMap.{empty}
use Rattle.std.proofs.lemmas.List.{get_or_default}
use Rattle.fj_theory.specs.Polynomial.{sum, product}
use Rattle.fj_basis.proofs.Rows.{added-none, added-all, added-more, added-zero}
use Rattle.fj_basis.proofs.cofactors.add_multiple.Goals as goal
use Rattle.fj_basis.proofs.cofactors.add_multiple.Goals.{then-not-is_zero+in_ok-mul+in_ok-row, else-not-is_zero}

pub loop-j-init : goal.loop-j-init
loop-j-init g c = sym (added-none g.K.Coeff.field c.args.f.now c.args.row.now c.args.other.now)

pub loop-j-preserved : goal.loop-j-preserved
loop-j-preserved g c =
    let F = g.K.Coeff.field in
    let within : c.loop-j.j < length c.args.row.now = c.loop-j-test.true in
    elim c.if-not-is_zero.branch [
      | then-not-is_zero+in_ok-mul+in_ok-row w ↦
          added-more F c.args.f.now c.loop-j.j c.args.row.now c.args.other.now c.loop-j.row c.if-not-is_zero.row w.index-row-j.result w.index-other-j-then-not-is_zero.result w.in_ok-row.field-0
          within c.requires.long c.loop-j.invariant
          (w.in_ok-row.ensures.value ∙ ap (sum F (get_or c.loop-j.row c.loop-j.j w.index-row-j.result)) (w.in_ok-mul.ensures.value ∙ ap (product F c.args.f.now) w.index-other-j-then-not-is_zero.is)) w.row-is
      | else-not-is_zero w ↦
          w.row-is ∙ c.loop-j.invariant
          ∙ added-zero g.met.K.Coeff.lawful c.args.f.now c.loop-j.j c.args.row.now c.args.other.now within c.requires.long c.requires.row
          (get_or_default c.args.other.now c.loop-j.j empty c.index-other-j.result (omega (arith, within, c.requires.long)) ∙ sym c.index-other-j.is ∙ c.is_zero.ensures.zero.0 w.if-not-is_zero.false)
    ]

pub returns-clause-value : goal.returns-clause-value
returns-clause-value g c =
    let past : length c.args.row.now ≤ c.loop-j.j = omega (arith, c.loop-j-test.false) in
    c.loop-j.invariant ∙ added-all g.K.Coeff.field c.args.f.now c.loop-j.j c.args.row.now c.args.other.now past
