use Rattle.std.proofs.Common.{Err, true≢false, arith, sym, ap, ◌∙◌, refl}
use Rattle.fj_script.proofs.Ratios.{above_zero, of_large, of_taken, of_zero, without_form}
use Rattle.fj_script.proofs.number.ratio_of.Goals as goal
use Rattle.fj_script.proofs.number.ratio_of.Goals.{then-num-den-via-then-num-den, then-num-den-via-else-num-den+then-num-eq0, then-positive, else-positive}

pub returns-in_default : goal.returns-in_default
returns-in_default c =
    let r = c.args in
    without_form r.positive r.m r.n r.reader.now c.new.result c.in_default.field-0 c.in_default.is c.requires.first c.new.ensures.zero c.new.ensures.wide
    ∙ ap (λ e. Err e) (sym c.fault_at.ensures)

pub returns-then-num-den : goal.returns-then-num-den
returns-then-num-den c =
    let r = c.args in
    let above = above_zero r.n c.new.result c.in-Ok.t c.in-Ok.is c.new.ensures.zero in
    elim c.then-num-den.branch [
      | then-num-den-via-then-num-den w ↦ of_large r.positive r.m r.n r.reader.now c.in-Ok.t above c.in-Ok.ensures.value (omega (arith, c.den.ensures.value, c.num.ensures.value, w.if-num-den.true)) ∙ ap (λ e. Err e) (sym c.fault_at-then-num-den.ensures)
      | then-num-den-via-else-num-den+then-num-eq0 w ↦ of_zero r.positive r.m r.n r.reader.now c.in-Ok.t above c.in-Ok.ensures.value (elim w.if-positive.branch [
        | then-positive v ↦ rw (v.if-positive.true, ← v.num-then-positive.ensures.value) (sym v.value-is ∙ w.if-num-eq0.true)
        | else-positive v ↦ absurd (true≢false (sym w.if-num-eq0.true ∙ v.value-is ∙ v.if-positive.false))
      ]) ∙ ap (λ e. Err e) (sym c.fault_at-then-num-den.ensures)
    ]

pub returns : goal.returns
returns c =
    let r = c.args in
    let above = above_zero r.n c.new.result c.in-Ok.t c.in-Ok.is c.new.ensures.zero in
    of_taken r.positive r.m r.n r.reader.now c.in-Ok.t above c.in-Ok.ensures.value (omega (arith, c.den.ensures.value, c.den.ensures.narrow)) (omega (arith, c.den.ensures.value, c.num.ensures.value, c.if-num-den.false)) (elim c.if-positive.branch [
      | then-positive w ↦ rw (w.if-positive.true, ← w.num-then-positive.ensures.value) (sym w.value-is ∙ c.if-num-eq0.false)
      | else-positive w ↦ rw w.if-positive.false refl
    ])
