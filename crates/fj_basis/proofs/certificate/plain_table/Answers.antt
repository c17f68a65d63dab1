use Rattle.std.proofs.Common.{map, subst, sym, All, ◌∙◌}
use Rattle.fj_theory.specs.Plain.{polynomial}
use Rattle.fj_theory.specs.Certificate.{AllRanksBelow}
use Rattle.fj_basis.specs.Outcome.{TotalsAreLow}
use Rattle.fj_basis.proofs.Gathered.{gathered, gathered_all}
use Rattle.fj_basis.proofs.certificate.plain_table.Goals as goal

pub loop-row-preserved : goal.loop-row-preserved
loop-row-preserved g c = (
  gathered (map polynomial) (λ row. row.items) _ _ _ c.args.rows.now c.loop-row.row-index c.row-item.result c.loop-row-test.true c.row-item.is c.loop-row.invariant.0 (c.in_ok-plain_list.ensures.value ∙ c.deref.ensures.value) c.in_ok-push.ensures.items,
  gathered_all (AllRanksBelow g.K.Coeff.field.size) _ _ _ c.loop-row.invariant.1 c.in_ok-plain_list.ensures.ranks c.in_ok-push.ensures.items,
  gathered_all TotalsAreLow _ _ _ c.loop-row.invariant.2 c.in_ok-plain_list.ensures.totals c.in_ok-push.ensures.items,
)

pub returns-clause-ranks : goal.returns-clause-ranks
returns-clause-ranks g c = subst (All (AllRanksBelow g.K.Coeff.field.size)) (sym c.of.ensures) c.loop-row.invariant.1

pub returns-clause-totals : goal.returns-clause-totals
returns-clause-totals g c = subst (All TotalsAreLow) (sym c.of.ensures) c.loop-row.invariant.2
