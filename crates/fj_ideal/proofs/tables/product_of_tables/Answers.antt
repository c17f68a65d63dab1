use Rattle.std.proofs.Common.{◌≡◌, length, map, subst, sym}
use Rattle.fj_theory.specs.Certificate.{AllRanksBelow, AllRowsBelow}
use Rattle.fj_theory.specs.Plain.{polynomial}
use Rattle.fj_basis.specs.Outcome.{TotalsAreLow}
use Rattle.fj_basis.proofs.Gathered.{gathered_all}
use Rattle.fj_ideal.proofs.PlainTables.{all_at, product_of_rows-more}
use Rattle.fj_ideal.proofs.tables.product_of_tables.Goals as goal

pub combine-requires-clause-factor_ranks : goal.combine-requires-clause-factor_ranks
combine-requires-clause-factor_ranks g c = all_at (AllRanksBelow g.K.Coeff.field.size) c.args.factors.now c.loop-i.i c.get.result.now c.get.ensures c.requires.factor_ranks

pub combine-requires-clause-factor_totals : goal.combine-requires-clause-factor_totals
combine-requires-clause-factor_totals g c = all_at TotalsAreLow c.args.factors.now c.loop-i.i c.get.result.now c.get.ensures c.requires.factor_totals

pub combine-requires-clause-long : goal.combine-requires-clause-long
combine-requires-clause-long g c = all_at (λ row. length row ≡ length c.args.rows.now) c.args.factors.now c.loop-i.i c.get.result.now c.get.ensures c.requires.long

pub loop-i-preserved : goal.loop-i-preserved
loop-i-preserved g c = (
  product_of_rows-more g.K.Coeff.field c.args.width (map (map polynomial) c.args.rows.now) c.args.factors.now c.loop-i.i c.get.result.now c.loop-i.table.items c.push.new.self.items c.in_ok-combine.field-0
      c.get.ensures c.loop-i.invariant.0 c.in_ok-combine.ensures.value c.in_ok-push.ensures.items,
  gathered_all (AllRanksBelow g.K.Coeff.field.size) _ _ _ c.loop-i.invariant.1 c.in_ok-combine.ensures.ranks c.in_ok-push.ensures.items,
)

pub returns-clause-ranks : goal.returns-clause-ranks
returns-clause-ranks g c = subst (AllRowsBelow g.K.Coeff.field.size) (sym c.of.ensures) c.loop-i.invariant.1
