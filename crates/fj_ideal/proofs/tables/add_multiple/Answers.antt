use Rattle.std.proofs.Common.{◌<◌, ◌≤◌, ◌^◌, length, map, sym, ◌∙◌, All, arith}
use Rattle.std.proofs.lemmas.List.{length-map}
use Rattle.std.proofs.lemmas.List.Elements.{All-set}
use Rattle.fj_theory.specs.Exponents.{total}
use Rattle.fj_theory.specs.Plain.{HasRanksBelow, polynomial}
use Rattle.fj_basis.proofs.Rows.{added-none, added-all}
use Rattle.fj_ideal.proofs.PlainTables.{all_at, added_views-more, length-added_views}
use Rattle.fj_ideal.proofs.tables.add_multiple.Goals as goal

pub loop-j-init : goal.loop-j-init
loop-j-init g c = (sym (added-none g.K.Coeff.field (polynomial c.args.f.now) (map polynomial c.args.row.now) (map polynomial c.args.other.now)), c.requires.row_ranks)

pub plus_product-requires-clause-summand_ranks : goal.plus_product-requires-clause-summand_ranks
plus_product-requires-clause-summand_ranks g c =
    let long = length-added_views g.K.Coeff.field (polynomial c.args.f.now) c.loop-j.j c.loop-j.row c.args.row.now (map polynomial c.args.other.now) c.loop-j.invariant.0 in
    let within : c.loop-j.j < length c.args.row.now = c.loop-j-test.true in
    c.loop-j.invariant.1 c.loop-j.j c.index-row-j.result (omega (arith, within, long))

pub plus_product-requires-clause-ranks : goal.plus_product-requires-clause-ranks
plus_product-requires-clause-ranks g c = all_at (HasRanksBelow g.K.Coeff.field.size) c.args.other.now c.loop-j.j c.get.result.now c.get.ensures c.requires.ranks

pub plus_product-requires-clause-totals : goal.plus_product-requires-clause-totals
plus_product-requires-clause-totals g c = all_at (λ h. All (λ t. total t.0 ≤ 2 ^ 40) h.terms) c.args.other.now c.loop-j.j c.get.result.now c.get.ensures c.requires.totals

pub loop-j-preserved : goal.loop-j-preserved
loop-j-preserved g c = (
  added_views-more g.K.Coeff.field (polynomial c.args.f.now) c.loop-j.j c.args.row.now c.args.other.now c.loop-j.row c.index-row-j.result c.get.result.now c.in_ok-row.field-0
      c.loop-j-test.true c.requires.long c.loop-j.invariant.0 c.get.ensures c.in_ok-row.ensures.value,
  All-set (HasRanksBelow g.K.Coeff.field.size) c.loop-j.row c.loop-j.j c.in_ok-row.field-0 c.in_ok-row.ensures.ranks c.loop-j.invariant.1,
)

pub returns-clause-value : goal.returns-clause-value
returns-clause-value g c =
    let long = length-map c.args.row.now polynomial in
    let past : length c.args.row.now ≤ c.loop-j.j = omega (arith, c.loop-j-test.false) in
    c.loop-j.invariant.0 ∙ added-all g.K.Coeff.field (polynomial c.args.f.now) c.loop-j.j (map polynomial c.args.row.now) (map polynomial c.args.other.now) (omega (arith, past, long))
