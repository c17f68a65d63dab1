use Rattle.std.proofs.Common.{◌≡◌, ◌+◌, ◌≤◌, ◌^◌, length, map, drop, All, ap, sym, subst, ◌∙◌, arith}
use Rattle.std.proofs.lemmas.List.{length-map}
use Rattle.std.proofs.lemmas.Option.{slice_get_within}
use Rattle.fj_theory.specs.Certificate.{AllRanksBelow}
use Rattle.fj_theory.specs.Exponents.{total}
use Rattle.fj_theory.specs.Plain.{HasRanksBelow, polynomial}
use Rattle.fj_groebner.specs.Rows.{add_multiple, add_multiples}
use Rattle.fj_basis.specs.Outcome.{TotalsAreLow}
use Rattle.fj_basis.proofs.Gathered.{whole-written}
use Rattle.fj_ideal.proofs.PlainTables.{all_at, view_at, add_multiples-step, add_multiples-end}
use Rattle.fj_ideal.proofs.tables.combine.Goals as goal

pub add_multiple-requires-clause-factor_ranks : goal.add_multiple-requires-clause-factor_ranks
add_multiple-requires-clause-factor_ranks g c = all_at (HasRanksBelow g.K.Coeff.field.size) c.args.factors.now c.loop-k.k c.get.result.now c.get.ensures c.requires.factor_ranks

pub add_multiple-requires-clause-factor_totals : goal.add_multiple-requires-clause-factor_totals
add_multiple-requires-clause-factor_totals g c = all_at (λ h. All (λ t. total t.0 ≤ 2 ^ 40) h.terms) c.args.factors.now c.loop-k.k c.get.result.now c.get.ensures c.requires.factor_totals

pub add_multiple-requires-clause-ranks : goal.add_multiple-requires-clause-ranks
add_multiple-requires-clause-ranks g c = all_at (AllRanksBelow g.K.Coeff.field.size) c.args.rows.now c.loop-k.k c.get-in-loop-k.result.now c.get-in-loop-k.ensures c.requires.ranks

pub add_multiple-requires-clause-totals : goal.add_multiple-requires-clause-totals
add_multiple-requires-clause-totals g c = all_at TotalsAreLow c.args.rows.now c.loop-k.k c.get-in-loop-k.result.now c.get-in-loop-k.ensures c.requires.totals

pub add_multiple-requires-clause-long : goal.add_multiple-requires-clause-long
add_multiple-requires-clause-long g c =
    let wide : length c.get-in-loop-k.result.now ≡ c.args.width = all_at (λ row. length row ≡ c.args.width) c.args.rows.now c.loop-k.k c.get-in-loop-k.result.now c.get-in-loop-k.ensures c.requires.wide in
    let long = c.loop-k.invariant.2 in
    let view = ap length c.deref_mut.ensures.value in
    omega (arith, wide, long, view)

pub loop-k-preserved : goal.loop-k-preserved
loop-k-preserved g c =
    let F = g.K.Coeff.field in
    let row = c.loop-k.row in
    let k = c.loop-k.k in
    let fs = map polynomial c.args.factors.now in
    let rows = map (map polynomial) c.args.rows.now in
    let f = c.get.result.now in
    let other = c.get-in-loop-k.result.now in
    let long = c.add_multiple.auto.row ∙ ap length c.deref_mut.ensures.value in
    let written = whole-written row.len c.add_multiple.new.row row.items long row.ok.0 in
    let within = slice_get_within c.args.factors.now k f c.get.ensures in
    let inside = slice_get_within c.args.rows.now k other c.get-in-loop-k.ensures in
    let a = length-map c.args.factors.now polynomial in
    let b = length-map c.args.rows.now (map polynomial) in
    let rest = add_multiples F (drop (k + 1) fs) (drop (k + 1) rows) in (
      ap (λ r. rest (map polynomial r)) written
          ∙ ap rest (c.in_ok-add_multiple.ensures.value ∙ ap (λ r. add_multiple F (polynomial f) (map polynomial r) (map polynomial other)) c.deref_mut.ensures.value)
          ∙ sym (add_multiples-step F fs rows (map polynomial row.items) k (polynomial f) (map polynomial other) (omega (arith, within, a)) (omega (arith, inside, b))
          (view_at polynomial c.args.factors.now k f c.get.ensures) (view_at (map polynomial) c.args.rows.now k other c.get-in-loop-k.ensures))
          ∙ c.loop-k.invariant.0,
      subst (AllRanksBelow F.size) (sym written) c.in_ok-add_multiple.ensures.ranks,
      ap length written ∙ long ∙ c.loop-k.invariant.2,
    )

pub returns-clause-value : goal.returns-clause-value
returns-clause-value g c =
    let F = g.K.Coeff.field in
    let fs = map polynomial c.args.factors.now in
    let a = length-map c.args.factors.now polynomial in
    let past : length fs ≤ c.loop-k.k = omega (arith, a, c.requires.long, c.loop-k-test.false, c.loop-k.auto.k-end, c.len-k-end.ensures) in
    ap (map polynomial) c.of.ensures ∙ sym (add_multiples-end F fs (map (map polynomial) c.args.rows.now) (map polynomial c.loop-k.row.items) c.loop-k.k past) ∙ c.loop-k.invariant.0

pub returns-clause-ranks : goal.returns-clause-ranks
returns-clause-ranks g c = subst (AllRanksBelow g.K.Coeff.field.size) (sym c.of.ensures) c.loop-k.invariant.1
