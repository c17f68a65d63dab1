use Rattle.std.proofs.Common.{◌≡◌, ◌≢◌, ◌∷◌, [], ◌++◌, ◌∙◌, Any, map, sym, ap, ap₂}
use Rattle.std.proofs.lemmas.List.{map-append}
use Rattle.std.proofs.lemmas.Option.{get_or_from_slice_get, slice_get_within}
use Rattle.fj_plain.specs.declared.order_name.OrderName.TheVariants.{Grevlex}
use Rattle.fj_ideal.specs.Lists.{NoProduct, RunFor}
use Rattle.fj_ideal.proofs.Stops.{only_handed_on}
use Rattle.fj_session.specs.Outcome.{ShowsSomeRow}
use Rattle.fj_session.specs.declared.types.ShownJump.{ShownJump}
use Rattle.fj_session.proofs.Places.{map_next}
use Rattle.fj_session.proofs.Zips.{AllZip-push}
use Rattle.fj_session.proofs.jumps.shown_jumps.Goals as goal

pub returns-in_err-row-clause-stop : goal.returns-in_err-row-clause-stop
returns-in_err-row-clause-stop g c =
    let F = g.K.Coeff.field in
    let order = c.args.order in
    let jumps = c.args.jumps.now in
    let i = c.loop-place.place in
    let at = c.get.result.now in
    only_handed_on F c.args.budget (RunFor order (λ L. (order ≢ Grevlex) × (L ≡ at.ideal.members))) (RunFor order (λ L. (order ≢ Grevlex) × Any (λ row. L ≡ row.ideal.members) jumps)) NoProduct NoProduct
    (λ o M h. (h.0, (h.1.0, (i, at, slice_get_within jumps i at c.get.ensures, get_or_from_slice_get jumps i at at c.get.ensures, h.1.1)))) (λ M none. none)
    c.in_err-row.field-0.0 c.from_residual-in_err-row.result c.from_residual-in_err-row.ensures.1 c.in_err-row.ensures.stop

pub loop-place-preserved : goal.loop-place-preserved
loop-place-preserved g c =
    let F = g.K.Coeff.field in
    let jumps = c.args.jumps.now in
    let rows = c.loop-place.rows.items in
    let i = c.loop-place.place in
    let at = c.get.result.now in
    let row = c.in_ok-row.row in
    let cert = c.in_ok-row.cert in
    let pushed = c.in_ok-push.ensures.items in
    let also = c.in_ok-push-2.ensures.items in
    let Shows = ShowsSomeRow F c.args.order jumps in
    let shows : ShowsSomeRow F c.args.order jumps row cert =
    record { found = at; among = (i, slice_get_within jumps i at c.get.ensures, get_or_from_slice_get jumps i at at c.get.ensures); shows = c.in_ok-row.ensures.row } in (
      ap (λ l. map (λ (r : ShownJump). r.at) l) pushed ∙ map-append (λ (r : ShownJump). r.at) rows (row ∷ []) ∙ ap₂ (λ xs x. xs ++ x ∷ []) c.loop-place.invariant.0 c.in_ok-row.ensures.row.at
          ∙ sym (map_next (λ r. r.at) jumps i at c.get.ensures),
      AllZip-push Shows rows c.loop-place.certificates.items pushed also c.loop-place.invariant.1 shows,
    )
