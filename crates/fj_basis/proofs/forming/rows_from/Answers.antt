use Rattle.std.proofs.Common.{◌≡◌, ◌+◌, ◌∷◌, [], false, length, length-append, map, take, sym, ap, ◌∙◌, subst, arith}
use Rattle.std.proofs.lemmas.List.{drop-map, get_or_default, length-map, map-append}
use Rattle.fj_groebner.specs.Division.{member_at}
use Rattle.fj_basis.specs.Forming.{AreRowsFrom, CanBeFormed, IsMadeWithRows, IsMarked}
use Rattle.fj_basis.specs.Members.{IsRowWithin}
use Rattle.fj_basis.proofs.FormedRows.{formed-all, formed-more, made-with-rows}
use Rattle.fj_basis.proofs.forming.rows_from.Goals as goal

pub row_if_needed-requires-clause-made : goal.row_if_needed-requires-clause-made
row_if_needed-requires-clause-made g c = λ is_needed.
    let some = c.requires.made in
    let k = c.loop-k.k in
    let l = c.loop-k-test.true in
    let needed = c.in_ok-needed.needed.items in
    let long = c.in_ok-needed.ensures.long in
    let marked : IsMarked needed k = sym (c.index.ensures ∙ get_or_default needed k c.index.result.now false (omega (arith, l, long))) ∙ is_needed in
    let count = length-map c.loop-k.rows.items (λ row. row.items) ∙ c.loop-k.invariant.long in
    let formed : CanBeFormed g.K.Coeff.field c.args.list.now (map (λ row. row.items) c.loop-k.rows.items) c.index-makings-k.result = record {
      all = take k some.all;
      made = member_at some.all k;
      with_rows = made-with-rows some.all c.args.makings.now some.made c.args.from needed c.in_ok-needed.ensures (map (λ row. row.items) c.loop-k.rows.items) (c.loop-k.invariant.formed some.all some.made) k count l
          c.index-makings-k.result c.index-makings-k.is marked;
    } in
    subst (λ rows. CanBeFormed g.K.Coeff.field c.args.list.now (map (λ row. row.items) rows) c.index-makings-k.result) (sym c.deref.ensures.value) formed

pub loop-k-preserved : goal.loop-k-preserved
loop-k-preserved g c =
    let F = g.K.Coeff.field in
    let N = c.args.list.now in
    let k = c.loop-k.k in
    let l = c.loop-k-test.true in
    let needed = c.in_ok-needed.needed.items in
    let long = c.in_ok-needed.ensures.long in
    let rows = map (λ row. row.items) c.loop-k.rows.items in
    let row = c.in_ok-row.row in
    let count : length rows ≡ k = length-map c.loop-k.rows.items (λ row. row.items) ∙ c.loop-k.invariant.long in
    record {
      long = ap length c.in_ok-push.ensures.items ∙ length-append c.loop-k.rows.items (row ∷ []) ∙ ap (λ n. n + 1) c.loop-k.invariant.long;
      formed = λ G made.
          let formed = c.loop-k.invariant.formed G made in
          formed-more G c.args.makings.now made needed rows _ row.items (ap (map (λ row. row.items)) c.in_ok-push.ensures.items ∙ map-append (λ row. row.items) c.loop-k.rows.items (row ∷ [])) formed
          (λ at_end.
          let marked = subst (IsMarked needed) count at_end in
          let is_needed = c.index.ensures ∙ get_or_default needed k c.index.result.now false (omega (arith, l, long)) ∙ marked in
          let own = made-with-rows G c.args.makings.now made c.args.from needed c.in_ok-needed.ensures rows formed k count l c.index-makings-k.result c.index-makings-k.is marked in
          subst (λ j. IsRowWithin F N (member_at G j) row.items) (sym count)
          (c.in_ok-row.ensures.value is_needed (take k G) (member_at G k)
          (subst (λ ys. IsMadeWithRows F N (take k G) (member_at G k) (map (λ row. row.items) ys) c.index-makings-k.result) (sym c.deref.ensures.value) own)));
    }

pub returns-clause-value : goal.returns-clause-value
returns-clause-value g c = λ G made.
    let whole = c.loop-k-test.false in
    let inside = c.loop-k.auto.k-end in
    let long = c.loop-k.invariant.long in
    let count = length-map c.loop-k.rows.items (λ row. row.items) in
    let rows = map (λ row. row.items) c.loop-k.rows.items in
    subst (AreRowsFrom g.K.Coeff.field c.args.list.now G c.args.from) (drop-map (λ row. row.items) c.args.from c.loop-k.rows.items ∙ ap (map (λ row. row.items)) (sym c.in_ok-split_off.ensures.tail))
    (formed-all G c.args.makings.now made c.args.from c.in_ok-needed.needed.items c.in_ok-needed.ensures rows (omega (arith, whole, inside, long, count)) c.requires.from (c.loop-k.invariant.formed G made))
