use Rattle.std.proofs.Common.{◌≡◌, ◌∷◌, [], ◌++◌, get_or, sym, ap, ap₂, ◌∙◌}
use Rattle.std.proofs.lemmas.List.{map_push, take_more}
use Rattle.std.proofs.lemmas.Option.{slice_get_within, get_or_from_slice_get}
use Rattle.fj_plain.specs.Terms as plain
use Rattle.fj_poly.specs.Terms.{entry, entries}
use Rattle.fj_poly.proofs.poly.plain.terms_of.Goals as goal

pub loop-i-preserved : goal.loop-i-preserved
loop-i-preserved g c =
    let ts = c.args.h.now.terms in
    let t = plain.entry c.get.result.now in
    let here : get_or ts c.loop-i.i t ≡ t = get_or_from_slice_get ts c.loop-i.i t t c.get.ensures in
    let more = take_more ts c.loop-i.i t (slice_get_within ts c.loop-i.i t c.get.ensures) in
    ap (entries g.K.Coeff.rank) c.in_ok-push.ensures.items ∙ map_push (entry g.K.Coeff.rank) _ _ ∙ ap₂ (λ ys y. ys ++ y ∷ []) c.loop-i.invariant (c.term_of.ensures ∙ sym here) ∙ sym more
