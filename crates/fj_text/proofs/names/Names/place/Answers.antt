use Rattle.std.proofs.Common.{◌≡◌, true, [], length, map, get_or, below_more, sym, ap, ◌∙◌, arith}
use Rattle.std.specs.Prelude.{string_bytes}
use Rattle.std.specs.Str.{bytes_eq}
use Rattle.std.proofs.lemmas.List.{length-map}
use Rattle.fj_text.proofs.Places.{place_found, seen_at}
use Rattle.fj_text.proofs.names.Names.place.Goals as goal

pub returns-then-eq-clause-place : goal.returns-then-eq-clause-place
returns-then-eq-clause-place c =
    let same : map string_bytes c.deref-name-items.result.now ≡ c.args.self.now = ap (λ words. map string_bytes words) c.deref-name-items.ensures.value ∙ c.self.view_is in
    let at : get_or c.args.self.now c.loop-place.place [] ≡ string_bytes c.name-item.result =
    ap (λ names. get_or names c.loop-place.place []) (sym same) ∙ seen_at string_bytes c.deref-name-items.result.now c.loop-place.place c.name-item.result [] c.loop-place-test.true c.name-item.is in
    let here : bytes_eq (get_or c.args.self.now c.loop-place.place []) c.args.word.now ≡ true =
    ap (λ name. bytes_eq name c.args.word.now) (at ∙ sym c.as_bytes.ensures.value) ∙ sym c.eq.ensures ∙ c.if-eq.true in
    let count : length c.args.self.now ≡ length c.deref-name-items.result.now = ap (λ names. length names) (sym same) ∙ length-map c.deref-name-items.result.now string_bytes in
    place_found c.args.self.now c.args.word.now c.loop-place.place (omega (arith, count, c.loop-place-test.true)) c.loop-place.invariant here

pub loop-place-preserved : goal.loop-place-preserved
loop-place-preserved c =
    let same : map string_bytes c.deref-name-items.result.now ≡ c.args.self.now = ap (λ words. map string_bytes words) c.deref-name-items.ensures.value ∙ c.self.view_is in
    let at : get_or c.args.self.now c.loop-place.place [] ≡ string_bytes c.name-item.result =
    ap (λ names. get_or names c.loop-place.place []) (sym same) ∙ seen_at string_bytes c.deref-name-items.result.now c.loop-place.place c.name-item.result [] c.loop-place-test.true c.name-item.is in
    below_more _ _ c.loop-place.invariant (ap (λ name. bytes_eq name c.args.word.now) (at ∙ sym c.as_bytes.ensures.value) ∙ sym c.eq.ensures ∙ c.if-eq.false)
