use Rattle.std.proofs.Common.{◌≡◌, ◌<◌, ◌++◌, ◌∷◌, ◌==◌, true, false, length, take, drop, get_or, All, Contains, Ordering, Less, Equal, Greater, refl, sym, ap, ap₂, ◌∙◌, subst, arith, true≢false}
use Rattle.std.specs.Ordering.{ordering_index}
use Rattle.std.proofs.lemmas.List.{length-map, map-append, take-map, drop-map, get_or-map}
use Rattle.std.proofs.lemmas.List.Elements.{All-append, All-cons, All-take, All-drop}
use Rattle.fj_algebra.proofs.Pairs.{contains_head, contains_tail, All-from_elements}
use Rattle.fj_theory.specs.MonomialOrder.{compare_by}
use Rattle.fj_theory.specs.Lead.{lead_exponents}
use Rattle.fj_groebner.specs.Run.{place_by_lead}
use Rattle.fj_basis.specs.Members.{sugared, sugared_members}
use Rattle.fj_basis.proofs.FinishingActs.{IsBehind-more, IsBehind-end, IsBehind-stop}
use Rattle.fj_basis.proofs.finishing.place_by_lead.Goals as goal
use Rattle.fj_basis.proofs.finishing.place_by_lead.Goals.{then-loop-place-test+else-eq, else-loop-place-test}

greater : (o : Ordering) → (ordering_index o == 2) ≡ true → o ≡ Greater
greater Less h = absurd (true≢false (sym h))
greater Equal h = absurd (true≢false (sym h))
greater Greater h = refl

not_greater : (o : Ordering) → (ordering_index o == 2) ≡ false → o ≡ Greater → ⊥
not_greater Less h e = cc
not_greater Equal h e = cc
not_greater Greater h e = true≢false h

pub loop-place-preserved : goal.loop-place-preserved
loop-place-preserved g c =
    let key = g.O.Order.key in
    let xs = c.args.sorted.now.items in
    let ok = c.args.sorted.now.ok.0 in
    let l : c.loop-place.place < length xs = omega (arith, c.loop-place-test.true, c.len.ensures, ok) in
    let m : c.loop-place.place < length (sugared_members xs) = omega (arith, l, length-map xs sugared) in
    let x = c.index.result.now in
    let at : get_or (sugared_members xs) c.loop-place.place (sugared x) ≡ sugared x = get_or-map sugared xs c.loop-place.place x (sugared x) l ∙ ap sugared (sym c.index.ensures) in
    let above : compare_by key (lead_exponents key (sugared c.args.member).polynomial) (lead_exponents key (get_or (sugared_members xs) c.loop-place.place (sugared x)).polynomial) ≡ Greater =
    ap₂ (compare_by key) (sym c.lead-own.ensures) (ap (λ s. lead_exponents key s.polynomial) at ∙ sym c.lead.ensures) ∙ sym c.cmp.ensures ∙ greater c.cmp.result (sym c.eq.ensures ∙ c.if-eq.true) in
    IsBehind-more key (sugared c.args.member) (sugared_members xs) c.loop-place.place (sugared x) m above c.loop-place.invariant

pub returns-clause-value : goal.returns-clause-value
returns-clause-value g c =
    let key = g.O.Order.key in
    let xs = c.args.sorted.now.items in
    let ok = c.args.sorted.now.ok.0 in
    let p = c.loop-place.place in
    let one = sugared c.args.member in
    let G = sugared_members xs in
    let found : place_by_lead key one G ≡ take p G ++ (one ∷ drop p G) = elim c.loop-place-test.branch [
      | then-loop-place-test+else-eq w ↦
          (let l : p < length xs = omega (arith, w.loop-place-test.true, c.len.ensures, ok) in
          let m : p < length G = omega (arith, l, length-map xs sugared) in
          let x = w.index.result.now in
          let at : get_or G p (sugared x) ≡ sugared x = get_or-map sugared xs p x (sugared x) l ∙ ap sugared (sym w.index.ensures) in
          let same : compare_by key (lead_exponents key one.polynomial) (lead_exponents key (get_or G p (sugared x)).polynomial) ≡ w.cmp.result =
          ap₂ (compare_by key) (sym c.lead-own.ensures) (ap (λ s. lead_exponents key s.polynomial) at ∙ sym w.lead.ensures) ∙ sym w.cmp.ensures in
          IsBehind-stop key one G p (sugared x) m (λ e. not_greater w.cmp.result (sym w.eq.ensures ∙ w.if-eq.false) (sym same ∙ e)) c.loop-place.invariant)
      | else-loop-place-test w ↦ IsBehind-end key one G p (omega (arith, w.loop-place-test.false, c.len.ensures, ok, length-map xs sugared)) c.loop-place.invariant
    ] in
    ap sugared_members c.in_ok-insert.ensures.items ∙ map-append sugared (take p xs) (c.args.member ∷ drop p xs)
    ∙ ap₂ (λ front back. front ++ (one ∷ back)) (sym (take-map sugared p xs)) (sym (drop-map sugared p xs)) ∙ sym found

pub returns-clause-among : goal.returns-clause-among
returns-clause-among g c =
    let xs = c.args.sorted.now.items in
    let p = c.loop-place.place in
    let m = c.args.member in
    let own = All-from_elements (Contains (m ∷ xs)) xs (λ x i. contains_tail m xs x i) in
    subst (All (Contains (m ∷ xs))) (sym c.in_ok-insert.ensures.items)
    (All-append (Contains (m ∷ xs)) (take p xs) (m ∷ drop p xs) (All-take (Contains (m ∷ xs)) p xs own)
    (All-cons (Contains (m ∷ xs)) m (drop p xs) (contains_head m xs) (All-drop (Contains (m ∷ xs)) p xs own)))
