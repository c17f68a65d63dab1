use Rattle.std.proofs.Common.{◌≡◌, ℕ, ◌<◌, List, [], ◌∷◌, ◌++◌, length, map, Bor, Some, None, Ok, Err, sym, ap, subst, ◌∙◌, arith}
use Rattle.std.proofs.lemmas.List.{map-append, length-map}
use Rattle.fj_text.specs.State.{State, after_sign}
use Rattle.fj_text.specs.Word.{AreNames, IsWord, place_of}
use Rattle.fj_script.specs.declared.fault.LineFault.{LineFault}
use Rattle.fj_script.specs.LineFault.{Answer}
use Rattle.fj_script.specs.Items.{comma}
use Rattle.fj_script.specs.Ring.{variable}
use Rattle.fj_script.proofs.NewNames.{names_more}
use Rattle.fj_script.proofs.More.{GoesOn, list_goes, list_stops, list_breaks, reads_handed_on, same_answer}
use Rattle.fj_script.proofs.ring.variables.Goals as goal

module _ (items shown : List (Bor (List ℕ))) (same : shown ≡ items) (s t u : State) (answer : Answer (List (List ℕ))) (goes : GoesOn variable (map (λ name. name.now) items) s answer) (sign : after_sign comma s ≡ Some t) (less : length t.left < length s.left) where
  more : (new : List (Bor (List ℕ))) (name : Bor (List ℕ)) → new ≡ items ++ name ∷ [] → length u.left < length t.left → variable (map (λ name. name.now) shown) t ≡ Ok (name.now, u) → GoesOn variable (map (λ name. name.now) new) u answer
  more new name e fewer one =
      let again : map (λ name. name.now) new ≡ map (λ name. name.now) items ++ name.now ∷ [] = ap (λ xs. map (λ name. name.now) xs) e ∙ map-append (λ name. name.now) items (name ∷ []) in
      rw again (list_goes variable (map (λ name. name.now) items) s t u name.now answer goes sign (omega (arith, fewer, less)) (ap (λ xs. variable (map (λ name. name.now) xs) t) (sym same) ∙ one))

  fails : (fault : LineFault) → variable (map (λ name. name.now) shown) t ≡ Err fault → answer ≡ Err fault
  fails fault one = list_breaks variable (map (λ name. name.now) items) s t fault answer goes sign (omega (arith, less)) (ap (λ xs. variable (map (λ name. name.now) xs) t) (sym same) ∙ one)

named : (items shown new : List (Bor (List ℕ))) (name : Bor (List ℕ)) → shown ≡ items → new ≡ items ++ name ∷ [] → AreNames (map (λ name. name.now) items) → IsWord name.now → place_of (map (λ name. name.now) shown) name.now ≡ None → length shown < 7 → AreNames (map (λ name. name.now) new)
named items shown new name same e are word none few =
    let again : map (λ name. name.now) new ≡ map (λ name. name.now) items ++ name.now ∷ [] = ap (λ xs. map (λ name. name.now) xs) e ∙ map-append (λ name. name.now) items (name ∷ []) in
    let count = length-map items (λ name. name.now) in
    let small : length items < 7 = subst (λ xs. length xs < 7) same few in
    rw again (names_more (map (λ name. name.now) items) name.now are word (sym none ∙ ap (λ xs. place_of (map (λ name. name.now) xs) name.now) same) (omega (arith, count, small)))

pub names-preserved : goal.names-preserved
names-preserved c = record {
  goes = more c.names.names.items c.deref-in-names.result.now c.deref-in-names.ensures.value c.names.reader c.take_sign.new.self c.variable-in-names.new.reader _ c.names.invariant.goes c.names-test.ensures.taken c.names-test.ensures.fewer c.push-in-names.new.self.items c.in_ok-name.name c.in_ok-push-2.ensures.items c.in_ok-name.ensures.taken c.in_ok-name.ensures.gives;
  are_names = named c.names.names.items c.deref-in-names.result.now c.push-in-names.new.self.items c.in_ok-name.name c.deref-in-names.ensures.value c.in_ok-push-2.ensures.items c.names.invariant.are_names c.in_ok-name.ensures.word c.in_ok-name.ensures.new c.in_ok-name.ensures.few;
}

pub returns : goal.returns
returns c =
    list_stops variable _ c.names.reader _ c.names.invariant.goes c.names-test.ensures.stays.0
    ∙ same_answer (sym (c.in_ok-of.ensures ∙ ap (λ xs. map (λ name. name.now) xs) c.deref-2.ensures.value)) (sym c.names-test.ensures.stays.1)

pub returns-in_err-name : goal.returns-in_err-name
returns-in_err-name c =
    let answer = fails c.names.names.items c.deref-in-names.result.now c.deref-in-names.ensures.value c.names.reader c.take_sign.new.self c.variable-in-names.new.reader _ c.names.invariant.goes c.names-test.ensures.taken c.names-test.ensures.fewer _ c.in_err-name.ensures.gives in
    reads_handed_on (λ names. names) c.from_residual-in_err-name.result _ _ _ _ c.from_residual-in_err-name.ensures (λ e h. h) answer
