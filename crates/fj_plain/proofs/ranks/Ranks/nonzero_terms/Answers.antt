use Rattle.std.proofs.Common.{◌≡◌, ℕ, List, IfOk, ◌∙◌, ap, subst, sym}
use Rattle.fj_theory.specs.Plain.{rising_terms}
use Rattle.fj_plain.specs.Terms.{entries}
use Rattle.fj_plain.specs.Packing.{unpacked_entries}
use Rattle.fj_plain.specs.Tallied.{by_exponents, nonzero_entries, tallied}
use Rattle.fj_plain.specs.declared.ranks.Ranks.{Ranks}
use Rattle.fj_plain.proofs.TalliedLemmas.{rising_terms-tallied, tallied_same}
use Rattle.fj_plain.proofs.ranks.Ranks.nonzero_terms.Goals as goal

pub returns-in-Wide : goal.returns-in-Wide
returns-in-Wide c =
    let terms : nonzero_entries c.in-Wide.ranks.entries ≡ rising_terms (tallied c.in-Wide.ranks.entries) = sym (rising_terms-tallied c.in-Wide.ranks c.nonzero_terms.ensures.ordered) in
    subst (λ (r : Ranks). IfOk c.nonzero_terms.result (λ v. entries v.items ≡ rising_terms (tallied (by_exponents r)))) (sym c.in-Wide.is)
    (subst (λ (us : List (List ℕ × ℕ)). IfOk c.nonzero_terms.result (λ v. entries v.items ≡ us)) terms c.nonzero_terms.ensures.terms)

pub returns-in_ok-widened-in-Packed : goal.returns-in_ok-widened-in-Packed
returns-in_ok-widened-in-Packed c =
    let wide = c.in_ok-widened-in-Packed.field-0 in
    let packed = unpacked_entries c.in-Packed.ranks.entries in
    let terms : nonzero_entries wide.entries ≡ rising_terms (tallied packed) =
    sym (rising_terms-tallied wide c.nonzero_terms-in-Packed.ensures.ordered) ∙ ap rising_terms (tallied_same wide.entries packed c.in_ok-widened-in-Packed.ensures) in
    subst (λ (r : Ranks). IfOk c.nonzero_terms-in-Packed.result (λ v. entries v.items ≡ rising_terms (tallied (by_exponents r)))) (sym c.in-Packed.is)
    (subst (λ (us : List (List ℕ × ℕ)). IfOk c.nonzero_terms-in-Packed.result (λ v. entries v.items ≡ us)) terms c.nonzero_terms-in-Packed.ensures.terms)
