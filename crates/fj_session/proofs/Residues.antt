-- The text of a residue, number by number.
use Rattle.std.proofs.Common.{◌≡◌, ℕ, ◌<◌, ◌≤◌, List, ◌++◌, length, map, take, get_or, Some, sym, ap, ◌∙◌, append_assoc, arith, codes, decimal}
use Rattle.std.specs.List.{slice_get}
use Rattle.std.proofs.lemmas.List.{get_or-take, length-take-le, take_all}
use Rattle.std.proofs.lemmas.Option.{slice_get-get_or}
use Rattle.fj_text.specs.Printed.{joined}
use Rattle.fj_session.specs.Text.{residue_bytes}

-- a number among the first ones
pub first_at : (count : ℕ) (exponents : List ℕ) (i : ℕ) → count ≤ length exponents → i < count → slice_get (take count exponents) i ≡ Some (get_or exponents i 0)
first_at count exponents i fits within =
    let long = length-take-le count exponents fits in
    slice_get-get_or (take count exponents) i 0 (omega (arith, long, within)) ∙ ap Some (get_or-take count exponents i 0 within)

pub residue_ends : (old new : List ℕ) (count : ℕ) (exponents : List ℕ) (i : ℕ) → count ≤ length exponents → count ≤ i → new ≡ (old ++ codes "(") ++ joined (codes ",") (map decimal (take i (take count exponents)))
    → new ++ codes ")" ≡ old ++ residue_bytes (take count exponents)
unfolding residue_bytes
residue_ends old new count exponents i fits all h =
    let long = length-take-le count exponents fits in
    let numbers = joined (codes ",") (map decimal (take count exponents)) in
    ap (λ s. s ++ codes ")") (h ∙ ap (λ s. (old ++ codes "(") ++ joined (codes ",") (map decimal s)) (take_all i (take count exponents) (omega (arith, long, all))))
    ∙ append_assoc (old ++ codes "(") numbers (codes ")") ∙ append_assoc old (codes "(") (numbers ++ codes ")") ∙ ap (λ s. old ++ s) (sym (append_assoc (codes "(") numbers (codes ")")))
